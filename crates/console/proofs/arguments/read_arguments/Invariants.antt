-- So far the tape has no more words than it may have.
use Rattle.std.proofs.Common.{◌≤◌, length}
use Rattle.console.proofs.arguments.read_arguments.Given as goal

abbrev pub invariant-loop-arg : goal.invariant-loop-arg
invariant-loop-arg l = length l.request.tape.items ≤ l.most
