-- So far the text has no more bytes than it may have.
use Rattle.std.proofs.Common.{◌≤◌, length}
use Rattle.console.proofs.text.read_text_within.Given as goal

abbrev pub invariant-loop-done : goal.invariant-loop-done
invariant-loop-done g l = length l.text.items ≤ l.most
