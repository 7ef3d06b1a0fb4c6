-- After f turns the first f routines are ready.
use Rattle.std.proofs.Common.{◌≡◌, length}
use Rattle.interpreter.specs.Routines.{AllReady}
use Rattle.interpreter.proofs.prepare.prepare.Given as goal

abbrev pub invariant-loop-f : goal.invariant-loop-f
invariant-loop-f l = (length l.procs ≡ 256) × AllReady l.nodes l.table l.procs l.f
