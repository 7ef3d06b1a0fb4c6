use Rattle.std.proofs.Common.{◌≡◌, ◌++◌, take, drop}
use Rattle.board.specs.Slices.{bytes, on_signals}
use Rattle.board.proofs.signals.latch.Given as goal

abbrev pub invariant-loop-i : goal.invariant-loop-i
invariant-loop-i l = take l.i l.state ++ bytes (on_signals l.next.levels.now (drop l.i l.next.signals.now)) ≡ bytes (on_signals l.next.levels.now l.next.signals.now)
