use Rattle.std.proofs.Common.{◌≡◌, ◌++◌, take, drop}
use Rattle.board.proofs.signals.lay_state.Given as goal

abbrev pub invariant-loop-i : goal.invariant-loop-i
invariant-loop-i l = take l.i l.lines ++ drop l.i l.state ≡ l.state
