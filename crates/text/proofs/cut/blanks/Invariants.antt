use Rattle.std.proofs.Common.{◌≡◌, ◌+◌, drop}
use Rattle.std.specs.List.{position_or_len}
use Rattle.text.specs.Cut.{letter}
use Rattle.text.proofs.cut.blanks.Given as goal

abbrev pub invariant-loop-i : goal.invariant-loop-i
invariant-loop-i l = position_or_len letter l.s ≡ l.i + position_or_len letter (drop l.i l.s)
