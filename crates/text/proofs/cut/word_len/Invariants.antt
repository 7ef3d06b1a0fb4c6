use Rattle.std.proofs.Common.{◌≡◌, ◌+◌, drop}
use Rattle.std.specs.List.{position_or_len}
use Rattle.text.specs.Text.{blank}
use Rattle.text.proofs.cut.word_len.Given as goal

abbrev pub invariant-loop-i : goal.invariant-loop-i
invariant-loop-i l = position_or_len blank l.s ≡ l.i + position_or_len blank (drop l.i l.s)
