use Rattle.std.proofs.Common.{◌≡◌, ◌-◌, ◌++◌, take}
use Rattle.words.specs.Words.{bits}
use Rattle.board.specs.Slices.{bytes}
use Rattle.board.proofs.signals.lay_word.Given as goal

abbrev pub invariant-loop-line : goal.invariant-loop-line
invariant-loop-line l = take l.line-index l.lines ++ bytes (bits (16 - l.line-index) l.left) ≡ bytes (bits 16 l.word)
