use Rattle.std.proofs.Common.{◌<◌, ◌≤◌, arith}
use Rattle.board.proofs.Filling.{word_bit_more, word_bits_all}
use Rattle.board.proofs.signals.lay_word.Goals as goal

pub loop-line-preserved : goal.loop-line-preserved
loop-line-preserved c =
    let l : c.loop-line.line-index < 16 = omega arith in
    word_bit_more _ _ _ _ _ (omega arith) l c.loop-line.invariant

pub returns : goal.returns
returns c =
    let l : 16 ≤ c.loop-line.line-index = omega arith in
    word_bits_all _ _ _ _ (omega arith) l c.loop-line.invariant
