use Rattle.board.proofs.Pieces.{one_word_a_cycle}
use Rattle.board.proofs.laws.one_word_a_cycle.Goals as goal

pub returns : goal.returns
returns c = one_word_a_cycle
