use Rattle.board.proofs.Pieces.{halted_stays}
use Rattle.board.proofs.laws.halted_stays.Goals as goal

pub returns : goal.returns
returns c = halted_stays
