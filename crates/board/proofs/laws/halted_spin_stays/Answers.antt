use Rattle.board.proofs.Pieces.{halted_spin_stays}
use Rattle.board.proofs.laws.halted_spin_stays.Goals as goal

pub returns : goal.returns
returns c = halted_spin_stays
