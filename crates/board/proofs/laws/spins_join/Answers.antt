use Rattle.board.proofs.Pieces.{spins_join}
use Rattle.board.proofs.laws.spins_join.Goals as goal

pub returns : goal.returns
returns c = spins_join
