use Rattle.board.proofs.Pieces.{pieces_join}
use Rattle.board.proofs.laws.pieces_join.Goals as goal

pub returns : goal.returns
returns c = pieces_join
