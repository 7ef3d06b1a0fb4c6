use Rattle.board.proofs.Pieces.{room_suffices}
use Rattle.board.proofs.laws.room_suffices.Goals as goal

pub returns : goal.returns
returns c = room_suffices
