use Rattle.signs.proofs.Righted.{right_signs}
use Rattle.signs.proofs.signs_right.Goals as goal

pub returns : goal.returns
returns c = right_signs
