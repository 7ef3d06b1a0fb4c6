use Rattle.stack.proofs.Joining.{lamps_right}
use Rattle.stack.proofs.theorems.lamps_right.Goals as goal

pub returns : goal.returns
returns c = lamps_right
