use Rattle.stack.proofs.Joining.{layers_join}
use Rattle.stack.proofs.theorems.layers_join.Goals as goal

pub returns : goal.returns
returns c = layers_join
