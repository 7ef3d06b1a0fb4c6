use Rattle.codegen.proofs.images_right.Goals as goal
use Rattle.codegen.proofs.Images.{images_right}

pub returns : goal.returns
returns c = images_right
