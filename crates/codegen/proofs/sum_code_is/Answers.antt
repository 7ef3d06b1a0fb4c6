-- By computing it.
use Rattle.std.proofs.Common.{refl}
use Rattle.codegen.proofs.sum_code_is.Goals as goal

pub returns : goal.returns
returns c = refl
