use Rattle.circuit.proofs.Laws.{adder_adds}
use Rattle.circuit.proofs.adder_adds.Goals as goal

pub returns : goal.returns
returns c = adder_adds
