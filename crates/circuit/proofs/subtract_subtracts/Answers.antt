use Rattle.circuit.proofs.Laws.{subtract_subtracts}
use Rattle.circuit.proofs.subtract_subtracts.Goals as goal

pub returns : goal.returns
returns c = subtract_subtracts
