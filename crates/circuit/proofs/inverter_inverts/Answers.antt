use Rattle.circuit.proofs.Laws.{inverter_inverts}
use Rattle.circuit.proofs.inverter_inverts.Goals as goal

pub returns : goal.returns
returns c = inverter_inverts
