use Rattle.circuit.proofs.Laws.{port_writes}
use Rattle.circuit.proofs.port_writes.Goals as goal

pub returns : goal.returns
returns c = port_writes
