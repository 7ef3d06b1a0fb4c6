use Rattle.circuit.proofs.Laws.{port_reads}
use Rattle.circuit.proofs.port_reads.Goals as goal

pub returns : goal.returns
returns c = port_reads
