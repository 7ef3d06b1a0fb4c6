use Rattle.circuit.proofs.Laws.{less_compares}
use Rattle.circuit.proofs.less_compares.Goals as goal

pub returns : goal.returns
returns c = less_compares
