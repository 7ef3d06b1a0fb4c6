use Rattle.circuit.proofs.Laws.{mux_chooses}
use Rattle.circuit.proofs.mux_chooses.Goals as goal

pub returns : goal.returns
returns c = mux_chooses
