use Rattle.circuit.proofs.Laws.{invert_if_inverts}
use Rattle.circuit.proofs.invert_if_inverts.Goals as goal

pub returns : goal.returns
returns c = invert_if_inverts
