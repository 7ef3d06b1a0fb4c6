use Rattle.circuit.proofs.Laws.{zero_tests}
use Rattle.circuit.proofs.zero_tests.Goals as goal

pub returns : goal.returns
returns c = zero_tests
