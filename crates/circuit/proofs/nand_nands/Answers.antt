use Rattle.circuit.proofs.Laws.{nand_nands}
use Rattle.circuit.proofs.nand_nands.Goals as goal

pub returns : goal.returns
returns c = nand_nands
