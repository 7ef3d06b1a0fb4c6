use Rattle.cpu.proofs.IsMachine.{cpu_is_machine}
use Rattle.cpu.proofs.cpu_is_machine.Goals as goal

pub returns : goal.returns
returns c = cpu_is_machine
