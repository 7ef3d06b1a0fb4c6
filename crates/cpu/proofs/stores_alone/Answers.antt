use Rattle.cpu.proofs.AfterStore.{stores_alone}
use Rattle.cpu.proofs.stores_alone.Goals as goal

pub returns : goal.returns
returns c = stores_alone
