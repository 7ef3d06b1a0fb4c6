use Rattle.cpu.proofs.AfterStore.{load_after_store}
use Rattle.cpu.proofs.load_after_store.Goals as goal

pub returns : goal.returns
returns c = load_after_store
