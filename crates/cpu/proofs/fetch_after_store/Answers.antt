use Rattle.cpu.proofs.AfterStore.{fetch_after_store}
use Rattle.cpu.proofs.fetch_after_store.Goals as goal

pub returns : goal.returns
returns c = fetch_after_store
