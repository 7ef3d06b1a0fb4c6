use Rattle.language.proofs.Fuel.{fuel_keeps}
use Rattle.language.proofs.fuel_keeps.Goals as goal

pub returns : goal.returns
returns c = fuel_keeps
