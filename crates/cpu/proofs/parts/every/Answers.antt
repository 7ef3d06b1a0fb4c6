use Rattle.std.proofs.Common.{◌+◌, ◌*◌, rules}
use Rattle.cpu.proofs.Arrays.{items_from_fn}
use Rattle.cpu.proofs.parts.every.Goals as goal

pub returns : goal.returns
returns c = items_from_fn _ _ (λ i. c.args.first + i * c.args.step) (λ i y q k. search rules) c.from_fn.result 16 0 c.from_fn.ensures.items
