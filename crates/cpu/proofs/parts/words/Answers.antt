use Rattle.std.proofs.Common.{◌+◌, ◌*◌, [], rules}
use Rattle.cpu.specs.Ink.{spaced}
use Rattle.cpu.proofs.Arrays.{items_from_fn}
use Rattle.cpu.proofs.parts.words.Goals as goal

pub returns : goal.returns
returns g c = items_from_fn _ _ (λ i. spaced (c.args.first + i * c.args.apart) c.args.step) (λ i y q k. search rules) c.from_fn.result g.row.N [] c.from_fn.ensures.items
