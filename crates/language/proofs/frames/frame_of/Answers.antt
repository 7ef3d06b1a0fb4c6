use Rattle.std.proofs.Common.{arith}
use Rattle.language.proofs.Measuring.{found_height}
use Rattle.language.proofs.frames.frame_of.Goals as goal

pub returns : goal.returns
returns c = λ p h. let k = found_height c.args.nodes.now c.args.entry.body p.body h.1 c.stmt_height.result c.stmt_height.ensures in grind (arith, k, h.0, c.unwrap_or-height.ensures)
