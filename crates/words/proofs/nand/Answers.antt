-- All ones less the common bits.
use Rattle.std.proofs.Common.{arith}
use Rattle.words.proofs.Bits.{nands_and}
use Rattle.words.proofs.nand.Goals as goal

pub returns : goal.returns
returns c = omega (arith, nands_and 16 c.args.a c.args.b (omega arith) (omega arith))
