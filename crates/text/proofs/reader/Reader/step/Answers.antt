use Rattle.std.proofs.Common.{sym, ltb→lt}
use Rattle.text.proofs.Decimals.{number_of_sound}
use Rattle.text.proofs.reader.Reader.step.Goals as goal

pub take-requires : goal.take-requires
take-requires c = ltb→lt c.in_ok-n-in-Number.n 100000 (number_of_sound c.args.w.now c.in_ok-n-in-Number.n (sym c.in_ok-n-in-Number.ensures)).1
