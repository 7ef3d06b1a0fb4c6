use Rattle.text.proofs.Decode.{one_program}
use Rattle.text.proofs.judge.one_program.Goals as goal

pub returns : goal.returns
returns c = one_program
