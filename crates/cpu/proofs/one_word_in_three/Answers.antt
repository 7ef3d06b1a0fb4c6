use Rattle.cpu.proofs.Shown.{one_word_in_three}
use Rattle.cpu.proofs.one_word_in_three.Goals as goal

pub returns : goal.returns
returns c = one_word_in_three
