use Rattle.text.specs.Text.{words}
use Rattle.text.proofs.Steps.{Underway}
use Rattle.text.proofs.judge.judge.Given as goal

abbrev pub invariant-loop-word : goal.invariant-loop-word
invariant-loop-word l = Underway (words l.fn.text) (words l.word-iterator.rest.now) l.reader
