use Rattle.text.specs.Text.{words}
use Rattle.text.proofs.Noting.{NotedSoFar}
use Rattle.text.proofs.signs.sign_words.Given as goal

abbrev pub invariant-loop-before : goal.invariant-loop-before
invariant-loop-before l = NotedSoFar (words l.fn.text) l.notes.items l.before-iterator.count (words l.before-iterator.iter.rest.now)
