use Rattle.std.proofs.Common.{◌≡◌, ◌≤◌, ◌+◌, ◌++◌, length}
use Rattle.language.specs.Nodes.{most_nodes}
use Rattle.compiler.specs.Pairs.{pairs}
use Rattle.compiler.proofs.located.side_by_side.Given as goal

-- the pairs made and those of what is left are all
abbrev pub invariant-loop-word : goal.invariant-loop-word
invariant-loop-word l = record {
  room : length l.signs.items + length l.word-iterator.a.rest.now ≤ most_nodes;
  all : l.signs.items ++ pairs l.word-iterator.a.rest.now l.word-iterator.b.rest.now ≡ pairs l.fn.words l.fn.places;
}
