-- The nodes written so far are those of the words read so far, all others as they were.
use Rattle.std.proofs.Common.{◌≡◌, ◌≤◌, true, length}
use Rattle.text.specs.Text.{words, most_signs}
use Rattle.text.specs.Filling.{WrittenSoFar, bare_nodes, SameFrom}
use Rattle.text.proofs.Steps.{Underway}
use Rattle.text.proofs.bare.read.Given as goal

abbrev pub invariant-loop-word : goal.invariant-loop-word
invariant-loop-word l = record {
  underway : Underway (words l.fn.text) (words l.word-iterator.rest.now) l.reader;
  written : l.reader.fits ≡ true → l.reader.signs ≤ most_signs → WrittenSoFar l.reader l.nodes (words l.word-iterator.rest.now) (bare_nodes (words l.fn.text)).1;
  size : length l.nodes ≡ 2000;
  others : SameFrom l.reader.signs l.initial.nodes l.nodes;
}
