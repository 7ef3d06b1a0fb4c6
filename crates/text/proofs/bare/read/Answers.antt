use Rattle.std.proofs.Common.{⊎_elim, arith}
use Rattle.std.proofs.lemmas.Bool.{both_ways}
use Rattle.text.specs.Text.{words}
use Rattle.text.specs.Filling.{bare_nodes}
use Rattle.text.proofs.Cuts.{words_few}
use Rattle.text.proofs.Steps.{Grown, grown, underway_more, underway_roomy}
use Rattle.text.proofs.Fillings.{placed, filled_more, same_more, same_on}
use Rattle.text.proofs.bare.read.Goals as goal

pub step-requires : goal.step-requires
step-requires c = underway_roomy (words c.args.text.now) (words c.loop-word.word-iterator.rest.now) _ _ c.loop-word.reader c.loop-word.invariant.underway c.in-Some.ensures.steps (omega (arith, words_few c.args.text.now))

pub note-requires : goal.note-requires
note-requires c =
    let a = c.loop-word.reader in let b = c.in_ok-next.next in
    let k : Grown a b = grown c.in-Some.word.now a b c.in_ok-next.ensures in
    placed c.in-Some.word.now a b c.loop-word.nodes (words c.loop-word.word-iterator.rest.now) (bare_nodes (words c.args.text.now)).1 c.in_ok-next.ensures (omega arith) (c.loop-word.invariant.written (k.fits c.if-next.true) (omega arith))

pub loop-word-preserved-then-next-le-MOST_SIGNS : goal.loop-word-preserved-then-next-le-MOST_SIGNS
loop-word-preserved-then-next-le-MOST_SIGNS c = record {
  underway = underway_more (words c.args.text.now) (words c.loop-word.word-iterator.rest.now) _ _ c.loop-word.reader c.in_ok-next.next c.loop-word.invariant.underway c.in-Some.ensures.steps c.in_ok-next.ensures;
  written = λ h h2. filled_more (words c.loop-word.word-iterator.rest.now) _ _ c.loop-word.reader c.in_ok-next.next c.loop-word.nodes c.note.new.nodes (bare_nodes (words c.args.text.now)).1 c.note.ensures c.in-Some.ensures.steps c.in_ok-next.ensures h h2 c.loop-word.invariant.size c.loop-word.invariant.written;
  size = c.note.array_long;
  others = same_more c.in-Some.word.now c.loop-word.reader c.in_ok-next.next c.args.nodes.now c.loop-word.nodes c.note.new.nodes c.note.ensures c.in_ok-next.ensures
      (placed c.in-Some.word.now c.loop-word.reader c.in_ok-next.next c.loop-word.nodes (words c.loop-word.word-iterator.rest.now) (bare_nodes (words c.args.text.now)).1 c.in_ok-next.ensures (omega arith) (c.loop-word.invariant.written ((grown c.in-Some.word.now c.loop-word.reader c.in_ok-next.next c.in_ok-next.ensures).fits c.if-next.true) (omega (arith, (grown c.in-Some.word.now c.loop-word.reader c.in_ok-next.next c.in_ok-next.ensures).signs_up))))
      c.loop-word.invariant.others;
}

pub loop-word-preserved : goal.loop-word-preserved
loop-word-preserved c = record {
  underway = underway_more (words c.args.text.now) (words c.loop-word.word-iterator.rest.now) _ _ c.loop-word.reader c.in_ok-next.next c.loop-word.invariant.underway c.in-Some.ensures.steps c.in_ok-next.ensures;
  written = λ h h2. absurd (⊎_elim (λ p. omega (arith, p.1)) (λ p. both_ways c.in_ok-next.next.fits p h) c.else-next.either);
  size = c.loop-word.invariant.size;
  others = same_on c.in-Some.word.now c.loop-word.reader c.in_ok-next.next c.args.nodes.now c.loop-word.nodes c.in_ok-next.ensures c.loop-word.invariant.others;
}
