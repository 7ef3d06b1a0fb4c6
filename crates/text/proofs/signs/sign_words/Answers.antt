use Rattle.std.proofs.Common.{◌≡◌, inl, length, ap, arith}
use Rattle.text.specs.Text.{words}
use Rattle.text.proofs.Cuts.{words_few}
use Rattle.text.proofs.Noting.{sign_noted, all_noted}
use Rattle.text.proofs.signs.sign_words.Goals as goal

-- a text has not too many words to count
pub loop-before-init-derived : goal.loop-before-init-derived
loop-before-init-derived c =
    let it = c.into_iter-before-iterator.result in
    let none : it.count ≡ 0 = cc in
    let all : it.iter.rest.now ≡ c.args.text.now = cc in
    ((tt, tt, inl (omega (arith, words_few it.iter.rest.now, ap length all))), tt)

pub loop-before-preserved-then-begins_sign : goal.loop-before-preserved-then-begins_sign
loop-before-preserved-then-begins_sign c =
    let h = c.in-Some.ensures.steps in
    sign_noted (words c.args.text.now) _ _ c.in-Some.word.now c.loop-before.notes.items c.note.new.notes.items c.loop-before.before-iterator.count c.next.new.self.count c.in-Some.before c.loop-before.invariant h.0 h.1 h.2 c.if-begins_sign.ensures c.note.ensures

pub returns : goal.returns
returns c = all_noted (words c.args.text.now) _ c.loop-before.notes.items c.loop-before.before-iterator.count c.loop-before.invariant c.in-None.ensures.steps.0.0
