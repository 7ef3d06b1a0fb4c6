use Rattle.std.proofs.Common.{◌≡◌, ℕ, length, sym, subst, arith}
use Rattle.std.proofs.lemmas.Bool.{eqb-true, eqb-false}
use Rattle.text.proofs.Digits.{NumberSoFar, number_all, no_number_empty, no_number_letter, no_number_zero, no_number_long}
use Rattle.text.proofs.numbers.number.Goals as goal

pub returns-then-not-is_ascii_digit : goal.returns-then-not-is_ascii_digit
returns-then-not-is_ascii_digit c = sym (no_number_letter c.args.w.now c.loop-i.i c.loop-i-test.true (λ a b. omega (arith, c.if-not-is_ascii_digit.ensures.cases)))

pub returns-then-n-eq0 : goal.returns-then-n-eq0
returns-then-n-eq0 c = sym (no_number_zero c.args.w.now c.loop-i.i c.loop-i.n c.loop-i-test.true (omega arith) (omega arith) c.loop-i.invariant)

pub returns-then-n-gt-FOUR_DIGITS : goal.returns-then-n-gt-FOUR_DIGITS
returns-then-n-gt-FOUR_DIGITS c = sym (no_number_long c.args.w.now c.loop-i.i c.loop-i.n c.loop-i-test.true (omega arith) c.loop-i.invariant)

pub returns-then-is_empty : goal.returns-then-is_empty
returns-then-is_empty c = sym (no_number_empty c.args.w.now (eqb-true _ 0 (sym c.if-is_empty.ensures)))

pub returns : goal.returns
returns c =
    let e : c.loop-i.i ≡ length c.args.w.now = omega arith in
    sym (number_all c.args.w.now c.loop-i.n (omega (arith, eqb-false (length c.args.w.now) 0 (sym c.if-is_empty.ensures))) (subst (λ (i : ℕ). NumberSoFar c.args.w.now i c.loop-i.n) e c.loop-i.invariant))
