-- A turn reads one digit; a byte that is no digit, or a number that passes the bound, ends the loop.
use Rattle.std.proofs.Common.{refl, arith, rules}
use Rattle.decimal.proofs.Digits.{left_more, left_below, left_above, left_large, left_all}
use Rattle.decimal.proofs.number_below.Goals as goal
use Rattle.decimal.proofs.number_below.Goals.{then-c-lt48-via-then-c-lt48, then-c-lt48-via-else-c-lt48+then-c-gt57}

pub loop-c-init : goal.loop-c-init
loop-c-init c = (search rules, record { value = refl; digits = refl })

pub returns-then-c-lt48 : goal.returns-then-c-lt48
returns-then-c-lt48 c = λ n h w.
    let text = c.args.text.now in
    elim c.then-c-lt48.branch [
      | then-c-lt48-via-then-c-lt48 way ↦ left_below text c.loop-c.c-index c.loop-c.n c.loop-c-test.true c.loop-c.invariant.1 way.if-c-lt48.true w.digits
      | then-c-lt48-via-else-c-lt48+then-c-gt57 way ↦ left_above text c.loop-c.c-index c.loop-c.n c.loop-c-test.true c.loop-c.invariant.1 way.if-c-gt57.true w.digits
    ]

pub returns-then-more-bound : goal.returns-then-more-bound
returns-then-more-bound c = λ n h w.
    let large = left_large c.args.text.now c.loop-c.c-index c.loop-c.n c.loop-c-test.true c.loop-c.invariant.1 in
    omega (arith, w.value)

pub loop-c-preserved : goal.loop-c-preserved
loop-c-preserved c = (c.if-more-bound.false, left_more c.args.text.now c.loop-c.c-index c.loop-c.n c.loop-c-test.true c.loop-c.invariant.1 c.if-c-lt48.false c.if-c-gt57.false)

pub returns : goal.returns
returns c =
    let r = left_all c.args.text.now c.loop-c.c-index c.loop-c.n c.loop-c-test.false c.loop-c.invariant.1 in
    (c.loop-c.invariant.0, record { some = search rules; digits = r.1; value = r.0 })
