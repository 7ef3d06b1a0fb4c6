use Rattle.std.proofs.Common.{not, sym, ap, arith}
use Rattle.text.specs.Cut.{letter}
use Rattle.text.proofs.Cuts.{place_more, place_found, place_none}
use Rattle.text.proofs.cut.blanks.Goals as goal

pub returns-then-not-is_blank : goal.returns-then-not-is_blank
returns-then-not-is_blank c = record { within = omega arith; place = place_found letter c.args.s.now c.loop-i.i c.loop-i-test.true (ap not (sym c.if-not-is_blank.ensures)) c.loop-i.invariant }

pub loop-i-preserved : goal.loop-i-preserved
loop-i-preserved c = place_more letter c.args.s.now c.loop-i.i c.loop-i-test.true (ap not (sym c.if-not-is_blank.ensures)) c.loop-i.invariant

pub returns : goal.returns
returns c = record { within = omega arith; place = place_none letter c.args.s.now c.loop-i.i (omega arith) (omega arith) c.loop-i.invariant }
