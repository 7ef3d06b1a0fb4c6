use Rattle.std.proofs.Common.{sym, arith}
use Rattle.text.specs.Text.{blank}
use Rattle.text.proofs.Cuts.{place_more, place_found, place_none}
use Rattle.text.proofs.cut.word_len.Goals as goal

pub returns-then-is_blank : goal.returns-then-is_blank
returns-then-is_blank c = record { within = omega arith; place = place_found blank c.args.s.now c.loop-i.i c.loop-i-test.true (sym c.if-is_blank.ensures) c.loop-i.invariant }

pub loop-i-preserved : goal.loop-i-preserved
loop-i-preserved c = place_more blank c.args.s.now c.loop-i.i c.loop-i-test.true (sym c.if-is_blank.ensures) c.loop-i.invariant

pub returns : goal.returns
returns c = record { within = omega arith; place = place_none blank c.args.s.now c.loop-i.i (omega arith) (omega arith) c.loop-i.invariant }
