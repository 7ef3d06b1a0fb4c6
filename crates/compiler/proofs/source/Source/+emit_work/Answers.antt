use Rattle.std.proofs.Common.{◌≡◌, ◌+◌, arith}
use Rattle.compiler.specs.Sizes.{push_words}
use Rattle.compiler.proofs.Parted.{one_work, two_work}
use Rattle.compiler.proofs.Wrote.{wrote_one, wrote_two}
use Rattle.compiler.proofs.source.Source.+emit_work.Goals as goal

-- One part.
pub emit_work-requires : goal.emit_work-requires
emit_work-requires t c =
    let w = one_work c.requires c.in-One.ensures in
    (omega (arith, w.later, w.inside), w.works)

pub finish-requires-in-One-clause-room : goal.finish-requires-in-One-clause-room
finish-requires-in-One-clause-room t c =
    let w = one_work c.requires c.in-One.ensures in
    omega (arith, w.room c.emit_work.new.writer.at c.emit_work.ensures.ends)

pub returns-in-One : goal.returns-in-One
returns-in-One t c = wrote_one c.in-One.ensures c.requires.node_fits c.emit_work.ensures c.finish-in-One.ensures

-- Two.
pub emit_work-requires-in-Two : goal.emit_work-requires-in-Two
emit_work-requires-in-Two t c =
    let w = two_work c.requires c.in-Two.ensures in
    (omega (arith, w.first_later, w.inside), w.first_works)

pub push-requires : goal.push-requires
push-requires t c =
    let w = two_work c.requires c.in-Two.ensures in
    omega (arith, w.middle c.emit_work-in-Two.new.writer.at c.emit_work-in-Two.ensures.ends)

pub emit_work-requires-in-Two-2 : goal.emit_work-requires-in-Two-2
emit_work-requires-in-Two-2 t c =
    let w = two_work c.requires c.in-Two.ensures in
    let p = c.emit_work-in-Two in let q = c.push.new.self.at in
    let pushed : q ≡ p.new.writer.at + push_words = omega (arith, c.push.ensures.words.ends) in
    (omega (arith, w.second_later, w.inside), w.second_works p.new.writer.at q p.ensures.ends pushed)

pub finish-requires-in-Two-clause-room : goal.finish-requires-in-Two-clause-room
finish-requires-in-Two-clause-room t c =
    let w = two_work c.requires c.in-Two.ensures in
    let p = c.emit_work-in-Two in let q = c.push.new.self.at in let r = c.emit_work-in-Two-2 in
    let pushed : q ≡ p.new.writer.at + push_words = omega (arith, c.push.ensures.words.ends) in
    omega (arith, w.room p.new.writer.at q r.new.writer.at p.ensures.ends pushed r.ensures.ends)

pub returns-in-Two : goal.returns-in-Two
returns-in-Two t c = wrote_two c.in-Two.ensures c.requires.node_fits c.emit_work-in-Two.ensures c.push.ensures c.emit_work-in-Two-2.ensures c.finish-in-Two.ensures
