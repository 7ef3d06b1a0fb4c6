use Rattle.std.proofs.Common.{refl, sym, arith}
use Rattle.compiler.proofs.Parted.{one_work, two_work}
use Rattle.compiler.proofs.Emitted.{ends_one, ends_two}
use Rattle.compiler.proofs.measure.+measure_work.Goals as goal

pub measure_work-x-requires : goal.measure_work-x-requires
measure_work-x-requires t c =
    let w = one_work c.requires c.in-One.ensures in
    (omega (arith, w.later, w.inside), w.works)

pub overflow_add-result-in-One : goal.overflow_add-result-in-One
overflow_add-result-in-One t c =
    let w = one_work c.requires c.in-One.ensures in
    let x = c.measure_work-x in
    omega (arith, w.room x.result x.ensures, c.last_words-words.ensures x.result)

pub returns-in-One : goal.returns-in-One
returns-in-One t c =
    let x = c.measure_work-x in
    ends_one c.args.nodes.now c.args.i c.args.at c.in-One.part x.result _ c.in-One.ensures x.ensures (sym (c.last_words-words.ensures x.result))

pub measure_work-x-requires-in-Two : goal.measure_work-x-requires-in-Two
measure_work-x-requires-in-Two t c =
    let w = two_work c.requires c.in-Two.ensures in
    (omega (arith, w.first_later, w.inside), w.first_works)

pub overflow_add-x : goal.overflow_add-x
overflow_add-x t c =
    let w = two_work c.requires c.in-Two.ensures in
    let x = c.measure_work-x-in-Two in
    omega (arith, w.middle x.result x.ensures)

pub measure_work-y-requires : goal.measure_work-y-requires
measure_work-y-requires t c =
    let w = two_work c.requires c.in-Two.ensures in
    let x = c.measure_work-x-in-Two in
    (omega (arith, w.second_later, w.inside), w.second_works x.result _ x.ensures refl)

pub overflow_add-result-in-Two : goal.overflow_add-result-in-Two
overflow_add-result-in-Two t c =
    let w = two_work c.requires c.in-Two.ensures in
    let x = c.measure_work-x-in-Two in let y = c.measure_work-y in
    omega (arith, w.room x.result _ y.result x.ensures refl y.ensures, c.last_words-words.ensures y.result)

pub returns-in-Two : goal.returns-in-Two
returns-in-Two t c =
    let x = c.measure_work-x-in-Two in let y = c.measure_work-y in
    ends_two c.args.nodes.now c.args.i c.args.at c.in-Two.first c.in-Two.second x.result _ y.result _ c.in-Two.ensures x.ensures (omega arith) y.ensures (sym (c.last_words-words.ensures y.result))
