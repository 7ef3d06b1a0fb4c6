use Rattle.std.proofs.Common.{refl, arith}
use Rattle.compiler.proofs.Parted.{one_work, two_work}
use Rattle.compiler.proofs.Noted.{noted_nothing, noted_part, noted_two}
use Rattle.compiler.proofs.places.+place_work.Goals as goal

pub returns-in-Nothing : goal.returns-in-Nothing
returns-in-Nothing t c = noted_nothing c.args.nodes.now c.args.i c.args.at c.args.places.now.items c.note.new.notes.items c.in-Nothing.ensures c.note.ensures

pub place_work-requires : goal.place_work-requires
place_work-requires t c =
    let w = one_work c.requires c.in-One.ensures in
    (omega (arith, w.later, w.inside), w.works)

pub returns-in-One : goal.returns-in-One
returns-in-One t c = noted_part c.args.nodes.now c.args.i c.args.at c.args.places.now.items c.note.new.notes.items c.in-One.part c.place_work.new.places.items c.in-One.ensures c.note.ensures c.place_work.ensures

pub measure_work-x-requires : goal.measure_work-x-requires
measure_work-x-requires t c = (two_work c.requires c.in-Two.ensures).first_works

pub place_work-requires-in-Two : goal.place_work-requires-in-Two
place_work-requires-in-Two t c =
    let w = two_work c.requires c.in-Two.ensures in
    (omega (arith, w.first_later, w.inside), w.first_works)

pub overflow_add-x : goal.overflow_add-x
overflow_add-x t c =
    let w = two_work c.requires c.in-Two.ensures in
    omega (arith, w.middle c.measure_work-x.result c.measure_work-x.ensures)

pub place_work-requires-in-Two-2 : goal.place_work-requires-in-Two-2
place_work-requires-in-Two-2 t c =
    let w = two_work c.requires c.in-Two.ensures in
    (omega (arith, w.second_later, w.inside), w.second_works c.measure_work-x.result _ c.measure_work-x.ensures refl)

pub returns-in-Two : goal.returns-in-Two
returns-in-Two t c =
    let x = c.measure_work-x in let q = c.place_work-in-Two in let r = c.place_work-in-Two-2 in
    noted_two c.args.nodes.now c.args.i c.args.at c.args.places.now.items c.note.new.notes.items c.in-Two.first c.in-Two.second x.result q.new.places.items r.new.places.items c.in-Two.ensures x.ensures c.note.ensures q.ensures r.ensures
