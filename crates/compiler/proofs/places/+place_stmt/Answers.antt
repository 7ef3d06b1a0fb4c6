use Rattle.std.proofs.Common.{refl, arith}
use Rattle.language.specs.Nodes.{node_at}
use Rattle.compiler.proofs.Stmts.{simple, simple_works, then_work, if_work, while_work}
use Rattle.compiler.proofs.Noted.{noted_simple, noted_then, noted_if, noted_while}
use Rattle.compiler.proofs.places.+place_stmt.Goals as goal

-- One statement and then another.
pub measure_stmt-x-requires : goal.measure_stmt-x-requires
measure_stmt-x-requires t c = (then_work c.in-Then.is c.requires).first_works

pub place_stmt-requires : goal.place_stmt-requires
place_stmt-requires t c =
    let w = then_work c.in-Then.is c.requires in
    (omega (arith, w.first_later, w.inside), w.first_works)

pub place_stmt-requires-in-Then : goal.place_stmt-requires-in-Then
place_stmt-requires-in-Then t c =
    let w = then_work c.in-Then.is c.requires in
    (omega (arith, w.second_later, w.inside), w.second_works c.measure_stmt-x.result c.measure_stmt-x.ensures)

pub returns-in-Then : goal.returns-in-Then
returns-in-Then t c =
    let x = c.measure_stmt-x in let q = c.place_stmt in let r = c.place_stmt-in-Then in
    noted_then c.args.nodes.now c.args.i c.args.at c.args.places.now.items c.note.new.notes.items c.in-Then.a c.in-Then.b x.result q.new.places.items r.new.places.items c.in-Then.is x.ensures c.note.ensures q.ensures r.ensures

-- A test and two statements.
pub measure_work-x-requires : goal.measure_work-x-requires
measure_work-x-requires t c = (if_work c.in-If.is c.requires).test_works

pub overflow_add-else_place : goal.overflow_add-else_place
overflow_add-else_place t c =
    let w = if_work c.in-If.is c.requires in
    omega (arith, w.else_room c.measure_work-x.result c.measure_work-x.ensures)

pub measure_stmt-y-requires : goal.measure_stmt-y-requires
measure_stmt-y-requires t c =
    let w = if_work c.in-If.is c.requires in
    w.second_works c.measure_work-x.result _ c.measure_work-x.ensures refl

pub place_work-requires : goal.place_work-requires
place_work-requires t c = (if_work c.in-If.is c.requires).test_works

pub overflow_add-y : goal.overflow_add-y
overflow_add-y t c =
    let w = if_work c.in-If.is c.requires in
    omega (arith, w.then_room c.measure_work-x.result _ c.measure_stmt-y.result c.measure_work-x.ensures refl c.measure_stmt-y.ensures)

pub place_stmt-requires-in-If : goal.place_stmt-requires-in-If
place_stmt-requires-in-If t c =
    let w = if_work c.in-If.is c.requires in
    (omega (arith, w.first_later, w.inside), w.first_works c.measure_work-x.result _ c.measure_stmt-y.result _ c.measure_work-x.ensures refl c.measure_stmt-y.ensures refl)

pub place_stmt-requires-in-If-2 : goal.place_stmt-requires-in-If-2
place_stmt-requires-in-If-2 t c =
    let w = if_work c.in-If.is c.requires in
    (omega (arith, w.second_later, w.inside), w.second_works c.measure_work-x.result _ c.measure_work-x.ensures refl)

pub returns-in-If : goal.returns-in-If
returns-in-If t c =
    let x = c.measure_work-x in let y = c.measure_stmt-y in let n = c.note-in-If in let q = c.place_work in let o = c.place_stmt-in-If in let r = c.place_stmt-in-If-2 in
    noted_if c.args.nodes.now c.args.i c.args.at c.args.places.now.items n.new.notes.items c.in-If.test c.in-If.first c.in-If.second x.result y.result q.new.places.items o.new.places.items r.new.places.items c.in-If.is x.ensures y.ensures n.ensures q.ensures o.ensures r.ensures

-- A test and a statement, again and again.
pub measure_work-x-requires-in-While : goal.measure_work-x-requires-in-While
measure_work-x-requires-in-While t c = (while_work c.in-While.is c.requires).test_works

pub place_work-requires-in-While : goal.place_work-requires-in-While
place_work-requires-in-While t c = (while_work c.in-While.is c.requires).test_works

pub overflow_add-x : goal.overflow_add-x
overflow_add-x t c =
    let w = while_work c.in-While.is c.requires in
    omega (arith, w.loop_room c.measure_work-x-in-While.result c.measure_work-x-in-While.ensures)

pub place_stmt-requires-in-While : goal.place_stmt-requires-in-While
place_stmt-requires-in-While t c =
    let w = while_work c.in-While.is c.requires in
    (omega (arith, w.body_later, w.inside), w.body_works c.measure_work-x-in-While.result _ c.measure_work-x-in-While.ensures refl)

pub returns-in-While : goal.returns-in-While
returns-in-While t c =
    let x = c.measure_work-x-in-While in let n = c.note-in-While in let q = c.place_work-in-While in let r = c.place_stmt-in-While in
    noted_while c.args.nodes.now c.args.i c.args.at c.args.places.now.items n.new.notes.items c.in-While.test c.in-While.body x.result q.new.places.items r.new.places.items c.in-While.is x.ensures n.ensures q.ensures r.ensures

-- The others.
pub place_work-requires-in_default : goal.place_work-requires-in_default
place_work-requires-in_default t c =
    simple_works (simple (node_at c.args.nodes.now c.args.i) c.in_default.not-Then c.in_default.not-If c.in_default.not-While) c.requires

pub returns-in_default : goal.returns-in_default
returns-in_default t c =
    let r = c.place_work-in_default in
    noted_simple c.args.nodes.now c.args.i c.args.at c.args.places.now.items r.new.places.items (simple (node_at c.args.nodes.now c.args.i) c.in_default.not-Then c.in_default.not-If c.in_default.not-While) r.ensures
