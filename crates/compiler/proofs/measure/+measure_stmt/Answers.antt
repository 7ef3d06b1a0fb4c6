use Rattle.std.proofs.Common.{refl, arith}
use Rattle.language.specs.Nodes.{node_at}
use Rattle.compiler.proofs.Stmts.{simple, simple_works, then_work, if_work, while_work}
use Rattle.compiler.proofs.Laid.{ends_simple, ends_then, ends_if, ends_while}
use Rattle.compiler.proofs.measure.+measure_stmt.Goals as goal

-- One statement and then another.
pub measure_stmt-x-requires : goal.measure_stmt-x-requires
measure_stmt-x-requires t c =
    let w = then_work c.in-Then.is c.requires in
    (omega (arith, w.first_later, w.inside), w.first_works)

pub measure_stmt-requires : goal.measure_stmt-requires
measure_stmt-requires t c =
    let w = then_work c.in-Then.is c.requires in
    (omega (arith, w.second_later, w.inside), w.second_works c.measure_stmt-x.result c.measure_stmt-x.ensures)

pub returns-in-Then : goal.returns-in-Then
returns-in-Then t c = ends_then c.args.nodes.now c.args.i c.args.at c.in-Then.a c.in-Then.b c.measure_stmt-x.result c.measure_stmt.result c.in-Then.is c.measure_stmt-x.ensures c.measure_stmt.ensures

-- A test and two statements.
pub measure_work-x-requires : goal.measure_work-x-requires
measure_work-x-requires t c = (if_work c.in-If.is c.requires).test_works

pub overflow_add-x : goal.overflow_add-x
overflow_add-x t c =
    let w = if_work c.in-If.is c.requires in
    omega (arith, w.else_room c.measure_work-x.result c.measure_work-x.ensures)

pub measure_stmt-y-requires : goal.measure_stmt-y-requires
measure_stmt-y-requires t c =
    let w = if_work c.in-If.is c.requires in
    (omega (arith, w.second_later, w.inside), w.second_works c.measure_work-x.result _ c.measure_work-x.ensures refl)

pub overflow_add-y : goal.overflow_add-y
overflow_add-y t c =
    let w = if_work c.in-If.is c.requires in
    omega (arith, w.then_room c.measure_work-x.result _ c.measure_stmt-y.result c.measure_work-x.ensures refl c.measure_stmt-y.ensures)

pub measure_stmt-requires-in-If : goal.measure_stmt-requires-in-If
measure_stmt-requires-in-If t c =
    let w = if_work c.in-If.is c.requires in
    (omega (arith, w.first_later, w.inside), w.first_works c.measure_work-x.result _ c.measure_stmt-y.result _ c.measure_work-x.ensures refl c.measure_stmt-y.ensures refl)

pub returns-in-If : goal.returns-in-If
returns-in-If t c =
    let x = c.measure_work-x in let y = c.measure_stmt-y in let r = c.measure_stmt-in-If in
    ends_if c.args.nodes.now c.args.i c.args.at c.in-If.test c.in-If.first c.in-If.second x.result _ y.result _ r.result c.in-If.is x.ensures refl y.ensures refl r.ensures

-- A test and a statement, again and again.
pub measure_work-x-requires-in-While : goal.measure_work-x-requires-in-While
measure_work-x-requires-in-While t c = (while_work c.in-While.is c.requires).test_works

pub overflow_add-x-in-While : goal.overflow_add-x-in-While
overflow_add-x-in-While t c =
    let w = while_work c.in-While.is c.requires in
    omega (arith, w.loop_room c.measure_work-x-in-While.result c.measure_work-x-in-While.ensures)

pub measure_stmt-y-requires-in-While : goal.measure_stmt-y-requires-in-While
measure_stmt-y-requires-in-While t c =
    let w = while_work c.in-While.is c.requires in
    (omega (arith, w.body_later, w.inside), w.body_works c.measure_work-x-in-While.result _ c.measure_work-x-in-While.ensures refl)

pub overflow_add-result : goal.overflow_add-result
overflow_add-result t c =
    let w = while_work c.in-While.is c.requires in
    let x = c.measure_work-x-in-While in let y = c.measure_stmt-y-in-While in
    omega (arith, w.room x.result _ y.result x.ensures refl y.ensures)

pub returns-in-While : goal.returns-in-While
returns-in-While t c =
    let x = c.measure_work-x-in-While in let y = c.measure_stmt-y-in-While in
    ends_while c.args.nodes.now c.args.i c.args.at c.in-While.test c.in-While.body x.result _ y.result _ c.in-While.is x.ensures refl y.ensures refl

-- The others.
pub measure_work-requires : goal.measure_work-requires
measure_work-requires t c = simple_works (simple (node_at c.args.nodes.now c.args.i) c.in_default.not-Then c.in_default.not-If c.in_default.not-While) c.requires

pub returns-in_default : goal.returns-in_default
returns-in_default t c =
    ends_simple c.args.nodes.now c.args.i c.args.at c.measure_work.result (simple (node_at c.args.nodes.now c.args.i) c.in_default.not-Then c.in_default.not-If c.in_default.not-While) c.measure_work.ensures
