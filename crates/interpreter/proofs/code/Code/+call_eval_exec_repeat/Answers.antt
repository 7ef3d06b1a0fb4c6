-- The needs of the four functions, by function: what each call asks, and what comes of each arm.
use Rattle.std.proofs.Common.{◌-◌, length, set, Ok, Err, refl, ◌∙◌, arith}
use Rattle.std.proofs.lemmas.Grind.{common_steps}
use Rattle.std.proofs.lemmas.Result.{err_from_is_err_and}
use Rattle.language.proofs.Shapes.{two_of}
use Rattle.interpreter.specs.declared.state.Stop.TheVariants.{Spent}
use Rattle.interpreter.specs.Running.{work}
use Rattle.interpreter.proofs.Working.{combines, expr_inside, lead_needs, lead_half, lead_cell, lead_call, lead_two, second_needs, first_stops, cell_value, two_second_stops, two_value, half_value, call_value}
use Rattle.interpreter.proofs.Doing.{stmt_inside, begin_needs, begin_setloc, begin_setglob, begin_setcell, begin_if, begin_out, begin_stops, setcell_needs, then_needs, if_needs, while_needs, setloc_does, setglob_does, setcell_stops, setcell_does, out_does, then_stops, then_does, if_0, if_not_0, while_does}
use Rattle.interpreter.proofs.Looping.{test_stops, test_is_0, body_stops, fuel_spent, turn_more, same_later}
use Rattle.interpreter.proofs.Calling.{opened_frame, body_stands, height_small, call_unknown, call_full, call_spent, call_stops, call_gives}
use Rattle.interpreter.proofs.code.Code.+call_eval_exec_repeat.Goals as goal

pub call-returns-then-f-self-clause-value : goal.call-returns-then-f-self-clause-value
call-returns-then-f-self-clause-value t c = call_unknown c.args.self.now c.args.f c.args.v c.args.fuel (length c.args.free.now) c.args.store.now c.if-fuel-eq0.false c.if-f-self.true

pub call-overflow_add-beside : goal.call-overflow_add-beside
call-overflow_add-beside t c =
    let h = height_small c.args.self.now c.args.f c.args.v c.args.fuel (length c.args.free.now) c.args.store.now c.if-f-self.false in
    omega (arith, h)

pub call-returns-then-free-further-clause-value : goal.call-returns-then-free-further-clause-value
call-returns-then-free-further-clause-value t c = call_full c.args.self.now c.args.f c.args.v c.args.fuel (length c.args.free.now) c.args.store.now c.if-f-self.false c.if-fuel-eq0.false (omega (arith, c.if-free-further.true))

pub call-returns-then-fuel-eq1-clause-value : goal.call-returns-then-fuel-eq1-clause-value
call-returns-then-fuel-eq1-clause-value t c = call_spent c.args.self.now c.args.f c.args.v c.args.fuel (length c.args.free.now) c.args.store.now c.if-f-self.false 0 c.if-fuel-eq1.true (omega (arith, c.if-free-further.false)) refl

pub call-exec-requires : goal.call-exec-requires
call-exec-requires t c = (omega (arith, c.decreases), body_stands c.args.self.now c.args.f c.args.v c.args.fuel (length c.args.free.now) c.args.store.now c.if-f-self.false)

pub call-overflow_add-further-2 : goal.call-overflow_add-further-2
call-overflow_add-further-2 t c =
    let h = height_small c.args.self.now c.args.f c.args.v c.args.fuel (length c.args.free.now) c.args.store.now c.if-f-self.false in
    omega (arith, h)

pub call-returns-in_err-exec-clause-value : goal.call-returns-in_err-exec-clause-value
call-returns-in_err-exec-clause-value t c =
    let p = err_from_is_err_and c.from_residual.result c.from_residual.ensures.1 in
    rw (p.1, p.2) (call_stops c.args.self.now c.args.f c.args.v c.args.fuel (length c.args.free.now) c.args.store.now c.if-f-self.false (c.args.fuel - 1) (omega arith) (omega (arith, c.if-free-further.false)) (set c.fill.new.self 0 c.args.v) (c.args.fuel - 2) _ (omega arith) (omega (arith, c.split_at_mut-own.ensures.back_len)) (opened_frame _ c.args.v c.fill.new.self (grind (arith, common_steps, c.fill.ensures.after, c.split_at_mut-own.ensures.front_len))) c.exec.new.locals c.exec.new.store c.in_err-exec.field-0.0 c.in_err-exec.ensures.value)

pub call-returns-clause-value : goal.call-returns-clause-value
call-returns-clause-value t c = call_gives c.args.self.now c.args.f c.args.v c.args.fuel (length c.args.free.now) c.args.store.now c.if-f-self.false (c.args.fuel - 1) (omega arith) (omega (arith, c.if-free-further.false)) (set c.fill.new.self 0 c.args.v) (c.args.fuel - 2) _ (omega arith) (omega (arith, c.split_at_mut-own.ensures.back_len)) (opened_frame _ c.args.v c.fill.new.self (grind (arith, common_steps, c.fill.ensures.after, c.split_at_mut-own.ensures.front_len))) c.exec.new.locals c.exec.new.store tt c.in_ok-exec.ensures.value

pub eval-bounds-self-i : goal.eval-bounds-self-i
eval-bounds-self-i t c = expr_inside c.args.self.now c.args.i c.requires

pub eval-eval-requires : goal.eval-eval-requires
eval-eval-requires t c =
    let p = lead_needs c.args.self.now c.args.fuel (length c.args.free.now) c.args.i c.in-Cell.a (lead_cell c.args.self.now c.args.fuel (length c.args.free.now) c.args.i c.in-Cell.a c.in-Cell.is) c.requires in
    (omega (arith, p.0, c.decreases), p.1)

pub eval-returns-in_err-place-in-Cell-clause-value : goal.eval-returns-in_err-place-in-Cell-clause-value
eval-returns-in_err-place-in-Cell-clause-value t c =
    let p = err_from_is_err_and c.from_residual.result c.from_residual.ensures.1 in
    rw (p.1, p.2) (first_stops c.args.self.now c.args.fuel (length c.args.free.now) c.args.i c.in-Cell.a (lead_cell c.args.self.now c.args.fuel (length c.args.free.now) c.args.i c.in-Cell.a c.in-Cell.is) (work c.args.locals.now c.args.store.now) (work c.eval.new.locals c.eval.new.store) c.in_err-place-in-Cell.field-0.0 c.in_err-place-in-Cell.ensures.value)

pub eval-eval-requires-in-Half : goal.eval-eval-requires-in-Half
eval-eval-requires-in-Half t c =
    let p = lead_needs c.args.self.now c.args.fuel (length c.args.free.now) c.args.i c.in-Half.a (lead_half c.args.self.now c.args.fuel (length c.args.free.now) c.args.i c.in-Half.a c.in-Half.is) c.requires in
    (omega (arith, p.0, c.decreases), p.1)

pub eval-returns-in_err-whole-in-Half-clause-value : goal.eval-returns-in_err-whole-in-Half-clause-value
eval-returns-in_err-whole-in-Half-clause-value t c =
    let p = err_from_is_err_and c.from_residual-in_err-whole-in-Half.result c.from_residual-in_err-whole-in-Half.ensures.1 in
    rw (p.1, p.2) (first_stops c.args.self.now c.args.fuel (length c.args.free.now) c.args.i c.in-Half.a (lead_half c.args.self.now c.args.fuel (length c.args.free.now) c.args.i c.in-Half.a c.in-Half.is) (work c.args.locals.now c.args.store.now) (work c.eval-in-Half.new.locals c.eval-in-Half.new.store) c.in_err-whole-in-Half.field-0.0 c.in_err-whole-in-Half.ensures.value)

pub eval-eval-requires-in-Call : goal.eval-eval-requires-in-Call
eval-eval-requires-in-Call t c =
    let p = lead_needs c.args.self.now c.args.fuel (length c.args.free.now) c.args.i c.in-Call.a (lead_call c.args.self.now c.args.fuel (length c.args.free.now) c.args.i c.in-Call.f c.in-Call.a c.in-Call.is) c.requires in
    (omega (arith, p.0, c.decreases), p.1)

pub eval-returns-in_err-argument-in-Call-clause-value : goal.eval-returns-in_err-argument-in-Call-clause-value
eval-returns-in_err-argument-in-Call-clause-value t c =
    let p = err_from_is_err_and c.from_residual-in_err-argument-in-Call.result c.from_residual-in_err-argument-in-Call.ensures.1 in
    rw (p.1, p.2) (first_stops c.args.self.now c.args.fuel (length c.args.free.now) c.args.i c.in-Call.a (lead_call c.args.self.now c.args.fuel (length c.args.free.now) c.args.i c.in-Call.f c.in-Call.a c.in-Call.is) (work c.args.locals.now c.args.store.now) (work c.eval-in-Call.new.locals c.eval-in-Call.new.store) c.in_err-argument-in-Call.field-0.0 c.in_err-argument-in-Call.ensures.value)

pub eval-eval-requires-in-Add : goal.eval-eval-requires-in-Add
eval-eval-requires-in-Add t c =
    let p = lead_needs c.args.self.now c.args.fuel (length c.args.free.now) c.args.i c.in-Add.a (lead_two c.args.self.now c.args.fuel (length c.args.free.now) c.args.i c.in-Add.a c.in-Add.b (two_of c.args.self.now.nodes.now c.args.i c.in-Add.a c.in-Add.b c.in-Add.is)) c.requires in
    (omega (arith, p.0, c.decreases), p.1)

pub eval-returns-in_err-x-in-Add-clause-value : goal.eval-returns-in_err-x-in-Add-clause-value
eval-returns-in_err-x-in-Add-clause-value t c =
    let p = err_from_is_err_and c.from_residual-in_err-x-in-Add.result c.from_residual-in_err-x-in-Add.ensures.1 in
    rw (p.1, p.2) (first_stops c.args.self.now c.args.fuel (length c.args.free.now) c.args.i c.in-Add.a (lead_two c.args.self.now c.args.fuel (length c.args.free.now) c.args.i c.in-Add.a c.in-Add.b (two_of c.args.self.now.nodes.now c.args.i c.in-Add.a c.in-Add.b c.in-Add.is)) (work c.args.locals.now c.args.store.now) (work c.eval-in-Add.new.locals c.eval-in-Add.new.store) c.in_err-x-in-Add.field-0.0 c.in_err-x-in-Add.ensures.value)

pub eval-eval-requires-in-Add-2 : goal.eval-eval-requires-in-Add-2
eval-eval-requires-in-Add-2 t c =
    let p = second_needs c.args.self.now c.args.fuel (length c.args.free.now) c.args.i c.in-Add.a c.in-Add.b (two_of c.args.self.now.nodes.now c.args.i c.in-Add.a c.in-Add.b c.in-Add.is) c.requires in
    (omega (arith, p.0, c.decreases), p.1)

pub eval-returns-in_err-y-in-Add-clause-value : goal.eval-returns-in_err-y-in-Add-clause-value
eval-returns-in_err-y-in-Add-clause-value t c =
    let p = err_from_is_err_and c.from_residual-in_err-y-in-Add.result c.from_residual-in_err-y-in-Add.ensures.1 in
    rw (p.1, p.2) (two_second_stops c.args.self.now c.args.fuel (length c.args.free.now) c.args.i c.in-Add.a c.in-Add.b (two_of c.args.self.now.nodes.now c.args.i c.in-Add.a c.in-Add.b c.in-Add.is) (work c.args.locals.now c.args.store.now) (work c.eval-in-Add.new.locals c.eval-in-Add.new.store) (work c.eval-in-Add-2.new.locals c.eval-in-Add-2.new.store) c.in_ok-x-in-Add.x c.in_err-y-in-Add.field-0.0 c.in_ok-x-in-Add.ensures.value (rw c.eval-in-Add.auto.free at c.in_err-y-in-Add.ensures.value))

pub eval-returns-in_ok-place-in-Cell-clause-value : goal.eval-returns-in_ok-place-in-Cell-clause-value
eval-returns-in_ok-place-in-Cell-clause-value t c = cell_value c.args.self.now c.args.fuel (length c.args.free.now) c.args.i c.in-Cell.a c.in-Cell.is (work c.args.locals.now c.args.store.now) (work c.eval.new.locals c.eval.new.store) c.in_ok-place-in-Cell.place c.cell.result c.cell.ensures c.in_ok-place-in-Cell.ensures.value

pub eval-returns-in_ok-whole-in-Half-clause-value : goal.eval-returns-in_ok-whole-in-Half-clause-value
eval-returns-in_ok-whole-in-Half-clause-value t c = half_value c.args.self.now c.args.fuel (length c.args.free.now) c.args.i c.in-Half.a c.in-Half.is (work c.args.locals.now c.args.store.now) (work c.eval-in-Half.new.locals c.eval-in-Half.new.store) c.in_ok-whole-in-Half.whole c.half.result c.half.ensures c.in_ok-whole-in-Half.ensures.value

pub eval-returns-in_ok-argument-in-Call-clause-value : goal.eval-returns-in_ok-argument-in-Call-clause-value
eval-returns-in_ok-argument-in-Call-clause-value t c = call_value c.args.self.now c.args.fuel (length c.args.free.now) c.args.i c.in-Call.f c.in-Call.a c.in-Call.is (work c.args.locals.now c.args.store.now) c.eval-in-Call.new.locals c.eval-in-Call.new.store c.call.new.store c.in_ok-argument-in-Call.argument c.call.result c.in_ok-argument-in-Call.ensures.value (rw c.eval-in-Call.auto.free at c.call.ensures.value)

pub eval-returns-in_ok-y-in-Add-clause-value : goal.eval-returns-in_ok-y-in-Add-clause-value
eval-returns-in_ok-y-in-Add-clause-value t c =
    two_value c.args.self.now c.args.fuel (length c.args.free.now) c.args.i c.in-Add.a c.in-Add.b (two_of c.args.self.now.nodes.now c.args.i c.in-Add.a c.in-Add.b c.in-Add.is) (work c.args.locals.now c.args.store.now) (work c.eval-in-Add.new.locals c.eval-in-Add.new.store) (work c.eval-in-Add-2.new.locals c.eval-in-Add-2.new.store) c.in_ok-x-in-Add.x c.in_ok-y-in-Add.y c.combine.result
    (c.combine.ensures ∙ combines c.args.self.now.nodes.now c.args.i c.in-Add.a c.in-Add.b c.in-Add.is c.in_ok-x-in-Add.x c.in_ok-y-in-Add.y) c.in_ok-x-in-Add.ensures.value (rw c.eval-in-Add.auto.free at c.in_ok-y-in-Add.ensures.value)

pub exec-bounds-self-i : goal.exec-bounds-self-i
exec-bounds-self-i t c = stmt_inside c.args.self.now c.args.i c.requires

pub exec-exec-requires : goal.exec-exec-requires
exec-exec-requires t c =
    let p = then_needs c.args.self.now c.args.fuel (length c.args.free.now) c.args.i c.in-Then.a c.in-Then.b c.in-Then.is c.requires in
    (omega (arith, p.0, c.decreases), p.2)

pub exec-exec-requires-in-Then : goal.exec-exec-requires-in-Then
exec-exec-requires-in-Then t c =
    let p = then_needs c.args.self.now c.args.fuel (length c.args.free.now) c.args.i c.in-Then.a c.in-Then.b c.in-Then.is c.requires in
    (omega (arith, p.1, c.decreases), p.3)

pub exec-returns-in_err-exec-in-Then-clause-value : goal.exec-returns-in_err-exec-in-Then-clause-value
exec-returns-in_err-exec-in-Then-clause-value t c =
    let p = err_from_is_err_and c.from_residual.result c.from_residual.ensures.1 in
    rw (p.1, p.2) (then_stops c.args.self.now c.args.fuel (length c.args.free.now) c.args.i c.in-Then.a c.in-Then.b c.in-Then.is (work c.args.locals.now c.args.store.now) (work c.exec.new.locals c.exec.new.store) c.in_err-exec-in-Then.field-0.0 c.in_err-exec-in-Then.ensures.value)

pub exec-returns-in_ok-exec-in-Then-clause-value : goal.exec-returns-in_ok-exec-in-Then-clause-value
exec-returns-in_ok-exec-in-Then-clause-value t c = then_does c.args.self.now c.args.fuel (length c.args.free.now) c.args.i c.in-Then.a c.in-Then.b c.in-Then.is (work c.args.locals.now c.args.store.now) (work c.exec.new.locals c.exec.new.store) (work c.exec-in-Then.new.locals c.exec-in-Then.new.store) tt c.exec-in-Then.result c.in_ok-exec-in-Then.ensures.value (rw c.exec.auto.free at c.exec-in-Then.ensures.value)

pub exec-eval-requires : goal.exec-eval-requires
exec-eval-requires t c =
    let p = begin_needs c.args.self.now c.args.fuel (length c.args.free.now) c.args.i c.in-SetLoc.a (begin_setloc c.args.self.now c.args.fuel (length c.args.free.now) c.args.i c.in-SetLoc.k c.in-SetLoc.a c.in-SetLoc.is) c.requires in
    (omega (arith, p.0, c.decreases), p.1)

pub exec-returns-in_err-x-in-SetLoc-clause-value : goal.exec-returns-in_err-x-in-SetLoc-clause-value
exec-returns-in_err-x-in-SetLoc-clause-value t c =
    let p = err_from_is_err_and c.from_residual-in_err-x-in-SetLoc.result c.from_residual-in_err-x-in-SetLoc.ensures.1 in
    rw (p.1, p.2) (begin_stops c.args.self.now c.args.fuel (length c.args.free.now) c.args.i c.in-SetLoc.a (begin_setloc c.args.self.now c.args.fuel (length c.args.free.now) c.args.i c.in-SetLoc.k c.in-SetLoc.a c.in-SetLoc.is) (work c.args.locals.now c.args.store.now) (work c.eval.new.locals c.eval.new.store) c.in_err-x-in-SetLoc.field-0.0 c.in_err-x-in-SetLoc.ensures.value)

pub exec-eval-requires-in-SetGlob : goal.exec-eval-requires-in-SetGlob
exec-eval-requires-in-SetGlob t c =
    let p = begin_needs c.args.self.now c.args.fuel (length c.args.free.now) c.args.i c.in-SetGlob.a (begin_setglob c.args.self.now c.args.fuel (length c.args.free.now) c.args.i c.in-SetGlob.k c.in-SetGlob.a c.in-SetGlob.is) c.requires in
    (omega (arith, p.0, c.decreases), p.1)

pub exec-returns-in_err-x-in-SetGlob-clause-value : goal.exec-returns-in_err-x-in-SetGlob-clause-value
exec-returns-in_err-x-in-SetGlob-clause-value t c =
    let p = err_from_is_err_and c.from_residual-in_err-x-in-SetGlob.result c.from_residual-in_err-x-in-SetGlob.ensures.1 in
    rw (p.1, p.2) (begin_stops c.args.self.now c.args.fuel (length c.args.free.now) c.args.i c.in-SetGlob.a (begin_setglob c.args.self.now c.args.fuel (length c.args.free.now) c.args.i c.in-SetGlob.k c.in-SetGlob.a c.in-SetGlob.is) (work c.args.locals.now c.args.store.now) (work c.eval-in-SetGlob.new.locals c.eval-in-SetGlob.new.store) c.in_err-x-in-SetGlob.field-0.0 c.in_err-x-in-SetGlob.ensures.value)

pub exec-eval-requires-in-SetCell : goal.exec-eval-requires-in-SetCell
exec-eval-requires-in-SetCell t c =
    let p = begin_needs c.args.self.now c.args.fuel (length c.args.free.now) c.args.i c.in-SetCell.a (begin_setcell c.args.self.now c.args.fuel (length c.args.free.now) c.args.i c.in-SetCell.a c.in-SetCell.b c.in-SetCell.is) c.requires in
    (omega (arith, p.0, c.decreases), p.1)

pub exec-returns-in_err-place-in-SetCell-clause-value : goal.exec-returns-in_err-place-in-SetCell-clause-value
exec-returns-in_err-place-in-SetCell-clause-value t c =
    let p = err_from_is_err_and c.from_residual-in_err-place-in-SetCell.result c.from_residual-in_err-place-in-SetCell.ensures.1 in
    rw (p.1, p.2) (begin_stops c.args.self.now c.args.fuel (length c.args.free.now) c.args.i c.in-SetCell.a (begin_setcell c.args.self.now c.args.fuel (length c.args.free.now) c.args.i c.in-SetCell.a c.in-SetCell.b c.in-SetCell.is) (work c.args.locals.now c.args.store.now) (work c.eval-in-SetCell.new.locals c.eval-in-SetCell.new.store) c.in_err-place-in-SetCell.field-0.0 c.in_err-place-in-SetCell.ensures.value)

pub exec-eval-requires-in-If : goal.exec-eval-requires-in-If
exec-eval-requires-in-If t c =
    let p = begin_needs c.args.self.now c.args.fuel (length c.args.free.now) c.args.i c.in-If.a (begin_if c.args.self.now c.args.fuel (length c.args.free.now) c.args.i c.in-If.a c.in-If.b c.in-If.d c.in-If.is) c.requires in
    (omega (arith, p.0, c.decreases), p.1)

pub exec-returns-in_err-x-in-If-clause-value : goal.exec-returns-in_err-x-in-If-clause-value
exec-returns-in_err-x-in-If-clause-value t c =
    let p = err_from_is_err_and c.from_residual-in_err-x-in-If.result c.from_residual-in_err-x-in-If.ensures.1 in
    rw (p.1, p.2) (begin_stops c.args.self.now c.args.fuel (length c.args.free.now) c.args.i c.in-If.a (begin_if c.args.self.now c.args.fuel (length c.args.free.now) c.args.i c.in-If.a c.in-If.b c.in-If.d c.in-If.is) (work c.args.locals.now c.args.store.now) (work c.eval-in-If.new.locals c.eval-in-If.new.store) c.in_err-x-in-If.field-0.0 c.in_err-x-in-If.ensures.value)

pub exec-eval-requires-in-Out : goal.exec-eval-requires-in-Out
exec-eval-requires-in-Out t c =
    let p = begin_needs c.args.self.now c.args.fuel (length c.args.free.now) c.args.i c.in-Out.a (begin_out c.args.self.now c.args.fuel (length c.args.free.now) c.args.i c.in-Out.a c.in-Out.is) c.requires in
    (omega (arith, p.0, c.decreases), p.1)

pub exec-returns-in_err-x-in-Out-clause-value : goal.exec-returns-in_err-x-in-Out-clause-value
exec-returns-in_err-x-in-Out-clause-value t c =
    let p = err_from_is_err_and c.from_residual-in_err-x-in-Out.result c.from_residual-in_err-x-in-Out.ensures.1 in
    rw (p.1, p.2) (begin_stops c.args.self.now c.args.fuel (length c.args.free.now) c.args.i c.in-Out.a (begin_out c.args.self.now c.args.fuel (length c.args.free.now) c.args.i c.in-Out.a c.in-Out.is) (work c.args.locals.now c.args.store.now) (work c.eval-in-Out.new.locals c.eval-in-Out.new.store) c.in_err-x-in-Out.field-0.0 c.in_err-x-in-Out.ensures.value)

pub exec-eval-requires-in-SetCell-2 : goal.exec-eval-requires-in-SetCell-2
exec-eval-requires-in-SetCell-2 t c =
    let p = setcell_needs c.args.self.now c.args.fuel (length c.args.free.now) c.args.i c.in-SetCell.a c.in-SetCell.b c.in-SetCell.is c.requires in
    (omega (arith, p.0, c.decreases), p.1)

pub exec-returns-in_err-x-in-SetCell-clause-value : goal.exec-returns-in_err-x-in-SetCell-clause-value
exec-returns-in_err-x-in-SetCell-clause-value t c =
    let p = err_from_is_err_and c.from_residual-in_err-x-in-SetCell.result c.from_residual-in_err-x-in-SetCell.ensures.1 in
    rw (p.1, p.2) (setcell_stops c.args.self.now c.args.fuel (length c.args.free.now) c.args.i c.in-SetCell.a c.in-SetCell.b c.in-SetCell.is (work c.args.locals.now c.args.store.now) (work c.eval-in-SetCell.new.locals c.eval-in-SetCell.new.store) (work c.eval-in-SetCell-2.new.locals c.eval-in-SetCell-2.new.store) c.in_ok-place-in-SetCell.place c.in_err-x-in-SetCell.field-0.0 c.in_ok-place-in-SetCell.ensures.value (rw c.eval-in-SetCell.auto.free at c.in_err-x-in-SetCell.ensures.value))

pub exec-returns-in_ok-x-in-SetCell-clause-value : goal.exec-returns-in_ok-x-in-SetCell-clause-value
exec-returns-in_ok-x-in-SetCell-clause-value t c = setcell_does c.args.self.now c.args.fuel (length c.args.free.now) c.args.i c.in-SetCell.a c.in-SetCell.b c.in-SetCell.is (work c.args.locals.now c.args.store.now) (work c.eval-in-SetCell.new.locals c.eval-in-SetCell.new.store) c.eval-in-SetCell-2.new.locals c.eval-in-SetCell-2.new.store c.set_cell.new.self c.in_ok-place-in-SetCell.place c.in_ok-x-in-SetCell.x c.set_cell.result c.set_cell.ensures.stores c.in_ok-place-in-SetCell.ensures.value (rw c.eval-in-SetCell.auto.free at c.in_ok-x-in-SetCell.ensures.value)

pub exec-exec-requires-then-x-eq0 : goal.exec-exec-requires-then-x-eq0
exec-exec-requires-then-x-eq0 t c =
    let p = if_needs c.args.self.now c.args.fuel (length c.args.free.now) c.args.i c.in-If.a c.in-If.b c.in-If.d c.in-If.is c.requires in
    (omega (arith, p.1, c.decreases), p.3)

pub exec-exec-requires-else-x-eq0 : goal.exec-exec-requires-else-x-eq0
exec-exec-requires-else-x-eq0 t c =
    let p = if_needs c.args.self.now c.args.fuel (length c.args.free.now) c.args.i c.in-If.a c.in-If.b c.in-If.d c.in-If.is c.requires in
    (omega (arith, p.0, c.decreases), p.2)

pub exec-returns-then-x-eq0-clause-value : goal.exec-returns-then-x-eq0-clause-value
exec-returns-then-x-eq0-clause-value t c = if_0 c.args.self.now c.args.fuel (length c.args.free.now) c.args.i c.in-If.a c.in-If.b c.in-If.d c.in-If.is (work c.args.locals.now c.args.store.now) (work c.eval-in-If.new.locals c.eval-in-If.new.store) (work c.exec-then-x-eq0.new.locals c.exec-then-x-eq0.new.store) c.in_ok-x-in-If.x c.exec-then-x-eq0.result c.if-x-eq0.true c.in_ok-x-in-If.ensures.value (rw c.eval-in-If.auto.free at c.exec-then-x-eq0.ensures.value)

pub exec-returns-else-x-eq0-clause-value : goal.exec-returns-else-x-eq0-clause-value
exec-returns-else-x-eq0-clause-value t c = if_not_0 c.args.self.now c.args.fuel (length c.args.free.now) c.args.i c.in-If.a c.in-If.b c.in-If.d c.in-If.is (work c.args.locals.now c.args.store.now) (work c.eval-in-If.new.locals c.eval-in-If.new.store) (work c.exec-else-x-eq0.new.locals c.exec-else-x-eq0.new.store) c.in_ok-x-in-If.x c.exec-else-x-eq0.result c.if-x-eq0.false c.in_ok-x-in-If.ensures.value (rw c.eval-in-If.auto.free at c.exec-else-x-eq0.ensures.value)

pub exec-repeat-requires : goal.exec-repeat-requires
exec-repeat-requires t c =
    let p = while_needs c.args.self.now c.args.fuel (length c.args.free.now) c.args.i c.in-While.a c.in-While.b c.in-While.is c.requires in
    (omega (arith, p.0, p.1, c.decreases), (p.2, p.3))

pub exec-returns-in-While-clause-value : goal.exec-returns-in-While-clause-value
exec-returns-in-While-clause-value t c = while_does c.args.self.now c.args.fuel (length c.args.free.now) c.args.i c.in-While.a c.in-While.b c.in-While.is (work c.args.locals.now c.args.store.now) (work c.repeat.new.locals c.repeat.new.store) c.repeat.result c.repeat.ensures.value

pub exec-returns-in_ok-x-in-SetLoc-clause-value : goal.exec-returns-in_ok-x-in-SetLoc-clause-value
exec-returns-in_ok-x-in-SetLoc-clause-value t c = setloc_does c.args.self.now c.args.fuel (length c.args.free.now) c.args.i c.in-SetLoc.k c.in-SetLoc.a c.in-SetLoc.is (work c.args.locals.now c.args.store.now) c.eval.new.locals c.put_at.new.words c.eval.new.store c.in_ok-x-in-SetLoc.x tt c.put_at.ensures c.in_ok-x-in-SetLoc.ensures.value

pub exec-returns-in_ok-x-in-SetGlob-clause-value : goal.exec-returns-in_ok-x-in-SetGlob-clause-value
exec-returns-in_ok-x-in-SetGlob-clause-value t c = setglob_does c.args.self.now c.args.fuel (length c.args.free.now) c.args.i c.in-SetGlob.k c.in-SetGlob.a c.in-SetGlob.is (work c.args.locals.now c.args.store.now) (work c.eval-in-SetGlob.new.locals c.eval-in-SetGlob.new.store) c.in_ok-x-in-SetGlob.x c.put_at-in-SetGlob.new.words tt c.put_at-in-SetGlob.ensures c.in_ok-x-in-SetGlob.ensures.value

pub exec-returns-in_ok-x-in-Out-clause-value : goal.exec-returns-in_ok-x-in-Out-clause-value
exec-returns-in_ok-x-in-Out-clause-value t c = out_does c.args.self.now c.args.fuel (length c.args.free.now) c.args.i c.in-Out.a c.in-Out.is (work c.args.locals.now c.args.store.now) c.eval-in-Out.new.locals c.eval-in-Out.new.store c.put_out.new.self c.in_ok-x-in-Out.x c.put_out.result c.put_out.ensures.puts c.in_ok-x-in-Out.ensures.value

pub repeat-returns-in_err-x-clause-value : goal.repeat-returns-in_err-x-clause-value
repeat-returns-in_err-x-clause-value t c =
    let p = err_from_is_err_and c.from_residual.result c.from_residual.ensures.1 in
    rw (p.1, p.2) (c.loop-left.invariant.still (work c.eval.new.locals c.eval.new.store) (Err c.in_err-x.field-0.0) (test_stops c.args.self.now c.args.i c.args.j (length c.args.free.now) c.loop-left.left (work c.loop-left.locals c.loop-left.store) (work c.eval.new.locals c.eval.new.store) c.in_err-x.field-0.0 (rw c.loop-left.auto.free at c.in_err-x.ensures.value)))

pub repeat-returns-then-x-eq0-clause-value : goal.repeat-returns-then-x-eq0-clause-value
repeat-returns-then-x-eq0-clause-value t c = c.loop-left.invariant.still (work c.eval.new.locals c.eval.new.store) (Ok tt) (test_is_0 c.args.self.now c.args.i c.args.j (length c.args.free.now) c.loop-left.left (work c.loop-left.locals c.loop-left.store) (work c.eval.new.locals c.eval.new.store) c.in_ok-x.x (rw c.loop-left.auto.free at c.in_ok-x.ensures.value) tt c.if-x-eq0.true)

pub repeat-returns-in_err-exec-clause-value : goal.repeat-returns-in_err-exec-clause-value
repeat-returns-in_err-exec-clause-value t c =
    let p = err_from_is_err_and c.from_residual-in_err-exec.result c.from_residual-in_err-exec.ensures.1 in
    rw (p.1, p.2) (c.loop-left.invariant.still (work c.exec.new.locals c.exec.new.store) (Err c.in_err-exec.field-0.0) (body_stops c.args.self.now c.args.i c.args.j (length c.args.free.now) c.loop-left.left (work c.loop-left.locals c.loop-left.store) (work c.eval.new.locals c.eval.new.store) c.in_ok-x.x (rw c.loop-left.auto.free at c.in_ok-x.ensures.value) c.if-x-eq0.false (work c.exec.new.locals c.exec.new.store) c.in_err-exec.field-0.0 (rw (c.eval.auto.free ∙ c.loop-left.auto.free) at c.in_err-exec.ensures.value)))

pub repeat-returns-in_ok-exec-clause-value : goal.repeat-returns-in_ok-exec-clause-value
repeat-returns-in_ok-exec-clause-value t c = c.loop-left.invariant.still (work c.exec.new.locals c.exec.new.store) (Err Spent) (fuel_spent c.args.self.now c.args.i c.args.j (length c.args.free.now) c.loop-left.left (work c.loop-left.locals c.loop-left.store) (work c.eval.new.locals c.eval.new.store) c.in_ok-x.x (rw c.loop-left.auto.free at c.in_ok-x.ensures.value) c.if-x-eq0.false (work c.exec.new.locals c.exec.new.store) tt (omega arith) (rw (c.eval.auto.free ∙ c.loop-left.auto.free) at c.in_ok-exec.ensures.value))

pub repeat-loop-left-preserved : goal.repeat-loop-left-preserved
repeat-loop-left-preserved t c =
    record {
      same_loans = same_later _ _ _ (same_later _ _ _ c.loop-left.invariant.same_loans c.in_ok-x.ensures.same_loans) c.in_ok-exec.ensures.same_loans;
      still = λ m x h. c.loop-left.invariant.still m x (turn_more c.args.self.now c.args.i c.args.j (length c.args.free.now) c.loop-left.left (work c.loop-left.locals c.loop-left.store) (work c.eval.new.locals c.eval.new.store) c.in_ok-x.x (rw c.loop-left.auto.free at c.in_ok-x.ensures.value) c.if-x-eq0.false (work c.exec.new.locals c.exec.new.store) m tt x (λ z. omega (arith, z)) (rw (c.eval.auto.free ∙ c.loop-left.auto.free) at c.in_ok-exec.ensures.value) h);
    }
