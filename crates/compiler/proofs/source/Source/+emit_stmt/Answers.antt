use Rattle.std.proofs.Common.{◌≡◌, ◌+◌, refl, arith}
use Rattle.language.specs.Nodes.{node_at}
use Rattle.compiler.specs.Sizes.{go_words, go_unless_words, loop_words}
use Rattle.compiler.proofs.Stmts.{simple, simple_works, then_work, if_work, while_work}
use Rattle.compiler.proofs.Wrote.{wrote_simple, wrote_then, wrote_if, wrote_while}
use Rattle.compiler.proofs.source.Source.+emit_stmt.Goals as goal

-- One statement and then another.
pub emit_stmt-requires : goal.emit_stmt-requires
emit_stmt-requires t c =
    let w = then_work c.in-Then.is c.requires in
    (omega (arith, w.first_later, w.inside), w.first_works)

pub emit_stmt-requires-in-Then : goal.emit_stmt-requires-in-Then
emit_stmt-requires-in-Then t c =
    let w = then_work c.in-Then.is c.requires in
    (omega (arith, w.second_later, w.inside), w.second_works c.emit_stmt.new.writer.at c.emit_stmt.ensures.ends)

pub returns-in-Then : goal.returns-in-Then
returns-in-Then t c = wrote_then c.in-Then.is c.emit_stmt.ensures c.emit_stmt-in-Then.ensures

-- A test and two statements.
pub emit_work-requires : goal.emit_work-requires
emit_work-requires t c = (if_work c.in-If.is c.requires).test_works

pub overflow_add-writer : goal.overflow_add-writer
overflow_add-writer t c =
    let w = if_work c.in-If.is c.requires in
    omega (arith, w.else_room c.emit_work.new.writer.at c.emit_work.ensures.ends)

pub measure_stmt-over-requires : goal.measure_stmt-over-requires
measure_stmt-over-requires t c =
    let w = if_work c.in-If.is c.requires in
    w.second_works c.emit_work.new.writer.at _ c.emit_work.ensures.ends refl

pub overflow_add-first_place : goal.overflow_add-first_place
overflow_add-first_place t c =
    let w = if_work c.in-If.is c.requires in
    omega (arith, w.then_room c.emit_work.new.writer.at _ c.measure_stmt-over.result c.emit_work.ensures.ends refl c.measure_stmt-over.ensures)

pub measure_stmt-whole-requires : goal.measure_stmt-whole-requires
measure_stmt-whole-requires t c =
    let w = if_work c.in-If.is c.requires in
    w.first_works c.emit_work.new.writer.at _ c.measure_stmt-over.result _ c.emit_work.ensures.ends refl c.measure_stmt-over.ensures refl

pub overflow_cast-first_place : goal.overflow_cast-first_place
overflow_cast-first_place t c =
    let w = if_work c.in-If.is c.requires in
    omega (arith, w.then_room c.emit_work.new.writer.at _ c.measure_stmt-over.result c.emit_work.ensures.ends refl c.measure_stmt-over.ensures)

pub go_unless_zero-requires : goal.go_unless_zero-requires
go_unless_zero-requires t c =
    let w = if_work c.in-If.is c.requires in
    omega (arith, w.else_room c.emit_work.new.writer.at c.emit_work.ensures.ends)

pub emit_stmt-requires-in-If : goal.emit_stmt-requires-in-If
emit_stmt-requires-in-If t c =
    let w = if_work c.in-If.is c.requires in
    let p = c.emit_work in let q = c.go_unless_zero.new.self.at in
    let gone : q ≡ p.new.writer.at + go_unless_words = omega (arith, c.go_unless_zero.ensures.words.ends) in
    (omega (arith, w.second_later, w.inside), w.second_works p.new.writer.at q p.ensures.ends gone)

pub overflow_cast-whole : goal.overflow_cast-whole
overflow_cast-whole t c =
    let w = if_work c.in-If.is c.requires in
    let p = c.emit_work in let over = c.measure_stmt-over in let whole = c.measure_stmt-whole in
    omega (arith, w.room p.new.writer.at _ over.result _ whole.result p.ensures.ends refl over.ensures refl whole.ensures)

pub go_to-requires : goal.go_to-requires
go_to-requires t c =
    let w = if_work c.in-If.is c.requires in
    let p = c.emit_work in let q = c.go_unless_zero.new.self.at in let r = c.emit_stmt-in-If in
    let gone : q ≡ p.new.writer.at + go_unless_words = omega (arith, c.go_unless_zero.ensures.words.ends) in
    omega (arith, w.then_room p.new.writer.at q r.new.writer.at p.ensures.ends gone r.ensures.ends)

pub emit_stmt-requires-in-If-2 : goal.emit_stmt-requires-in-If-2
emit_stmt-requires-in-If-2 t c =
    let w = if_work c.in-If.is c.requires in
    let p = c.emit_work in let q = c.go_unless_zero.new.self.at in let r = c.emit_stmt-in-If in let s = c.go_to.new.self.at in
    let gone : q ≡ p.new.writer.at + go_unless_words = omega (arith, c.go_unless_zero.ensures.words.ends) in
    let on : s ≡ r.new.writer.at + go_words = omega (arith, c.go_to.ensures.words.ends) in
    (omega (arith, w.first_later, w.inside), w.first_works p.new.writer.at q r.new.writer.at s p.ensures.ends gone r.ensures.ends on)

pub returns-in-If : goal.returns-in-If
returns-in-If t c =
    wrote_if c.measure_stmt-over.result c.measure_stmt-whole.result c.in-If.is c.measure_stmt-over.ensures c.measure_stmt-whole.ensures
    c.emit_work.ensures c.go_unless_zero.ensures c.emit_stmt-in-If.ensures c.go_to.ensures c.emit_stmt-in-If-2.ensures

-- A test and a statement, again and again.
pub emit_work-requires-in-While : goal.emit_work-requires-in-While
emit_work-requires-in-While t c = (while_work c.in-While.is c.requires).test_works

pub overflow_add-body_place : goal.overflow_add-body_place
overflow_add-body_place t c =
    let w = while_work c.in-While.is c.requires in
    omega (arith, w.loop_room c.emit_work-in-While.new.writer.at c.emit_work-in-While.ensures.ends)

pub measure_stmt-over-requires-in-While : goal.measure_stmt-over-requires-in-While
measure_stmt-over-requires-in-While t c =
    let w = while_work c.in-While.is c.requires in
    w.body_works c.emit_work-in-While.new.writer.at _ c.emit_work-in-While.ensures.ends refl

pub overflow_add-end : goal.overflow_add-end
overflow_add-end t c =
    let w = while_work c.in-While.is c.requires in
    let p = c.emit_work-in-While in let over = c.measure_stmt-over-in-While in
    omega (arith, w.room p.new.writer.at _ over.result p.ensures.ends refl over.ensures)

pub overflow_cast-body_place : goal.overflow_cast-body_place
overflow_cast-body_place t c =
    let w = while_work c.in-While.is c.requires in
    omega (arith, w.loop_room c.emit_work-in-While.new.writer.at c.emit_work-in-While.ensures.ends)

pub go_unless_zero-requires-in-While : goal.go_unless_zero-requires-in-While
go_unless_zero-requires-in-While t c =
    let w = while_work c.in-While.is c.requires in
    omega (arith, w.loop_room c.emit_work-in-While.new.writer.at c.emit_work-in-While.ensures.ends)

pub overflow_cast-end : goal.overflow_cast-end
overflow_cast-end t c =
    let w = while_work c.in-While.is c.requires in
    let p = c.emit_work-in-While in let over = c.measure_stmt-over-in-While in
    omega (arith, w.room p.new.writer.at _ over.result p.ensures.ends refl over.ensures)

pub go_to-requires-in-While : goal.go_to-requires-in-While
go_to-requires-in-While t c =
    let w = while_work c.in-While.is c.requires in
    omega (arith, w.loop_room c.emit_work-in-While.new.writer.at c.emit_work-in-While.ensures.ends, c.go_unless_zero-in-While.ensures.words.ends)

pub emit_stmt-requires-in-While : goal.emit_stmt-requires-in-While
emit_stmt-requires-in-While t c =
    let w = while_work c.in-While.is c.requires in
    let p = c.emit_work-in-While in let r = c.go_to-in-While.new.self.at in
    let ways : r ≡ p.new.writer.at + loop_words = omega (arith, c.go_unless_zero-in-While.ensures.words.ends, c.go_to-in-While.ensures.words.ends) in
    (omega (arith, w.body_later, w.inside), w.body_works p.new.writer.at r p.ensures.ends ways)

pub overflow_cast-test_place : goal.overflow_cast-test_place
overflow_cast-test_place t c =
    let w = while_work c.in-While.is c.requires in
    omega (arith, w.begins)

pub go_to-requires-in-While-2 : goal.go_to-requires-in-While-2
go_to-requires-in-While-2 t c =
    let w = while_work c.in-While.is c.requires in
    let p = c.emit_work-in-While in let r = c.go_to-in-While.new.self.at in let s = c.emit_stmt-in-While in
    let ways : r ≡ p.new.writer.at + loop_words = omega (arith, c.go_unless_zero-in-While.ensures.words.ends, c.go_to-in-While.ensures.words.ends) in
    omega (arith, w.room p.new.writer.at r s.new.writer.at p.ensures.ends ways s.ensures.ends)

pub returns-in-While : goal.returns-in-While
returns-in-While t c =
    wrote_while c.measure_stmt-over-in-While.result c.in-While.is c.measure_stmt-over-in-While.ensures
    c.emit_work-in-While.ensures c.go_unless_zero-in-While.ensures c.go_to-in-While.ensures c.emit_stmt-in-While.ensures c.go_to-in-While-2.ensures

-- The others.
pub emit_work-requires-in_default : goal.emit_work-requires-in_default
emit_work-requires-in_default t c =
    simple_works (simple (node_at c.args.self.now.nodes.now c.args.i) c.in_default.not-Then c.in_default.not-If c.in_default.not-While) c.requires

pub returns-in_default : goal.returns-in_default
returns-in_default t c = wrote_simple (simple (node_at c.args.self.now.nodes.now c.args.i) c.in_default.not-Then c.in_default.not-If c.in_default.not-While) c.emit_work-in_default.ensures
