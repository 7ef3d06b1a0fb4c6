-- The routines are the program's, globals and cells are 0, and so the call of procedure 0 is the program's run.
use Rattle.std.proofs.Common.{◌≡◌, ℕ, ◌-◌, ◌≤◌, length, take, replicate, ap, arith, Some, None}
use Rattle.std.proofs.lemmas.Grind.{common_steps}
use Rattle.words.specs.declared.ending.Ending.TheVariants as E
use Rattle.language.specs.Language.{frame_room}
use Rattle.interpreter.specs.Running.{memory}
use Rattle.interpreter.proofs.Preparing.{part_measured}
use Rattle.interpreter.proofs.Interpreting.{seen_as, ran_done, ran_index, ran_full, ran_spent, ran_no_out}
use Rattle.interpreter.proofs.interpret.Goals.{in-Ok, in-Err-Index, in-Err-Full, in-Err-Spent}
use Rattle.interpreter.proofs.interpret.Goals as goal

pub invariant_of-code : goal.invariant_of-code
invariant_of-code c =
    let table = c.args.table.now in let procs = c.in_ok-procs.procs in
    let long : length table ≤ length procs = omega arith in
    let is : take (length table - 0) procs ≡ take (length table) procs = ap (λ (n : ℕ). take n procs) (omega arith) in
    record { measured = ∣ part_measured c.args.nodes.now table procs (take (length table - 0) procs) (rw c.in_ok-procs.ensures.ok_part at c.prepare.ensures) long is ∣₁ }

pub returns-in-Err-NoOut : goal.returns-in-Err-NoOut
returns-in-Err-NoOut c =
    let table = c.args.table.now in let procs = c.in_ok-procs.procs in
    let long : length table ≤ length procs = omega arith in
    let is : take (length table - 0) procs ≡ take (length table) procs = ap (λ (n : ℕ). take n procs) (omega arith) in
    let m = memory c.args.frames.now c.args.globals.now c.args.cells.now c.args.out.now in
    let room : length (take (8192 - 0) c.args.frames.now) ≡ frame_room = grind (arith, common_steps, c.if-frames-lt-FRAME_ROOM.false) in
    let globals : c.fill.new.self ≡ replicate (length c.args.globals.now) 0 = grind (arith, common_steps, c.fill.ensures.after) in
    let cells : c.fill-2.new.self ≡ replicate (length c.args.cells.now) 0 = grind (arith, common_steps, c.fill-2.ensures.after) in
    ran_no_out c.args.nodes.now table procs (take (length table - 0) procs) (rw c.in_ok-procs.ensures.ok_part at c.prepare.ensures) long is c.args.tape.now c.args.fuel m c.fill.new.self c.fill-2.new.self globals cells _ room c.call.new.store (rw c.in-Err-NoOut.field-0-is at c.in-Err-NoOut.ensures.value)

pub returns : goal.returns
returns c = λ g l.
    let table = c.args.table.now in let procs = c.in_ok-procs.procs in
    let long : length table ≤ length procs = omega arith in
    let is : take (length table - 0) procs ≡ take (length table) procs = ap (λ (n : ℕ). take n procs) (omega arith) in
    let m = memory c.args.frames.now c.args.globals.now c.args.cells.now c.args.out.now in
    let room : length (take (8192 - 0) c.args.frames.now) ≡ frame_room = grind (arith, common_steps, c.if-frames-lt-FRAME_ROOM.false) in
    let globals : c.fill.new.self ≡ replicate (length c.args.globals.now) 0 = grind (arith, common_steps, c.fill.ensures.after) in
    let cells : c.fill-2.new.self ≡ replicate (length c.args.cells.now) 0 = grind (arith, common_steps, c.fill-2.ensures.after) in
    let out : _ ≡ c.call.new.store.out.now = grind (arith, c.call.ensures.same_loans.out) in
    elim c.match-call.branch [
      | in-Ok w ↦ seen_as c.args.nodes.now table procs (take (length table - 0) procs) (rw c.in_ok-procs.ensures.ok_part at c.prepare.ensures) long is c.args.tape.now c.args.fuel m c.fill.new.self c.fill-2.new.self globals cells _ room c.call.new.store g c.match-call.ending (Some E.Done) _ w.ending-is out (ran_done c.args.nodes.now table procs (take (length table - 0) procs) (rw c.in_ok-procs.ensures.ok_part at c.prepare.ensures) long is c.args.tape.now c.args.fuel m c.fill.new.self c.fill-2.new.self globals cells _ room c.call.new.store w.in-Ok.field-0 w.in-Ok.ensures.value g l)
      | in-Err-Index w ↦ seen_as c.args.nodes.now table procs (take (length table - 0) procs) (rw c.in_ok-procs.ensures.ok_part at c.prepare.ensures) long is c.args.tape.now c.args.fuel m c.fill.new.self c.fill-2.new.self globals cells _ room c.call.new.store g c.match-call.ending (Some E.Index) _ w.ending-is out (ran_index c.args.nodes.now table procs (take (length table - 0) procs) (rw c.in_ok-procs.ensures.ok_part at c.prepare.ensures) long is c.args.tape.now c.args.fuel m c.fill.new.self c.fill-2.new.self globals cells _ room c.call.new.store (rw w.in-Err-Index.field-0-is at w.in-Err-Index.ensures.value) g l)
      | in-Err-Full w ↦ seen_as c.args.nodes.now table procs (take (length table - 0) procs) (rw c.in_ok-procs.ensures.ok_part at c.prepare.ensures) long is c.args.tape.now c.args.fuel m c.fill.new.self c.fill-2.new.self globals cells _ room c.call.new.store g c.match-call.ending (Some E.Full) _ w.ending-is out (ran_full c.args.nodes.now table procs (take (length table - 0) procs) (rw c.in_ok-procs.ensures.ok_part at c.prepare.ensures) long is c.args.tape.now c.args.fuel m c.fill.new.self c.fill-2.new.self globals cells _ room c.call.new.store (rw w.in-Err-Full.field-0-is at w.in-Err-Full.ensures.value) g l)
      | in-Err-Spent w ↦ seen_as c.args.nodes.now table procs (take (length table - 0) procs) (rw c.in_ok-procs.ensures.ok_part at c.prepare.ensures) long is c.args.tape.now c.args.fuel m c.fill.new.self c.fill-2.new.self globals cells _ room c.call.new.store g c.match-call.ending None _ w.ending-is out (ran_spent c.args.nodes.now table procs (take (length table - 0) procs) (rw c.in_ok-procs.ensures.ok_part at c.prepare.ensures) long is c.args.tape.now c.args.fuel m c.fill.new.self c.fill-2.new.self globals cells _ room c.call.new.store (rw w.in-Err-Spent.field-0-is at w.in-Err-Spent.ensures.value) g l)
    ]
