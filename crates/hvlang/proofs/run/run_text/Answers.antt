-- A program that is loaded is lent, so what the interpreter says of every lent program holds of it.
use Rattle.std.proofs.Common.{refl, arith}
use Rattle.hvlang.proofs.Lending.{lent}
use Rattle.hvlang.proofs.run.run_text.Goals as goal

pub returns-in-Ok : goal.returns-in-Ok
returns-in-Ok c =
    let l = c.in_ok-program.ensures in
    (l.program, record { reads = l.reads; within = l.held.within }, c.in-Ok.ensures l.program (lent c.args.source.now c.in_ok-program.program l _ _ _ _ _ (omega arith) c.procedures.ensures.entries refl refl))

pub returns-in-Err-NoOut : goal.returns-in-Err-NoOut
returns-in-Err-NoOut c =
    let l = c.in_ok-program.ensures in
    (l.program, record { reads = l.reads; within = l.held.within }, (rw c.in-Err-NoOut.field-0-is at c.in-Err-NoOut.ensures) l.program (lent c.args.source.now c.in_ok-program.program l _ _ _ _ _ (omega arith) c.procedures.ensures.entries refl refl))

pub returns-in-Err-NoProgram : goal.returns-in-Err-NoProgram
returns-in-Err-NoProgram c =
    let l = c.in_ok-program.ensures in
    let none = rw c.in-Err-NoProgram.field-0-is at c.in-Err-NoProgram.ensures in
    absurd (none.0 l.program (lent c.args.source.now c.in_ok-program.program l _ _ _ _ _ (omega arith) c.procedures.ensures.entries refl refl) l.held.within)
