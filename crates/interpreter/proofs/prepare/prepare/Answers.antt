use Rattle.std.proofs.Common.{◌≡◌, None, Option, List, sym, subst, arith}
use Rattle.std.proofs.lemmas.Grind.{common_steps}
use Rattle.interpreter.specs.declared.state.Routine.{Routine}
use Rattle.interpreter.specs.Routines.{Prepares}
use Rattle.interpreter.proofs.Preparing.{no_program}
use Rattle.interpreter.proofs.prepare.prepare.Goals as goal

pub returns-in_err-stmt_height : goal.returns-in_err-stmt_height
returns-in_err-stmt_height c =
    let none : c.from_residual.result ≡ None = grind (arith, common_steps, c.from_residual.ensures) in
    subst (λ (r : Option (List Routine)). Prepares c.args.nodes.now c.args.table.now r) (sym none) (no_program c.args.nodes.now c.args.table.now c.loop-f.f c.loop-f-test.true c.in_err-stmt_height.ensures)
