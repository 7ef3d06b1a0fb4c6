use Rattle.std.proofs.Common.{ℕ, Option, sym, refl, ap, ◌∙◌, subst, ⊎_elim, arith}
use Rattle.language.specs.Language.{skip, take}
use Rattle.language.specs.declared.nodes.Node.TheVariants as N
use Rattle.language.specs.Heights.{StmtHeight, higher_of}
use Rattle.language.proofs.Shapes.{uses_of}
use Rattle.language.proofs.Measuring.{leaf_stmt_height, uses_height, setcell_height, then_height, if_height, while_height}
use Rattle.language.proofs.heights.+stmt_height_stmt_part.Goals as goal

pub stmt_height-returns-in-Skip : goal.stmt_height-returns-in-Skip
stmt_height-returns-in-Skip t c =
    let nodes = c.args.nodes.now in let i = c.args.i in let inside = c.if-i-nodes.false in
    ⊎_elim (λ q. leaf_stmt_height nodes i inside N.Skip skip (omega arith) q refl refl)
    (λ q. leaf_stmt_height nodes i inside (N.Take q.0) (take q.0) (omega arith) q.1 refl refl) c.in-Skip.is

pub stmt_height-returns-in-SetLoc : goal.stmt_height-returns-in-SetLoc
stmt_height-returns-in-SetLoc t c =
    let nodes = c.args.nodes.now in let i = c.args.i in
    uses_height nodes i c.if-i-nodes.false c.in-SetLoc.a (uses_of nodes i c.in-SetLoc.a c.in-SetLoc.is) c.expr_part.result c.expr_part.ensures

pub stmt_height-returns-in-SetCell : goal.stmt_height-returns-in-SetCell
stmt_height-returns-in-SetCell t c =
    let nodes = c.args.nodes.now in let i = c.args.i in
    subst (λ (r : Option ℕ). StmtHeight nodes i r) (sym c.both.ensures)
    (setcell_height nodes i c.if-i-nodes.false c.in-SetCell.a c.in-SetCell.b c.in-SetCell.is c.expr_part-x.result c.expr_part-y.result c.expr_part-x.ensures c.expr_part-y.ensures)

pub stmt_height-returns-in-Then : goal.stmt_height-returns-in-Then
stmt_height-returns-in-Then t c =
    let nodes = c.args.nodes.now in let i = c.args.i in
    subst (λ (r : Option ℕ). StmtHeight nodes i r) (sym c.higher.ensures)
    (then_height nodes i c.if-i-nodes.false c.in-Then.a c.in-Then.b c.in-Then.is c.stmt_part-x.result c.stmt_part-y.result c.stmt_part-x.ensures c.stmt_part-y.ensures)

pub stmt_height-returns-in-If : goal.stmt_height-returns-in-If
stmt_height-returns-in-If t c =
    let nodes = c.args.nodes.now in let i = c.args.i in let x = c.expr_part-x-in-If.result in
    subst (λ (r : Option ℕ). StmtHeight nodes i r) (sym (c.higher-in-If-2.ensures ∙ ap (λ (r : Option ℕ). higher_of x r) c.higher-in-If.ensures))
    (if_height nodes i c.if-i-nodes.false c.in-If.a c.in-If.b c.in-If.d c.in-If.is x c.stmt_part-y-in-If.result c.stmt_part-z.result c.expr_part-x-in-If.ensures c.stmt_part-y-in-If.ensures c.stmt_part-z.ensures)

pub stmt_height-returns-in-While : goal.stmt_height-returns-in-While
stmt_height-returns-in-While t c =
    let nodes = c.args.nodes.now in let i = c.args.i in
    subst (λ (r : Option ℕ). StmtHeight nodes i r) (sym c.higher-in-While.ensures)
    (while_height nodes i c.if-i-nodes.false c.in-While.a c.in-While.b c.in-While.is c.expr_part-x-in-While.result c.stmt_part-y-in-While.result c.expr_part-x-in-While.ensures c.stmt_part-y-in-While.ensures)
