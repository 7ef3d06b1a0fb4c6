use Rattle.std.proofs.Common.{ℕ, Option, sym, refl, subst, ⊎_elim, arith}
use Rattle.language.specs.Language.{num, loc, glob}
use Rattle.language.specs.declared.nodes.Node.TheVariants as N
use Rattle.language.specs.Heights.{ExprHeight}
use Rattle.language.proofs.Shapes.{two_of, one_of}
use Rattle.language.proofs.Measuring.{leaf_height, one_height, two_height}
use Rattle.language.proofs.heights.+expr_height_expr_part.Goals as goal

pub expr_height-returns-in-Num : goal.expr_height-returns-in-Num
expr_height-returns-in-Num t c =
    let nodes = c.args.nodes.now in let i = c.args.i in let inside = c.if-i-nodes.false in
    ⊎_elim (λ q. leaf_height nodes i inside (N.Num q.0) (num q.0) (omega arith) q.1 refl refl)
    (⊎_elim (λ q. leaf_height nodes i inside (N.Loc q.0) (loc q.0) (omega arith) q.1 refl refl)
    (λ q. leaf_height nodes i inside (N.Glob q.0) (glob q.0) (omega arith) q.1 refl refl)) c.in-Num.is

pub expr_height-returns-in-Add : goal.expr_height-returns-in-Add
expr_height-returns-in-Add t c =
    let nodes = c.args.nodes.now in let i = c.args.i in let j = c.in-Add.a in let k = c.in-Add.b in
    subst (λ (r : Option ℕ). ExprHeight nodes i r) (sym c.both.ensures)
    (two_height nodes i c.if-i-nodes.false j k (two_of nodes i j k c.in-Add.is) c.expr_part-x.result c.expr_part-y.result c.expr_part-x.ensures c.expr_part-y.ensures)

pub expr_height-returns-in-Cell : goal.expr_height-returns-in-Cell
expr_height-returns-in-Cell t c =
    let nodes = c.args.nodes.now in let i = c.args.i in
    one_height nodes i c.if-i-nodes.false c.in-Cell.a (one_of nodes i c.in-Cell.a c.in-Cell.is) c.expr_part.result c.expr_part.ensures
