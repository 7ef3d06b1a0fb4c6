-- What stands at a node that is work: every expression, and the statements whose parts are expressions. Its parts, its
-- code and its end are those of the expression or statement.
use Rattle.std.proofs.Common.{◌≡◌, ℕ, zero, suc, ◌<◌, ◌≤◌, ◌&&◌, T, ltb, List, [], ◌∷◌, length, sym, refl, ap, ◌∙◌, subst, arith, ltb→lt}
use Rattle.language.specs.Language.{Expr, cell, add, sub, nand, less, half, call, Program}
use Rattle.language.specs.Limits.{fits_expr}
use Rattle.language.specs.Nodes.{node_at, ExprNode, IsExpr, ExprAt}
use Rattle.language.specs.declared.nodes.Node.{Node}
use Rattle.language.specs.declared.nodes.Node.TheVariants as N
use Rattle.codegen.specs.Codegen.{end_of_expr, code_expr}
use Rattle.codegen.specs.Instructions.{Instruction}
use Rattle.codegen.specs.Layout.{code_limit}
use Rattle.codegen.proofs.Rows.{both}
use Rattle.compiler.specs.Writing.{put_all, Emits}
use Rattle.signs.specs.Places.{places_expr}
use Rattle.compiler.specs.Places.{work_places}
use Rattle.compiler.specs.Work.{parts_of, NodeFits, ExprFits, PartsAt, AllFit, work_code, work_end, Works, Target, EndsWork, EmitsWork}

pub record NodeWork (nodes : List Node) (i : ℕ) (d : Node) (Fits : Type 0) (code : Program → List Instruction → List Instruction) (end : ℕ → ℕ) (places : ℕ → List ℕ → List ℕ) : Type 0 where
  pub exprs : List Expr
  pub parts_at : PartsAt nodes i (parts_of d) exprs
  pub fit : Fits → NodeFits d × AllFit exprs
  pub code_is : (g : Program) (rest : List Instruction) → code g rest ≡ work_code g d exprs rest
  pub end_is : (at : ℕ) → end at ≡ work_end d exprs at
  pub places_are : (at : ℕ) (rest : List ℕ) → places at rest ≡ work_places exprs at rest

abbrev pub ExprWork : List Node → ℕ → Node → Expr → Type 0
ExprWork nodes i d e = NodeWork nodes i d (ExprFits e) (λ g rest. code_expr g e rest) (end_of_expr e) (places_expr e)

-- a part is within the same limits
part_fits : (e a : Expr) (f : ExprFits e) → T (fits_expr f.locals f.globals f.procs a) → ExprFits a
part_fits e a f t = record { locals = f.locals; globals = f.globals; procs = f.procs; few_locals = f.few_locals; few_globals = f.few_globals; few_procs = f.few_procs; fits = t }

two_fit : (e a b : Expr) (f : ExprFits e) → T (fits_expr f.locals f.globals f.procs a && fits_expr f.locals f.globals f.procs b) → ExprFits a × (ExprFits b × Unit {0})
two_fit e a b f t =
    let each = both (fits_expr f.locals f.globals f.procs a) (fits_expr f.locals f.globals f.procs b) t in
    (part_fits e a f each.0, (part_fits e b f each.1, tt))

-- Expressions.
pub expr_node_work : (nodes : List Node) (depth i : ℕ) (d : Node) (e : Expr) → ExprNode (IsExpr depth nodes) i d e → ExprWork nodes i d e
expr_node_work nodes depth i (N.Num n) e p = subst (λ (x : Expr). ExprWork nodes i (N.Num n) x) (sym (p)) (record { exprs = []; parts_at = refl; fit = λ f. (tt, tt); code_is = λ g rest. refl; end_is = λ at. refl; places_are = λ at rest. refl })
expr_node_work nodes depth i (N.Loc n) e p = subst (λ (x : Expr). ExprWork nodes i (N.Loc n) x) (sym (p)) (record { exprs = []; parts_at = refl; fit = λ f. (let small = ltb→lt n f.locals f.fits in omega (arith, f.few_locals), tt); code_is = λ g rest. refl; end_is = λ at. refl; places_are = λ at rest. refl })
expr_node_work nodes depth i (N.Glob n) e p = subst (λ (x : Expr). ExprWork nodes i (N.Glob n) x) (sym (p)) (record { exprs = []; parts_at = refl; fit = λ f. (let small = ltb→lt n f.globals f.fits in omega (arith, f.few_globals), tt); code_is = λ g rest. refl; end_is = λ at. refl; places_are = λ at rest. refl })
expr_node_work nodes depth i (N.Cell j) e p = let a : Expr = p.0 in subst (λ (x : Expr). ExprWork nodes i (N.Cell j) x) (sym p.1) (record { exprs = a ∷ []; parts_at = (a, refl, p.2, (depth, p.3)); fit = λ f. (tt, (part_fits (cell a) a f f.fits, tt)); code_is = λ g rest. refl; end_is = λ at. refl; places_are = λ at rest. refl })
expr_node_work nodes depth i (N.Add j k) e p = let a : Expr = p.0 in let b : Expr = p.1 in subst (λ (x : Expr). ExprWork nodes i (N.Add j k) x) (sym p.2) (record { exprs = a ∷ b ∷ []; parts_at = (a, b, refl, p.3, p.4, (depth, p.5), (depth, p.6)); fit = λ f. (tt, two_fit (add a b) a b f f.fits); code_is = λ g rest. refl; end_is = λ at. refl; places_are = λ at rest. refl })
expr_node_work nodes depth i (N.Sub j k) e p = let a : Expr = p.0 in let b : Expr = p.1 in subst (λ (x : Expr). ExprWork nodes i (N.Sub j k) x) (sym p.2) (record { exprs = a ∷ b ∷ []; parts_at = (a, b, refl, p.3, p.4, (depth, p.5), (depth, p.6)); fit = λ f. (tt, two_fit (sub a b) a b f f.fits); code_is = λ g rest. refl; end_is = λ at. refl; places_are = λ at rest. refl })
expr_node_work nodes depth i (N.Nand j k) e p = let a : Expr = p.0 in let b : Expr = p.1 in subst (λ (x : Expr). ExprWork nodes i (N.Nand j k) x) (sym p.2) (record { exprs = a ∷ b ∷ []; parts_at = (a, b, refl, p.3, p.4, (depth, p.5), (depth, p.6)); fit = λ f. (tt, two_fit (nand a b) a b f f.fits); code_is = λ g rest. refl; end_is = λ at. refl; places_are = λ at rest. refl })
expr_node_work nodes depth i (N.Less j k) e p = let a : Expr = p.0 in let b : Expr = p.1 in subst (λ (x : Expr). ExprWork nodes i (N.Less j k) x) (sym p.2) (record { exprs = a ∷ b ∷ []; parts_at = (a, b, refl, p.3, p.4, (depth, p.5), (depth, p.6)); fit = λ f. (tt, two_fit (less a b) a b f f.fits); code_is = λ g rest. refl; end_is = λ at. refl; places_are = λ at rest. refl })
expr_node_work nodes depth i (N.Half j) e p = let a : Expr = p.0 in subst (λ (x : Expr). ExprWork nodes i (N.Half j) x) (sym p.1) (record { exprs = a ∷ []; parts_at = (a, refl, p.2, (depth, p.3)); fit = λ f. (tt, (part_fits (half a) a f f.fits, tt)); code_is = λ g rest. refl; end_is = λ at. refl; places_are = λ at rest. refl })
expr_node_work nodes depth i (N.Call n j) e p = let a : Expr = p.0 in subst (λ (x : Expr). ExprWork nodes i (N.Call n j) x) (sym p.1) (record { exprs = a ∷ []; parts_at = (a, refl, p.2, (depth, p.3)); fit = λ f. let each = both (ltb n f.procs) (fits_expr f.locals f.globals f.procs a) f.fits in (let small = ltb→lt n f.procs each.0 in omega (arith, f.few_procs), (part_fits (call n a) a f each.1, tt)); code_is = λ g rest. refl; end_is = λ at. refl; places_are = λ at rest. refl })
expr_node_work nodes depth i N.Skip e p = absurd p
expr_node_work nodes depth i (N.Then j k) e p = absurd p
expr_node_work nodes depth i (N.SetLoc n j) e p = absurd p
expr_node_work nodes depth i (N.SetGlob n j) e p = absurd p
expr_node_work nodes depth i (N.SetCell j k) e p = absurd p
expr_node_work nodes depth i (N.If j k l) e p = absurd p
expr_node_work nodes depth i (N.While j k) e p = absurd p
expr_node_work nodes depth i (N.Out j) e p = absurd p
expr_node_work nodes depth i (N.Take n) e p = absurd p
expr_node_work nodes depth i (N.Proc n j k) e p = absurd p

pub record ExprIsWork (nodes : List Node) (i : ℕ) (e : Expr) : Type 0 where
  pub inside : i < length nodes
  pub work : ExprWork nodes i (node_at nodes i) e

pub expr_is_work : (nodes : List Node) (i : ℕ) (e : Expr) → ExprAt nodes i e → ExprIsWork nodes i e
expr_is_work nodes i e (zero, p) = absurd p
expr_is_work nodes i e (suc depth, p) = record { inside = p.0; work = expr_node_work nodes depth i (node_at nodes i) e p.1 }

pub expr_works : (nodes : List Node) (i : ℕ) (e : Expr) (at : ℕ) → ExprAt nodes i e → ExprFits e → end_of_expr e at ≤ code_limit → Works nodes i at
expr_works nodes i e at p f h =
    let w = expr_is_work nodes i e p in
    let fit = w.work.fit f in
    record { inside = w.inside; exprs = w.work.exprs; parts_at = w.work.parts_at; node_fits = fit.0; parts_fit = fit.1; room = subst (λ (x : ℕ). x ≤ code_limit) (w.work.end_is at) h }

pub expr_ended : (nodes : List Node) (i : ℕ) (e : Expr) (at r : ℕ) → ExprAt nodes i e → EndsWork nodes i at r → r ≡ end_of_expr e at
expr_ended nodes i e at r p h = let w = (expr_is_work nodes i e p).work in h w.exprs w.parts_at ∙ sym (w.end_is at)

pub expr_emitted : (nodes : List Node) (i cells : ℕ) (places : List ℕ) (e : Expr) (at : ℕ) (m : List ℕ) (r : ℕ) (m' : List ℕ) → ExprAt nodes i e → EmitsWork nodes i cells places at m r m' →
    (g : Program) → Target g cells places → Emits (λ rest. code_expr g e rest) (end_of_expr e at) at m r m'
expr_emitted nodes i cells places e at m r m' p h g t =
    let w = (expr_is_work nodes i e p).work in
    let x = h g t w.exprs w.parts_at in
    record { ends = x.ends ∙ sym (w.end_is at); words = λ rest. ap (λ (is : List Instruction). put_all m at is) (w.code_is g rest) ∙ x.words rest }
