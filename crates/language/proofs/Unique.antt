-- At one node stands one expression, and one statement.
use Rattle.std.proofs.Common.{◌≡◌, ℕ, zero, suc, List, sym, ap, ◌∙◌}
use Rattle.language.specs.Language.{Expr, cell, add, sub, nand, less, half, call, Stmt, then, setloc, setglob, setcell, if, while, out}
use Rattle.language.specs.Nodes.{node_at, ExprNode, IsExpr, StmtNode, IsStmt, StmtAt, OnePart, TwoParts}
use Rattle.language.specs.declared.nodes.Node.{Node}
use Rattle.language.specs.declared.nodes.Node.TheVariants as N

both_same : {A B C : Type 0} (make : A → B → C) (a a' : A) (b b' : B) → a ≡ a' → b ≡ b' → make a b ≡ make a' b'
both_same {A} {B} make a a' b b' p q = ap (λ (x : A). make x b) p ∙ ap (λ (y : B). make a' y) q

module _ (At At' : ℕ → Expr → Type 0) (same : (j : ℕ) (a b : Expr) → At j a → At' j b → a ≡ b) where
  one_same : (i j : ℕ) (make : Expr → Expr) (e e' : Expr) → OnePart At i make j e → OnePart At' i make j e' → e ≡ e'
  one_same i j make e e' h k = h.1 ∙ (ap make (same j h.0 k.0 h.3 k.3) ∙ sym k.1)

  two_same : (i j k : ℕ) (make : Expr → Expr → Expr) (e e' : Expr) → TwoParts At i make j k e → TwoParts At' i make j k e' → e ≡ e'
  two_same i j k make e e' h w = h.2 ∙ (both_same make h.0 w.0 h.1 w.1 (same j h.0 w.0 h.5 w.5) (same k h.1 w.1 h.6 w.6) ∙ sym w.2)

  expr_same : (i : ℕ) (e e' : Expr) (node : Node) → ExprNode At i node e → ExprNode At' i node e' → e ≡ e'
  expr_same i e e' (N.Num n) h w = h ∙ sym w
  expr_same i e e' (N.Loc n) h w = h ∙ sym w
  expr_same i e e' (N.Glob n) h w = h ∙ sym w
  expr_same i e e' (N.Cell j) h w = one_same i j cell e e' h w
  expr_same i e e' (N.Half j) h w = one_same i j half e e' h w
  expr_same i e e' (N.Call f j) h w = one_same i j (call f) e e' h w
  expr_same i e e' (N.Add j k) h w = two_same i j k add e e' h w
  expr_same i e e' (N.Sub j k) h w = two_same i j k sub e e' h w
  expr_same i e e' (N.Nand j k) h w = two_same i j k nand e e' h w
  expr_same i e e' (N.Less j k) h w = two_same i j k less e e' h w
  expr_same i e e' N.Skip h w = absurd h
  expr_same i e e' (N.Then j k) h w = absurd h
  expr_same i e e' (N.SetLoc n j) h w = absurd h
  expr_same i e e' (N.SetGlob n j) h w = absurd h
  expr_same i e e' (N.SetCell j k) h w = absurd h
  expr_same i e e' (N.If j k l) h w = absurd h
  expr_same i e e' (N.While j k) h w = absurd h
  expr_same i e e' (N.Out j) h w = absurd h
  expr_same i e e' (N.Take n) h w = absurd h
  expr_same i e e' (N.Proc n j k) h w = absurd h

  module _ (Runs Runs' : ℕ → Stmt → Type 0) (like : (j : ℕ) (a b : Stmt) → Runs j a → Runs' j b → a ≡ b) where
    stmt_same : (i : ℕ) (s s' : Stmt) (node : Node) → StmtNode At Runs i node s → StmtNode At' Runs' i node s' → s ≡ s'
    stmt_same i s s' (N.Num n) h w = absurd h
    stmt_same i s s' (N.Loc n) h w = absurd h
    stmt_same i s s' (N.Glob n) h w = absurd h
    stmt_same i s s' (N.Cell j) h w = absurd h
    stmt_same i s s' (N.Half j) h w = absurd h
    stmt_same i s s' (N.Call f j) h w = absurd h
    stmt_same i s s' (N.Add j k) h w = absurd h
    stmt_same i s s' (N.Sub j k) h w = absurd h
    stmt_same i s s' (N.Nand j k) h w = absurd h
    stmt_same i s s' (N.Less j k) h w = absurd h
    stmt_same i s s' N.Skip h w = h ∙ sym w
    stmt_same i s s' (N.Then j k) h w = h.2 ∙ (both_same then h.0 w.0 h.1 w.1 (like j h.0 w.0 h.5 w.5) (like k h.1 w.1 h.6 w.6) ∙ sym w.2)
    stmt_same i s s' (N.SetLoc n j) h w = h.1 ∙ (ap (setloc n) (same j h.0 w.0 h.3 w.3) ∙ sym w.1)
    stmt_same i s s' (N.SetGlob n j) h w = h.1 ∙ (ap (setglob n) (same j h.0 w.0 h.3 w.3) ∙ sym w.1)
    stmt_same i s s' (N.SetCell j k) h w = h.2 ∙ (both_same setcell h.0 w.0 h.1 w.1 (same j h.0 w.0 h.5 w.5) (same k h.1 w.1 h.6 w.6) ∙ sym w.2)
    stmt_same i s s' (N.If j k l) h w = h.3 ∙ (ap (λ (e : Expr). if e h.1 h.2) (same j h.0 w.0 h.7 w.7) ∙ (both_same (if w.0) h.1 w.1 h.2 w.2 (like k h.1 w.1 h.8 w.8) (like l h.2 w.2 h.9 w.9) ∙ sym w.3))
    stmt_same i s s' (N.While j k) h w = h.2 ∙ (both_same while h.0 w.0 h.1 w.1 (same j h.0 w.0 h.5 w.5) (like k h.1 w.1 h.6 w.6) ∙ sym w.2)
    stmt_same i s s' (N.Out j) h w = h.1 ∙ (ap out (same j h.0 w.0 h.3 w.3) ∙ sym w.1)
    stmt_same i s s' (N.Take n) h w = h ∙ sym w
    stmt_same i s s' (N.Proc n j k) h w = absurd h

one_expr : (nodes : List Node) (d c i : ℕ) (e e' : Expr) → IsExpr d nodes i e → IsExpr c nodes i e' → e ≡ e'
one_expr nodes zero c i e e' h w = absurd h
one_expr nodes (suc d) zero i e e' h w = absurd w
one_expr nodes (suc d) (suc c) i e e' h w = expr_same (IsExpr d nodes) (IsExpr c nodes) (λ j a b x y. one_expr nodes d c j a b x y) i e e' (node_at nodes i) h.1 w.1

one_stmt : (nodes : List Node) (d c i : ℕ) (s s' : Stmt) → IsStmt d nodes i s → IsStmt c nodes i s' → s ≡ s'
one_stmt nodes zero c i s s' h w = absurd h
one_stmt nodes (suc d) zero i s s' h w = absurd w
one_stmt nodes (suc d) (suc c) i s s' h w = stmt_same (IsExpr d nodes) (IsExpr c nodes) (one_expr nodes d c) (IsStmt d nodes) (IsStmt c nodes) (λ j a b x y. one_stmt nodes d c j a b x y) i s s' (node_at nodes i) h.1 w.1

pub same_stmt : (nodes : List Node) (i : ℕ) (s s' : Stmt) → StmtAt nodes i s → StmtAt nodes i s' → s ≡ s'
same_stmt nodes i s s' h w = one_stmt nodes h.0 w.0 i s s' h.1 w.1
