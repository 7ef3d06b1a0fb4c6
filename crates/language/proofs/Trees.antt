-- What stands at a node, from the node itself and the expressions and statements at its parts: what an expression or a
-- statement at a node is made of; how deep it is counted does not matter; and how one is put together.
use Rattle.std.proofs.Common.{◌≡◌, ℕ, zero, suc, ◌<◌, ◌≤◌, List, length, sym, subst, arith}
use Rattle.language.specs.Language.{Expr, cell, add, sub, nand, less, half, call, Stmt}
use Rattle.language.specs.Nodes.{node_at, ExprNode, IsExpr, StmtNode, IsStmt, ExprAt, StmtAt, OnePart, TwoParts}
use Rattle.language.specs.declared.nodes.Node.{Node}
use Rattle.language.specs.declared.nodes.Node.TheVariants as N

-- what node i, known to be such a node, says of the expression and the statement there
pub record ExprParts (nodes : List Node) (i : ℕ) (node : Node) (e : Expr) : Type 0 where
  pub depth : ℕ
  pub inside : i < length nodes
  pub says : ExprNode (IsExpr depth nodes) i node e

pub expr_parts : (nodes : List Node) (i : ℕ) (node : Node) (e : Expr) → node_at nodes i ≡ node → ExprAt nodes i e → ExprParts nodes i node e
expr_parts nodes i node e q h = go h.0 h.1
  where
    go : (d : ℕ) → IsExpr d nodes i e → ExprParts nodes i node e
    go zero k = absurd k
    go (suc d) k = record { depth = d; inside = k.0; says = subst (λ (x : Node). ExprNode (IsExpr d nodes) i x e) q k.1 }

pub record StmtParts (nodes : List Node) (i : ℕ) (node : Node) (s : Stmt) : Type 0 where
  pub depth : ℕ
  pub inside : i < length nodes
  pub says : StmtNode (IsExpr depth nodes) (IsStmt depth nodes) i node s

pub stmt_parts : (nodes : List Node) (i : ℕ) (node : Node) (s : Stmt) → node_at nodes i ≡ node → StmtAt nodes i s → StmtParts nodes i node s
stmt_parts nodes i node s q h = go h.0 h.1
  where
    go : (d : ℕ) → IsStmt d nodes i s → StmtParts nodes i node s
    go zero k = absurd k
    go (suc d) k = record { depth = d; inside = k.0; says = subst (λ (x : Node). StmtNode (IsExpr d nodes) (IsStmt d nodes) i x s) q k.1 }

-- Counted deeper, the same stands there.
module _ (At At' : ℕ → Expr → Type 0) (more : (j : ℕ) (a : Expr) → At j a → At' j a) where
  one_more : (i j : ℕ) (make : Expr → Expr) (e : Expr) → OnePart At i make j e → OnePart At' i make j e
  one_more i j make e h = (h.0, h.1, h.2, more j h.0 h.3)

  two_more : (i j k : ℕ) (make : Expr → Expr → Expr) (e : Expr) → TwoParts At i make j k e → TwoParts At' i make j k e
  two_more i j k make e h = (h.0, h.1, h.2, h.3, h.4, more j h.0 h.5, more k h.1 h.6)

  expr_more : (i : ℕ) (e : Expr) (node : Node) → ExprNode At i node e → ExprNode At' i node e
  expr_more i e (N.Num n) h = h
  expr_more i e (N.Loc n) h = h
  expr_more i e (N.Glob n) h = h
  expr_more i e (N.Cell j) h = one_more i j cell e h
  expr_more i e (N.Add j k) h = two_more i j k add e h
  expr_more i e (N.Sub j k) h = two_more i j k sub e h
  expr_more i e (N.Nand j k) h = two_more i j k nand e h
  expr_more i e (N.Less j k) h = two_more i j k less e h
  expr_more i e (N.Half j) h = one_more i j half e h
  expr_more i e (N.Call f j) h = one_more i j (call f) e h
  expr_more i e N.Skip h = h
  expr_more i e (N.Then j k) h = h
  expr_more i e (N.SetLoc n j) h = h
  expr_more i e (N.SetGlob n j) h = h
  expr_more i e (N.SetCell j k) h = h
  expr_more i e (N.If j k l) h = h
  expr_more i e (N.While j k) h = h
  expr_more i e (N.Out j) h = h
  expr_more i e (N.Take n) h = h
  expr_more i e (N.Proc n j k) h = h

  module _ (Runs Runs' : ℕ → Stmt → Type 0) (further : (j : ℕ) (a : Stmt) → Runs j a → Runs' j a) where
    stmt_more : (i : ℕ) (s : Stmt) (node : Node) → StmtNode At Runs i node s → StmtNode At' Runs' i node s
    stmt_more i s (N.Num n) h = h
    stmt_more i s (N.Loc n) h = h
    stmt_more i s (N.Glob n) h = h
    stmt_more i s (N.Cell j) h = h
    stmt_more i s (N.Add j k) h = h
    stmt_more i s (N.Sub j k) h = h
    stmt_more i s (N.Nand j k) h = h
    stmt_more i s (N.Less j k) h = h
    stmt_more i s (N.Half j) h = h
    stmt_more i s (N.Call f j) h = h
    stmt_more i s N.Skip h = h
    stmt_more i s (N.Then j k) h = (h.0, h.1, h.2, h.3, h.4, further j h.0 h.5, further k h.1 h.6)
    stmt_more i s (N.SetLoc n j) h = (h.0, h.1, h.2, more j h.0 h.3)
    stmt_more i s (N.SetGlob n j) h = (h.0, h.1, h.2, more j h.0 h.3)
    stmt_more i s (N.SetCell j k) h = (h.0, h.1, h.2, h.3, h.4, more j h.0 h.5, more k h.1 h.6)
    stmt_more i s (N.If j k l) h = (h.0, h.1, h.2, h.3, h.4, h.5, h.6, more j h.0 h.7, further k h.1 h.8, further l h.2 h.9)
    stmt_more i s (N.While j k) h = (h.0, h.1, h.2, h.3, h.4, more j h.0 h.5, further k h.1 h.6)
    stmt_more i s (N.Out j) h = (h.0, h.1, h.2, more j h.0 h.3)
    stmt_more i s (N.Take n) h = h
    stmt_more i s (N.Proc n j k) h = h

pub expr_deeper : (nodes : List Node) (d c : ℕ) → d ≤ c → (i : ℕ) (e : Expr) → IsExpr d nodes i e → IsExpr c nodes i e
expr_deeper nodes zero c le i e h = absurd h
expr_deeper nodes (suc d) zero le i e h = absurd (omega arith)
expr_deeper nodes (suc d) (suc c) le i e h = (h.0, expr_more (IsExpr d nodes) (IsExpr c nodes) (λ j a x. expr_deeper nodes d c (omega arith) j a x) i e (node_at nodes i) h.1)

pub stmt_deeper : (nodes : List Node) (d c : ℕ) → d ≤ c → (i : ℕ) (s : Stmt) → IsStmt d nodes i s → IsStmt c nodes i s
stmt_deeper nodes zero c le i s h = absurd h
stmt_deeper nodes (suc d) zero le i s h = absurd (omega arith)
stmt_deeper nodes (suc d) (suc c) le i s h =
    (h.0, stmt_more (IsExpr d nodes) (IsExpr c nodes) (expr_deeper nodes d c (omega arith)) (IsStmt d nodes) (IsStmt c nodes) (λ j a x. stmt_deeper nodes d c (omega arith) j a x) i s (node_at nodes i) h.1)

-- An expression, a statement is put together from what the node says.
pub expr_stands : (nodes : List Node) (i d : ℕ) (node : Node) (e : Expr) → i < length nodes → node_at nodes i ≡ node → ExprNode (IsExpr d nodes) i node e → ExprAt nodes i e
expr_stands nodes i d node e h q k = (suc d, (h, subst (λ (x : Node). ExprNode (IsExpr d nodes) i x e) (sym q) k))

pub stmt_stands : (nodes : List Node) (i d : ℕ) (node : Node) (s : Stmt) → i < length nodes → node_at nodes i ≡ node → StmtNode (IsExpr d nodes) (IsStmt d nodes) i node s → StmtAt nodes i s
stmt_stands nodes i d node s h q k = (suc d, (h, subst (λ (x : Node). StmtNode (IsExpr d nodes) (IsStmt d nodes) i x s) (sym q) k))
