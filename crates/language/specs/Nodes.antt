-- A program as nodes: which expression or statement stands at a node, and what a table of procedures must say.
use Rattle.std.specs.Prelude.{◌≡◌, List, ℕ, zero, suc, ◌<◌, length, get_or}
use Rattle.std.proofs.Math.Option.{some}
use Rattle.language.specs.Language.{Expr, num, loc, glob, cell, add, sub, nand, less, half, call, Stmt, skip, then, setloc, setglob, setcell, if, while, out, take, Proc, proc_at}
use Rattle.language.specs.declared.nodes.Node.{Node}
use Rattle.language.specs.declared.nodes.Node.TheVariants as N
use Rattle.language.specs.declared.nodes.Procedure.{Procedure}

-- as many nodes as a program may have
abbrev pub most_nodes : ℕ
most_nodes = 2000

-- the node with a number
abbrev pub node_at : List Node → ℕ → Node
node_at nodes i = get_or nodes i (N.Num 0)

-- An expression of node i with one part, and one with two. Parts stand at later nodes.
abbrev pub OnePart : (ℕ → Expr → Type 0) → ℕ → (Expr → Expr) → ℕ → Expr → Type 0
OnePart At i make j e = (a : Expr) × (e ≡ make a) × (i < j) × At j a

abbrev pub TwoParts : (ℕ → Expr → Type 0) → ℕ → (Expr → Expr → Expr) → ℕ → ℕ → Expr → Type 0
TwoParts At i make j k e = (a : Expr) × (b : Expr) × (e ≡ make a b) × (i < j) × (i < k) × At j a × At k b

-- What a node says of the expression there, where At says which expressions its parts are.
abbrev pub ExprNode : (ℕ → Expr → Type 0) → ℕ → Node → Expr → Type 0
ExprNode At i (N.Num n) e = e ≡ num n
ExprNode At i (N.Loc n) e = e ≡ loc n
ExprNode At i (N.Glob n) e = e ≡ glob n
ExprNode At i (N.Cell j) e = OnePart At i cell j e
ExprNode At i (N.Add j k) e = TwoParts At i add j k e
ExprNode At i (N.Sub j k) e = TwoParts At i sub j k e
ExprNode At i (N.Nand j k) e = TwoParts At i nand j k e
ExprNode At i (N.Less j k) e = TwoParts At i less j k e
ExprNode At i (N.Half j) e = OnePart At i half j e
ExprNode At i (N.Call f j) e = OnePart At i (call f) j e
ExprNode At i N.Skip e = ⊥
ExprNode At i (N.Then j k) e = ⊥
ExprNode At i (N.SetLoc n j) e = ⊥
ExprNode At i (N.SetGlob n j) e = ⊥
ExprNode At i (N.SetCell j k) e = ⊥
ExprNode At i (N.If j k l) e = ⊥
ExprNode At i (N.While j k) e = ⊥
ExprNode At i (N.Out j) e = ⊥
ExprNode At i (N.Take n) e = ⊥
ExprNode At i (N.Proc n j k) e = ⊥

-- the expression e stands at node i, and goes at most so deep
abbrev pub IsExpr : ℕ → List Node → ℕ → Expr → Type 0
IsExpr zero nodes i e = ⊥
IsExpr (suc depth) nodes i e = (i < length nodes) × ExprNode (IsExpr depth nodes) i (node_at nodes i) e

-- What a node says of the statement there, where At and Runs say which expressions and statements its parts are.
abbrev pub StmtNode : (ℕ → Expr → Type 0) → (ℕ → Stmt → Type 0) → ℕ → Node → Stmt → Type 0
StmtNode At Runs i (N.Num n) s = ⊥
StmtNode At Runs i (N.Loc n) s = ⊥
StmtNode At Runs i (N.Glob n) s = ⊥
StmtNode At Runs i (N.Cell j) s = ⊥
StmtNode At Runs i (N.Add j k) s = ⊥
StmtNode At Runs i (N.Sub j k) s = ⊥
StmtNode At Runs i (N.Nand j k) s = ⊥
StmtNode At Runs i (N.Less j k) s = ⊥
StmtNode At Runs i (N.Half j) s = ⊥
StmtNode At Runs i (N.Call f j) s = ⊥
StmtNode At Runs i N.Skip s = s ≡ skip
StmtNode At Runs i (N.Then j k) s = (a : Stmt) × (b : Stmt) × (s ≡ then a b) × (i < j) × (i < k) × Runs j a × Runs k b
StmtNode At Runs i (N.SetLoc n j) s = (e : Expr) × (s ≡ setloc n e) × (i < j) × At j e
StmtNode At Runs i (N.SetGlob n j) s = (e : Expr) × (s ≡ setglob n e) × (i < j) × At j e
StmtNode At Runs i (N.SetCell j k) s = (a : Expr) × (b : Expr) × (s ≡ setcell a b) × (i < j) × (i < k) × At j a × At k b
StmtNode At Runs i (N.If j k l) s = (e : Expr) × (a : Stmt) × (b : Stmt) × (s ≡ if e a b) × (i < j) × (i < k) × (i < l) × At j e × Runs k a × Runs l b
StmtNode At Runs i (N.While j k) s = (e : Expr) × (a : Stmt) × (s ≡ while e a) × (i < j) × (i < k) × At j e × Runs k a
StmtNode At Runs i (N.Out j) s = (e : Expr) × (s ≡ out e) × (i < j) × At j e
StmtNode At Runs i (N.Take n) s = s ≡ take n
StmtNode At Runs i (N.Proc n j k) s = ⊥

-- the statement s stands at node i, and goes at most so deep
abbrev pub IsStmt : ℕ → List Node → ℕ → Stmt → Type 0
IsStmt zero nodes i s = ⊥
IsStmt (suc depth) nodes i s = (i < length nodes) × StmtNode (IsExpr depth nodes) (IsStmt depth nodes) i (node_at nodes i) s

-- the expression e, the statement s stands at node i
abbrev pub ExprAt : List Node → ℕ → Expr → Type 0
ExprAt nodes i e = (depth : ℕ) × IsExpr depth nodes i e

abbrev pub StmtAt : List Node → ℕ → Stmt → Type 0
StmtAt nodes i s = (depth : ℕ) × IsStmt depth nodes i s

-- The table of procedures: entry f is of procedure f.
abbrev pub entry_at : List Procedure → ℕ → Procedure
entry_at table f = get_or table f (record { locals = 0; body = 0 })

-- the entry is of the procedure p
abbrev pub IsProc : List Node → Procedure → Proc → Type 0
IsProc nodes entry p = (entry.locals ≡ p.locals) × StmtAt nodes entry.body p.body

-- every procedure is found in the table by its number
abbrev pub Holds : List Node → List Procedure → List Proc → Type 0
Holds nodes table procs = (f : ℕ) (p : Proc) → proc_at procs f ≡ some p → IsProc nodes (entry_at table f) p
