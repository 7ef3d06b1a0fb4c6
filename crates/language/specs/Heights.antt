-- The heights of expressions and statements, from the nodes that they stand at.
use Rattle.std.specs.Prelude.{◌≡◌, ℕ, ◌+◌, ◌<◌, ◌≤◌, max, List, Some, None, Option}
use Rattle.language.specs.Language.{Expr, Stmt, height, stmt_height}
use Rattle.language.specs.Nodes.{ExprAt, StmtAt}
use Rattle.language.specs.declared.nodes.Node.{Node}

-- as many nodes as a node can name
abbrev pub node_names : ℕ
node_names = 65536

-- the height of the expression at a node; none where no expression stands
abbrev pub ExprHeight : List Node → ℕ → Option ℕ → Type 0
ExprHeight nodes i (Some h) = (h + i ≤ node_names) × ((e : Expr) × ExprAt nodes i e × (h ≡ height e))
ExprHeight nodes i None = (e : Expr) → ExprAt nodes i e → ⊥

-- the height of the statement at a node; none where no statement stands
abbrev pub StmtHeight : List Node → ℕ → Option ℕ → Type 0
StmtHeight nodes i (Some h) = (h + i ≤ node_names) × ((s : Stmt) × StmtAt nodes i s × (h ≡ stmt_height s))
StmtHeight nodes i None = (s : Stmt) → StmtAt nodes i s → ⊥

-- the height at node j, a part of node i: parts stand after their node
abbrev pub ExprPart : List Node → ℕ → ℕ → Option ℕ → Type 0
ExprPart nodes i j (Some h) = (i < j) × ExprHeight nodes j (Some h)
ExprPart nodes i j None = i < j → ExprHeight nodes j None

abbrev pub StmtPart : List Node → ℕ → ℕ → Option ℕ → Type 0
StmtPart nodes i j (Some h) = (i < j) × StmtHeight nodes j (Some h)
StmtPart nodes i j None = i < j → StmtHeight nodes j None

-- the larger of two heights, and the height of an operation on two, if there are both
abbrev pub higher_of : Option ℕ → Option ℕ → Option ℕ
higher_of (Some x) (Some y) = Some (max x y)
higher_of (Some x) None = None
higher_of None y = None

abbrev pub both_of : Option ℕ → Option ℕ → Option ℕ
both_of x (Some y) = higher_of x (Some (1 + y))
both_of x None = None

abbrev pub Small : Option ℕ → Type 0
Small (Some h) = h ≤ node_names
Small None = Unit {0}
