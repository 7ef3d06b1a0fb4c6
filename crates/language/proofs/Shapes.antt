-- Nodes of several kinds at once: what is common to the four operations on two, to the expressions with one part, and to
-- the statements with one expression.
use Rattle.std.proofs.Common.{◌≡◌, ℕ, ◌<◌, ◌⊎◌, List, refl, inl, inr}
use Rattle.words.specs.Words.{add16, sub16, nand16, less16}
use Rattle.language.specs.Language.{Expr, cell, add, sub, nand, less, half, call, Stmt, setloc, setglob, out, height, stmt_height, both_height, State, Outcome, fine, bind, eval}
use Rattle.language.specs.Nodes.{node_at, ExprNode, StmtNode, OnePart, TwoParts}
use Rattle.language.specs.declared.nodes.Node.{Node}
use Rattle.language.specs.declared.nodes.Node.TheVariants as N

-- a node of an operation on two, and the operation
pub record Two (nodes : List Node) (i j k : ℕ) : Type 1 where
  pub node : Node
  pub is : node_at nodes i ≡ node
  pub make : Expr → Expr → Expr
  pub op : ℕ → ℕ → ℕ
  pub says : (At : ℕ → Expr → Type 0) (e : Expr) → ExprNode At i node e → TwoParts At i make j k e
  pub stands : (At : ℕ → Expr → Type 0) (e : Expr) → TwoParts At i make j k e → ExprNode At i node e
  pub high : (a b : Expr) → height (make a b) ≡ both_height (height a) (height b)
  pub value : (c : ℕ → ℕ → State → Outcome) (a b : Expr) (s : State) → eval c (make a b) s ≡ bind (eval c a s) (λ u t. bind (eval c b t) (λ v w. fine (op u v) w))

abbrev pub two_add : (nodes : List Node) (i j k : ℕ) → node_at nodes i ≡ N.Add j k → Two nodes i j k
two_add nodes i j k q = record { node = N.Add j k; is = q; make = add; op = add16; says = λ At e h. h; stands = λ At e h. h; high = λ a b. refl; value = λ c a b s. refl }

abbrev pub two_sub : (nodes : List Node) (i j k : ℕ) → node_at nodes i ≡ N.Sub j k → Two nodes i j k
two_sub nodes i j k q = record { node = N.Sub j k; is = q; make = sub; op = sub16; says = λ At e h. h; stands = λ At e h. h; high = λ a b. refl; value = λ c a b s. refl }

abbrev pub two_nand : (nodes : List Node) (i j k : ℕ) → node_at nodes i ≡ N.Nand j k → Two nodes i j k
two_nand nodes i j k q = record { node = N.Nand j k; is = q; make = nand; op = nand16; says = λ At e h. h; stands = λ At e h. h; high = λ a b. refl; value = λ c a b s. refl }

abbrev pub two_less : (nodes : List Node) (i j k : ℕ) → node_at nodes i ≡ N.Less j k → Two nodes i j k
two_less nodes i j k q = record { node = N.Less j k; is = q; make = less; op = less16; says = λ At e h. h; stands = λ At e h. h; high = λ a b. refl; value = λ c a b s. refl }

-- a node of an expression with one part
pub record One (nodes : List Node) (i j : ℕ) : Type 1 where
  pub node : Node
  pub is : node_at nodes i ≡ node
  pub make : Expr → Expr
  pub says : (At : ℕ → Expr → Type 0) (e : Expr) → ExprNode At i node e → OnePart At i make j e
  pub stands : (At : ℕ → Expr → Type 0) (e : Expr) → OnePart At i make j e → ExprNode At i node e
  pub high : (a : Expr) → height (make a) ≡ height a

pub one_cell : (nodes : List Node) (i j : ℕ) → node_at nodes i ≡ N.Cell j → One nodes i j
one_cell nodes i j q = record { node = N.Cell j; is = q; make = cell; says = λ At e h. h; stands = λ At e h. h; high = λ a. refl }

pub one_half : (nodes : List Node) (i j : ℕ) → node_at nodes i ≡ N.Half j → One nodes i j
one_half nodes i j q = record { node = N.Half j; is = q; make = half; says = λ At e h. h; stands = λ At e h. h; high = λ a. refl }

pub one_call : (nodes : List Node) (i f j : ℕ) → node_at nodes i ≡ N.Call f j → One nodes i j
one_call nodes i f j q = record { node = N.Call f j; is = q; make = call f; says = λ At e h. h; stands = λ At e h. h; high = λ a. refl }

-- a node of a statement with one expression
abbrev pub UsesPart : (ℕ → Expr → Type 0) → ℕ → (Expr → Stmt) → ℕ → Stmt → Type 0
UsesPart At i make j s = (e : Expr) × (s ≡ make e) × (i < j) × At j e

pub record Uses (nodes : List Node) (i j : ℕ) : Type 1 where
  pub node : Node
  pub is : node_at nodes i ≡ node
  pub make : Expr → Stmt
  pub says : (At : ℕ → Expr → Type 0) (Runs : ℕ → Stmt → Type 0) (s : Stmt) → StmtNode At Runs i node s → UsesPart At i make j s
  pub stands : (At : ℕ → Expr → Type 0) (Runs : ℕ → Stmt → Type 0) (s : Stmt) → UsesPart At i make j s → StmtNode At Runs i node s
  pub high : (a : Expr) → stmt_height (make a) ≡ height a

pub uses_setloc : (nodes : List Node) (i n j : ℕ) → node_at nodes i ≡ N.SetLoc n j → Uses nodes i j
uses_setloc nodes i n j q = record { node = N.SetLoc n j; is = q; make = setloc n; says = λ At Runs e h. h; stands = λ At Runs e h. h; high = λ a. refl }

pub uses_setglob : (nodes : List Node) (i n j : ℕ) → node_at nodes i ≡ N.SetGlob n j → Uses nodes i j
uses_setglob nodes i n j q = record { node = N.SetGlob n j; is = q; make = setglob n; says = λ At Runs e h. h; stands = λ At Runs e h. h; high = λ a. refl }

pub uses_out : (nodes : List Node) (i j : ℕ) → node_at nodes i ≡ N.Out j → Uses nodes i j
uses_out nodes i j q = record { node = N.Out j; is = q; make = out; says = λ At Runs e h. h; stands = λ At Runs e h. h; high = λ a. refl }

-- the kinds together, as an arm of several kinds has them
abbrev pub two_of : (nodes : List Node) (i j k : ℕ) → (node_at nodes i ≡ N.Add j k) ⊎ ((node_at nodes i ≡ N.Sub j k) ⊎ ((node_at nodes i ≡ N.Nand j k) ⊎ (node_at nodes i ≡ N.Less j k))) → Two nodes i j k
two_of nodes i j k (inl q) = two_add nodes i j k q
two_of nodes i j k (inr (inl q)) = two_sub nodes i j k q
two_of nodes i j k (inr (inr (inl q))) = two_nand nodes i j k q
two_of nodes i j k (inr (inr (inr q))) = two_less nodes i j k q

pub one_of : (nodes : List Node) (i j : ℕ) → (node_at nodes i ≡ N.Cell j) ⊎ ((node_at nodes i ≡ N.Half j) ⊎ ((f : ℕ) × (node_at nodes i ≡ N.Call f j))) → One nodes i j
one_of nodes i j (inl q) = one_cell nodes i j q
one_of nodes i j (inr (inl q)) = one_half nodes i j q
one_of nodes i j (inr (inr q)) = one_call nodes i q.0 j q.1

pub uses_of : (nodes : List Node) (i j : ℕ) → ((n : ℕ) × (node_at nodes i ≡ N.SetLoc n j)) ⊎ (((n : ℕ) × (node_at nodes i ≡ N.SetGlob n j)) ⊎ (node_at nodes i ≡ N.Out j)) → Uses nodes i j
uses_of nodes i j (inl q) = uses_setloc nodes i q.0 j q.1
uses_of nodes i j (inr (inl q)) = uses_setglob nodes i q.0 j q.1
uses_of nodes i j (inr (inr q)) = uses_out nodes i j q
