-- Nodes and procedures: that the places of their signs were noted.
use Rattle.std.specs.Prelude.{◌≡◌, ℕ, ◌≤◌, List, [], ◌∷◌, ◌++◌, length}
use Rattle.language.specs.Language.{Expr, Stmt, Proc}
use Rattle.language.specs.Nodes.{node_at, StmtAt, IsProc, most_nodes}
use Rattle.language.specs.declared.nodes.Node.{Node}
use Rattle.language.specs.declared.nodes.Procedure.{Procedure}
use Rattle.codegen.specs.Codegen.{push, end_of_expr}
use Rattle.codegen.specs.Instructions.{past}
use Rattle.text.specs.Signs.{room}
use Rattle.signs.specs.Places.{places_expr, places_stmt, places_proc}
use Rattle.compiler.specs.Work.{parts_of, PartsAt}

-- the places of work with the parts es
abbrev pub places_more : List Expr → ℕ → List ℕ → List ℕ
places_more [] at rest = rest
places_more (e ∷ es) at rest = places_expr e (past push at) (places_more es (end_of_expr e (past push at)) rest)

abbrev pub places_parts : List Expr → ℕ → List ℕ → List ℕ
places_parts [] at rest = rest
places_parts (e ∷ es) at rest = places_expr e at (places_more es (end_of_expr e at) rest)

abbrev pub work_places : List Expr → ℕ → List ℕ → List ℕ
work_places es at rest = at ∷ places_parts es at rest

-- Behind the notes m numbers were noted, which makes m': whatever is to follow, all of it is left to note where before the
-- numbers and then it was.
pub record Noted (numbers : List ℕ → List ℕ) (m m' : List ℕ) : Type 0 where
  pub all : (rest : List ℕ) → room (m ++ numbers rest) ≡ room (m' ++ rest)
  pub few : length m' ≤ most_nodes

-- the places of the signs at node i were noted, where its code stands at a place
abbrev pub PlacesWork : List Node → ℕ → ℕ → List ℕ → List ℕ → Type 0
PlacesWork nodes i at m m' = (es : List Expr) → PartsAt nodes i (parts_of (node_at nodes i)) es → Noted (work_places es at) m m'

abbrev pub PlacesStmt : List Node → ℕ → ℕ → List ℕ → List ℕ → Type 0
PlacesStmt nodes i at m m' = (s : Stmt) → StmtAt nodes i s → Noted (places_stmt s at) m m'

abbrev pub PlacesProc : List Node → Procedure → ℕ → List ℕ → List ℕ → Type 0
PlacesProc nodes d at m m' = (p : Proc) → IsProc nodes d p → Noted (places_proc p at) m m'
