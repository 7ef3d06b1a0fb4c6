-- The routines of a program: each procedure's further locals, its body, and the height of that.
use Rattle.std.specs.Prelude.{◌≡◌, ℕ, ◌<◌, ◌≤◌, List, length, Some, None, Option, slice_index_or}
use Rattle.language.specs.Language.{Stmt, Proc, stmt_height}
use Rattle.language.specs.Heights.{node_names}
use Rattle.language.specs.Nodes.{StmtAt, Holds, entry_at}
use Rattle.language.specs.declared.nodes.Node.{Node}
use Rattle.language.specs.declared.nodes.Procedure.{Procedure}
use Rattle.interpreter.specs.declared.state.Routine.{Routine}

abbrev pub routine_at : List Routine → ℕ → Routine
routine_at procs f = slice_index_or procs f (record { locals = 0; body = 0; height = 0 })

-- each of the first n routines has a body, and its height
abbrev pub Measured : List Node → List Routine → ℕ → Type 0
Measured nodes procs n = (f : ℕ) → f < n → (s : Stmt) × StmtAt nodes (routine_at procs f).body s × ((routine_at procs f).height ≡ stmt_height s) × ((routine_at procs f).height ≤ node_names)

-- the routine is the table's procedure, its body is a statement, and its height is that of the body
pub record Ready (nodes : List Node) (entry : Procedure) (r : Routine) : Type 0 where
  pub locals : r.locals ≡ entry.locals
  pub body : r.body ≡ entry.body
  pub stmt : Stmt
  pub at : StmtAt nodes r.body stmt
  pub height : r.height ≡ stmt_height stmt
  pub small : r.height ≤ node_names

abbrev pub AllReady : List Node → List Procedure → List Routine → ℕ → Type 0
AllReady nodes table procs n = (f : ℕ) → f < n → Ready nodes (entry_at table f) (routine_at procs f)

-- the routines are made from the table, or the table is of no program
abbrev pub Prepares : List Node → List Procedure → Option (List Routine) → Type 0
Prepares nodes table (Some procs) = AllReady nodes table procs (length table)
Prepares nodes table None = (ps : List Proc) → length table ≡ length ps → Holds nodes table ps → ⊥
