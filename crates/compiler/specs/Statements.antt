-- Statements at nodes: where their code ends, and that their code was written.
use Rattle.std.specs.Prelude.{◌≡◌, ℕ, List}
use Rattle.language.specs.Language.{Stmt, Program}
use Rattle.language.specs.Nodes.{StmtAt}
use Rattle.language.specs.declared.nodes.Node.{Node}
use Rattle.codegen.specs.Codegen.{end_of_stmt, code_stmt}
use Rattle.compiler.specs.declared.source.Source.{Source}
use Rattle.compiler.specs.declared.writer.Writer.{Writer}
use Rattle.compiler.specs.Writing.{Emits}
use Rattle.compiler.specs.Work.{Target}

abbrev pub EndsStmt : List Node → ℕ → ℕ → ℕ → Type 0
EndsStmt nodes i at r = (s : Stmt) → StmtAt nodes i s → r ≡ end_of_stmt s at

abbrev pub EmitsStmt : List Node → ℕ → ℕ → List ℕ → ℕ → List ℕ → ℕ → List ℕ → Type 0
EmitsStmt nodes i cells places at m r m' = (g : Program) → Target g cells places → (s : Stmt) → StmtAt nodes i s → Emits (λ rest. code_stmt g s at rest) (end_of_stmt s at) at m r m'

-- a writer wrote the code of node i, from what the source c has
pub record WroteStmt (c : Source) (i : ℕ) (w w' : Writer) : Type 0 where
  pub same_image : w'.image.ghost_name ≡ w.image.ghost_name
  pub ends : EndsStmt c.nodes.now i w.at w'.at
  pub words : EmitsStmt c.nodes.now i c.cells c.places.now w.at w.image.now w'.at w'.image.now
