-- Procedures in the table: where their code ends, and that it was written; then all of a program's code.
use Rattle.std.specs.Prelude.{◌≡◌, ℕ, ◌<◌, ◌≤◌, List}
use Rattle.words.specs.Words.{word}
use Rattle.language.specs.Language.{Proc, Program, frame_size}
use Rattle.language.specs.Limits.{most_locals, most_procs}
use Rattle.language.specs.Held.{HeldProgram}
use Rattle.language.specs.Nodes.{IsProc}
use Rattle.language.specs.declared.nodes.Node.{Node}
use Rattle.language.specs.declared.nodes.Procedure.{Procedure}
use Rattle.language.specs.declared.parsed.Parsed.{Parsed}
use Rattle.codegen.specs.Codegen.{end_of_proc, code_proc, entry, image}
use Rattle.codegen.specs.Layout.{code_limit}
use Rattle.compiler.specs.declared.source.Source.{Source}
use Rattle.compiler.specs.declared.writer.Writer.{Writer}
use Rattle.compiler.specs.Writing.{Emits}
use Rattle.compiler.specs.Work.{StmtFits, Target}

-- the procedure's code, from a place on, is within the words for code
pub record ProcWorks (nodes : List Node) (d : Procedure) (at : ℕ) : Type 0 where
  pub proc : Proc
  pub is : IsProc nodes d proc
  pub few : proc.locals ≤ most_locals
  pub fits : StmtFits proc.body
  pub room : end_of_proc proc at ≤ code_limit

-- the size of its frame
abbrev pub FrameOf : List Node → Procedure → ℕ → Type 0
FrameOf nodes d size = (p : Proc) → IsProc nodes d p → size ≡ frame_size p

abbrev pub EndsProc : List Node → Procedure → ℕ → ℕ → Type 0
EndsProc nodes d at r = (p : Proc) → IsProc nodes d p → r ≡ end_of_proc p at

abbrev pub EmitsProc : List Node → Procedure → ℕ → List ℕ → ℕ → List ℕ → ℕ → List ℕ → Type 0
EmitsProc nodes d cells places at m r m' = (g : Program) → Target g cells places → (p : Proc) → IsProc nodes d p → Emits (λ rest. code_proc g p at rest) (end_of_proc p at) at m r m'

-- a writer wrote the procedure's code, from what the source c has
pub record WroteProc (c : Source) (d : Procedure) (w w' : Writer) : Type 0 where
  pub same_image : w'.image.ghost_name ≡ w.image.ghost_name
  pub ends : EndsProc c.nodes.now d w.at w'.at
  pub words : EmitsProc c.nodes.now d c.cells c.places.now w.at w.image.now w'.at w'.image.now

-- every procedure's place is in the table of places
abbrev pub Places : Parsed → List ℕ → Type 0
Places parsed places = (g : Program) → HeldProgram parsed g → (f : ℕ) → f < most_procs → word places f ≡ entry g f

-- the words are those of the program's image
abbrev pub IsImage : Program → List ℕ → Type 0
IsImage g m = m ≡ image g
