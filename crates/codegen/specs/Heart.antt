-- The heart of the compiler: what the code of an expression and of a statement does, at any place of the code and with any
-- frames below it in the stack (which are at higher places, since the stack grows downwards).
use Rattle.std.specs.Prelude.{◌≡◌, ℕ, suc, ◌+◌, ◌-◌, ◌<◌, ◌≤◌, Bool, T, List, [], ◌∷◌, length}
use Rattle.words.specs.Words.{word, memory_size, IsTape}
use Rattle.words.specs.Runs.{running}
use Rattle.machine.specs.Machine.{Machine, steps, seen_machine}
use Rattle.language.specs.Language.{Expr, Stmt, Program, State, Outcome, fine, ends, spent, eval, height, stmt_height, run_stmt, run_call, seen_outcome}
use Rattle.language.specs.Limits.{fits, fits_expr, fits_stmt}
use Rattle.codegen.specs.Layout.{stack_top, stack_base, cells_base, globals_base, code_limit}
use Rattle.codegen.specs.Instructions.{Instruction, Stands}
use Rattle.codegen.specs.Codegen.{end_of_expr, end_of_stmt, code_expr, code_stmt, code}
use Rattle.codegen.specs.Top.{LeavesTopFor}

-- what stands in the registers that hold nothing from one part of the code to the next
pub record Scratch : Type 0 where
  pub in_work : ℕ
  pub in_back : ℕ
  pub in_spare : ℕ

-- The machine at work on a state of the program: at a place of the code, with a value, the scratch registers, the stack
-- pointer, the frame pointer, and so many words left for frames.
abbrev pub at_work : ℕ → ℕ → Scratch → ℕ → ℕ → ℕ → List ℕ → State → Machine
at_work pc v x sp fp left mem s = record {
  pc = pc;
  registers = v ∷ x.in_work ∷ x.in_back ∷ x.in_spare ∷ sp ∷ fp ∷ left ∷ 1 ∷ [];
  mem = mem;
  tape = s.tape;
  out = s.out;
  halted = running;
}

-- memory's words for code are the image's
abbrev pub HasCode : List ℕ → List ℕ → Type 0
HasCode img mem = (j : ℕ) → j < code_limit → word mem j ≡ word img j

-- everything in a state is a word
pub record OfWords (s : State) : Type 0 where
  pub locals_words : IsTape s.locals
  pub globals_words : IsTape s.globals
  pub cells_words : IsTape s.cells
  pub tape_words : IsTape s.tape

-- memory holds the image's code and a state of the program, with so many locals from the frame pointer on
pub record Holds (img : List ℕ) (g : Program) (locals : ℕ) (s : State) (fp : ℕ) (mem : List ℕ) : Type 0 where
  pub words : OfWords s
  pub size : length mem ≡ memory_size
  pub code_kept : HasCode img mem
  pub globals_count : length s.globals ≡ g.globals
  pub cells_count : length s.cells ≡ g.cells
  pub locals_count : length s.locals ≡ locals
  pub globals_held : (i : ℕ) → i < g.globals → word mem (globals_base + i) ≡ word s.globals i
  pub cells_held : (i : ℕ) → i < g.cells → word mem (cells_base + i) ≡ word s.cells i
  pub locals_held : (i : ℕ) → i < locals → word mem (fp + i) ≡ word s.locals i

-- of the stack's words, and those above it, only some from the place lo up to the place hi have changed
pub record ChangedWithin (lo hi : ℕ) (mem mem' : List ℕ) : Type 0 where
  pub below : (j : ℕ) → stack_base ≤ j → j < lo → word mem' j ≡ word mem j
  pub above : (j : ℕ) → hi ≤ j → word mem' j ≡ word mem j

-- After an expression that takes so many words: the machine is at a place with the value; stack pointer, frame pointer and
-- room are as before. All frames, which begin at the stack pointer, are untouched; at lower places, no more words are used
-- than the expression takes and are left for frames.
pub record ValueInPlace (img : List ℕ) (g : Program) (locals at sp fp left taken : ℕ) (mem : List ℕ) (v : ℕ) (s : State) (m : Machine) : Type 0 where
  pub scratch : Scratch
  pub memory : List ℕ
  pub is : m ≡ at_work at v scratch sp fp left memory s
  pub value_word : v < 65536
  pub holds : Holds img g locals s fp memory
  pub frames_kept : ChangedWithin (sp - (left + taken)) sp mem memory

-- After a statement: the same, with some value, nothing on the stack below the frame, and the frame's own locals changed at will.
pub record StatementDone (img : List ℕ) (g : Program) (locals at fp left taken : ℕ) (mem : List ℕ) (unused : ℕ) (s : State) (m : Machine) : Type 0 where
  pub value : ℕ
  pub scratch : Scratch
  pub memory : List ℕ
  pub is : m ≡ at_work at value scratch fp fp left memory s
  pub holds : Holds img g locals s fp memory
  pub frames_kept : ChangedWithin (fp - (left + taken)) (fp + locals) mem memory

-- After some steps, which leave memory's top alone, something holds of their count and the machine.
pub record ComesTo (Good : ℕ → Machine → Type 0) (m : Machine) : Type 0 where
  pub count : ℕ
  pub top : LeavesTopFor count m
  pub good : Good count (steps count m)

-- What the machine does from m on, by how a part of the program's run comes out: it comes to where Good holds of the value
-- and the state; or it halts in the same way, with the same words put out and left on the tape; or the fuel is spent, and
-- the machine has gone on for at least as many steps, to the same words.
abbrev pub Does : ℕ → (ℕ → State → Machine → Type 0) → Outcome → Machine → Type 0
Does fuel Good (fine v t) = ComesTo (λ k m. Good v t m)
Does fuel Good (ends how t) = ComesTo (λ k m. (seen_machine m ≡ seen_outcome (ends how t)) × (0 < how))
Does fuel Good (spent t) = ComesTo (λ k m. (seen_machine m ≡ seen_outcome (spent t)) × (fuel ≤ k))

-- an expression or statement of the program, in a procedure with so many locals, is within the limits
abbrev pub expr_ok : Program → ℕ → Expr → Bool
expr_ok g locals e = fits_expr locals g.globals (length g.procs) e

abbrev pub stmt_ok : Program → ℕ → Stmt → Bool
stmt_ok g locals c = fits_stmt locals g.globals (length g.procs) c

-- In every memory that has the program's code: where the code of an expression stands, the machine at its first word does
-- what the expression does, and comes to the code's end with its value.
abbrev pub ExpressionRuns : Type 0
ExpressionRuns = (img : List ℕ) (g : Program) → T (fits g) → Stands img 0 (code g) →
    (fuel locals : ℕ) (e : Expr) (rest : List Instruction) (s : State) (at v : ℕ) (x : Scratch) (sp fp left : ℕ) (mem : List ℕ) →
    Stands img at (code_expr g e rest) → T (expr_ok g locals e) →
    Holds img g locals s fp mem → stack_base + left + height e ≤ sp → sp ≤ fp → fp + locals ≤ stack_top →
    Does (suc fuel) (ValueInPlace img g locals (end_of_expr e at) sp fp left (height e) mem) (eval (λ f u t. run_call fuel g left f u t) e s)
    (at_work at v x sp fp left mem s)

-- The same of a statement.
abbrev pub StatementRuns : Type 0
StatementRuns = (img : List ℕ) (g : Program) → T (fits g) → Stands img 0 (code g) →
    (fuel locals : ℕ) (c : Stmt) (rest : List Instruction) (s : State) (at v : ℕ) (x : Scratch) (fp left : ℕ) (mem : List ℕ) →
    Stands img at (code_stmt g c at rest) → T (stmt_ok g locals c) →
    Holds img g locals s fp mem → stack_base + left + stmt_height c ≤ fp → fp + locals ≤ stack_top →
    Does fuel (StatementDone img g locals (end_of_stmt c at) fp left (stmt_height c) mem) (run_stmt fuel g left c s)
    (at_work at v x fp fp left mem s)
