-- What the parts of the interpreter promise: over lent memory, they come to what the definition comes to.
use Rattle.std.specs.Prelude.{◌≡◌, ℕ, suc, ◌<◌, ◌≤◌, List, length, take, drop, ltb, if◌then◌else◌, Ok, Err, Result}
use Rattle.words.specs.Words.{add16, sub16, nand16, less16, word, put, front, rest}
use Rattle.words.specs.Runs.{ended_index, ended_full}
use Rattle.std.proofs.Math.Option.{some}
use Rattle.language.specs.Language.{Expr, Stmt, Proc, proc_at, Program, State, Outcome, fine, ends, spent, eval, run_stmt, run_call, seen_outcome, while, put_out}
use Rattle.language.specs.Nodes.{ExprAt, StmtAt}
use Rattle.language.specs.declared.nodes.Node.{Node}
use Rattle.language.specs.declared.nodes.Node.TheVariants as N
use Rattle.interpreter.specs.declared.code.Code.{Code}
use Rattle.interpreter.specs.declared.state.Routine.{Routine}
use Rattle.interpreter.specs.declared.state.Counts.{Counts}
use Rattle.interpreter.specs.declared.state.Stop.{Stop}
use Rattle.interpreter.specs.declared.state.Stop.TheVariants.{Index, Full, Spent, NoOut}
use Rattle.interpreter.specs.declared.state.Store.{Store}
use Rattle.interpreter.specs.Routines.{routine_at}

-- what lent memory holds: the words for frames, the globals, the cells, the out words
pub record Memory : Type 0 where
  pub frames : List ℕ
  pub globals : List ℕ
  pub cells : List ℕ
  pub out : List ℕ

abbrev pub memory : List ℕ → List ℕ → List ℕ → List ℕ → Memory
memory frames globals cells out = record { frames = frames; globals = globals; cells = cells; out = out }

-- what a run works on: the locals of the procedure at work, the globals, the cells, the out words, and how far it has come
-- in the tape and the out words
pub record Work : Type 0 where
  pub locals : List ℕ
  pub globals : List ℕ
  pub cells : List ℕ
  pub out : List ℕ
  pub counts : Counts

abbrev pub work : List ℕ → Store → Work
work locals s = record { locals = locals; globals = s.globals.now; cells = s.cells.now; out = s.out.now; counts = s.counts }

-- the store is of the same lent words
pub record SameLoans (s s' : Store) : Type 0 where
  pub globals : s'.globals.ghost_name ≡ s.globals.ghost_name
  pub cells : s'.cells.ghost_name ≡ s.cells.ghost_name
  pub out : s'.out.ghost_name ≡ s.out.ghost_name

-- the state that stands there
abbrev pub state_of : List ℕ → Work → State
state_of tape m = record { locals = m.locals; globals = m.globals; cells = m.cells; tape = drop m.counts.taken tape; out = take m.counts.sent m.out }

-- From the counts c to c', with these out words before and after: what is put out stays, the out words past it are as
-- they were, and the counts stay within the tape and the out words.
pub record Grew (tape : List ℕ) (c c' : Counts) (out out' : List ℕ) : Type 0 where
  pub unsent : drop c'.sent out' ≡ drop c'.sent out
  pub long : length out' ≡ length out
  pub more : c.sent ≤ c'.sent
  pub sent_within : c.sent ≤ length out → c'.sent ≤ length out
  pub taken_within : c.taken ≤ length tape → c'.taken ≤ length tape

-- the outcome is a value, in the state that stands in memory
pub record Came (r : Outcome) (v : ℕ) (tape : List ℕ) (m m' : Work) : Type 0 where
  pub is : r ≡ fine v (state_of tape m')
  pub grew : Grew tape m.counts m'.counts m.out m'.out

-- The outcome is a stop, after the words that stand in memory. Whose locals are at hand there does not matter.
pub record Stopped (how : State → Outcome) (r : Outcome) (tape : List ℕ) (c c' : Counts) (out out' : List ℕ) : Type 0 where
  pub state : State
  pub is : r ≡ how state
  pub shown : state.out ≡ take c'.sent out'
  pub left : state.tape ≡ drop c'.taken tape
  pub grew : Grew tape c c' out out'

abbrev pub Stops : Outcome → List ℕ → Counts → Counts → List ℕ → List ℕ → Stop → Type 0
Stops r tape c c' out out' Index = Stopped (ends ended_index) r tape c c' out out'
Stops r tape c c' out out' Full = Stopped (ends ended_full) r tape c c' out out'
Stops r tape c c' out out' Spent = Stopped spent r tape c c' out out'
-- more words are put out than there is room for
Stops r tape c c' out out' NoOut = length out < length (seen_outcome r).shown

-- what comes of an expression or a call, and of a statement, whose value is 0
abbrev pub Evaluates : Outcome → List ℕ → Work → Work → Result ℕ Stop → Type 0
Evaluates r tape m m' (Ok v) = Came r v tape m m'
Evaluates r tape m m' (Err stop) = Stops r tape m.counts m'.counts m.out m'.out stop

abbrev pub Executes : Outcome → List ℕ → Work → Work → Result (Unit {0}) Stop → Type 0
Executes r tape m m' (Ok done) = Came r 0 tape m m'
Executes r tape m m' (Err stop) = Stops r tape m.counts m'.counts m.out m'.out stop

-- what one of the four operations on two gives
abbrev pub combined : Node → ℕ → ℕ → ℕ
combined (N.Num n) x y = 0
combined (N.Loc n) x y = 0
combined (N.Glob n) x y = 0
combined (N.Cell j) x y = 0
combined (N.Add j k) x y = add16 x y
combined (N.Sub j k) x y = sub16 x y
combined (N.Nand j k) x y = nand16 x y
combined (N.Less j k) x y = less16 x y
combined (N.Half j) x y = 0
combined (N.Call f j) x y = 0
combined N.Skip x y = 0
combined (N.Then j k) x y = 0
combined (N.SetLoc n j) x y = 0
combined (N.SetGlob n j) x y = 0
combined (N.SetCell j k) x y = 0
combined (N.If j k l) x y = 0
combined (N.While j k) x y = 0
combined (N.Out j) x y = 0
combined (N.Take n) x y = 0
combined (N.Proc n j k) x y = 0

-- the tape's next word is taken, and all else stays
pub record Takes (tape : List ℕ) (s s' : Store) (w : ℕ) : Type 0 where
  pub word : w ≡ front (drop s.counts.taken tape)
  pub left : drop s'.counts.taken tape ≡ rest (drop s.counts.taken tape)
  pub within : s.counts.taken ≤ length tape → s'.counts.taken ≤ length tape
  pub kept : s' ≡ record { globals = s.globals; cells = s.cells; out = s.out; counts = record { taken = s'.counts.taken; sent = s.counts.sent } }

-- a word is put out, if there is room
abbrev pub Puts : Store → Store → ℕ → Result (Unit {0}) Stop → Type 0
Puts s s' v r = (tape locals : List ℕ) → Executes (fine 0 (put_out (state_of tape (work locals s)) v)) tape (work locals s) (work locals s') r

-- the word of a cell, if there is such a cell
abbrev pub Fetches : List ℕ → ℕ → Result ℕ Stop → Type 0
Fetches cells place r = r ≡ (if ltb place (length cells) then Ok (word cells place) else Err Index)

-- a word is put into a cell, if there is such a cell
abbrev pub Stores : Store → Store → ℕ → ℕ → Result (Unit {0}) Stop → Type 0
Stores s s' place v (Ok done) = (place < length s.cells.now) × ((locals : List ℕ) → work locals s' ≡ record { locals = locals; globals = s.globals.now; cells = put s.cells.now place v; out = s.out.now; counts = s.counts })
Stores s s' place v (Err stop) = (length s.cells.now ≤ place) × (stop ≡ Index) × (s' ≡ s)

-- the routines are the program's procedures, with their bodies among the nodes
pub record Held (nodes : List Node) (procs : List Routine) (g : Program) : Type 0 where
  pub holds : (f : ℕ) (p : Proc) → proc_at g.procs f ≡ some p → ((routine_at procs f).locals ≡ p.locals) × StmtAt nodes (routine_at procs f).body p.body
  pub all : length procs ≡ length g.procs

-- Some expression, some statement stands at node i.
abbrev pub SomeExpr : Code → ℕ → Type 0
SomeExpr code i = ∥ ((e : Expr) × ExprAt code.nodes.now i e) ∥₁

abbrev pub SomeStmt : Code → ℕ → Type 0
SomeStmt code i = ∥ ((s : Stmt) × StmtAt code.nodes.now i s) ∥₁

-- With so much fuel and so much room for frames, the call of procedure f with v, the expression at node i, the statement
-- at node i, and the loop of the expression at node i and the statement at node j come to what the definition says,
-- whatever program is held. A call leaves the caller's locals alone.
abbrev pub Calls : Code → ℕ → ℕ → ℕ → ℕ → Store → Store → Result ℕ Stop → Type 0
Calls code f v fuel room s s' r = (g : Program) (locals : List ℕ) → Held code.nodes.now code.procs.now g
    → Evaluates (run_call fuel g room f v (state_of code.tape.now (work locals s))) code.tape.now (work locals s) (work locals s') r

abbrev pub Values : Code → ℕ → ℕ → ℕ → Work → Work → Result ℕ Stop → Type 0
Values code i fuel room m m' r = (g : Program) (e : Expr) → Held code.nodes.now code.procs.now g → ExprAt code.nodes.now i e
    → Evaluates (eval (λ f v t. run_call fuel g room f v t) e (state_of code.tape.now m)) code.tape.now m m' r

abbrev pub Does : Code → ℕ → ℕ → ℕ → Work → Work → Result (Unit {0}) Stop → Type 0
Does code i fuel room m m' r = (g : Program) (s : Stmt) → Held code.nodes.now code.procs.now g → StmtAt code.nodes.now i s
    → Executes (run_stmt (suc fuel) g room s (state_of code.tape.now m)) code.tape.now m m' r

abbrev pub Repeats : Code → ℕ → ℕ → ℕ → ℕ → Work → Work → Result (Unit {0}) Stop → Type 0
Repeats code i j fuel room m m' r = (g : Program) (e : Expr) (s : Stmt) → Held code.nodes.now code.procs.now g → ExprAt code.nodes.now i e → StmtAt code.nodes.now j s
    → Executes (run_stmt (suc fuel) g room (while e s) (state_of code.tape.now m)) code.tape.now m m' r
