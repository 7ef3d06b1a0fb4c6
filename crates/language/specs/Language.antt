-- The course language and what a program does.
use Rattle.std.specs.Prelude.{◌≡◌, cond, List, [], ◌∷◌, ◌++◌, ℕ, zero, suc, ◌+◌, ◌-◌, ◌<◌, ◌≤◌, max, eqb, ltb, length, replicate}
use Rattle.std.proofs.Math.Option.{Option, some, none}
use Rattle.words.specs.Words.{add16, sub16, less16, nand16, half16, word, put, front, rest}
use Rattle.words.specs.Runs.{Seen, Prefix, running, ended_done, ended_index, ended_full}

-- Expressions and statements, under the words that a text writes them with. Locals, globals and procedures go by number.
pub data Expr : Type 0 where
  num : ℕ → Expr
  loc : ℕ → Expr
  glob : ℕ → Expr
  cell : Expr → Expr
  add : Expr → Expr → Expr
  sub : Expr → Expr → Expr
  nand : Expr → Expr → Expr
  less : Expr → Expr → Expr
  half : Expr → Expr
  call : ℕ → Expr → Expr

pub data Stmt : Type 0 where
  skip : Stmt
  then : Stmt → Stmt → Stmt
  setloc : ℕ → Expr → Stmt
  setglob : ℕ → Expr → Stmt
  setcell : Expr → Expr → Stmt
  if : Expr → Stmt → Stmt → Stmt
  while : Expr → Stmt → Stmt
  out : Expr → Stmt
  take : ℕ → Stmt

-- A procedure has one argument, its local 0, and further locals, 0 at first; its value is what local 0 holds at its end.
pub record Proc : Type 0 where
  pub locals : ℕ
  pub body : Stmt

pub record Program : Type 0 where
  pub globals : ℕ
  pub cells : ℕ
  pub procs : List Proc

-- The height: how many words the working of an expression takes at most beside the locals.
abbrev pub both_height : ℕ → ℕ → ℕ
both_height first second = max first (1 + second)

abbrev pub height : Expr → ℕ
height (num n) = 1
height (loc i) = 1
height (glob i) = 1
height (cell e) = height e
height (add a b) = both_height (height a) (height b)
height (sub a b) = both_height (height a) (height b)
height (nand a b) = both_height (height a) (height b)
height (less a b) = both_height (height a) (height b)
height (half a) = height a
height (call f a) = height a

-- of a statement it is that of its highest expression, where setting a cell counts as an operation on two
abbrev pub stmt_height : Stmt → ℕ
stmt_height skip = 0
stmt_height (then s t) = max (stmt_height s) (stmt_height t)
stmt_height (setloc i e) = height e
stmt_height (setglob i e) = height e
stmt_height (setcell e f) = both_height (height e) (height f)
stmt_height (if e s t) = max (height e) (max (stmt_height s) (stmt_height t))
stmt_height (while e s) = max (height e) (stmt_height s)
stmt_height (out e) = height e
stmt_height (take i) = 0

-- A call's frame: some fixed words, the further locals, and the height of the body.
abbrev pub frame_words : ℕ
frame_words = 4

abbrev pub frame_size : Proc → ℕ
frame_size p = frame_words + (p.locals + stmt_height p.body)

-- all frames of a run together have so many words
abbrev pub frame_room : ℕ
frame_room = 8192

-- what a run works on: the locals of the procedure at work, the globals, the cells, the tape, the words put out
pub record State : Type 0 where
  pub locals : List ℕ
  pub globals : List ℕ
  pub cells : List ℕ
  pub tape : List ℕ
  pub out : List ℕ

abbrev pub with_locals : State → List ℕ → State
with_locals s ls = record { locals = ls; globals = s.globals; cells = s.cells; tape = s.tape; out = s.out }

abbrev pub set_local : State → ℕ → ℕ → State
set_local s i v = with_locals s (put s.locals i v)

abbrev pub set_global : State → ℕ → ℕ → State
set_global s i v = record { locals = s.locals; globals = put s.globals i v; cells = s.cells; tape = s.tape; out = s.out }

abbrev pub set_cell : State → ℕ → ℕ → State
set_cell s i v = record { locals = s.locals; globals = s.globals; cells = put s.cells i v; tape = s.tape; out = s.out }

abbrev pub put_out : State → ℕ → State
put_out s v = record { locals = s.locals; globals = s.globals; cells = s.cells; tape = s.tape; out = s.out ++ (v ∷ []) }

abbrev pub take_word : State → ℕ → State
take_word s i = record { locals = put s.locals i (front s.tape); globals = s.globals; cells = s.cells; tape = rest s.tape; out = s.out }

-- How a part of a run came out, with the state there: a value, or the run's end (index or full), or the fuel is spent.
pub data Outcome : Type 0 where
  fine : ℕ → State → Outcome
  ends : ℕ → State → Outcome
  spent : State → Outcome

-- go on with the value, unless the run has ended or its fuel is spent
abbrev pub bind : Outcome → (ℕ → State → Outcome) → Outcome
bind (fine v s) k = k v s
bind (ends how s) k = ends how s
bind (spent s) k = spent s

-- go on if there is such a cell; a place at or past the number of cells ends the run
abbrev pub if_cell : ℕ → State → Outcome → Outcome
if_cell i s r = cond (ltb i (length s.cells)) r (ends ended_index s)

-- The value of an expression, worked out from left to right. What a call does is handed in.
abbrev pub eval : (ℕ → ℕ → State → Outcome) → Expr → State → Outcome
eval call-proc (num n) s = fine n s
eval call-proc (loc i) s = fine (word s.locals i) s
eval call-proc (glob i) s = fine (word s.globals i) s
eval call-proc (cell e) s = bind (eval call-proc e s) (λ i t. if_cell i t (fine (word t.cells i) t))
eval call-proc (add a b) s = bind (eval call-proc a s) (λ u t. bind (eval call-proc b t) (λ v w. fine (add16 u v) w))
eval call-proc (sub a b) s = bind (eval call-proc a s) (λ u t. bind (eval call-proc b t) (λ v w. fine (sub16 u v) w))
eval call-proc (nand a b) s = bind (eval call-proc a s) (λ u t. bind (eval call-proc b t) (λ v w. fine (nand16 u v) w))
eval call-proc (less a b) s = bind (eval call-proc a s) (λ u t. bind (eval call-proc b t) (λ v w. fine (less16 u v) w))
eval call-proc (half a) s = bind (eval call-proc a s) (λ u t. fine (half16 u) t)
eval call-proc (call f a) s = bind (eval call-proc a s) (λ v t. call-proc f v t)

-- What a statement does. What a call does, and what a further turn of a loop does, are handed in.
abbrev pub exec : (ℕ → ℕ → State → Outcome) → (Expr → Stmt → State → Outcome) → Stmt → State → Outcome
exec call-proc turn skip s = fine 0 s
exec call-proc turn (then p q) s = bind (exec call-proc turn p s) (λ v t. exec call-proc turn q t)
exec call-proc turn (setloc i e) s = bind (eval call-proc e s) (λ v t. fine 0 (set_local t i v))
exec call-proc turn (setglob i e) s = bind (eval call-proc e s) (λ v t. fine 0 (set_global t i v))
-- first the place, then the value, then the test of the place
exec call-proc turn (setcell e f) s = bind (eval call-proc e s) (λ i t. bind (eval call-proc f t) (λ v u. if_cell i u (fine 0 (set_cell u i v))))
exec call-proc turn (if e p q) s = bind (eval call-proc e s) (λ v t. cond (eqb v 0) (exec call-proc turn q t) (exec call-proc turn p t))
exec call-proc turn (while e p) s = bind (eval call-proc e s) (λ v t. cond (eqb v 0) (fine 0 t) (bind (exec call-proc turn p t) (λ z u. turn e p u)))
exec call-proc turn (out e) s = bind (eval call-proc e s) (λ v t. fine 0 (put_out t v))
exec call-proc turn (take i) s = fine 0 (take_word s i)

abbrev pub proc_at : List Proc → ℕ → Option Proc
proc_at [] n = none
proc_at (p ∷ ps) zero = some p
proc_at (p ∷ ps) (suc n) = proc_at ps n

-- The call of a procedure with the value v, when so many words are left for frames: the test for room, then the body
-- with locals of its own; then the caller's locals are back.
abbrev pub enter : (Stmt → State → Outcome) → Option Proc → ℕ → ℕ → State → Outcome
enter run-body none room v s = ends ended_full s
enter run-body (some p) room v s = cond (ltb room (frame_size p)) (ends ended_full s)
    (bind (run-body p.body (with_locals s (v ∷ replicate p.locals 0))) (λ z t. fine (word t.locals 0) (with_locals t s.locals)))

-- the words left for frames inside the call
abbrev pub room_inside : Option Proc → ℕ → ℕ
room_inside none room = room
room_inside (some p) room = room - frame_size p

-- A run with so much fuel. Fuel counts how deep calls and further turns of loops may stand in one another: a call takes
-- two, a further turn one, and both halves of a 'then' have the same fuel. It is only there so that the definition is
-- one of a function: a run that has ended stays as it is with more fuel, and a program that never ends spends any.
abbrev mutual
  pub run_stmt : ℕ → Program → ℕ → Stmt → State → Outcome
  run_stmt zero g room c s = spent s
  run_stmt (suc n) g room c s = exec (λ f v t. run_call n g room f v t) (λ e p t. run_stmt n g room (while e p) t) c s

  pub run_call : ℕ → Program → ℕ → ℕ → ℕ → State → Outcome
  run_call zero g room f v s = spent s
  run_call (suc n) g room f v s = enter (λ c t. run_stmt n g (room_inside (proc_at g.procs f) room) c t) (proc_at g.procs f) room v s

-- The program is a call of procedure 0 with 0, with all globals and cells 0.
abbrev pub start : Program → List ℕ → State
start g tape = record { locals = []; globals = replicate g.globals 0; cells = replicate g.cells 0; tape = tape; out = [] }

abbrev pub source : Program → List ℕ → ℕ → Outcome
source g tape n = run_call n g frame_room 0 0 (start g tape)

-- what is seen of a run, by how it came out
abbrev pub seen_outcome : Outcome → Seen
seen_outcome (fine v s) = record { shown = s.out; tape_left = s.tape; ending = ended_done }
seen_outcome (ends how s) = record { shown = s.out; tape_left = s.tape; ending = how }
seen_outcome (spent s) = record { shown = s.out; tape_left = s.tape; ending = running }

-- what is seen of a program's run with so much fuel
abbrev pub program_run : Program → List ℕ → ℕ → Seen
program_run g tape n = seen_outcome (source g tape n)

-- With more fuel a run puts out what it put out and more, and a run that has ended stays as it ended.
abbrev pub FuelKeeps : Type 0
FuelKeeps = (g : Program) (tape : List ℕ) (n m : ℕ) → n ≤ m →
    Prefix (program_run g tape n).shown (program_run g tape m).shown
    × (0 < (program_run g tape n).ending → source g tape m ≡ source g tape n)
