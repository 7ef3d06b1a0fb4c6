-- The writing of a program, read word by word, is read to its end, and the reader then says whether the program is within
-- the limits. First readers with something owed, then the writing of an expression, a statement, procedures, a program.
use Rattle.std.proofs.Common.{◌≡◌, ℕ, suc, ◌+◌, Bool, true, false, ◌&&◌, T, ltb, leb, List, [], ◌∷◌, ◌++◌, length, Some, sym, refl, ap, ◌∙◌, append_assoc, arith}
use mathlib.Core.Bool.{and-true, and_assoc}
use Rattle.words.proofs.Tests.{TLeft, TRight}
use Rattle.language.specs.Language.{Expr, num, loc, glob, cell, add, sub, nand, less, half, call, Stmt, skip, then, setloc, setglob, setcell, if, while, out, take, Proc, Program}
use Rattle.text.specs.declared.reader.Use.{Use}
use Rattle.text.specs.declared.reader.Use.TheVariants.{Globals, Cells, Procs, Locals, Value, Local, Global, Callee}
use Rattle.text.specs.declared.reader.Need.TheVariants.{Start, Number, Owed}
use Rattle.text.specs.declared.reader.Reader.{Reader}
use Rattle.text.specs.Text.{decimal, write_expr, write_stmt, write_procs, write_program, writable, writable_expr, writable_stmt, writable_procs, writable_program, fits_expr, fits_stmt, fits_procs, signs_expr, signs_stmt, signs, fits, most_globals, most_cells, most_procs, most_locals, most_signs}
use Rattle.text.specs.Kinds.{kind}
use Rattle.text.specs.Numbers.{number_of}
use Rattle.text.specs.Reading.{and_then, taken, take_number, run, fresh}
use Rattle.text.proofs.Decimals.{number_of_decimal}

abbrev Word : Type 0
Word = List ℕ

-- A reader with k expressions, m statements and p procedures owed, c signs read and the limits kept or not; the program's
-- sizes and the locals are those of a. And one that waits for a number first.
abbrev pub owing : ℕ → ℕ → ℕ → ℕ → Bool → Reader → Reader
owing k m p c b a = record { need = Owed; exprs = k; stmts = m; procs = p; globals = a.globals; cells = a.cells; count = a.count; locals = a.locals; signs = c; fits = b }

abbrev pub awaiting : Use → ℕ → ℕ → ℕ → ℕ → Bool → Reader → Reader
awaiting u k m p c b a = record { need = Number u; exprs = k; stmts = m; procs = p; globals = a.globals; cells = a.cells; count = a.count; locals = a.locals; signs = c; fits = b }

-- sizes and locals, as a reader that has nothing else
abbrev sizes : ℕ → ℕ → ℕ → ℕ → Reader
sizes g c n l = record { need = Start; exprs = 0; stmts = 0; procs = 0; globals = g; cells = c; count = n; locals = l; signs = 0; fits = true }

abbrev with_locals : ℕ → Reader → Reader
with_locals l a = sizes a.globals a.cells a.count l

-- a number is taken
number_read : (u : Use) (i : ℕ) (a : Reader) (ws : List Word) → T (writable i) → and_then (take_number u (number_of (decimal i)) a) (run ws) ≡ run ws (taken u i a)
number_read u i a ws h = ap (λ q. and_then (take_number u q a) (run ws)) (number_of_decimal i h)

-- the same count and the same judgement, worked out otherwise
same : (ws : List Word) (k m p : ℕ) (a : Reader) (c d : ℕ) (b q : Bool) → c ≡ d → b ≡ q → run ws (owing k m p c b a) ≡ run ws (owing k m p d q a)
same ws k m p a c d b q e f = ap (λ x. run ws (owing k m p x b a)) e ∙ ap (λ x. run ws (owing k m p d x a)) f

-- what a reader makes of an expression, and of a statement, within its sizes
abbrev fits_e : Reader → Expr → Bool
fits_e a e = fits_expr a.locals a.globals a.count e

abbrev fits_s : Reader → Stmt → Bool
fits_s a s = fits_stmt a.locals a.globals a.count s

-- one expression less is owed after its writing, and so many signs more are read
abbrev ReadsExpr : Expr → Type 0
ReadsExpr e = (k m p c : ℕ) (b : Bool) (a : Reader) (ws : List Word) → T (writable_expr e) → run (write_expr e ++ ws) (owing (suc k) m p c b a) ≡ run ws (owing k m p (c + signs_expr e) (b && fits_e a e) a)

one_expr : (e : Expr) → ReadsExpr e → (k m p c : ℕ) (b : Bool) (a : Reader) (ws : List Word) → T (writable_expr e) →
    run (write_expr e ++ ws) (owing (suc k) m p (c + 1) b a) ≡ run ws (owing k m p (c + (1 + signs_expr e)) (b && fits_e a e) a)
one_expr e re k m p c b a ws h = re k m p (c + 1) b a ws h ∙ same ws k m p a _ _ _ _ (omega arith) refl

two_exprs : (e f : Expr) → ReadsExpr e → ReadsExpr f → (k m p c : ℕ) (b : Bool) (a : Reader) (ws : List Word) → T (writable_expr e && writable_expr f) →
    run ((write_expr e ++ write_expr f) ++ ws) (owing (suc (suc k)) m p (c + 1) b a) ≡ run ws (owing k m p (c + (1 + (signs_expr e + signs_expr f))) (b && (fits_e a e && fits_e a f)) a)
two_exprs e f re rf k m p c b a ws h =
    ap (λ vs. run vs (owing (suc (suc k)) m p (c + 1) b a)) (append_assoc (write_expr e) (write_expr f) ws)
    ∙ re (suc k) m p (c + 1) b a (write_expr f ++ ws) (TLeft (writable_expr e) (writable_expr f) h)
    ∙ rf k m p (c + 1 + signs_expr e) (b && fits_e a e) a ws (TRight (writable_expr e) (writable_expr f) h)
    ∙ same ws k m p a _ _ _ _ (omega arith) (and_assoc b (fits_e a e) (fits_e a f))

-- a number, and then an expression
number_expr : (u : Use) (ok : ℕ → Bool) (i : ℕ) (e : Expr) → ReadsExpr e → (k m p c : ℕ) (b : Bool) (a : Reader) (ws : List Word) → taken u i (awaiting u (suc k) m p (c + 1) b a) ≡ owing (suc k) m p (c + 1) (b && ok i) a → T (writable i && writable_expr e) →
    and_then (take_number u (number_of (decimal i)) (awaiting u (suc k) m p (c + 1) b a)) (run (write_expr e ++ ws)) ≡ run ws (owing k m p (c + (1 + signs_expr e)) (b && (ok i && fits_e a e)) a)
number_expr u ok i e re k m p c b a ws q h =
    number_read u i (awaiting u (suc k) m p (c + 1) b a) (write_expr e ++ ws) (TLeft (writable i) (writable_expr e) h)
    ∙ ap (run (write_expr e ++ ws)) q
    ∙ one_expr e re k m p c (b && ok i) a ws (TRight (writable i) (writable_expr e) h)
    ∙ same ws k m p a _ _ _ _ refl (and_assoc b (ok i) (fits_e a e))

read_expr : (e : Expr) → ReadsExpr e
unfolding kind
read_expr (num i) k m p c b a ws h = number_read Value i (awaiting Value k m p (c + 1) b a) ws h
read_expr (loc i) k m p c b a ws h = number_read Local i (awaiting Local k m p (c + 1) b a) ws h
read_expr (glob i) k m p c b a ws h = number_read Global i (awaiting Global k m p (c + 1) b a) ws h
read_expr (cell e) k m p c b a ws h = one_expr e (read_expr e) k m p c b a ws h
read_expr (half e) k m p c b a ws h = one_expr e (read_expr e) k m p c b a ws h
read_expr (add e f) k m p c b a ws h = two_exprs e f (read_expr e) (read_expr f) k m p c b a ws h
read_expr (sub e f) k m p c b a ws h = two_exprs e f (read_expr e) (read_expr f) k m p c b a ws h
read_expr (nand e f) k m p c b a ws h = two_exprs e f (read_expr e) (read_expr f) k m p c b a ws h
read_expr (less e f) k m p c b a ws h = two_exprs e f (read_expr e) (read_expr f) k m p c b a ws h
read_expr (call i e) k m p c b a ws h = number_expr Callee (λ j. ltb j a.count) i e (read_expr e) k m p c b a ws refl h

-- one statement less is owed after its writing
abbrev ReadsStmt : Stmt → Type 0
ReadsStmt s = (m p c : ℕ) (b : Bool) (a : Reader) (ws : List Word) → T (writable_stmt s) → run (write_stmt s ++ ws) (owing 0 (suc m) p c b a) ≡ run ws (owing 0 m p (c + signs_stmt s) (b && fits_s a s) a)

two_stmts : (s t : Stmt) → ReadsStmt s → ReadsStmt t → (m p c : ℕ) (b : Bool) (a : Reader) (ws : List Word) → T (writable_stmt s && writable_stmt t) →
    run ((write_stmt s ++ write_stmt t) ++ ws) (owing 0 (suc (suc m)) p c b a) ≡ run ws (owing 0 m p (c + (signs_stmt s + signs_stmt t)) (b && (fits_s a s && fits_s a t)) a)
two_stmts s t rs rt m p c b a ws h =
    ap (λ vs. run vs (owing 0 (suc (suc m)) p c b a)) (append_assoc (write_stmt s) (write_stmt t) ws)
    ∙ rs (suc m) p c b a (write_stmt t ++ ws) (TLeft (writable_stmt s) (writable_stmt t) h)
    ∙ rt m p (c + signs_stmt s) (b && fits_s a s) a ws (TRight (writable_stmt s) (writable_stmt t) h)
    ∙ same ws 0 m p a _ _ _ _ (omega arith) (and_assoc b (fits_s a s) (fits_s a t))

read_stmt : (s : Stmt) → ReadsStmt s
unfolding kind
read_stmt skip m p c b a ws h = same ws 0 m p a _ _ _ _ refl (sym (and-true b))
read_stmt (then s t) m p c b a ws h = two_stmts s t (read_stmt s) (read_stmt t) m p (c + 1) b a ws h ∙ same ws 0 m p a _ _ _ _ (omega arith) refl
read_stmt (setloc i e) m p c b a ws h = number_expr Local (λ j. ltb j a.locals) i e (read_expr e) 0 m p c b a ws refl h
read_stmt (setglob i e) m p c b a ws h = number_expr Global (λ j. ltb j a.globals) i e (read_expr e) 0 m p c b a ws refl h
read_stmt (setcell e f) m p c b a ws h = two_exprs e f (read_expr e) (read_expr f) 0 m p c b a ws h
read_stmt (if e s t) m p c b a ws h =
    ap (λ vs. run vs (owing 1 (suc (suc m)) p (c + 1) b a)) (append_assoc (write_expr e) (write_stmt s ++ write_stmt t) ws)
    ∙ read_expr e 0 (suc (suc m)) p (c + 1) b a ((write_stmt s ++ write_stmt t) ++ ws) (TLeft (writable_expr e) (writable_stmt s && writable_stmt t) h)
    ∙ two_stmts s t (read_stmt s) (read_stmt t) m p (c + 1 + signs_expr e) (b && fits_e a e) a ws (TRight (writable_expr e) (writable_stmt s && writable_stmt t) h)
    ∙ same ws 0 m p a _ _ _ _ (omega arith) (and_assoc b (fits_e a e) (fits_s a s && fits_s a t))
read_stmt (while e s) m p c b a ws h =
    ap (λ vs. run vs (owing 1 (suc m) p (c + 1) b a)) (append_assoc (write_expr e) (write_stmt s) ws)
    ∙ read_expr e 0 (suc m) p (c + 1) b a (write_stmt s ++ ws) (TLeft (writable_expr e) (writable_stmt s) h)
    ∙ read_stmt s m p (c + 1 + signs_expr e) (b && fits_e a e) a ws (TRight (writable_expr e) (writable_stmt s) h)
    ∙ same ws 0 m p a _ _ _ _ (omega arith) (and_assoc b (fits_e a e) (fits_s a s))
read_stmt (out e) m p c b a ws h = one_expr e (read_expr e) 0 m p c b a ws h
read_stmt (take i) m p c b a ws h = number_read Local i (awaiting Local 0 m p (c + 1) b a) ws h

-- the locals of the last procedure
abbrev last_locals : ℕ → List Proc → ℕ
last_locals l [] = l
last_locals l (q ∷ qs) = last_locals (1 + q.locals) qs

read_procs : (qs : List Proc) (c : ℕ) (b : Bool) (a : Reader) → T (writable_procs qs) →
    run (write_procs qs) (owing 0 0 (length qs) c b a) ≡ Some (owing 0 0 0 (c + signs qs) (b && fits_procs a.globals a.count qs) (with_locals (last_locals a.locals qs) a))
unfolding kind
read_procs [] c b a h = same [] 0 0 0 a _ _ _ _ (omega arith) (sym (and-true b))
read_procs (q ∷ qs) c b a h =
    let w0 = writable q.locals in let w1 = writable_stmt q.body in let w2 = writable_procs qs in
    let h1 : T (w1 && w2) = TRight w0 (w1 && w2) h in
    let inner : Reader = with_locals (1 + q.locals) a in
    let few : Bool = leb q.locals most_locals in
    number_read Locals q.locals (awaiting Locals 0 1 (length qs) (c + 1) b a) (write_stmt q.body ++ write_procs qs) (TLeft w0 (w1 && w2) h)
    ∙ read_stmt q.body 0 (length qs) (c + 1) (b && few) inner (write_procs qs) (TLeft w1 w2 h1)
    ∙ read_procs qs (c + 1 + signs_stmt q.body) (b && few && fits_s inner q.body) inner (TRight w1 w2 h1)
    ∙ same [] 0 0 0 (with_locals (last_locals (1 + q.locals) qs) a) _ _ _ _ (omega arith) (and_assoc (b && few) (fits_s inner q.body) (fits_procs a.globals a.count qs) ∙ and_assoc b few (fits_s inner q.body && fits_procs a.globals a.count qs))

regroup : (a b c d e : Bool) → a && b && c && d && e ≡ a && (b && (c && (e && d)))
regroup true true true true true = refl
regroup true true true true false = refl
regroup true true true false true = refl
regroup true true true false false = refl
regroup true true false d e = refl
regroup true false c d e = refl
regroup false b c d e = refl

-- what a reader knows of a program when it has read its writing
pub record Knows (a : Reader) (g : Program) : Type 0 where
  pub globals : a.globals ≡ g.globals
  pub cells : a.cells ≡ g.cells
  pub count : a.count ≡ length g.procs
  pub signs : a.signs ≡ signs g.procs
  pub fits : a.fits && leb a.signs most_signs ≡ fits g

-- the writing of a program is read to its end
pub read_program : (g : Program) → T (writable_program g) → (a : Reader) × (run (write_program g) fresh ≡ Some (owing 0 0 0 a.signs a.fits a)) × Knows a g
unfolding kind
read_program g small =
    let G = g.globals in let C = g.cells in let N = length g.procs in
    let w0 = writable G in let w1 = writable C in let w2 = writable N in let w3 = writable_procs g.procs in
    let h1 : T (w1 && (w2 && w3)) = TRight w0 (w1 && (w2 && w3)) small in
    let h2 : T (w2 && w3) = TRight w1 (w2 && w3) h1 in
    let header : Bool = leb G most_globals && leb C most_cells && (leb 1 N && leb N most_procs) in (
      owing 0 0 0 (signs g.procs) (header && fits_procs G N g.procs) (sizes G C N (last_locals 0 g.procs)),
      number_read Globals G (awaiting Globals 0 0 0 0 true (sizes 0 0 0 0)) (decimal C ∷ decimal N ∷ write_procs g.procs) (TLeft w0 (w1 && (w2 && w3)) small)
          ∙ number_read Cells C (awaiting Cells 0 0 0 0 (leb G most_globals) (sizes G 0 0 0)) (decimal N ∷ write_procs g.procs) (TLeft w1 (w2 && w3) h1)
          ∙ number_read Procs N (awaiting Procs 0 0 0 0 (leb G most_globals && leb C most_cells) (sizes G C 0 0)) (write_procs g.procs) (TLeft w2 w3 h2)
          ∙ read_procs g.procs 0 header (sizes G C N 0) (TRight w2 w3 h2)
          ∙ same [] 0 0 0 (sizes G C N (last_locals 0 g.procs)) _ (signs g.procs) _ _ (omega arith) refl,
      record { globals = refl; cells = refl; count = refl; signs = refl; fits = regroup (leb G most_globals) (leb C most_cells) (leb 1 N && leb N most_procs) (fits_procs G N g.procs) (leb (signs g.procs) most_signs) },
    )
