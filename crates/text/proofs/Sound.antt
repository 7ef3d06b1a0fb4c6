-- Words that are read to their end are the writing of a program. First what it means that words write what is owed; then,
-- for each word, that it and what follows write what was owed before it; then the program.
use Rattle.std.proofs.Common.{◌≡◌, ℕ, zero, suc, ◌&&◌, T, List, [], ◌∷◌, ◌++◌, length, Some, None, Option, sym, refl, ap, ◌∙◌, subst, append_assoc}
use Rattle.words.proofs.Tests.{TLeft, TRight, TBoth}
use Rattle.language.specs.Language.{Expr, num, loc, glob, cell, add, sub, nand, less, half, call, Stmt, skip, then, setloc, setglob, setcell, if, while, out, take, Proc, Program}
use Rattle.text.specs.declared.kinds.Kind.{Kind}
use Rattle.text.specs.declared.kinds.Kind.TheVariants as K
use Rattle.text.specs.declared.reader.Use.{Use}
use Rattle.text.specs.declared.reader.Use.TheVariants.{Globals, Cells, Procs, Locals, Value, Local, Global, Callee}
use Rattle.text.specs.declared.reader.Need.{Need}
use Rattle.text.specs.declared.reader.Need.TheVariants.{Start, Number, Owed}
use Rattle.text.specs.declared.reader.Reader.{Reader}
use Rattle.text.specs.Text.{decimal, write_expr, write_stmt, write_procs, write_program, writable, writable_expr, writable_stmt, writable_procs, writable_program, w_then, w_setcell, w_if, w_while, w_out, w_take, w_program, w_proc}
use Rattle.text.specs.Kinds.{kind, spelled}
use Rattle.text.specs.Numbers.{number_of}
use Rattle.text.specs.Shapes.{shape}
use Rattle.text.specs.Reading.{and_then, owed_after, moved, enter_word, with_need, begun, begin_word, taken, take_number, step_at, run, fresh, done}
use Rattle.text.proofs.Decimals.{number_of_sound}
use Rattle.text.proofs.Spellings.{kind_sound}
use Rattle.text.proofs.Steps.{begins_program}

abbrev Word : Type 0
Word = List ℕ

-- the words write p procedures; m statements and those; k expressions and those
abbrev WritesProcs : ℕ → List Word → Type 0
WritesProcs zero ws = ws ≡ []
WritesProcs (suc p) ws = (q : Proc) × T (writable q.locals && writable_stmt q.body) × (us : List Word) × (ws ≡ w_proc ∷ decimal q.locals ∷ (write_stmt q.body ++ us)) × WritesProcs p us

abbrev WritesStmts : ℕ → ℕ → List Word → Type 0
WritesStmts zero p ws = WritesProcs p ws
WritesStmts (suc m) p ws = (s : Stmt) × T (writable_stmt s) × (us : List Word) × (ws ≡ write_stmt s ++ us) × WritesStmts m p us

abbrev WritesExprs : ℕ → ℕ → ℕ → List Word → Type 0
WritesExprs zero m p ws = WritesStmts m p ws
WritesExprs (suc k) m p ws = (e : Expr) × T (writable_expr e) × (us : List Word) × (ws ≡ write_expr e ++ us) × WritesExprs k m p us

-- the words write a number, and then what P says of it
abbrev NumberThen : (ℕ → List Word → Type 0) → List Word → Type 0
NumberThen P ws = (n : ℕ) × T (writable n) × (us : List Word) × (ws ≡ decimal n ∷ us) × P n us

abbrev FromProcs : List Word → Type 0
FromProcs = NumberThen (λ n us. WritesExprs 0 0 n us)

abbrev FromCells : List Word → Type 0
FromCells = NumberThen (λ n us. FromProcs us)

abbrev FromGlobals : List Word → Type 0
FromGlobals = NumberThen (λ n us. FromCells us)

abbrev WritesNumber : Use → ℕ → ℕ → ℕ → List Word → Type 0
WritesNumber Globals k m p ws = FromGlobals ws
WritesNumber Cells k m p ws = FromCells ws
WritesNumber Procs k m p ws = FromProcs ws
WritesNumber Locals k m p ws = NumberThen (λ n us. WritesExprs k m p us) ws
WritesNumber Value k m p ws = NumberThen (λ n us. WritesExprs k m p us) ws
WritesNumber Local k m p ws = NumberThen (λ n us. WritesExprs k m p us) ws
WritesNumber Global k m p ws = NumberThen (λ n us. WritesExprs k m p us) ws
WritesNumber Callee k m p ws = NumberThen (λ n us. WritesExprs k m p us) ws

abbrev FromStart : List Word → Type 0
FromStart ws = (us : List Word) × (ws ≡ w_program ∷ us) × FromGlobals us

-- the words write what a reader needs
abbrev Writes : Need → ℕ → ℕ → ℕ → List Word → Type 0
Writes Start k m p ws = FromStart ws
Writes (Number u) k m p ws = WritesNumber u k m p ws
Writes Owed k m p ws = WritesExprs k m p ws

-- a reader that has come to the end
abbrev pub Ends : Option Reader → Type 0
Ends None = ⊥
Ends (Some a) = T (done a.need a.exprs a.stmts a.procs)

abbrev Sound : List Word → Type 0
Sound ws = (a : Reader) → Ends (run ws a) → Writes a.need a.exprs a.stmts a.procs ws

-- a number
number_sound : (w : Word) (ws : List Word) → Sound ws → (a : Reader) (u : Use) (o : Option ℕ) → number_of w ≡ o → Ends (and_then (take_number u o a) (run ws)) → WritesNumber u a.exprs a.stmts a.procs (w ∷ ws)
number_sound w ws rec a u None e h = absurd h
number_sound w ws rec a Globals (Some n) e h = (n, (number_of_sound w n e).1, ws, ap (λ (x : Word). x ∷ ws) (number_of_sound w n e).0, rec (taken Globals n a) h)
number_sound w ws rec a Cells (Some n) e h = (n, (number_of_sound w n e).1, ws, ap (λ (x : Word). x ∷ ws) (number_of_sound w n e).0, rec (taken Cells n a) h)
number_sound w ws rec a Procs (Some n) e h = (n, (number_of_sound w n e).1, ws, ap (λ (x : Word). x ∷ ws) (number_of_sound w n e).0, rec (taken Procs n a) h)
number_sound w ws rec a Locals (Some n) e h = (n, (number_of_sound w n e).1, ws, ap (λ (x : Word). x ∷ ws) (number_of_sound w n e).0, rec (taken Locals n a) h)
number_sound w ws rec a Value (Some n) e h = (n, (number_of_sound w n e).1, ws, ap (λ (x : Word). x ∷ ws) (number_of_sound w n e).0, rec (taken Value n a) h)
number_sound w ws rec a Local (Some n) e h = (n, (number_of_sound w n e).1, ws, ap (λ (x : Word). x ∷ ws) (number_of_sound w n e).0, rec (taken Local n a) h)
number_sound w ws rec a Global (Some n) e h = (n, (number_of_sound w n e).1, ws, ap (λ (x : Word). x ∷ ws) (number_of_sound w n e).0, rec (taken Global n a) h)
number_sound w ws rec a Callee (Some n) e h = (n, (number_of_sound w n e).1, ws, ap (λ (x : Word). x ∷ ws) (number_of_sound w n e).0, rec (taken Callee n a) h)

-- the first word
start_sound : (ws : List Word) → Sound ws → (a : Reader) (k : Kind) (o : Option Reader) → begun (shape k).role a ≡ o → Ends (and_then o (run ws)) → FromStart (spelled k ∷ ws)
start_sound ws rec a k None e h = absurd h
start_sound ws rec a k (Some b) e h =
    let q : k ≡ K.Program = begins_program k a b e in
    let e2 : begun (shape K.Program).role a ≡ Some b = subst (λ (j : Kind). begun (shape j).role a ≡ Some b) q e in
    let r : with_need (Number Globals) a ≡ b = cc in
    (ws, ap (λ (j : Kind). spelled j ∷ ws) q, rec (with_need (Number Globals) a) (subst (λ (x : Reader). Ends (run ws x)) (sym r) h))

abbrev prepend : Word → List Word → List Word
prepend w ws = w ∷ ws

-- two expressions, two statements written one after the other
two_exprs : (ws us vs : List Word) (e f : Expr) → ws ≡ write_expr e ++ us → us ≡ write_expr f ++ vs → ws ≡ (write_expr e ++ write_expr f) ++ vs
two_exprs ws us vs e f p q = p ∙ ap (λ x. write_expr e ++ x) q ∙ sym (append_assoc (write_expr e) (write_expr f) vs)

two_stmts : (ws us vs : List Word) (s t : Stmt) → ws ≡ write_stmt s ++ us → us ≡ write_stmt t ++ vs → ws ≡ (write_stmt s ++ write_stmt t) ++ vs
two_stmts ws us vs s t p q = p ∙ ap (λ x. write_stmt s ++ x) q ∙ sym (append_assoc (write_stmt s) (write_stmt t) vs)

-- a word that begins what is owed first
owed_sound : (ws : List Word) → Sound ws → (a : Reader) (kd : Kind) (k m p : ℕ) → Ends (and_then (and_then (owed_after (shape kd).role (shape kd).exprs (shape kd).stmts k m p) (λ t. Some (moved (shape kd).next a t))) (run ws)) → WritesExprs k m p (spelled kd ∷ ws)
owed_sound ws rec a K.Num zero m p h = absurd h
owed_sound ws rec a K.Num (suc k) m p h = let r = rec (moved (Number Value) a (k, m, p)) h in (num r.0, r.1, r.2, ap (prepend (spelled K.Num)) r.3, r.4)
owed_sound ws rec a K.Loc zero m p h = absurd h
owed_sound ws rec a K.Loc (suc k) m p h = let r = rec (moved (Number Local) a (k, m, p)) h in (loc r.0, r.1, r.2, ap (prepend (spelled K.Loc)) r.3, r.4)
owed_sound ws rec a K.Glob zero m p h = absurd h
owed_sound ws rec a K.Glob (suc k) m p h = let r = rec (moved (Number Global) a (k, m, p)) h in (glob r.0, r.1, r.2, ap (prepend (spelled K.Glob)) r.3, r.4)
owed_sound ws rec a K.Cell zero m p h = absurd h
owed_sound ws rec a K.Cell (suc k) m p h = let r = rec (moved Owed a (suc k, m, p)) h in (cell r.0, r.1, r.2, ap (prepend (spelled K.Cell)) r.3, r.4)
owed_sound ws rec a K.Half zero m p h = absurd h
owed_sound ws rec a K.Half (suc k) m p h = let r = rec (moved Owed a (suc k, m, p)) h in (half r.0, r.1, r.2, ap (prepend (spelled K.Half)) r.3, r.4)
owed_sound ws rec a K.Add zero m p h = absurd h
owed_sound ws rec a K.Add (suc k) m p h = let r = rec (moved Owed a (suc (suc k), m, p)) h in let q = r.4 in (add r.0 q.0, TBoth _ _ r.1 q.1, q.2, ap (prepend (spelled K.Add)) (two_exprs ws r.2 q.2 r.0 q.0 r.3 q.3), q.4)
owed_sound ws rec a K.Sub zero m p h = absurd h
owed_sound ws rec a K.Sub (suc k) m p h = let r = rec (moved Owed a (suc (suc k), m, p)) h in let q = r.4 in (sub r.0 q.0, TBoth _ _ r.1 q.1, q.2, ap (prepend (spelled K.Sub)) (two_exprs ws r.2 q.2 r.0 q.0 r.3 q.3), q.4)
owed_sound ws rec a K.Nand zero m p h = absurd h
owed_sound ws rec a K.Nand (suc k) m p h = let r = rec (moved Owed a (suc (suc k), m, p)) h in let q = r.4 in (nand r.0 q.0, TBoth _ _ r.1 q.1, q.2, ap (prepend (spelled K.Nand)) (two_exprs ws r.2 q.2 r.0 q.0 r.3 q.3), q.4)
owed_sound ws rec a K.Less zero m p h = absurd h
owed_sound ws rec a K.Less (suc k) m p h = let r = rec (moved Owed a (suc (suc k), m, p)) h in let q = r.4 in (less r.0 q.0, TBoth _ _ r.1 q.1, q.2, ap (prepend (spelled K.Less)) (two_exprs ws r.2 q.2 r.0 q.0 r.3 q.3), q.4)
owed_sound ws rec a K.Call zero m p h = absurd h
owed_sound ws rec a K.Call (suc k) m p h = let r = rec (moved (Number Callee) a (suc k, m, p)) h in let q = r.4 in (call r.0 q.0, TBoth _ _ r.1 q.1, q.2, ap (prepend (spelled K.Call)) (r.3 ∙ ap (prepend (decimal r.0)) q.3), q.4)
owed_sound ws rec a K.Skip (suc k) m p h = absurd h
owed_sound ws rec a K.Skip zero zero p h = absurd h
owed_sound ws rec a K.Skip zero (suc m) p h = (skip, tt, ws, refl, rec (moved Owed a (0, m, p)) h)
owed_sound ws rec a K.Then (suc k) m p h = absurd h
owed_sound ws rec a K.Then zero zero p h = absurd h
owed_sound ws rec a K.Then zero (suc m) p h = let r = rec (moved Owed a (0, suc (suc m), p)) h in let q = r.4 in (then r.0 q.0, TBoth _ _ r.1 q.1, q.2, ap (prepend w_then) (two_stmts ws r.2 q.2 r.0 q.0 r.3 q.3), q.4)
owed_sound ws rec a K.SetLoc (suc k) m p h = absurd h
owed_sound ws rec a K.SetLoc zero zero p h = absurd h
owed_sound ws rec a K.SetLoc zero (suc m) p h = let r = rec (moved (Number Local) a (1, m, p)) h in let q = r.4 in (setloc r.0 q.0, TBoth _ _ r.1 q.1, q.2, ap (prepend (spelled K.SetLoc)) (r.3 ∙ ap (prepend (decimal r.0)) q.3), q.4)
owed_sound ws rec a K.SetGlob (suc k) m p h = absurd h
owed_sound ws rec a K.SetGlob zero zero p h = absurd h
owed_sound ws rec a K.SetGlob zero (suc m) p h = let r = rec (moved (Number Global) a (1, m, p)) h in let q = r.4 in (setglob r.0 q.0, TBoth _ _ r.1 q.1, q.2, ap (prepend (spelled K.SetGlob)) (r.3 ∙ ap (prepend (decimal r.0)) q.3), q.4)
owed_sound ws rec a K.SetCell (suc k) m p h = absurd h
owed_sound ws rec a K.SetCell zero zero p h = absurd h
owed_sound ws rec a K.SetCell zero (suc m) p h = let r = rec (moved Owed a (2, m, p)) h in let q = r.4 in (setcell r.0 q.0, TBoth _ _ r.1 q.1, q.2, ap (prepend w_setcell) (two_exprs ws r.2 q.2 r.0 q.0 r.3 q.3), q.4)
owed_sound ws rec a K.If (suc k) m p h = absurd h
owed_sound ws rec a K.If zero zero p h = absurd h
owed_sound ws rec a K.If zero (suc m) p h = let r = rec (moved Owed a (1, suc (suc m), p)) h in let q = r.4 in let t = q.4 in (if r.0 q.0 t.0, TBoth _ _ r.1 (TBoth _ _ q.1 t.1), t.2, ap (prepend w_if) (r.3 ∙ ap (λ x. write_expr r.0 ++ x) (two_stmts r.2 q.2 t.2 q.0 t.0 q.3 t.3) ∙ sym (append_assoc (write_expr r.0) (write_stmt q.0 ++ write_stmt t.0) t.2)), t.4)
owed_sound ws rec a K.While (suc k) m p h = absurd h
owed_sound ws rec a K.While zero zero p h = absurd h
owed_sound ws rec a K.While zero (suc m) p h = let r = rec (moved Owed a (1, suc m, p)) h in let q = r.4 in (while r.0 q.0, TBoth _ _ r.1 q.1, q.2, ap (prepend w_while) (r.3 ∙ ap (λ x. write_expr r.0 ++ x) q.3 ∙ sym (append_assoc (write_expr r.0) (write_stmt q.0) q.2)), q.4)
owed_sound ws rec a K.Out (suc k) m p h = absurd h
owed_sound ws rec a K.Out zero zero p h = absurd h
owed_sound ws rec a K.Out zero (suc m) p h = let r = rec (moved Owed a (1, m, p)) h in (out r.0, r.1, r.2, ap (prepend w_out) r.3, r.4)
owed_sound ws rec a K.Take (suc k) m p h = absurd h
owed_sound ws rec a K.Take zero zero p h = absurd h
owed_sound ws rec a K.Take zero (suc m) p h = let r = rec (moved (Number Local) a (0, m, p)) h in (take r.0, r.1, r.2, ap (prepend w_take) r.3, r.4)
owed_sound ws rec a K.Program k m p h = absurd h
owed_sound ws rec a K.Proc (suc k) m p h = absurd h
owed_sound ws rec a K.Proc zero (suc m) p h = absurd h
owed_sound ws rec a K.Proc zero zero zero h = absurd h
owed_sound ws rec a K.Proc zero zero (suc p) h = let r = rec (moved (Number Locals) a (0, 1, p)) h in let q = r.4 in (record { locals = r.0; body = q.0 }, TBoth _ _ r.1 q.1, q.2, ap (prepend w_proc) (r.3 ∙ ap (prepend (decimal r.0)) q.3), q.4)

word_sound : (w : Word) (ws : List Word) → Sound ws → (a : Reader) (o : Option Kind) → kind w ≡ o → Ends (and_then (enter_word o a) (run ws)) → WritesExprs a.exprs a.stmts a.procs (w ∷ ws)
word_sound w ws rec a None e h = absurd h
word_sound w ws rec a (Some k) e h = subst (λ (x : Word). WritesExprs a.exprs a.stmts a.procs (x ∷ ws)) (sym (kind_sound w k e)) (owed_sound ws rec a k a.exprs a.stmts a.procs h)

first_sound : (w : Word) (ws : List Word) → Sound ws → (a : Reader) (o : Option Kind) → kind w ≡ o → Ends (and_then (begin_word o a) (run ws)) → FromStart (w ∷ ws)
first_sound w ws rec a None e h = absurd h
first_sound w ws rec a (Some k) e h = subst (λ (x : Word). FromStart (x ∷ ws)) (sym (kind_sound w k e)) (start_sound ws rec a k (begun (shape k).role a) refl h)

step_sound : (w : Word) (ws : List Word) → Sound ws → (a : Reader) (n : Need) → Ends (and_then (step_at n w a) (run ws)) → Writes n a.exprs a.stmts a.procs (w ∷ ws)
step_sound w ws rec a Start h = first_sound w ws rec a (kind w) refl h
step_sound w ws rec a (Number u) h = number_sound w ws rec a u (number_of w) refl h
step_sound w ws rec a Owed h = word_sound w ws rec a (kind w) refl h

-- at the end nothing is owed
end_sound : (n : Need) (k m p : ℕ) → T (done n k m p) → Writes n k m p []
end_sound Start k m p h = absurd h
end_sound (Number u) k m p h = absurd h
end_sound Owed (suc k) m p h = absurd h
end_sound Owed zero (suc m) p h = absurd h
end_sound Owed zero zero (suc p) h = absurd h
end_sound Owed zero zero zero h = refl

sound : (ws : List Word) → Sound ws
sound [] a h = end_sound a.need a.exprs a.stmts a.procs h
sound (w ∷ ws) a h = step_sound w ws (sound ws) a a.need h

procs_written : (p : ℕ) (ws : List Word) → WritesProcs p ws → (qs : List Proc) × (length qs ≡ p) × (ws ≡ write_procs qs) × T (writable_procs qs)
procs_written zero ws h = ([], refl, h, tt)
procs_written (suc p) ws h =
    let r = procs_written p h.2 h.4 in let q = h.0 in (
      q ∷ r.0,
      ap suc r.1,
      h.3 ∙ ap (λ (x : List Word). w_proc ∷ decimal q.locals ∷ (write_stmt q.body ++ x)) r.2,
      TBoth _ _ (TLeft (writable q.locals) (writable_stmt q.body) h.1) (TBoth _ _ (TRight (writable q.locals) (writable_stmt q.body) h.1) r.3),
    )

-- words that are read to their end write a program
pub program_written : (ws : List Word) → Ends (run ws fresh) → (g : Program) × (ws ≡ write_program g) × T (writable_program g)
program_written ws h =
    let r = sound ws fresh h in
    let x = r.2 in let y = x.4 in let z = y.4 in let t = procs_written z.0 z.2 z.4 in
    let n : length t.0 ≡ z.0 = t.1 in (
      record { globals = x.0; cells = y.0; procs = t.0 },
      r.1 ∙ ap (prepend w_program) (x.3 ∙ ap (prepend (decimal x.0)) (y.3 ∙ ap (prepend (decimal y.0)) (z.3 ∙ ap (λ (m : ℕ). decimal m ∷ z.2) (sym n) ∙ ap (prepend (decimal (length t.0))) t.2))),
      TBoth _ _ x.1 (TBoth _ _ y.1 (TBoth _ _ (subst (λ (m : ℕ). T (writable m)) (sym n) z.1) t.3)),
    )
