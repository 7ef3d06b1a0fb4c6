-- The words of a text that begin a sign are those of the program's signs.
use mathlib.Core.Path.{◌≡◌, refl, sym, ◌∙◌, ap}
use mathlib.Core.List.{List, [], ◌∷◌, ◌++◌, map, append_assoc}
use Prim.Native.Nat.{ℕ, suc}
use lib.ListN.{length}
use Rattle.language.specs.Language.{Expr, num, loc, glob, cell, add, sub, nand, less, half, call, Stmt, skip, then, setloc, setglob, setcell, if, while, out, take, Proc, Program}
use Rattle.codegen.specs.Codegen.{end_of_stmt, else_place, then_place, loop_place, body_place, end_of_proc, first_proc}
use Rattle.text.specs.Kinds.{kind}
use Rattle.text.specs.Text.{words, decimal, write_expr, write_stmt, write_procs, Reads}
use Rattle.text.specs.Signs.{sign_words}
use Rattle.text.proofs.Noting.{number_passed}
use Rattle.signs.specs.Places.{second_place}
use Rattle.signs.specs.Signs.{Located, words_past, locate_expr, locate_stmt, locate_procs, locate_signs}

abbrev pub all_words : List Located → List ℕ
all_words xs = map (λ x. x.word) xs

past_both : (xs ys : List (List ℕ)) (n : ℕ) → words_past (xs ++ ys) n ≡ words_past ys (words_past xs n)
past_both [] ys n = refl
past_both (x ∷ xs) ys n = past_both xs ys (suc n)

-- the words of some signs and then others, where those of the others are known
abbrev Worded : List (List ℕ) → (ℕ → ℕ → List Located → List Located) → Type 0
Worded vs signs = (n at : ℕ) (ws : List (List ℕ)) (rest : List Located) → sign_words (words_past vs n) ws ≡ all_words rest → sign_words n (vs ++ ws) ≡ all_words (signs n at rest)

both_worded : (xs ys : List (List ℕ)) (first second : ℕ → ℕ → List Located → List Located) → Worded xs first → Worded ys second → (n at p : ℕ) (ws : List (List ℕ)) (rest : List Located) →
    sign_words (words_past (xs ++ ys) n) ws ≡ all_words rest → sign_words n ((xs ++ ys) ++ ws) ≡ all_words (first n at (second (words_past xs n) p rest))
both_worded xs ys first second h h' n at p ws rest e =
    ap (sign_words n) (append_assoc xs ys ws) ∙ h n at (ys ++ ws) (second (words_past xs n) p rest) (h' (words_past xs n) p ws rest (ap (λ (k : ℕ). sign_words k ws) (sym (past_both xs ys n)) ∙ e))

two_worded : (a b : Expr) → Worded (write_expr a) (locate_expr a) → Worded (write_expr b) (locate_expr b) → (n at : ℕ) (ws : List (List ℕ)) (rest : List Located) →
    sign_words (words_past (write_expr a ++ write_expr b) n) ws ≡ all_words rest → sign_words n ((write_expr a ++ write_expr b) ++ ws) ≡ all_words (locate_expr a n at (locate_expr b (words_past (write_expr a) n) (second_place a at) rest))
two_worded a b h h' n at ws rest e = both_worded (write_expr a) (write_expr b) (locate_expr a) (locate_expr b) h h' n at (second_place a at) ws rest e

expr_worded : (e : Expr) → Worded (write_expr e) (locate_expr e)
unfolding kind
expr_worded (num i) n at ws rest h = ap (λ (l : List ℕ). n ∷ l) (number_passed (suc n) i ws ∙ h)
expr_worded (loc i) n at ws rest h = ap (λ (l : List ℕ). n ∷ l) (number_passed (suc n) i ws ∙ h)
expr_worded (glob i) n at ws rest h = ap (λ (l : List ℕ). n ∷ l) (number_passed (suc n) i ws ∙ h)
expr_worded (cell e) n at ws rest h = ap (λ (l : List ℕ). n ∷ l) (expr_worded e (suc n) at ws rest h)
expr_worded (add a b) n at ws rest h = ap (λ (l : List ℕ). n ∷ l) (two_worded a b (expr_worded a) (expr_worded b) (suc n) at ws rest h)
expr_worded (sub a b) n at ws rest h = ap (λ (l : List ℕ). n ∷ l) (two_worded a b (expr_worded a) (expr_worded b) (suc n) at ws rest h)
expr_worded (nand a b) n at ws rest h = ap (λ (l : List ℕ). n ∷ l) (two_worded a b (expr_worded a) (expr_worded b) (suc n) at ws rest h)
expr_worded (less a b) n at ws rest h = ap (λ (l : List ℕ). n ∷ l) (two_worded a b (expr_worded a) (expr_worded b) (suc n) at ws rest h)
expr_worded (half a) n at ws rest h = ap (λ (l : List ℕ). n ∷ l) (expr_worded a (suc n) at ws rest h)
expr_worded (call f a) n at ws rest h = ap (λ (l : List ℕ). n ∷ l) (number_passed (suc n) f (write_expr a ++ ws) ∙ expr_worded a (suc (suc n)) at ws rest h)

stmt_worded : (s : Stmt) → Worded (write_stmt s) (locate_stmt s)
unfolding kind
stmt_worded skip n at ws rest h = ap (λ (l : List ℕ). n ∷ l) h
stmt_worded (then s t) n at ws rest h = ap (λ (l : List ℕ). n ∷ l) (both_worded (write_stmt s) (write_stmt t) (locate_stmt s) (locate_stmt t) (stmt_worded s) (stmt_worded t) (suc n) at (end_of_stmt s at) ws rest h)
stmt_worded (setloc i e) n at ws rest h = ap (λ (l : List ℕ). n ∷ l) (number_passed (suc n) i (write_expr e ++ ws) ∙ expr_worded e (suc (suc n)) at ws rest h)
stmt_worded (setglob i e) n at ws rest h = ap (λ (l : List ℕ). n ∷ l) (number_passed (suc n) i (write_expr e ++ ws) ∙ expr_worded e (suc (suc n)) at ws rest h)
stmt_worded (setcell e f) n at ws rest h = ap (λ (l : List ℕ). n ∷ l) (two_worded e f (expr_worded e) (expr_worded f) (suc n) at ws rest h)
stmt_worded (if e s t) n at ws rest h =
    let statements : ℕ → ℕ → List Located → List Located = λ k p r. locate_stmt s k p (locate_stmt t (words_past (write_stmt s) k) (else_place e at) r) in
    ap (λ (l : List ℕ). n ∷ l) (both_worded (write_expr e) (write_stmt s ++ write_stmt t) (locate_expr e) statements (expr_worded e)
    (λ k p vs r x. both_worded (write_stmt s) (write_stmt t) (locate_stmt s) (locate_stmt t) (stmt_worded s) (stmt_worded t) k p (else_place e at) vs r x) (suc n) at (then_place e t at) ws rest h)
stmt_worded (while e s) n at ws rest h = ap (λ (l : List ℕ). n ∷ l) (both_worded (write_expr e) (write_stmt s) (locate_expr e) (locate_stmt s) (expr_worded e) (stmt_worded s) (suc n) at (loop_place e at) ws rest h)
stmt_worded (out e) n at ws rest h = ap (λ (l : List ℕ). n ∷ l) (expr_worded e (suc n) at ws rest h)
stmt_worded (take i) n at ws rest h = ap (λ (l : List ℕ). n ∷ l) (number_passed (suc n) i ws ∙ h)

procs_worded : (ps : List Proc) (n at : ℕ) → sign_words n (write_procs ps) ≡ all_words (locate_procs ps n at)
unfolding kind
procs_worded [] n at = refl
procs_worded (p ∷ ps) n at =
    let next = words_past (write_stmt p.body) (suc (suc n)) in
    ap (λ (l : List ℕ). n ∷ l) (number_passed (suc n) p.locals (write_stmt p.body ++ write_procs ps)
    ∙ stmt_worded p.body (suc (suc n)) (body_place p at) (write_procs ps) (locate_procs ps next (end_of_proc p at)) (procs_worded ps next (end_of_proc p at)))

pub program_worded : (s : List ℕ) (g : Program) → Reads s g → sign_words 0 (words s) ≡ all_words (locate_signs g)
unfolding kind
program_worded s g r =
    let last : List (List ℕ) = write_procs g.procs in
    let third : List (List ℕ) = decimal (length g.procs) ∷ last in
    ap (sign_words 0) r.text ∙ number_passed 1 g.globals (decimal g.cells ∷ third) ∙ number_passed 2 g.cells third ∙ number_passed 3 (length g.procs) last ∙ procs_worded g.procs 4 first_proc
