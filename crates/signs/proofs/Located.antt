-- The signs of a program in the order of its text: how many they are, and their places.
use mathlib.Core.Path.{◌≡◌, refl, ◌∙◌, ap}
use mathlib.Core.List.{List, [], ◌∷◌, map}
use Prim.Native.Nat.{ℕ, suc, ◌+◌}
use native.Mathlib.Omega.{arith}
use lib.ListN.{length}
use Rattle.language.specs.Language.{Expr, num, loc, glob, cell, add, sub, nand, less, half, call, Stmt, skip, then, setloc, setglob, setcell, if, while, out, take, Proc}
use Rattle.language.specs.Limits.{signs_expr, signs_stmt, signs}
use Rattle.codegen.specs.Codegen.{end_of_stmt, else_place, then_place, loop_place, body_place, end_of_proc}
use Rattle.text.specs.Text.{write_expr, write_stmt}
use Rattle.signs.specs.Places.{second_place, places_expr, places_stmt, places_procs}
use Rattle.signs.specs.Signs.{Located, words_past, locate_expr, locate_stmt, locate_procs}

-- How many signs there are.
count_expr : (e : Expr) (w at : ℕ) (rest : List Located) → length (locate_expr e w at rest) ≡ signs_expr e + length rest
count_expr (num n) w at rest = omega arith
count_expr (loc i) w at rest = omega arith
count_expr (glob i) w at rest = omega arith
count_expr (cell e) w at rest = omega (arith, count_expr e (suc w) at rest)
count_expr (add a b) w at rest = let second = words_past (write_expr a) (suc w) in omega (arith, count_expr a (suc w) at (locate_expr b second (second_place a at) rest), count_expr b second (second_place a at) rest)
count_expr (sub a b) w at rest = let second = words_past (write_expr a) (suc w) in omega (arith, count_expr a (suc w) at (locate_expr b second (second_place a at) rest), count_expr b second (second_place a at) rest)
count_expr (nand a b) w at rest = let second = words_past (write_expr a) (suc w) in omega (arith, count_expr a (suc w) at (locate_expr b second (second_place a at) rest), count_expr b second (second_place a at) rest)
count_expr (less a b) w at rest = let second = words_past (write_expr a) (suc w) in omega (arith, count_expr a (suc w) at (locate_expr b second (second_place a at) rest), count_expr b second (second_place a at) rest)
count_expr (half a) w at rest = omega (arith, count_expr a (suc w) at rest)
count_expr (call f a) w at rest = omega (arith, count_expr a (suc (suc w)) at rest)

count_stmt : (s : Stmt) (w at : ℕ) (rest : List Located) → length (locate_stmt s w at rest) ≡ signs_stmt s + length rest
count_stmt skip w at rest = omega arith
count_stmt (then s t) w at rest = let second = words_past (write_stmt s) (suc w) in omega (arith, count_stmt s (suc w) at (locate_stmt t second (end_of_stmt s at) rest), count_stmt t second (end_of_stmt s at) rest)
count_stmt (setloc i e) w at rest = omega (arith, count_expr e (suc (suc w)) at rest)
count_stmt (setglob i e) w at rest = omega (arith, count_expr e (suc (suc w)) at rest)
count_stmt (setcell e f) w at rest = let second = words_past (write_expr e) (suc w) in omega (arith, count_expr e (suc w) at (locate_expr f second (second_place e at) rest), count_expr f second (second_place e at) rest)
count_stmt (if e s t) w at rest =
    let first = words_past (write_expr e) (suc w) in
    let second = words_past (write_stmt s) first in
    let last : List Located = locate_stmt t second (else_place e at) rest in
    omega (arith, count_expr e (suc w) at (locate_stmt s first (then_place e t at) last), count_stmt s first (then_place e t at) last, count_stmt t second (else_place e at) rest)
count_stmt (while e s) w at rest = let body = words_past (write_expr e) (suc w) in omega (arith, count_expr e (suc w) at (locate_stmt s body (loop_place e at) rest), count_stmt s body (loop_place e at) rest)
count_stmt (out e) w at rest = omega (arith, count_expr e (suc w) at rest)
count_stmt (take i) w at rest = omega arith

pub count_procs : (ps : List Proc) (w at : ℕ) → length (locate_procs ps w at) ≡ signs ps
count_procs [] w at = refl
count_procs (p ∷ ps) w at =
    let next = words_past (write_stmt p.body) (suc (suc w)) in
    omega (arith, count_stmt p.body (suc (suc w)) (body_place p at) (locate_procs ps next (end_of_proc p at)), count_procs ps next (end_of_proc p at))

-- Their places.
abbrev all_places : List Located → List ℕ
all_places xs = map (λ x. x.place) xs

expr_places : (e : Expr) (w at : ℕ) (rest : List Located) → all_places (locate_expr e w at rest) ≡ places_expr e at (all_places rest)
expr_places (num n) w at rest = refl
expr_places (loc i) w at rest = refl
expr_places (glob i) w at rest = refl
expr_places (cell e) w at rest = ap (λ (l : List ℕ). at ∷ l) (expr_places e (suc w) at rest)
expr_places (add a b) w at rest = let second = words_past (write_expr a) (suc w) in ap (λ (l : List ℕ). at ∷ l) (expr_places a (suc w) at (locate_expr b second (second_place a at) rest) ∙ ap (places_expr a at) (expr_places b second (second_place a at) rest))
expr_places (sub a b) w at rest = let second = words_past (write_expr a) (suc w) in ap (λ (l : List ℕ). at ∷ l) (expr_places a (suc w) at (locate_expr b second (second_place a at) rest) ∙ ap (places_expr a at) (expr_places b second (second_place a at) rest))
expr_places (nand a b) w at rest = let second = words_past (write_expr a) (suc w) in ap (λ (l : List ℕ). at ∷ l) (expr_places a (suc w) at (locate_expr b second (second_place a at) rest) ∙ ap (places_expr a at) (expr_places b second (second_place a at) rest))
expr_places (less a b) w at rest = let second = words_past (write_expr a) (suc w) in ap (λ (l : List ℕ). at ∷ l) (expr_places a (suc w) at (locate_expr b second (second_place a at) rest) ∙ ap (places_expr a at) (expr_places b second (second_place a at) rest))
expr_places (half a) w at rest = ap (λ (l : List ℕ). at ∷ l) (expr_places a (suc w) at rest)
expr_places (call f a) w at rest = ap (λ (l : List ℕ). at ∷ l) (expr_places a (suc (suc w)) at rest)

stmt_places : (s : Stmt) (w at : ℕ) (rest : List Located) → all_places (locate_stmt s w at rest) ≡ places_stmt s at (all_places rest)
stmt_places skip w at rest = refl
stmt_places (then s t) w at rest = let second = words_past (write_stmt s) (suc w) in ap (λ (l : List ℕ). at ∷ l) (stmt_places s (suc w) at (locate_stmt t second (end_of_stmt s at) rest) ∙ ap (places_stmt s at) (stmt_places t second (end_of_stmt s at) rest))
stmt_places (setloc i e) w at rest = ap (λ (l : List ℕ). at ∷ l) (expr_places e (suc (suc w)) at rest)
stmt_places (setglob i e) w at rest = ap (λ (l : List ℕ). at ∷ l) (expr_places e (suc (suc w)) at rest)
stmt_places (setcell e f) w at rest = let second = words_past (write_expr e) (suc w) in ap (λ (l : List ℕ). at ∷ l) (expr_places e (suc w) at (locate_expr f second (second_place e at) rest) ∙ ap (places_expr e at) (expr_places f second (second_place e at) rest))
stmt_places (if e s t) w at rest =
    let first = words_past (write_expr e) (suc w) in
    let second = words_past (write_stmt s) first in
    let last : List Located = locate_stmt t second (else_place e at) rest in
    ap (λ (l : List ℕ). at ∷ l) (expr_places e (suc w) at (locate_stmt s first (then_place e t at) last)
    ∙ ap (places_expr e at) (stmt_places s first (then_place e t at) last ∙ ap (places_stmt s (then_place e t at)) (stmt_places t second (else_place e at) rest)))
stmt_places (while e s) w at rest = let body = words_past (write_expr e) (suc w) in ap (λ (l : List ℕ). at ∷ l) (expr_places e (suc w) at (locate_stmt s body (loop_place e at) rest) ∙ ap (places_expr e at) (stmt_places s body (loop_place e at) rest))
stmt_places (out e) w at rest = ap (λ (l : List ℕ). at ∷ l) (expr_places e (suc w) at rest)
stmt_places (take i) w at rest = refl

pub procs_places : (ps : List Proc) (w at : ℕ) → all_places (locate_procs ps w at) ≡ places_procs ps at
procs_places [] w at = refl
procs_places (p ∷ ps) w at =
    let next = words_past (write_stmt p.body) (suc (suc w)) in
    ap (λ (l : List ℕ). at ∷ l) (stmt_places p.body (suc (suc w)) (body_place p at) (locate_procs ps next (end_of_proc p at)) ∙ ap (places_stmt p.body (body_place p at)) (procs_places ps next (end_of_proc p at)))
