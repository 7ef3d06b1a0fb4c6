-- Where the code of each sign begins: of an expression, a statement, a procedure whose code stands at a place, in the order
-- of the text, and then of what comes after it.
use Rattle.std.specs.Prelude.{List, [], ◌∷◌, ℕ}
use Rattle.language.specs.Language.{Expr, num, loc, glob, cell, add, sub, nand, less, half, call, Stmt, skip, then, setloc, setglob, setcell, if, while, out, take, Proc, Program}
use Rattle.codegen.specs.Codegen.{push, end_of_expr, end_of_stmt, else_place, then_place, loop_place, body_place, end_of_proc, first_proc}
use Rattle.codegen.specs.Instructions.{past}

-- where the second operand's code begins
abbrev pub second_place : Expr → ℕ → ℕ
second_place a at = past push (end_of_expr a at)

abbrev pub places_expr : Expr → ℕ → List ℕ → List ℕ
places_expr (num n) at rest = at ∷ rest
places_expr (loc i) at rest = at ∷ rest
places_expr (glob i) at rest = at ∷ rest
places_expr (cell e) at rest = at ∷ places_expr e at rest
places_expr (add a b) at rest = at ∷ places_expr a at (places_expr b (second_place a at) rest)
places_expr (sub a b) at rest = at ∷ places_expr a at (places_expr b (second_place a at) rest)
places_expr (nand a b) at rest = at ∷ places_expr a at (places_expr b (second_place a at) rest)
places_expr (less a b) at rest = at ∷ places_expr a at (places_expr b (second_place a at) rest)
places_expr (half a) at rest = at ∷ places_expr a at rest
places_expr (call f a) at rest = at ∷ places_expr a at rest

abbrev pub places_stmt : Stmt → ℕ → List ℕ → List ℕ
places_stmt skip at rest = at ∷ rest
places_stmt (then s t) at rest = at ∷ places_stmt s at (places_stmt t (end_of_stmt s at) rest)
places_stmt (setloc i e) at rest = at ∷ places_expr e at rest
places_stmt (setglob i e) at rest = at ∷ places_expr e at rest
places_stmt (setcell e f) at rest = at ∷ places_expr e at (places_expr f (second_place e at) rest)
places_stmt (if e s t) at rest = at ∷ places_expr e at (places_stmt s (then_place e t at) (places_stmt t (else_place e at) rest))
places_stmt (while e s) at rest = at ∷ places_expr e at (places_stmt s (loop_place e at) rest)
places_stmt (out e) at rest = at ∷ places_expr e at rest
places_stmt (take i) at rest = at ∷ rest

abbrev pub places_proc : Proc → ℕ → List ℕ → List ℕ
places_proc p at rest = at ∷ places_stmt p.body (body_place p at) rest

abbrev pub places_procs : List Proc → ℕ → List ℕ
places_procs [] at = []
places_procs (p ∷ ps) at = places_proc p at (places_procs ps (end_of_proc p at))

abbrev pub sign_places : Program → List ℕ
sign_places g = places_procs g.procs first_proc
