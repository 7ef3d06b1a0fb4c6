-- The signs of a program, which are its procedures, statements and expressions, in the order of its text: which word of the
-- text each begins with, and at which place of the image its code begins.
use Rattle.std.specs.Prelude.{◌≡◌, List, [], ◌∷◌, ◌++◌, ℕ, suc, T, drop}
use Rattle.language.specs.Language.{Expr, num, loc, glob, cell, add, sub, nand, less, half, call, Stmt, skip, then, setloc, setglob, setcell, if, while, out, take, Proc, Program}
use Rattle.language.specs.Limits.{fits}
use Rattle.text.specs.Text.{words, decimal, w_proc, write_expr, write_stmt, Reads}
use Rattle.codegen.specs.Codegen.{end_of_stmt, else_place, then_place, loop_place, body_place, end_of_proc, first_proc, code_expr, code_stmt, code_proc, image}
use Rattle.codegen.specs.Instructions.{Instruction, Stands}
use Rattle.signs.specs.Places.{second_place}

pub data Sign : Type 0 where
  procedure : Proc → Sign
  statement : Stmt → Sign
  expression : Expr → Sign

-- the writing of a sign, and its code at a place
abbrev pub writing : Sign → List (List ℕ)
writing (procedure p) = w_proc ∷ decimal p.locals ∷ write_stmt p.body
writing (statement s) = write_stmt s
writing (expression e) = write_expr e

abbrev pub code_of : Program → Sign → ℕ → List Instruction
code_of g (procedure p) at = code_proc g p at []
code_of g (statement s) at = code_stmt g s at []
code_of g (expression e) at = code_expr g e []

-- a sign, how many words of the text stand before it, and the place at which its code begins
pub record Located : Type 0 where
  pub sign : Sign
  pub word : ℕ
  pub place : ℕ

abbrev pub here : Sign → ℕ → ℕ → Located
here x w at = record { sign = x; word = w; place = at }

-- the number of the word after some words that begin at a number
abbrev pub words_past : List (List ℕ) → ℕ → ℕ
words_past [] n = n
words_past (w ∷ ws) n = words_past ws (suc n)

-- The signs of an expression, a statement, the procedures whose writing begins at the word w and whose code at the place
-- 'at'; and then the rest.
abbrev pub locate_expr : Expr → ℕ → ℕ → List Located → List Located
locate_expr (num n) w at rest = here (expression (num n)) w at ∷ rest
locate_expr (loc i) w at rest = here (expression (loc i)) w at ∷ rest
locate_expr (glob i) w at rest = here (expression (glob i)) w at ∷ rest
locate_expr (cell e) w at rest = here (expression (cell e)) w at ∷ locate_expr e (suc w) at rest
locate_expr (add a b) w at rest = here (expression (add a b)) w at ∷ locate_expr a (suc w) at (locate_expr b (words_past (write_expr a) (suc w)) (second_place a at) rest)
locate_expr (sub a b) w at rest = here (expression (sub a b)) w at ∷ locate_expr a (suc w) at (locate_expr b (words_past (write_expr a) (suc w)) (second_place a at) rest)
locate_expr (nand a b) w at rest = here (expression (nand a b)) w at ∷ locate_expr a (suc w) at (locate_expr b (words_past (write_expr a) (suc w)) (second_place a at) rest)
locate_expr (less a b) w at rest = here (expression (less a b)) w at ∷ locate_expr a (suc w) at (locate_expr b (words_past (write_expr a) (suc w)) (second_place a at) rest)
locate_expr (half a) w at rest = here (expression (half a)) w at ∷ locate_expr a (suc w) at rest
locate_expr (call f a) w at rest = here (expression (call f a)) w at ∷ locate_expr a (suc (suc w)) at rest

abbrev pub locate_stmt : Stmt → ℕ → ℕ → List Located → List Located
locate_stmt skip w at rest = here (statement skip) w at ∷ rest
locate_stmt (then s t) w at rest = here (statement (then s t)) w at ∷ locate_stmt s (suc w) at (locate_stmt t (words_past (write_stmt s) (suc w)) (end_of_stmt s at) rest)
locate_stmt (setloc i e) w at rest = here (statement (setloc i e)) w at ∷ locate_expr e (suc (suc w)) at rest
locate_stmt (setglob i e) w at rest = here (statement (setglob i e)) w at ∷ locate_expr e (suc (suc w)) at rest
locate_stmt (setcell e f) w at rest = here (statement (setcell e f)) w at ∷ locate_expr e (suc w) at (locate_expr f (words_past (write_expr e) (suc w)) (second_place e at) rest)
locate_stmt (if e s t) w at rest = here (statement (if e s t)) w at ∷ locate_expr e (suc w) at (locate_stmt s (words_past (write_expr e) (suc w)) (then_place e t at)
    (locate_stmt t (words_past (write_stmt s) (words_past (write_expr e) (suc w))) (else_place e at) rest))
locate_stmt (while e s) w at rest = here (statement (while e s)) w at ∷ locate_expr e (suc w) at (locate_stmt s (words_past (write_expr e) (suc w)) (loop_place e at) rest)
locate_stmt (out e) w at rest = here (statement (out e)) w at ∷ locate_expr e (suc w) at rest
locate_stmt (take i) w at rest = here (statement (take i)) w at ∷ rest

abbrev pub locate_procs : List Proc → ℕ → ℕ → List Located
locate_procs [] w at = []
locate_procs (p ∷ ps) w at = here (procedure p) w at ∷ locate_stmt p.body (suc (suc w)) (body_place p at) (locate_procs ps (words_past (write_stmt p.body) (suc (suc w))) (end_of_proc p at))

-- a program's own four words stand before its procedures
abbrev pub locate_signs : Program → List Located
locate_signs g = locate_procs g.procs 4 first_proc

-- In the text s of the program g, from the sign's word on, stands its writing, and in the image, from its place on, its code.
pub record RightSign (s : List ℕ) (g : Program) (x : Located) : Type 0 where
  pub after : List (List ℕ)
  pub written : drop x.word (words s) ≡ writing x.sign ++ after
  pub stands : Stands (image g) x.place (code_of g x.sign x.place)

abbrev pub RightSigns : List ℕ → Program → List Located → Type 0
RightSigns s g [] = Unit {0}
RightSigns s g (x ∷ xs) = RightSign s g x × RightSigns s g xs

-- Every sign of a program within the limits is right, in every text of it.
abbrev pub AllSignsRight : Type 0
AllSignsRight = (s : List ℕ) (g : Program) → Reads s g → T (fits g) → RightSigns s g (locate_signs g)
