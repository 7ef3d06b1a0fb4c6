-- A program's text: words with blanks between them, in prefix order.
use Rattle.std.specs.Prelude.{◌≡◌, ℕ, ◌+◌, ◌/◌, ◌%◌, Bool, true, cond, ◌&&◌, ◌||◌, T, List, [], ◌∷◌, ◌++◌, length, ◌==◌, nat_lt}
pub use Rattle.language.specs.Limits.{most_globals, most_cells, most_procs, most_locals, most_signs, fits_expr, fits_stmt, fits_procs, signs_expr, signs_stmt, signs, fits}
use Rattle.language.specs.Language.{Expr, num, loc, glob, cell, add, sub, nand, less, half, call, Stmt, skip, then, setloc, setglob, setcell, if, while, out, take, Proc, Program}

-- A text is a list of bytes. Blanks are the bytes 32, 10, 13 and 9; any other byte belongs to a word.
abbrev pub blank : ℕ → Bool
blank c = c == 32 || (c == 10 || (c == 13 || c == 9))

-- a word that has come to its end joins the words after it, unless it is empty
abbrev pub close : List ℕ → List (List ℕ) → List (List ℕ)
close [] ws = ws
close (c ∷ cs) ws = (c ∷ cs) ∷ ws

-- the word that the text begins with, empty at a blank, and the words after it
abbrev pub split : List ℕ → List ℕ × List (List ℕ)
split [] = ([], [])
split (c ∷ cs) = let r = split cs in cond (blank c) ([], close r.0 r.1) (c ∷ r.0, r.1)

-- the words of a text: its longest runs of bytes that are no blanks
abbrev pub words : List ℕ → List (List ℕ)
words s = let r = split s in close r.0 r.1

-- A number below 100,000 in decimal, without a 0 in front of another digit.
abbrev pub digit : ℕ → ℕ
digit n = 48 + n % 10

abbrev pub decimal : ℕ → List ℕ
decimal n = cond (nat_lt n 10) (digit n ∷ [])
    (cond (nat_lt n 100) (digit (n / 10) ∷ digit n ∷ [])
    (cond (nat_lt n 1000) (digit (n / 100) ∷ digit (n / 10) ∷ digit n ∷ [])
    (cond (nat_lt n 10000) (digit (n / 1000) ∷ digit (n / 100) ∷ digit (n / 10) ∷ digit n ∷ [])
    (digit (n / 10000) ∷ digit (n / 1000) ∷ digit (n / 100) ∷ digit (n / 10) ∷ digit n ∷ []))))

-- The words of the language, in ASCII.
abbrev pub w_num : List ℕ
w_num = 110 ∷ 117 ∷ 109 ∷ []

abbrev pub w_loc : List ℕ
w_loc = 108 ∷ 111 ∷ 99 ∷ []

abbrev pub w_glob : List ℕ
w_glob = 103 ∷ 108 ∷ 111 ∷ 98 ∷ []

abbrev pub w_cell : List ℕ
w_cell = 99 ∷ 101 ∷ 108 ∷ 108 ∷ []

abbrev pub w_add : List ℕ
w_add = 97 ∷ 100 ∷ 100 ∷ []

abbrev pub w_sub : List ℕ
w_sub = 115 ∷ 117 ∷ 98 ∷ []

abbrev pub w_nand : List ℕ
w_nand = 110 ∷ 97 ∷ 110 ∷ 100 ∷ []

abbrev pub w_less : List ℕ
w_less = 108 ∷ 101 ∷ 115 ∷ 115 ∷ []

abbrev pub w_half : List ℕ
w_half = 104 ∷ 97 ∷ 108 ∷ 102 ∷ []

abbrev pub w_call : List ℕ
w_call = 99 ∷ 97 ∷ 108 ∷ 108 ∷ []

abbrev pub w_skip : List ℕ
w_skip = 115 ∷ 107 ∷ 105 ∷ 112 ∷ []

abbrev pub w_then : List ℕ
w_then = 116 ∷ 104 ∷ 101 ∷ 110 ∷ []

abbrev pub w_setloc : List ℕ
w_setloc = 115 ∷ 101 ∷ 116 ∷ 108 ∷ 111 ∷ 99 ∷ []

abbrev pub w_setglob : List ℕ
w_setglob = 115 ∷ 101 ∷ 116 ∷ 103 ∷ 108 ∷ 111 ∷ 98 ∷ []

abbrev pub w_setcell : List ℕ
w_setcell = 115 ∷ 101 ∷ 116 ∷ 99 ∷ 101 ∷ 108 ∷ 108 ∷ []

abbrev pub w_if : List ℕ
w_if = 105 ∷ 102 ∷ []

abbrev pub w_while : List ℕ
w_while = 119 ∷ 104 ∷ 105 ∷ 108 ∷ 101 ∷ []

abbrev pub w_out : List ℕ
w_out = 111 ∷ 117 ∷ 116 ∷ []

abbrev pub w_take : List ℕ
w_take = 116 ∷ 97 ∷ 107 ∷ 101 ∷ []

abbrev pub w_program : List ℕ
w_program = 112 ∷ 114 ∷ 111 ∷ 103 ∷ 114 ∷ 97 ∷ 109 ∷ []

abbrev pub w_proc : List ℕ
w_proc = 112 ∷ 114 ∷ 111 ∷ 99 ∷ []

-- The writing of an expression, a statement, the procedures and the program, as a list of words.
abbrev pub write_expr : Expr → List (List ℕ)
write_expr (num n) = w_num ∷ decimal n ∷ []
write_expr (loc i) = w_loc ∷ decimal i ∷ []
write_expr (glob i) = w_glob ∷ decimal i ∷ []
write_expr (cell e) = w_cell ∷ write_expr e
write_expr (add a b) = w_add ∷ (write_expr a ++ write_expr b)
write_expr (sub a b) = w_sub ∷ (write_expr a ++ write_expr b)
write_expr (nand a b) = w_nand ∷ (write_expr a ++ write_expr b)
write_expr (less a b) = w_less ∷ (write_expr a ++ write_expr b)
write_expr (half a) = w_half ∷ write_expr a
write_expr (call f e) = w_call ∷ decimal f ∷ write_expr e

abbrev pub write_stmt : Stmt → List (List ℕ)
write_stmt skip = w_skip ∷ []
write_stmt (then s t) = w_then ∷ (write_stmt s ++ write_stmt t)
write_stmt (setloc i e) = w_setloc ∷ decimal i ∷ write_expr e
write_stmt (setglob i e) = w_setglob ∷ decimal i ∷ write_expr e
write_stmt (setcell e f) = w_setcell ∷ (write_expr e ++ write_expr f)
write_stmt (if e s t) = w_if ∷ (write_expr e ++ (write_stmt s ++ write_stmt t))
write_stmt (while e s) = w_while ∷ (write_expr e ++ write_stmt s)
write_stmt (out e) = w_out ∷ write_expr e
write_stmt (take i) = w_take ∷ decimal i ∷ []

abbrev pub write_procs : List Proc → List (List ℕ)
write_procs [] = []
write_procs (p ∷ ps) = w_proc ∷ decimal p.locals ∷ (write_stmt p.body ++ write_procs ps)

abbrev pub write_program : Program → List (List ℕ)
write_program g = w_program ∷ decimal g.globals ∷ decimal g.cells ∷ decimal (length g.procs) ∷ write_procs g.procs

-- Numbers that a text can write: at most five digits.
abbrev pub writable : ℕ → Bool
writable n = nat_lt n 100000

abbrev pub writable_expr : Expr → Bool
writable_expr (num n) = writable n
writable_expr (loc i) = writable i
writable_expr (glob i) = writable i
writable_expr (cell e) = writable_expr e
writable_expr (add a b) = writable_expr a && writable_expr b
writable_expr (sub a b) = writable_expr a && writable_expr b
writable_expr (nand a b) = writable_expr a && writable_expr b
writable_expr (less a b) = writable_expr a && writable_expr b
writable_expr (half a) = writable_expr a
writable_expr (call f e) = writable f && writable_expr e

abbrev pub writable_stmt : Stmt → Bool
writable_stmt skip = true
writable_stmt (then s t) = writable_stmt s && writable_stmt t
writable_stmt (setloc i e) = writable i && writable_expr e
writable_stmt (setglob i e) = writable i && writable_expr e
writable_stmt (setcell e f) = writable_expr e && writable_expr f
writable_stmt (if e s t) = writable_expr e && (writable_stmt s && writable_stmt t)
writable_stmt (while e s) = writable_expr e && writable_stmt s
writable_stmt (out e) = writable_expr e
writable_stmt (take i) = writable i

abbrev pub writable_procs : List Proc → Bool
writable_procs [] = true
writable_procs (p ∷ ps) = writable p.locals && (writable_stmt p.body && writable_procs ps)

abbrev pub writable_program : Program → Bool
writable_program g = writable g.globals && (writable g.cells && (writable (length g.procs) && writable_procs g.procs))

-- the text s is the writing of the program g
pub record Reads (s : List ℕ) (g : Program) : Type 0 where
  pub text : words s ≡ write_program g
  pub small : T (writable_program g)

-- One text is the writing of at most one program.
abbrev pub OneProgram : Type 0
OneProgram = (s : List ℕ) (g h : Program) → Reads s g → Reads s h → g ≡ h
