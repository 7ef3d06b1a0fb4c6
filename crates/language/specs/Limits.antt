-- The limits of a program: how large it may be, and that everything that it names is there.
use Rattle.std.specs.Prelude.{Bool, true, ◌&&◌, List, [], ◌∷◌, ℕ, ◌+◌, ltb, leb, length}
use Rattle.language.specs.Language.{Expr, num, loc, glob, cell, add, sub, nand, less, half, call, Stmt, skip, then, setloc, setglob, setcell, if, while, out, take, Proc, Program}

-- The limits: at most so many globals, cells, procedures (and at least one), further locals, and signs.
abbrev pub most_globals : ℕ
most_globals = 256

abbrev pub most_cells : ℕ
most_cells = 4096

abbrev pub most_procs : ℕ
most_procs = 256

abbrev pub most_locals : ℕ
most_locals = 64

abbrev pub most_signs : ℕ
most_signs = 2000

-- Within l locals (the argument among them), g globals and n procedures: every number is a word, and every local,
-- global and procedure is there.
abbrev pub fits_expr : ℕ → ℕ → ℕ → Expr → Bool
fits_expr l g n (num k) = ltb k 65536
fits_expr l g n (loc i) = ltb i l
fits_expr l g n (glob i) = ltb i g
fits_expr l g n (cell e) = fits_expr l g n e
fits_expr l g n (add a b) = fits_expr l g n a && fits_expr l g n b
fits_expr l g n (sub a b) = fits_expr l g n a && fits_expr l g n b
fits_expr l g n (nand a b) = fits_expr l g n a && fits_expr l g n b
fits_expr l g n (less a b) = fits_expr l g n a && fits_expr l g n b
fits_expr l g n (half a) = fits_expr l g n a
fits_expr l g n (call f e) = ltb f n && fits_expr l g n e

abbrev pub fits_stmt : ℕ → ℕ → ℕ → Stmt → Bool
fits_stmt l g n skip = true
fits_stmt l g n (then s t) = fits_stmt l g n s && fits_stmt l g n t
fits_stmt l g n (setloc i e) = ltb i l && fits_expr l g n e
fits_stmt l g n (setglob i e) = ltb i g && fits_expr l g n e
fits_stmt l g n (setcell e f) = fits_expr l g n e && fits_expr l g n f
fits_stmt l g n (if e s t) = fits_expr l g n e && (fits_stmt l g n s && fits_stmt l g n t)
fits_stmt l g n (while e s) = fits_expr l g n e && fits_stmt l g n s
fits_stmt l g n (out e) = fits_expr l g n e
fits_stmt l g n (take i) = ltb i l

abbrev pub fits_procs : ℕ → ℕ → List Proc → Bool
fits_procs g n [] = true
fits_procs g n (p ∷ ps) = leb p.locals most_locals && (fits_stmt (1 + p.locals) g n p.body && fits_procs g n ps)

-- The signs of a program: each expression, statement and procedure counts one.
abbrev pub signs_expr : Expr → ℕ
signs_expr (num n) = 1
signs_expr (loc i) = 1
signs_expr (glob i) = 1
signs_expr (cell e) = 1 + signs_expr e
signs_expr (add a b) = 1 + (signs_expr a + signs_expr b)
signs_expr (sub a b) = 1 + (signs_expr a + signs_expr b)
signs_expr (nand a b) = 1 + (signs_expr a + signs_expr b)
signs_expr (less a b) = 1 + (signs_expr a + signs_expr b)
signs_expr (half a) = 1 + signs_expr a
signs_expr (call f e) = 1 + signs_expr e

abbrev pub signs_stmt : Stmt → ℕ
signs_stmt skip = 1
signs_stmt (then s t) = 1 + (signs_stmt s + signs_stmt t)
signs_stmt (setloc i e) = 1 + signs_expr e
signs_stmt (setglob i e) = 1 + signs_expr e
signs_stmt (setcell e f) = 1 + (signs_expr e + signs_expr f)
signs_stmt (if e s t) = 1 + (signs_expr e + (signs_stmt s + signs_stmt t))
signs_stmt (while e s) = 1 + (signs_expr e + signs_stmt s)
signs_stmt (out e) = 1 + signs_expr e
signs_stmt (take i) = 1

abbrev pub signs : List Proc → ℕ
signs [] = 0
signs (p ∷ ps) = 1 + (signs_stmt p.body + signs ps)

-- the program is within the limits
abbrev pub fits : Program → Bool
fits g = leb g.globals most_globals && (leb g.cells most_cells && (leb 1 (length g.procs) && leb (length g.procs) most_procs && (leb (signs g.procs) most_signs && fits_procs g.globals (length g.procs) g.procs)))
