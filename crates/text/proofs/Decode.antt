-- One text is the writing of at most one program: words are worked off from the last to the first, on stacks of numbers,
-- expressions, statements and procedures. In prefix order a word that is read so finds its parts on the stacks, so the
-- result is a function of the words alone. First the stacks, then what each word does to them, then that the writing
-- of an expression, a statement, procedures and a program puts just that on its stack.
use Rattle.std.proofs.Common.{◌≡◌, ℕ, ◌&&◌, T, List, [], ◌∷◌, ◌++◌, length, Some, None, Option, sym, refl, ap, ◌∙◌, append_assoc, ltb→lt}
use Rattle.words.specs.Words.{front, rest}
use Rattle.words.proofs.Tests.{TLeft, TRight}
use Rattle.language.specs.Language.{Expr, num, loc, glob, cell, add, sub, nand, less, half, call, Stmt, skip, then, setloc, setglob, setcell, if, while, out, take, Proc, Program}
use Rattle.text.specs.declared.kinds.Kind.{Kind}
use Rattle.text.specs.declared.kinds.Kind.TheVariants as K
use Rattle.text.specs.Text.{words, decimal, write_expr, write_stmt, write_procs, writable, writable_expr, writable_stmt, writable_procs, Reads, OneProgram}
use Rattle.text.specs.Kinds.{kind}
use Rattle.text.specs.Numbers.{digits_value}
use Rattle.text.proofs.Decimals.{value_decimal}
use Rattle.text.proofs.Spellings.{kind_decimal}

record Stacks : Type 0 where
  numbers : List ℕ
  exprs : List Expr
  stmts : List Stmt
  procs : List Proc

-- what stands first on a stack, and what is below it
abbrev top_expr : List Expr → Expr
top_expr [] = num 0
top_expr (e ∷ es) = e

abbrev top_stmt : List Stmt → Stmt
top_stmt [] = skip
top_stmt (s ∷ ss) = s

abbrev below : {A : Type 0} → List A → List A
below [] = []
below (x ∷ xs) = xs

abbrev push_number : ℕ → Stacks → Stacks
push_number n x = record { numbers = n ∷ x.numbers; exprs = x.exprs; stmts = x.stmts; procs = x.procs }

abbrev push_expr : Expr → Stacks → Stacks
push_expr e x = record { numbers = x.numbers; exprs = e ∷ x.exprs; stmts = x.stmts; procs = x.procs }

abbrev push_stmt : Stmt → Stacks → Stacks
push_stmt s x = record { numbers = x.numbers; exprs = x.exprs; stmts = s ∷ x.stmts; procs = x.procs }

abbrev push_proc : Proc → Stacks → Stacks
push_proc p x = record { numbers = x.numbers; exprs = x.exprs; stmts = x.stmts; procs = p ∷ x.procs }

-- what is left when a number, an expression, a statement has been taken
abbrev less_number : Stacks → Stacks
less_number x = record { numbers = rest x.numbers; exprs = x.exprs; stmts = x.stmts; procs = x.procs }

abbrev less_expr : Stacks → Stacks
less_expr x = record { numbers = x.numbers; exprs = below x.exprs; stmts = x.stmts; procs = x.procs }

abbrev less_stmt : Stacks → Stacks
less_stmt x = record { numbers = x.numbers; exprs = x.exprs; stmts = below x.stmts; procs = x.procs }

-- the number, the first and the second expression, the first and the second statement on the stacks
abbrev n1 : Stacks → ℕ
n1 x = front x.numbers

abbrev e1 : Stacks → Expr
e1 x = top_expr x.exprs

abbrev e2 : Stacks → Expr
e2 x = top_expr (below x.exprs)

abbrev s1 : Stacks → Stmt
s1 x = top_stmt x.stmts

abbrev s2 : Stacks → Stmt
s2 x = top_stmt (below x.stmts)

-- a word takes its parts from the stacks and puts what it makes of them there
abbrev build : Kind → Stacks → Stacks
build K.Num x = push_expr (num (n1 x)) (less_number x)
build K.Loc x = push_expr (loc (n1 x)) (less_number x)
build K.Glob x = push_expr (glob (n1 x)) (less_number x)
build K.Cell x = push_expr (cell (e1 x)) (less_expr x)
build K.Add x = push_expr (add (e1 x) (e2 x)) (less_expr (less_expr x))
build K.Sub x = push_expr (sub (e1 x) (e2 x)) (less_expr (less_expr x))
build K.Nand x = push_expr (nand (e1 x) (e2 x)) (less_expr (less_expr x))
build K.Less x = push_expr (less (e1 x) (e2 x)) (less_expr (less_expr x))
build K.Half x = push_expr (half (e1 x)) (less_expr x)
build K.Call x = push_expr (call (n1 x) (e1 x)) (less_number (less_expr x))
build K.Skip x = push_stmt skip x
build K.Then x = push_stmt (then (s1 x) (s2 x)) (less_stmt (less_stmt x))
build K.SetLoc x = push_stmt (setloc (n1 x) (e1 x)) (less_number (less_expr x))
build K.SetGlob x = push_stmt (setglob (n1 x) (e1 x)) (less_number (less_expr x))
build K.SetCell x = push_stmt (setcell (e1 x) (e2 x)) (less_expr (less_expr x))
build K.If x = push_stmt (if (e1 x) (s1 x) (s2 x)) (less_expr (less_stmt (less_stmt x)))
build K.While x = push_stmt (while (e1 x) (s1 x)) (less_expr (less_stmt x))
build K.Out x = push_stmt (out (e1 x)) (less_expr x)
build K.Take x = push_stmt (take (n1 x)) (less_number x)
build K.Program x = x
build K.Proc x = push_proc (record { locals = n1 x; body = s1 x }) (less_number (less_stmt x))

abbrev work_off : Option Kind → List ℕ → Stacks → Stacks
work_off None w x = push_number (digits_value 0 w) x
work_off (Some k) w x = build k x

abbrev decode : List (List ℕ) → Stacks
decode [] = record { numbers = []; exprs = []; stmts = []; procs = [] }
decode (w ∷ ws) = work_off (kind w) w (decode ws)

decode_number : (n : ℕ) (ws : List (List ℕ)) → T (writable n) → decode (decimal n ∷ ws) ≡ push_number n (decode ws)
decode_number n ws h = ap (λ k. work_off k (decimal n) (decode ws)) (kind_decimal n) ∙ ap (λ m. push_number m (decode ws)) (value_decimal n (ltb→lt n 100000 h))

-- the writing of an expression puts that expression on its stack
abbrev DecodesExpr : Expr → Type 0
DecodesExpr e = (ws : List (List ℕ)) → T (writable_expr e) → decode (write_expr e ++ ws) ≡ push_expr e (decode ws)

two_exprs : (a b : Expr) → DecodesExpr a → DecodesExpr b → (ws : List (List ℕ)) → T (writable_expr a && writable_expr b) → decode ((write_expr a ++ write_expr b) ++ ws) ≡ push_expr a (push_expr b (decode ws))
two_exprs a b da db ws h = ap decode (append_assoc (write_expr a) (write_expr b) ws) ∙ da (write_expr b ++ ws) (TLeft (writable_expr a) (writable_expr b) h) ∙ ap (push_expr a) (db ws (TRight (writable_expr a) (writable_expr b) h))

number_expr : (n : ℕ) (e : Expr) → DecodesExpr e → (ws : List (List ℕ)) → T (writable n && writable_expr e) → decode (decimal n ∷ (write_expr e ++ ws)) ≡ push_number n (push_expr e (decode ws))
number_expr n e de ws h = decode_number n (write_expr e ++ ws) (TLeft (writable n) (writable_expr e) h) ∙ ap (push_number n) (de ws (TRight (writable n) (writable_expr e) h))

decode_expr : (e : Expr) → DecodesExpr e
unfolding kind
decode_expr (num n) ws h = ap (build K.Num) (decode_number n ws h)
decode_expr (loc n) ws h = ap (build K.Loc) (decode_number n ws h)
decode_expr (glob n) ws h = ap (build K.Glob) (decode_number n ws h)
decode_expr (cell e) ws h = ap (build K.Cell) (decode_expr e ws h)
decode_expr (add a b) ws h = ap (build K.Add) (two_exprs a b (decode_expr a) (decode_expr b) ws h)
decode_expr (sub a b) ws h = ap (build K.Sub) (two_exprs a b (decode_expr a) (decode_expr b) ws h)
decode_expr (nand a b) ws h = ap (build K.Nand) (two_exprs a b (decode_expr a) (decode_expr b) ws h)
decode_expr (less a b) ws h = ap (build K.Less) (two_exprs a b (decode_expr a) (decode_expr b) ws h)
decode_expr (half e) ws h = ap (build K.Half) (decode_expr e ws h)
decode_expr (call n e) ws h = ap (build K.Call) (number_expr n e (decode_expr e) ws h)

-- the writing of a statement puts that statement on its stack
abbrev DecodesStmt : Stmt → Type 0
DecodesStmt s = (ws : List (List ℕ)) → T (writable_stmt s) → decode (write_stmt s ++ ws) ≡ push_stmt s (decode ws)

two_stmts : (a b : Stmt) → DecodesStmt a → DecodesStmt b → (ws : List (List ℕ)) → T (writable_stmt a && writable_stmt b) → decode ((write_stmt a ++ write_stmt b) ++ ws) ≡ push_stmt a (push_stmt b (decode ws))
two_stmts a b da db ws h = ap decode (append_assoc (write_stmt a) (write_stmt b) ws) ∙ da (write_stmt b ++ ws) (TLeft (writable_stmt a) (writable_stmt b) h) ∙ ap (push_stmt a) (db ws (TRight (writable_stmt a) (writable_stmt b) h))

decode_stmt : (s : Stmt) → DecodesStmt s
unfolding kind
decode_stmt skip ws h = refl
decode_stmt (then a b) ws h = ap (build K.Then) (two_stmts a b (decode_stmt a) (decode_stmt b) ws h)
decode_stmt (setloc i e) ws h = ap (build K.SetLoc) (number_expr i e (decode_expr e) ws h)
decode_stmt (setglob i e) ws h = ap (build K.SetGlob) (number_expr i e (decode_expr e) ws h)
decode_stmt (setcell a b) ws h = ap (build K.SetCell) (two_exprs a b (decode_expr a) (decode_expr b) ws h)
decode_stmt (if e a b) ws h = ap (build K.If) (ap decode (append_assoc (write_expr e) (write_stmt a ++ write_stmt b) ws)
    ∙ decode_expr e ((write_stmt a ++ write_stmt b) ++ ws) (TLeft (writable_expr e) (writable_stmt a && writable_stmt b) h)
    ∙ ap (push_expr e) (two_stmts a b (decode_stmt a) (decode_stmt b) ws (TRight (writable_expr e) (writable_stmt a && writable_stmt b) h)))
decode_stmt (while e a) ws h = ap (build K.While) (ap decode (append_assoc (write_expr e) (write_stmt a) ws)
    ∙ decode_expr e (write_stmt a ++ ws) (TLeft (writable_expr e) (writable_stmt a) h)
    ∙ ap (push_expr e) (decode_stmt a ws (TRight (writable_expr e) (writable_stmt a) h)))
decode_stmt (out e) ws h = ap (build K.Out) (decode_expr e ws h)
decode_stmt (take i) ws h = ap (build K.Take) (decode_number i ws h)

decode_procs : (ps : List Proc) → T (writable_procs ps) → decode (write_procs ps) ≡ record { numbers = []; exprs = []; stmts = []; procs = ps }
unfolding kind
decode_procs [] h = refl
decode_procs (p ∷ ps) h =
    let n = writable p.locals in let b = writable_stmt p.body in let more = writable_procs ps in
    let h1 : T (b && more) = TRight n (b && more) h in
    ap (build K.Proc) (decode_number p.locals (write_stmt p.body ++ write_procs ps) (TLeft n (b && more) h)
    ∙ ap (push_number p.locals) (decode_stmt p.body (write_procs ps) (TLeft b more h1)
    ∙ ap (push_stmt p.body) (decode_procs ps (TRight b more h1))))

-- the program that is on the stacks in the end
abbrev program_on : Stacks → Program
program_on x = record { globals = front x.numbers; cells = front (rest x.numbers); procs = x.procs }

decode_program : (s : List ℕ) (g : Program) → Reads s g → program_on (decode (words s)) ≡ g
unfolding kind
decode_program s g r =
    let b0 = writable g.globals in let b1 = writable g.cells in let b2 = writable (length g.procs) in let b3 = writable_procs g.procs in
    let h1 : T (b1 && (b2 && b3)) = TRight b0 (b1 && (b2 && b3)) r.small in
    let h2 : T (b2 && b3) = TRight b1 (b2 && b3) h1 in
    ap (λ ws. program_on (decode ws)) r.text
    ∙ ap program_on (decode_number g.globals (decimal g.cells ∷ decimal (length g.procs) ∷ write_procs g.procs) (TLeft b0 (b1 && (b2 && b3)) r.small)
    ∙ ap (push_number g.globals) (decode_number g.cells (decimal (length g.procs) ∷ write_procs g.procs) (TLeft b1 (b2 && b3) h1)
    ∙ ap (push_number g.cells) (decode_number (length g.procs) (write_procs g.procs) (TLeft b2 b3 h2)
    ∙ ap (push_number (length g.procs)) (decode_procs g.procs (TRight b2 b3 h2)))))

pub one_program : OneProgram
one_program s g h r q = sym (decode_program s g r) ∙ decode_program s h q
