-- The bare nodes of an expression, a statement and procedures, in a row, are those that their writing gives; and there are
-- as many as signs.
use Rattle.std.proofs.Common.{◌≡◌, ℕ, suc, ◌+◌, ◌<◌, ◌≤◌, true, ◌&&◌, T, ltb, leb, List, [], ◌∷◌, ◌++◌, length, sym, refl, ap, ◌∙◌, append_assoc, mod-eq_of_lt, arith, length-append}
use Rattle.std.proofs.lemmas.Bool.{ltb-true, leb-true, and_parts}
use Rattle.words.proofs.Tests.{TLeft, TRight}
use Rattle.language.specs.Language.{Expr, num, loc, glob, cell, add, sub, nand, less, half, call, Stmt, skip, then, setloc, setglob, setcell, if, while, out, take, Proc}
use Rattle.language.specs.declared.nodes.Node.{Node}
use Rattle.language.specs.declared.nodes.Node.TheVariants as N
use Rattle.text.specs.declared.kinds.Kind.{Kind}
use Rattle.text.specs.declared.kinds.Kind.TheVariants as K
use Rattle.text.specs.Text.{decimal, write_expr, write_stmt, write_procs, writable, writable_expr, writable_stmt, writable_procs, fits_expr, fits_stmt, fits_procs, signs_expr, signs_stmt, most_locals}
use Rattle.text.specs.Kinds.{kind}
use Rattle.text.specs.Shapes.{shape}
use Rattle.text.specs.Bare.{bare, numbered}
use Rattle.text.specs.Filling.{in_front, bare_nodes}
use Rattle.text.proofs.Decimals.{number_of_decimal}
use Rattle.text.proofs.Fillings.{bare_nodes_number}

abbrev pub row_expr : Expr → List Node
row_expr (num n) = N.Num n ∷ []
row_expr (loc n) = N.Loc n ∷ []
row_expr (glob n) = N.Glob n ∷ []
row_expr (cell e) = N.Cell 0 ∷ row_expr e
row_expr (add a b) = N.Add 0 0 ∷ (row_expr a ++ row_expr b)
row_expr (sub a b) = N.Sub 0 0 ∷ (row_expr a ++ row_expr b)
row_expr (nand a b) = N.Nand 0 0 ∷ (row_expr a ++ row_expr b)
row_expr (less a b) = N.Less 0 0 ∷ (row_expr a ++ row_expr b)
row_expr (half e) = N.Half 0 ∷ row_expr e
row_expr (call f e) = N.Call f 0 ∷ row_expr e

abbrev pub row_stmt : Stmt → List Node
row_stmt skip = N.Skip ∷ []
row_stmt (then a b) = N.Then 0 0 ∷ (row_stmt a ++ row_stmt b)
row_stmt (setloc i e) = N.SetLoc i 0 ∷ row_expr e
row_stmt (setglob i e) = N.SetGlob i 0 ∷ row_expr e
row_stmt (setcell a b) = N.SetCell 0 0 ∷ (row_expr a ++ row_expr b)
row_stmt (if e a b) = N.If 0 0 0 ∷ (row_expr e ++ (row_stmt a ++ row_stmt b))
row_stmt (while e a) = N.While 0 0 ∷ (row_expr e ++ row_stmt a)
row_stmt (out e) = N.Out 0 ∷ row_expr e
row_stmt (take i) = N.Take i ∷ []

abbrev pub row_procs : List Proc → List Node
row_procs [] = []
row_procs (p ∷ ps) = N.Proc p.locals 0 0 ∷ (row_stmt p.body ++ row_procs ps)

-- as many nodes as signs
two_lengths : (a b : List Node) (m n : ℕ) → length a ≡ m → length b ≡ n → suc (length (a ++ b)) ≡ 1 + (m + n)
two_lengths a b m n p q = omega (arith, length-append a b, p, q)

one_length : (a : List Node) (m : ℕ) → length a ≡ m → suc (length a) ≡ 1 + m
one_length a m p = omega (arith, p)

pub length_expr : (e : Expr) → length (row_expr e) ≡ signs_expr e
length_expr (num n) = refl
length_expr (loc n) = refl
length_expr (glob n) = refl
length_expr (cell e) = one_length _ _ (length_expr e)
length_expr (half e) = one_length _ _ (length_expr e)
length_expr (call f e) = one_length _ _ (length_expr e)
length_expr (add a b) = two_lengths _ _ _ _ (length_expr a) (length_expr b)
length_expr (sub a b) = two_lengths _ _ _ _ (length_expr a) (length_expr b)
length_expr (nand a b) = two_lengths _ _ _ _ (length_expr a) (length_expr b)
length_expr (less a b) = two_lengths _ _ _ _ (length_expr a) (length_expr b)

pub length_stmt : (s : Stmt) → length (row_stmt s) ≡ signs_stmt s
length_stmt skip = refl
length_stmt (take i) = refl
length_stmt (then a b) = two_lengths _ _ _ _ (length_stmt a) (length_stmt b)
length_stmt (setloc i e) = one_length _ _ (length_expr e)
length_stmt (setglob i e) = one_length _ _ (length_expr e)
length_stmt (setcell a b) = two_lengths _ _ _ _ (length_expr a) (length_expr b)
length_stmt (if e a b) = two_lengths _ _ _ _ (length_expr e) (omega (arith, length-append (row_stmt a) (row_stmt b), length_stmt a, length_stmt b))
length_stmt (while e a) = two_lengths _ _ _ _ (length_expr e) (length_stmt a)
length_stmt (out e) = one_length _ _ (length_expr e)

-- the nodes of words, in short
abbrev nodes_of : List (List ℕ) → List Node
nodes_of ws = (bare_nodes ws).1

-- a word of a kind in front of words
abbrev kind_then : Kind → ℕ × List Node → List Node
kind_then k x = in_front (shape k).role (numbered (bare k) x.0) x.1

-- a number that is a word
number_fits : (i : ℕ) (ws : List (List ℕ)) → T (writable i) → i < 65536 → bare_nodes (decimal i ∷ ws) ≡ (i, nodes_of ws)
number_fits i ws h b = bare_nodes_number (decimal i) i ws (number_of_decimal i h) ∙ ap (λ (m : ℕ). (m, nodes_of ws)) (mod-eq_of_lt b)

-- within l locals, g globals and n procedures, all of them words
module _ (l g n : ℕ) (bl : l ≤ 65536) (bg : g ≤ 65536) (bn : n ≤ 65536) where
  abbrev RowExpr : Expr → Type 0
  RowExpr e = (ws : List (List ℕ)) → T (writable_expr e) → fits_expr l g n e ≡ true → nodes_of (write_expr e ++ ws) ≡ row_expr e ++ nodes_of ws

  abbrev RowStmt : Stmt → Type 0
  RowStmt s = (ws : List (List ℕ)) → T (writable_stmt s) → fits_stmt l g n s ≡ true → nodes_of (write_stmt s ++ ws) ≡ row_stmt s ++ nodes_of ws

  two_exprs : (a b : Expr) → RowExpr a → RowExpr b → (ws : List (List ℕ)) → T (writable_expr a && writable_expr b) → fits_expr l g n a && fits_expr l g n b ≡ true → nodes_of ((write_expr a ++ write_expr b) ++ ws) ≡ (row_expr a ++ row_expr b) ++ nodes_of ws
  two_exprs a b ra rb ws h k =
      let q = and_parts (fits_expr l g n a) (fits_expr l g n b) k in
      ap nodes_of (append_assoc (write_expr a) (write_expr b) ws) ∙ ra (write_expr b ++ ws) (TLeft (writable_expr a) (writable_expr b) h) q.0 ∙ ap (λ x. row_expr a ++ x) (rb ws (TRight (writable_expr a) (writable_expr b) h) q.1) ∙ sym (append_assoc (row_expr a) (row_expr b) (nodes_of ws))

  -- a kind, a number of its own, and an expression
  number_expr : (kd : Kind) (i m : ℕ) (e : Expr) (d : ℕ → Node) → RowExpr e → ((x : List Node) → kind_then kd (i, x) ≡ d i ∷ x) → (ws : List (List ℕ)) → T (writable i && writable_expr e) → m ≤ 65536 → ltb i m && fits_expr l g n e ≡ true → kind_then kd (bare_nodes (decimal i ∷ (write_expr e ++ ws))) ≡ (d i ∷ row_expr e) ++ nodes_of ws
  number_expr kd i m e d re mk ws h bm k =
      let q = and_parts (ltb i m) (fits_expr l g n e) k in
      ap (kind_then kd) (number_fits i (write_expr e ++ ws) (TLeft (writable i) (writable_expr e) h) (omega (arith, ltb-true i m q.0))) ∙ mk (nodes_of (write_expr e ++ ws)) ∙ ap (λ x. d i ∷ x) (re ws (TRight (writable i) (writable_expr e) h) q.1)

  rows_expr : (e : Expr) → RowExpr e
  unfolding kind
  rows_expr (num i) ws h k = ap (kind_then K.Num) (number_fits i ws h (ltb-true i 65536 k))
  rows_expr (loc i) ws h k = ap (kind_then K.Loc) (number_fits i ws h (omega (arith, ltb-true i l k)))
  rows_expr (glob i) ws h k = ap (kind_then K.Glob) (number_fits i ws h (omega (arith, ltb-true i g k)))
  rows_expr (cell e) ws h k = ap (λ x. N.Cell 0 ∷ x) (rows_expr e ws h k)
  rows_expr (add a b) ws h k = ap (λ x. N.Add 0 0 ∷ x) (two_exprs a b (rows_expr a) (rows_expr b) ws h k)
  rows_expr (sub a b) ws h k = ap (λ x. N.Sub 0 0 ∷ x) (two_exprs a b (rows_expr a) (rows_expr b) ws h k)
  rows_expr (nand a b) ws h k = ap (λ x. N.Nand 0 0 ∷ x) (two_exprs a b (rows_expr a) (rows_expr b) ws h k)
  rows_expr (less a b) ws h k = ap (λ x. N.Less 0 0 ∷ x) (two_exprs a b (rows_expr a) (rows_expr b) ws h k)
  rows_expr (half e) ws h k = ap (λ x. N.Half 0 ∷ x) (rows_expr e ws h k)
  rows_expr (call f e) ws h k = number_expr K.Call f n e (λ i. N.Call i 0) (rows_expr e) (λ x. refl) ws h bn k

  two_stmts : (a b : Stmt) → RowStmt a → RowStmt b → (ws : List (List ℕ)) → T (writable_stmt a && writable_stmt b) → fits_stmt l g n a && fits_stmt l g n b ≡ true → nodes_of ((write_stmt a ++ write_stmt b) ++ ws) ≡ (row_stmt a ++ row_stmt b) ++ nodes_of ws
  two_stmts a b ra rb ws h k =
      let q = and_parts (fits_stmt l g n a) (fits_stmt l g n b) k in
      ap nodes_of (append_assoc (write_stmt a) (write_stmt b) ws) ∙ ra (write_stmt b ++ ws) (TLeft (writable_stmt a) (writable_stmt b) h) q.0 ∙ ap (λ x. row_stmt a ++ x) (rb ws (TRight (writable_stmt a) (writable_stmt b) h) q.1) ∙ sym (append_assoc (row_stmt a) (row_stmt b) (nodes_of ws))

  rows_stmt : (s : Stmt) → RowStmt s
  unfolding kind
  rows_stmt skip ws h k = refl
  rows_stmt (then a b) ws h k = ap (λ x. N.Then 0 0 ∷ x) (two_stmts a b (rows_stmt a) (rows_stmt b) ws h k)
  rows_stmt (setloc i e) ws h k = number_expr K.SetLoc i l e (λ j. N.SetLoc j 0) (rows_expr e) (λ x. refl) ws h bl k
  rows_stmt (setglob i e) ws h k = number_expr K.SetGlob i g e (λ j. N.SetGlob j 0) (rows_expr e) (λ x. refl) ws h bg k
  rows_stmt (setcell a b) ws h k = ap (λ x. N.SetCell 0 0 ∷ x) (two_exprs a b (rows_expr a) (rows_expr b) ws h k)
  rows_stmt (if e a b) ws h k =
      let q = and_parts (fits_expr l g n e) (fits_stmt l g n a && fits_stmt l g n b) k in
      ap (λ x. N.If 0 0 0 ∷ x) (ap nodes_of (append_assoc (write_expr e) (write_stmt a ++ write_stmt b) ws)
      ∙ rows_expr e ((write_stmt a ++ write_stmt b) ++ ws) (TLeft (writable_expr e) (writable_stmt a && writable_stmt b) h) q.0
      ∙ ap (λ x. row_expr e ++ x) (two_stmts a b (rows_stmt a) (rows_stmt b) ws (TRight (writable_expr e) (writable_stmt a && writable_stmt b) h) q.1)
      ∙ sym (append_assoc (row_expr e) (row_stmt a ++ row_stmt b) (nodes_of ws)))
  rows_stmt (while e a) ws h k =
      let q = and_parts (fits_expr l g n e) (fits_stmt l g n a) k in
      ap (λ x. N.While 0 0 ∷ x) (ap nodes_of (append_assoc (write_expr e) (write_stmt a) ws)
      ∙ rows_expr e (write_stmt a ++ ws) (TLeft (writable_expr e) (writable_stmt a) h) q.0
      ∙ ap (λ x. row_expr e ++ x) (rows_stmt a ws (TRight (writable_expr e) (writable_stmt a) h) q.1)
      ∙ sym (append_assoc (row_expr e) (row_stmt a) (nodes_of ws)))
  rows_stmt (out e) ws h k = ap (λ x. N.Out 0 ∷ x) (rows_expr e ws h k)
  rows_stmt (take i) ws h k = ap (kind_then K.Take) (number_fits i ws h (omega (arith, ltb-true i l k)))

pub rows_procs : (g n : ℕ) → g ≤ 65536 → n ≤ 65536 → (ps : List Proc) → T (writable_procs ps) → fits_procs g n ps ≡ true → nodes_of (write_procs ps) ≡ row_procs ps
unfolding kind
rows_procs g n bg bn [] h k = refl
rows_procs g n bg bn (p ∷ ps) h k =
    let w0 = writable p.locals in let w1 = writable_stmt p.body in let w2 = writable_procs ps in
    let f1 = fits_stmt (1 + p.locals) g n p.body in let f2 = fits_procs g n ps in
    let q = and_parts (leb p.locals most_locals) (f1 && f2) k in
    let r = and_parts f1 f2 q.1 in
    let h1 = TRight w0 (w1 && w2) h in
    let b : p.locals ≤ most_locals = leb-true p.locals most_locals q.0 in
    ap (kind_then K.Proc) (number_fits p.locals (write_stmt p.body ++ write_procs ps) (TLeft w0 (w1 && w2) h) (omega arith))
    ∙ ap (λ x. N.Proc p.locals 0 0 ∷ x) (rows_stmt (1 + p.locals) g n (omega arith) bg bn p.body (write_procs ps) (TLeft w1 w2 h1) r.0
    ∙ ap (λ x. row_stmt p.body ++ x) (rows_procs g n bg bn ps (TRight w1 w2 h1) r.1))
