-- Each sign's writing stands in the text from its word on, and its code in the image from its place on.
use mathlib.Core.Path.{◌≡◌, refl, ◌∙◌, ap, subst}
use mathlib.Core.List.{List, [], ◌∷◌, ◌++◌, append_assoc}
use Prim.Native.Nat.{ℕ, zero, suc}
use lib.Dec.{T}
use lib.ListN.{drop}
use Rattle.language.specs.Language.{Expr, num, loc, glob, cell, add, sub, nand, less, half, call, Stmt, skip, then, setloc, setglob, setcell, if, while, out, take, Proc, Program}
use Rattle.language.specs.Limits.{fits}
use Rattle.codegen.specs.Codegen.{push, pop, go_to, go_unless_zero, add_code, sub_code, nand_code, less_code, load_cell, halve, store_local, store_global, store_cell, put_out, end_of_expr, end_of_stmt, else_place, then_place, loop_place, leave_frame, body_place, end_of_proc, first_proc, start_code, entry, code_expr, code_stmt, code_proc, code_procs, image}
use Rattle.codegen.specs.Instructions.{Instruction, Stands}
use Rattle.codegen.proofs.Rows.{stands_front, stands_past}
use Rattle.codegen.proofs.Behind.{behind_expr, behind_stmt, if_stands, while_stands}
use Rattle.codegen.proofs.Procs.{proc_stands}
use Rattle.codegen.proofs.Splits.{splits_expr, splits_stmt, splits_proc}
use Rattle.codegen.proofs.Limits.{within_limits}
use Rattle.codegen.proofs.Images.{code_stands}
use Rattle.text.specs.Text.{words, write_expr, write_stmt, write_procs, Reads}
use Rattle.signs.specs.Places.{second_place}
use Rattle.signs.specs.Signs.{Located, expression, statement, here, words_past, locate_expr, locate_stmt, locate_procs, locate_signs, RightSign, RightSigns}

abbrev Text : Type 0
Text = List (List ℕ)

-- Words behind a word, and behind some.
drop_one : (vs : Text) (n : ℕ) → drop (suc n) vs ≡ drop 1 (drop n vs)
drop_one [] zero = refl
drop_one [] (suc n) = refl
drop_one (v ∷ vs) zero = refl
drop_one (v ∷ vs) (suc n) = drop_one vs n

behind_word : (vs : Text) (n : ℕ) (v : List ℕ) (ws : Text) → drop n vs ≡ v ∷ ws → drop (suc n) vs ≡ ws
behind_word vs n v ws e = drop_one vs n ∙ ap (drop 1) e

behind_words : (vs : Text) (n : ℕ) (xs ws : Text) → drop n vs ≡ xs ++ ws → drop (words_past xs n) vs ≡ ws
behind_words vs n [] ws e = e
behind_words vs n (x ∷ xs) ws e = behind_words vs (suc n) xs ws (behind_word vs n x (xs ++ ws) e)

-- For the text s of the program g and its image.
module _ (s : List ℕ) (g : Program) where
  expr_here : (e : Expr) (w at : ℕ) (ws : Text) (r : List Instruction) → drop w (words s) ≡ write_expr e ++ ws → Stands (image g) at (code_expr g e r) → RightSign s g (here (expression e) w at)
  expr_here e w at ws r h st = record { after = ws; written = h; stands = stands_front (image g) (code_expr g e []) r at (subst (λ (is : List Instruction). Stands (image g) at is) (splits_expr g e r) st) }

  stmt_here : (c : Stmt) (w at : ℕ) (ws : Text) (r : List Instruction) → drop w (words s) ≡ write_stmt c ++ ws → Stands (image g) at (code_stmt g c at r) → RightSign s g (here (statement c) w at)
  stmt_here c w at ws r h st = record { after = ws; written = h; stands = stands_front (image g) (code_stmt g c at []) r at (subst (λ (is : List Instruction). Stands (image g) at is) (splits_stmt g c at r) st) }

  -- the signs of an expression that stands somewhere with others behind it
  abbrev RightExpr : Expr → Type 0
  RightExpr e = (w at : ℕ) (ws : Text) (r : List Instruction) (rest : List Located) → drop w (words s) ≡ write_expr e ++ ws → Stands (image g) at (code_expr g e r) → RightSigns s g rest → RightSigns s g (locate_expr e w at rest)

  right_two : (a b : Expr) → RightExpr a → RightExpr b → (w at : ℕ) (ws : Text) (r : List Instruction) (rest : List Located) → drop w (words s) ≡ (write_expr a ++ write_expr b) ++ ws →
      Stands (image g) at (code_expr g a (push ++ code_expr g b r)) → RightSigns s g rest → RightSigns s g (locate_expr a w at (locate_expr b (words_past (write_expr a) w) (second_place a at) rest))
  right_two a b ra rb w at ws r rest h st right =
      let second : List Instruction = code_expr g b r in
      let h' : drop w (words s) ≡ write_expr a ++ (write_expr b ++ ws) = h ∙ append_assoc (write_expr a) (write_expr b) ws in
      ra w at (write_expr b ++ ws) (push ++ second) (locate_expr b (words_past (write_expr a) w) (second_place a at) rest) h' st
      (rb (words_past (write_expr a) w) (second_place a at) ws r rest (behind_words (words s) w (write_expr a) (write_expr b ++ ws) h')
      (stands_past (image g) push second (end_of_expr a at) (behind_expr (image g) g a (push ++ second) at st)) right)

  right_expr : (e : Expr) → RightExpr e
  right_expr (num n) w at ws r rest h st right = (expr_here (num n) w at ws r h st, right)
  right_expr (loc i) w at ws r rest h st right = (expr_here (loc i) w at ws r h st, right)
  right_expr (glob i) w at ws r rest h st right = (expr_here (glob i) w at ws r h st, right)
  right_expr (cell e) w at ws r rest h st right = (expr_here (cell e) w at ws r h st, right_expr e (suc w) at ws (load_cell g.cells ++ r) rest (behind_word (words s) w _ _ h) st right)
  right_expr (add a b) w at ws r rest h st right = (expr_here (add a b) w at ws r h st, right_two a b (right_expr a) (right_expr b) (suc w) at ws (pop ++ (add_code ++ r)) rest (behind_word (words s) w _ _ h) st right)
  right_expr (sub a b) w at ws r rest h st right = (expr_here (sub a b) w at ws r h st, right_two a b (right_expr a) (right_expr b) (suc w) at ws (pop ++ (sub_code ++ r)) rest (behind_word (words s) w _ _ h) st right)
  right_expr (nand a b) w at ws r rest h st right = (expr_here (nand a b) w at ws r h st, right_two a b (right_expr a) (right_expr b) (suc w) at ws (pop ++ (nand_code ++ r)) rest (behind_word (words s) w _ _ h) st right)
  right_expr (less a b) w at ws r rest h st right = (expr_here (less a b) w at ws r h st, right_two a b (right_expr a) (right_expr b) (suc w) at ws (pop ++ (less_code ++ r)) rest (behind_word (words s) w _ _ h) st right)
  right_expr (half a) w at ws r rest h st right = (expr_here (half a) w at ws r h st, right_expr a (suc w) at ws (halve ++ r) rest (behind_word (words s) w _ _ h) st right)
  right_expr (call f a) w at ws r rest h st right = (expr_here (call f a) w at ws r h st, right_expr a (suc (suc w)) at ws (go_to (entry g f) ++ r) rest (behind_word (words s) (suc w) _ _ (behind_word (words s) w _ _ h)) st right)

  right_stmt : (c : Stmt) (w at : ℕ) (ws : Text) (r : List Instruction) (rest : List Located) → drop w (words s) ≡ write_stmt c ++ ws → Stands (image g) at (code_stmt g c at r) → RightSigns s g rest → RightSigns s g (locate_stmt c w at rest)
  right_stmt skip w at ws r rest h st right = (stmt_here skip w at ws r h st, right)
  right_stmt (then a b) w at ws r rest h st right =
      let next : drop (suc w) (words s) ≡ write_stmt a ++ (write_stmt b ++ ws) = behind_word (words s) w _ _ h ∙ append_assoc (write_stmt a) (write_stmt b) ws in
      let second : List Instruction = code_stmt g b (end_of_stmt a at) r in
      let place : ℕ = words_past (write_stmt a) (suc w) in (
        stmt_here (then a b) w at ws r h st,
        right_stmt a (suc w) at (write_stmt b ++ ws) second (locate_stmt b place (end_of_stmt a at) rest) next st
            (right_stmt b place (end_of_stmt a at) ws r rest (behind_words (words s) (suc w) (write_stmt a) (write_stmt b ++ ws) next) (behind_stmt (image g) g a second at st) right),
      )
  right_stmt (setloc i e) w at ws r rest h st right = (stmt_here (setloc i e) w at ws r h st, right_expr e (suc (suc w)) at ws (store_local i ++ r) rest (behind_word (words s) (suc w) _ _ (behind_word (words s) w _ _ h)) st right)
  right_stmt (setglob i e) w at ws r rest h st right = (stmt_here (setglob i e) w at ws r h st, right_expr e (suc (suc w)) at ws (store_global i ++ r) rest (behind_word (words s) (suc w) _ _ (behind_word (words s) w _ _ h)) st right)
  right_stmt (setcell e f) w at ws r rest h st right = (stmt_here (setcell e f) w at ws r h st, right_two e f (right_expr e) (right_expr f) (suc w) at ws (store_cell g.cells ++ r) rest (behind_word (words s) w _ _ h) st right)
  right_stmt (if e a b) w at ws r rest h st right =
      let next : drop (suc w) (words s) ≡ write_expr e ++ ((write_stmt a ++ write_stmt b) ++ ws) = behind_word (words s) w _ _ h ∙ append_assoc (write_expr e) (write_stmt a ++ write_stmt b) ws in
      let first : ℕ = words_past (write_expr e) (suc w) in
      let at_first : drop first (words s) ≡ write_stmt a ++ (write_stmt b ++ ws) = behind_words (words s) (suc w) (write_expr e) ((write_stmt a ++ write_stmt b) ++ ws) next ∙ append_assoc (write_stmt a) (write_stmt b) ws in
      let second : ℕ = words_past (write_stmt a) first in
      let at_second = behind_words (words s) first (write_stmt a) (write_stmt b ++ ws) at_first in
      let parts = if_stands (image g) g e a b r at st in
      let last : List Located = locate_stmt b second (else_place e at) rest in
      let way_on : List Instruction = go_to (end_of_stmt (if e a b) at) ++ code_stmt g a (then_place e b at) r in (
        stmt_here (if e a b) w at ws r h st,
        right_expr e (suc w) at ((write_stmt a ++ write_stmt b) ++ ws) (go_unless_zero (then_place e b at) ++ code_stmt g b (else_place e at) way_on) (locate_stmt a first (then_place e b at) last) next st
            (right_stmt a first (then_place e b at) (write_stmt b ++ ws) r last at_first parts.first
            (right_stmt b second (else_place e at) ws way_on rest at_second parts.second right)),
      )
  right_stmt (while e a) w at ws r rest h st right =
      let next : drop (suc w) (words s) ≡ write_expr e ++ (write_stmt a ++ ws) = behind_word (words s) w _ _ h ∙ append_assoc (write_expr e) (write_stmt a) ws in
      let body : ℕ = words_past (write_expr e) (suc w) in
      let parts = while_stands (image g) g e a r at st in (
        stmt_here (while e a) w at ws r h st,
        right_expr e (suc w) at (write_stmt a ++ ws) (go_unless_zero (loop_place e at) ++ (go_to (end_of_stmt (while e a) at) ++ code_stmt g a (loop_place e at) (go_to at ++ r))) (locate_stmt a body (loop_place e at) rest) next st
            (right_stmt a body (loop_place e at) ws (go_to at ++ r) rest (behind_words (words s) (suc w) (write_expr e) (write_stmt a ++ ws) next) parts.body right),
      )
  right_stmt (out e) w at ws r rest h st right = (stmt_here (out e) w at ws r h st, right_expr e (suc w) at ws (put_out ++ r) rest (behind_word (words s) w _ _ h) st right)
  right_stmt (take i) w at ws r rest h st right = (stmt_here (take i) w at ws r h st, right)

  right_procs : (ps : List Proc) (w at : ℕ) → drop w (words s) ≡ write_procs ps → Stands (image g) at (code_procs g ps at) → RightSigns s g (locate_procs ps w at)
  right_procs [] w at h st = tt
  right_procs (p ∷ ps) w at h st =
      let others : List Instruction = code_procs g ps (end_of_proc p at) in
      let body : drop (suc (suc w)) (words s) ≡ write_stmt p.body ++ write_procs ps = behind_word (words s) (suc w) _ _ (behind_word (words s) w _ _ h) in
      let next : ℕ = words_past (write_stmt p.body) (suc (suc w)) in
      let parts = proc_stands (image g) g p others at st in (
        record { after = write_procs ps; written = h; stands = stands_front (image g) (code_proc g p at []) others at (subst (λ (is : List Instruction). Stands (image g) at is) (splits_proc g p at others) st) },
        right_stmt p.body (suc (suc w)) (body_place p at) (write_procs ps) (leave_frame p ++ others) (locate_procs ps next (end_of_proc p at)) body parts.body
            (right_procs ps next (end_of_proc p at) (behind_words (words s) (suc (suc w)) (write_stmt p.body) (write_procs ps) body) parts.behind),
      )

  pub right_signs : Reads s g → T (fits g) → RightSigns s g (locate_signs g)
  right_signs r ok =
      right_procs g.procs 4 first_proc (ap (drop 4) r.text)
      (stands_past (image g) (start_code (entry g 0)) (code_procs g g.procs first_proc) 0 (code_stands g (within_limits g ok)))
