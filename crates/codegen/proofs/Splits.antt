-- The code of a part with what comes after it is the code of the part alone, and then what comes after it: expressions,
-- statements, procedures.
use Rattle.std.proofs.Common.{◌≡◌, ℕ, List, [], ◌++◌, sym, refl, ap, ◌∙◌, append_assoc}
use Rattle.language.specs.Language.{Expr, num, loc, glob, cell, add, sub, nand, less, half, call, Stmt, skip, then, setloc, setglob, setcell, if, while, out, take, Proc, Program}
use Rattle.codegen.specs.Layout.{value}
use Rattle.codegen.specs.Instructions.{Instruction}
use Rattle.codegen.specs.Codegen.{constant, push, pop, go_to, go_unless_zero, add_code, sub_code, nand_code, less_code, load_local, load_global, load_cell, halve, store_local, store_global, store_cell, put_out, take_to_local, end_of_stmt, else_place, then_place, loop_place, check_room, make_frame, clear_words, leave_frame, body_place, entry, code_expr, code_stmt, code_proc}

-- a block with nothing behind it
alone : (is rest : List Instruction) → is ++ rest ≡ (is ++ []) ++ rest
alone is rest = sym (append_assoc is [] rest)

module _ (g : Program) where
  abbrev Splits : (List Instruction → List Instruction) → Type 0
  Splits part = (rest : List Instruction) → part rest ≡ part [] ++ rest

  -- a part, and then code that splits
  in_a_row : (part next : List Instruction → List Instruction) → Splits part → Splits next → Splits (λ rest. part (next rest))
  in_a_row part next first second rest =
      first (next rest) ∙ ap (λ (is : List Instruction). part [] ++ is) (second rest) ∙ sym (append_assoc (part []) (next []) rest) ∙ ap (λ (is : List Instruction). is ++ rest) (sym (first (next [])))

  -- a block, and then code that splits
  after_block : (block : List Instruction) (next : List Instruction → List Instruction) → Splits next → Splits (λ rest. block ++ next rest)
  after_block block next second rest = ap (λ (is : List Instruction). block ++ is) (second rest) ∙ sym (append_assoc block (next []) rest)

  splits_two : (operation : List Instruction) (a b : Expr) → Splits (code_expr g a) → Splits (code_expr g b) →
      Splits (λ rest. code_expr g a (push ++ code_expr g b (pop ++ (operation ++ rest))))
  splits_two operation a b first second =
      in_a_row (code_expr g a) (λ rest. push ++ code_expr g b (pop ++ (operation ++ rest))) first
      (after_block push (λ rest. code_expr g b (pop ++ (operation ++ rest)))
      (in_a_row (code_expr g b) (λ rest. pop ++ (operation ++ rest)) second (after_block pop (λ rest. operation ++ rest) (alone operation))))

  pub splits_expr : (e : Expr) (rest : List Instruction) → code_expr g e rest ≡ code_expr g e [] ++ rest
  splits_expr (num n) rest = alone (constant value n) rest
  splits_expr (loc i) rest = alone (load_local i) rest
  splits_expr (glob i) rest = alone (load_global i) rest
  splits_expr (cell e) rest = in_a_row (code_expr g e) (λ r. load_cell g.cells ++ r) (splits_expr e) (alone (load_cell g.cells)) rest
  splits_expr (add a b) rest = splits_two add_code a b (splits_expr a) (splits_expr b) rest
  splits_expr (sub a b) rest = splits_two sub_code a b (splits_expr a) (splits_expr b) rest
  splits_expr (nand a b) rest = splits_two nand_code a b (splits_expr a) (splits_expr b) rest
  splits_expr (less a b) rest = splits_two less_code a b (splits_expr a) (splits_expr b) rest
  splits_expr (half a) rest = in_a_row (code_expr g a) (λ r. halve ++ r) (splits_expr a) (alone halve) rest
  splits_expr (call f a) rest = in_a_row (code_expr g a) (λ r. go_to (entry g f) ++ r) (splits_expr a) (alone (go_to (entry g f))) rest

  pub splits_stmt : (c : Stmt) (at : ℕ) (rest : List Instruction) → code_stmt g c at rest ≡ code_stmt g c at [] ++ rest
  splits_stmt skip at rest = refl
  splits_stmt (then s t) at rest = in_a_row (code_stmt g s at) (code_stmt g t (end_of_stmt s at)) (splits_stmt s at) (splits_stmt t (end_of_stmt s at)) rest
  splits_stmt (setloc i e) at rest = in_a_row (code_expr g e) (λ r. store_local i ++ r) (splits_expr e) (alone (store_local i)) rest
  splits_stmt (setglob i e) at rest = in_a_row (code_expr g e) (λ r. store_global i ++ r) (splits_expr e) (alone (store_global i)) rest
  splits_stmt (setcell e f) at rest =
      in_a_row (code_expr g e) (λ r. push ++ code_expr g f (store_cell g.cells ++ r)) (splits_expr e)
      (after_block push (λ r. code_expr g f (store_cell g.cells ++ r)) (in_a_row (code_expr g f) (λ r. store_cell g.cells ++ r) (splits_expr f) (alone (store_cell g.cells)))) rest
  splits_stmt (if e s t) at rest =
      let q : ℕ = then_place e t at in
      let way_on : List Instruction = go_to (end_of_stmt (if e s t) at) in
      in_a_row (code_expr g e) (λ r. go_unless_zero q ++ code_stmt g t (else_place e at) (way_on ++ code_stmt g s q r)) (splits_expr e)
      (after_block (go_unless_zero q) (λ r. code_stmt g t (else_place e at) (way_on ++ code_stmt g s q r))
      (in_a_row (code_stmt g t (else_place e at)) (λ r. way_on ++ code_stmt g s q r) (splits_stmt t (else_place e at)) (after_block way_on (code_stmt g s q) (splits_stmt s q)))) rest
  splits_stmt (while e s) at rest =
      let q : ℕ = loop_place e at in
      let way_out : List Instruction = go_to (end_of_stmt (while e s) at) in
      in_a_row (code_expr g e) (λ r. go_unless_zero q ++ (way_out ++ code_stmt g s q (go_to at ++ r))) (splits_expr e)
      (after_block (go_unless_zero q) (λ r. way_out ++ code_stmt g s q (go_to at ++ r))
      (after_block way_out (λ r. code_stmt g s q (go_to at ++ r)) (in_a_row (code_stmt g s q) (λ r. go_to at ++ r) (splits_stmt s q) (alone (go_to at))))) rest
  splits_stmt (out e) at rest = in_a_row (code_expr g e) (λ r. put_out ++ r) (splits_expr e) (alone put_out) rest
  splits_stmt (take i) at rest = alone (take_to_local i) rest

  pub splits_proc : (p : Proc) (at : ℕ) (rest : List Instruction) → code_proc g p at rest ≡ code_proc g p at [] ++ rest
  splits_proc p at rest =
      let body : List Instruction → List Instruction = λ r. code_stmt g p.body (body_place p at) (leave_frame p ++ r) in
      after_block (check_room p) (λ r. make_frame p ++ (clear_words 0 p.locals ++ body r))
      (after_block (make_frame p) (λ r. clear_words 0 p.locals ++ body r)
      (after_block (clear_words 0 p.locals) body
      (in_a_row (code_stmt g p.body (body_place p at)) (λ r. leave_frame p ++ r) (splits_stmt p.body (body_place p at)) (alone (leave_frame p))))) rest
