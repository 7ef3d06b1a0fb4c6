-- How long code is: it ends where 'end_of_..' says; at most 10 words a sign and 80 a procedure; so the code of a program
-- within the limits leaves room for the globals.
use Rattle.std.proofs.Common.{◌≡◌, ℕ, zero, suc, ◌+◌, ◌*◌, ◌≤◌, T, List, [], ◌∷◌, ◌++◌, length, refl, ap, ◌∙◌, arith}
use Rattle.language.specs.Language.{Expr, num, loc, glob, cell, add, sub, nand, less, half, call, Stmt, skip, then, setloc, setglob, setcell, if, while, out, take, Proc, Program}
use Rattle.language.specs.Limits.{fits_procs, signs_expr, signs_stmt, signs}
use Rattle.codegen.specs.Layout.{code_limit}
use Rattle.codegen.specs.Instructions.{Instruction, past}
use Rattle.codegen.specs.Codegen.{push, pop, go_to, go_unless_zero, add_code, sub_code, nand_code, less_code, load_cell, halve, store_local, store_global, store_cell, put_out, end_of_two, end_of_expr, end_of_stmt, else_place, then_place, loop_place, check_room, make_frame, clear_words, leave_frame, body_place, end_of_proc, end_of_procs, proc_place, start_code, first_proc, entry, code_expr, code_stmt, code_procs, code}
use Rattle.codegen.proofs.Limits.{WithinLimits, first_fits}

-- the place after two rows, and after a row of so many
pub past_++ : (is rest : List Instruction) (at : ℕ) → past (is ++ rest) at ≡ past rest (past is at)
past_++ [] rest at = refl
past_++ (i ∷ is) rest at = past_++ is rest (suc at)

pub past_is : (is : List Instruction) (at : ℕ) → past is at ≡ at + length is
past_is [] at = omega arith
past_is (i ∷ is) at = let e = past_is is (suc at) in omega arith

pub length_clear : (i n : ℕ) → length (clear_words i n) ≡ n
length_clear i zero = refl
length_clear i (suc n) = ap suc (length_clear (suc i) n)

-- Code ends where it should.
module _ (g : Program) where
  past_two : (operation : List Instruction) (a b : Expr) (rest : List Instruction) (at : ℕ) →
      ((rest : List Instruction) (at : ℕ) → past (code_expr g a rest) at ≡ past rest (end_of_expr a at)) →
      ((rest : List Instruction) (at : ℕ) → past (code_expr g b rest) at ≡ past rest (end_of_expr b at)) →
      past (code_expr g a (push ++ code_expr g b (pop ++ (operation ++ rest)))) at ≡ past rest (end_of_two operation (end_of_expr b (past push (end_of_expr a at))))
  past_two operation a b rest at past-a past-b =
      past-a (push ++ code_expr g b (pop ++ (operation ++ rest))) at ∙ past-b (pop ++ (operation ++ rest)) (past push (end_of_expr a at))
      ∙ past_++ operation rest (past pop (end_of_expr b (past push (end_of_expr a at))))

  pub past_expr : (e : Expr) (rest : List Instruction) (at : ℕ) → past (code_expr g e rest) at ≡ past rest (end_of_expr e at)
  past_expr (num n) rest at = refl
  past_expr (loc i) rest at = refl
  past_expr (glob i) rest at = refl
  past_expr (cell e) rest at = past_expr e (load_cell g.cells ++ rest) at
  past_expr (add a b) rest at = past_two add_code a b rest at (past_expr a) (past_expr b)
  past_expr (sub a b) rest at = past_two sub_code a b rest at (past_expr a) (past_expr b)
  past_expr (nand a b) rest at = past_two nand_code a b rest at (past_expr a) (past_expr b)
  past_expr (less a b) rest at = past_two less_code a b rest at (past_expr a) (past_expr b)
  past_expr (half a) rest at = past_expr a (halve ++ rest) at
  past_expr (call f a) rest at = past_expr a (go_to (entry g f) ++ rest) at

  pub past_stmt : (c : Stmt) (rest : List Instruction) (at : ℕ) → past (code_stmt g c at rest) at ≡ past rest (end_of_stmt c at)
  past_stmt skip rest at = refl
  past_stmt (then a b) rest at = past_stmt a (code_stmt g b (end_of_stmt a at) rest) at ∙ past_stmt b rest (end_of_stmt a at)
  past_stmt (setloc i e) rest at = past_expr e (store_local i ++ rest) at
  past_stmt (setglob i e) rest at = past_expr e (store_global i ++ rest) at
  past_stmt (setcell e f) rest at = past_expr e (push ++ code_expr g f (store_cell g.cells ++ rest)) at ∙ past_expr f (store_cell g.cells ++ rest) (past push (end_of_expr e at))
  past_stmt (if e a b) rest at =
      let first : List Instruction = code_stmt g a (then_place e b at) rest in
      let way_on : List Instruction = go_to (end_of_stmt (if e a b) at) in
      past_expr e (go_unless_zero (then_place e b at) ++ code_stmt g b (else_place e at) (way_on ++ first)) at ∙ past_stmt b (way_on ++ first) (else_place e at) ∙ past_stmt a rest (then_place e b at)
  past_stmt (while e a) rest at =
      let body : List Instruction = code_stmt g a (loop_place e at) (go_to at ++ rest) in
      past_expr e (go_unless_zero (loop_place e at) ++ (go_to (end_of_stmt (while e a) at) ++ body)) at ∙ past_stmt a (go_to at ++ rest) (loop_place e at)
  past_stmt (out e) rest at = past_expr e (put_out ++ rest) at
  past_stmt (take i) rest at = refl

  pub past_procs : (ps : List Proc) (at : ℕ) → past (code_procs g ps at) at ≡ end_of_procs ps at
  past_procs [] at = refl
  past_procs (p ∷ ps) at =
      let others : List Instruction = code_procs g ps (end_of_proc p at) in
      let body : List Instruction = code_stmt g p.body (body_place p at) (leave_frame p ++ others) in
      past_++ (clear_words 0 p.locals) body (past (make_frame p) (past (check_room p) at)) ∙ past_stmt p.body (leave_frame p ++ others) (body_place p at) ∙ past_procs ps (end_of_proc p at)

-- At most 10 words a sign: an expression has 7 to spare, which a statement around it uses.
pub size_expr : (e : Expr) (at : ℕ) → (end_of_expr e at + 7 ≤ at + 10 * signs_expr e) × (at ≤ end_of_expr e at)
size_expr (num n) at = omega arith
size_expr (loc i) at = omega arith
size_expr (glob i) at = omega arith
size_expr (cell e) at = let x = size_expr e at in omega arith
size_expr (add a b) at = let x = size_expr a at in let y = size_expr b (past push (end_of_expr a at)) in omega arith
size_expr (sub a b) at = let x = size_expr a at in let y = size_expr b (past push (end_of_expr a at)) in omega arith
size_expr (nand a b) at = let x = size_expr a at in let y = size_expr b (past push (end_of_expr a at)) in omega arith
size_expr (less a b) at = let x = size_expr a at in let y = size_expr b (past push (end_of_expr a at)) in omega arith
size_expr (half a) at = let x = size_expr a at in omega arith
size_expr (call f a) at = let x = size_expr a at in omega arith

pub size_stmt : (c : Stmt) (at : ℕ) → (end_of_stmt c at ≤ at + 10 * signs_stmt c) × (at ≤ end_of_stmt c at)
size_stmt skip at = omega arith
size_stmt (then a b) at = let x = size_stmt a at in let y = size_stmt b (end_of_stmt a at) in omega arith
size_stmt (setloc i e) at = let x = size_expr e at in omega arith
size_stmt (setglob i e) at = let x = size_expr e at in omega arith
size_stmt (setcell e f) at = let x = size_expr e at in let y = size_expr f (past push (end_of_expr e at)) in omega arith
size_stmt (if e a b) at = let x = size_expr e at in let y = size_stmt b (else_place e at) in let z = size_stmt a (then_place e b at) in omega arith
size_stmt (while e a) at = let x = size_expr e at in let y = size_stmt a (loop_place e at) in omega arith
size_stmt (out e) at = let x = size_expr e at in omega arith
size_stmt (take i) at = omega arith

pub size_procs : (globals count : ℕ) (ps : List Proc) (at : ℕ) → T (fits_procs globals count ps) →
    (end_of_procs ps at ≤ at + 80 * length ps + 10 * signs ps) × (at ≤ end_of_procs ps at)
size_procs globals count [] at ok = omega arith
size_procs globals count (p ∷ ps) at ok =
    let fit = first_fits globals count p ps ok in
    let few = fit.few_locals in
    let made : ℕ = past (make_frame p) (past (check_room p) at) in
    let clearing = past_is (clear_words 0 p.locals) made in
    let cleared = length_clear 0 p.locals in
    let body = size_stmt p.body (body_place p at) in
    let others = size_procs globals count ps (end_of_proc p at) fit.others_fit in
    omega arith

-- an entry is not behind the end
pub entry_within : (globals count : ℕ) (ps : List Proc) (at f : ℕ) → T (fits_procs globals count ps) → proc_place ps at f ≤ end_of_procs ps at
entry_within globals count [] at f ok = omega arith
entry_within globals count (p ∷ ps) at zero ok = (size_procs globals count (p ∷ ps) at ok).1
entry_within globals count (p ∷ ps) at (suc f) ok = entry_within globals count ps (end_of_proc p at) f (first_fits globals count p ps ok).others_fit

-- The code of a program within the limits.
module _ (g : Program) (within : WithinLimits g) where
  pub end_within : end_of_procs g.procs first_proc ≤ code_limit
  end_within =
      let procs = within.few_procs in
      let few = within.few_signs in
      let size = size_procs g.globals (length g.procs) g.procs first_proc within.procs_fit in
      omega arith

  pub code_length : length (code g) ≡ end_of_procs g.procs first_proc
  code_length =
      let ends = past_procs g g.procs first_proc in
      let counted = past_is (code g) 0 in
      omega (arith, past_++ (start_code (entry g 0)) (code_procs g g.procs first_proc) 0)
