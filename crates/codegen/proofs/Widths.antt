-- The fields of every instruction of a program's code are within their widths: rows one after the other; blocks; expressions
-- and statements; a frame's size is a word; procedures; the whole.
use Rattle.std.proofs.Common.{ℕ, zero, suc, ◌+◌, ◌<◌, ◌≤◌, ◌&&◌, T, ltb, List, [], ◌∷◌, ◌++◌, length, arith, lit<, ltb→lt}
use Rattle.language.specs.Language.{Expr, num, loc, glob, cell, add, sub, nand, less, half, call, Stmt, skip, then, setloc, setglob, setcell, if, while, out, take, Proc, Program, height, stmt_height}
use Rattle.language.specs.Limits.{most_globals, most_cells, most_locals, most_signs, fits_expr, fits_stmt, fits_procs, signs_expr, signs_stmt, signs}
use Rattle.codegen.specs.Layout.{value}
use Rattle.codegen.specs.Instructions.{Instruction, WithinWidths}
use Rattle.codegen.specs.Codegen.{constant, push, pop, go_to, go_unless_zero, add_code, sub_code, nand_code, less_code, load_local, load_global, load_cell, halve, store_local, store_global, store_cell, put_out, take_to_local, end_of_stmt, else_place, then_place, loop_place, check_room, make_frame, clear_words, leave_frame, body_place, end_of_proc, end_of_procs, start_code, first_proc, entry, code_expr, code_stmt, code_procs, code}
use Rattle.codegen.proofs.Rows.{both}
use Rattle.codegen.proofs.Limits.{WithinLimits, first_fits}
use Rattle.codegen.proofs.Sizes.{size_expr, size_stmt, size_procs, entry_within, end_within}

abbrev pub AllWithin : List Instruction → Type 0
AllWithin [] = Unit {0}
AllWithin (i ∷ is) = WithinWidths i × AllWithin is

pub within_++ : (is rest : List Instruction) → AllWithin is → AllWithin rest → AllWithin (is ++ rest)
within_++ [] rest h k = k
within_++ (i ∷ is) rest h k = (h.0, within_++ is rest h.1 k)

module _ (g : Program) (locals count : ℕ) (few_globals : g.globals ≤ most_globals) (few_cells : g.cells ≤ most_cells) (few_locals : locals ≤ 1 + most_locals)
    (entries : (f : ℕ) → f < count → entry g f < 65536) where
  abbrev Ok : Expr → Type 0
  Ok e = T (fits_expr locals g.globals count e)

  abbrev OkStmt : Stmt → Type 0
  OkStmt c = T (fits_stmt locals g.globals count c)

  two_within : (operation : List Instruction) → AllWithin operation → (a b : Expr) →
      ((rest : List Instruction) → Ok a → AllWithin rest → AllWithin (code_expr g a rest)) →
      ((rest : List Instruction) → Ok b → AllWithin rest → AllWithin (code_expr g b rest)) →
      (rest : List Instruction) → T (fits_expr locals g.globals count a && fits_expr locals g.globals count b) → AllWithin rest →
      AllWithin (code_expr g a (push ++ code_expr g b (pop ++ (operation ++ rest))))
  two_within operation fit a b within_a within_b rest ok h =
      let oks = both (fits_expr locals g.globals count a) (fits_expr locals g.globals count b) ok in
      let second : List Instruction = code_expr g b (pop ++ (operation ++ rest)) in
      within_a (push ++ second) oks.0 (within_++ push second (omega arith) (within_b (pop ++ (operation ++ rest)) oks.1 (within_++ pop (operation ++ rest) (omega arith) (within_++ operation rest fit h))))

  pub expr_within : (e : Expr) (rest : List Instruction) → Ok e → AllWithin rest → AllWithin (code_expr g e rest)
  expr_within (num k) rest ok h = let small = ltb→lt k 65536 ok in within_++ (constant value k) rest (omega arith) h
  expr_within (loc i) rest ok h = let there = ltb→lt i locals ok in within_++ (load_local i) rest (omega arith) h
  expr_within (glob i) rest ok h = let there = ltb→lt i g.globals ok in within_++ (load_global i) rest (omega arith) h
  expr_within (cell e) rest ok h = expr_within e (load_cell g.cells ++ rest) ok (within_++ (load_cell g.cells) rest (omega arith) h)
  expr_within (add a b) rest ok h = two_within add_code (omega arith) a b (expr_within a) (expr_within b) rest ok h
  expr_within (sub a b) rest ok h = two_within sub_code (omega arith) a b (expr_within a) (expr_within b) rest ok h
  expr_within (nand a b) rest ok h = two_within nand_code (omega arith) a b (expr_within a) (expr_within b) rest ok h
  expr_within (less a b) rest ok h = two_within less_code (omega arith) a b (expr_within a) (expr_within b) rest ok h
  expr_within (half a) rest ok h = expr_within a (halve ++ rest) ok (within_++ halve rest (omega arith) h)
  expr_within (call f a) rest ok h =
      let oks = both (ltb f count) (fits_expr locals g.globals count a) ok in
      let small = entries f (ltb→lt f count oks.0) in
      expr_within a (go_to (entry g f) ++ rest) oks.1 (within_++ (go_to (entry g f)) rest (omega arith) h)

  pub stmt_within : (c : Stmt) (at : ℕ) (rest : List Instruction) → OkStmt c → end_of_stmt c at < 65536 → AllWithin rest → AllWithin (code_stmt g c at rest)
  stmt_within skip at rest ok b h = h
  stmt_within (then s t) at rest ok b h =
      let oks = both (fits_stmt locals g.globals count s) (fits_stmt locals g.globals count t) ok in
      let size = size_stmt t (end_of_stmt s at) in
      stmt_within s at (code_stmt g t (end_of_stmt s at) rest) oks.0 (omega arith) (stmt_within t (end_of_stmt s at) rest oks.1 b h)
  stmt_within (setloc i e) at rest ok b h =
      let oks = both (ltb i locals) (fits_expr locals g.globals count e) ok in
      let there = ltb→lt i locals oks.0 in
      expr_within e (store_local i ++ rest) oks.1 (within_++ (store_local i) rest (omega arith) h)
  stmt_within (setglob i e) at rest ok b h =
      let oks = both (ltb i g.globals) (fits_expr locals g.globals count e) ok in
      let there = ltb→lt i g.globals oks.0 in
      expr_within e (store_global i ++ rest) oks.1 (within_++ (store_global i) rest (omega arith) h)
  stmt_within (setcell e f) at rest ok b h =
      let oks = both (fits_expr locals g.globals count e) (fits_expr locals g.globals count f) ok in
      let value-code : List Instruction = code_expr g f (store_cell g.cells ++ rest) in
      expr_within e (push ++ value-code) oks.0 (within_++ push value-code (omega arith) (expr_within f (store_cell g.cells ++ rest) oks.1 (within_++ (store_cell g.cells) rest (omega arith) h)))
  stmt_within (if e s t) at rest ok b h =
      let oks = both (fits_expr locals g.globals count e) (fits_stmt locals g.globals count s && fits_stmt locals g.globals count t) ok in
      let oks-in = both (fits_stmt locals g.globals count s) (fits_stmt locals g.globals count t) oks.1 in
      let q : ℕ = then_place e t at in
      let end : ℕ = end_of_stmt (if e s t) at in
      let size-s = size_stmt s q in
      let first : List Instruction = code_stmt g s q rest in
      let second : List Instruction = code_stmt g t (else_place e at) (go_to end ++ first) in
      expr_within e (go_unless_zero q ++ second) oks.0 (within_++ (go_unless_zero q) second (omega arith)
      (stmt_within t (else_place e at) (go_to end ++ first) oks-in.1 (omega arith) (within_++ (go_to end) first (omega arith) (stmt_within s q rest oks-in.0 b h))))
  stmt_within (while e s) at rest ok b h =
      let oks = both (fits_expr locals g.globals count e) (fits_stmt locals g.globals count s) ok in
      let q : ℕ = loop_place e at in
      let end : ℕ = end_of_stmt (while e s) at in
      let size-s = size_stmt s q in
      let size-e = size_expr e at in
      let body : List Instruction = code_stmt g s q (go_to at ++ rest) in
      expr_within e (go_unless_zero q ++ (go_to end ++ body)) oks.0 (within_++ (go_unless_zero q) (go_to end ++ body) (omega arith)
      (within_++ (go_to end) body (omega arith) (stmt_within s q (go_to at ++ rest) oks.1 (omega arith) (within_++ (go_to at) rest (omega arith) h))))
  stmt_within (out e) at rest ok b h = expr_within e (put_out ++ rest) ok (within_++ put_out rest (omega arith) h)
  stmt_within (take i) at rest ok b h = let there = ltb→lt i locals ok in within_++ (take_to_local i) rest (omega arith) h

-- A height is at most the number of signs, so a frame's size is a word.
height_within : (e : Expr) → height e ≤ signs_expr e
height_within (num n) = omega arith
height_within (loc i) = omega arith
height_within (glob i) = omega arith
height_within (cell e) = let x = height_within e in omega arith
height_within (add a b) = let x = height_within a in let y = height_within b in omega arith
height_within (sub a b) = let x = height_within a in let y = height_within b in omega arith
height_within (nand a b) = let x = height_within a in let y = height_within b in omega arith
height_within (less a b) = let x = height_within a in let y = height_within b in omega arith
height_within (half a) = let x = height_within a in omega arith
height_within (call f a) = let x = height_within a in omega arith

stmt_height_within : (c : Stmt) → stmt_height c ≤ signs_stmt c
stmt_height_within skip = omega arith
stmt_height_within (then a b) = let x = stmt_height_within a in let y = stmt_height_within b in omega arith
stmt_height_within (setloc i e) = let x = height_within e in omega arith
stmt_height_within (setglob i e) = let x = height_within e in omega arith
stmt_height_within (setcell e f) = let x = height_within e in let y = height_within f in omega arith
stmt_height_within (if e a b) = let z = height_within e in let x = stmt_height_within a in let y = stmt_height_within b in omega arith
stmt_height_within (while e a) = let z = height_within e in let x = stmt_height_within a in omega arith
stmt_height_within (out e) = let x = height_within e in omega arith
stmt_height_within (take i) = omega arith

clear_within : (i n : ℕ) → i + n ≤ most_locals → AllWithin (clear_words i n)
clear_within i zero h = tt
clear_within i (suc n) h = ((lit< tt, lit< tt, omega arith), clear_within (suc i) n (omega arith))

procs_within : (g : Program) (count : ℕ) → g.globals ≤ most_globals → g.cells ≤ most_cells → ((f : ℕ) → f < count → entry g f < 65536) →
    (ps : List Proc) (at : ℕ) → T (fits_procs g.globals count ps) → signs ps ≤ most_signs → end_of_procs ps at < 65536 → AllWithin (code_procs g ps at)
procs_within g count few_globals few_cells entries [] at ok few b = tt
procs_within g count few_globals few_cells entries (p ∷ ps) at ok few b =
    let fit = first_fits g.globals count p ps ok in
    let few_locals = fit.few_locals in
    let low = stmt_height_within p.body in
    let size = size_procs g.globals count ps (end_of_proc p at) fit.others_fit in
    let others : List Instruction = code_procs g ps (end_of_proc p at) in
    let leaving : List Instruction = leave_frame p ++ others in
    let body : List Instruction = code_stmt g p.body (body_place p at) leaving in
    let clearing : List Instruction = clear_words 0 p.locals ++ body in
    within_++ (check_room p) (make_frame p ++ clearing) (omega arith) (within_++ (make_frame p) clearing (omega arith) (within_++ (clear_words 0 p.locals) body (clear_within 0 p.locals (omega arith))
    (stmt_within g (1 + p.locals) count few_globals few_cells (omega arith) entries p.body (body_place p at) leaving fit.body_fits (omega arith)
    (within_++ (leave_frame p) others (omega arith) (procs_within g count few_globals few_cells entries ps (end_of_proc p at) fit.others_fit (omega arith) b)))))

pub code_within : (g : Program) → WithinLimits g → AllWithin (code g)
code_within g within =
    let end = end_within g within in
    let fit = within.procs_fit in
    let first = entry_within g.globals (length g.procs) g.procs first_proc 0 fit in
    within_++ (start_code (entry g 0)) (code_procs g g.procs first_proc) (omega arith)
    (procs_within g (length g.procs) within.few_globals within.few_cells
    (λ f b. let e = entry_within g.globals (length g.procs) g.procs first_proc f fit in omega arith) g.procs first_proc fit within.few_signs (omega arith))
