-- What stands behind the code of an expression, a statement and a procedure: the rest that it was written with, at its end.
use Rattle.std.proofs.Common.{ℕ, List, ◌++◌}
use Rattle.language.specs.Language.{Expr, num, loc, glob, cell, add, sub, nand, less, half, call, Stmt, skip, then, setloc, setglob, setcell, if, while, out, take, Program}
use Rattle.codegen.specs.Layout.{value}
use Rattle.codegen.specs.Instructions.{Instruction, past, Stands}
use Rattle.codegen.specs.Codegen.{constant, push, pop, go_to, go_unless_zero, add_code, sub_code, nand_code, less_code, load_local, load_global, load_cell, halve, store_local, store_global, store_cell, put_out, take_to_local, end_of_two, end_of_expr, end_of_stmt, else_place, then_place, loop_place, entry, code_expr, code_stmt}
use Rattle.codegen.proofs.Rows.{stands_front, stands_past}

module _ (img : List ℕ) (g : Program) where
  -- of two operands and an operation on them
  abbrev Behind : Expr → Type 0
  Behind e = (rest : List Instruction) (at : ℕ) → Stands img at (code_expr g e rest) → Stands img (end_of_expr e at) rest

  behind_two : (operation : List Instruction) (a b : Expr) → Behind a → Behind b → (rest : List Instruction) (at : ℕ) →
      Stands img at (code_expr g a (push ++ code_expr g b (pop ++ (operation ++ rest)))) →
      Stands img (end_of_two operation (end_of_expr b (past push (end_of_expr a at)))) rest
  behind_two operation a b after-a after-b rest at st =
      let end-a : ℕ = end_of_expr a at in
      let end-b : ℕ = end_of_expr b (past push end-a) in
      let second : List Instruction = code_expr g b (pop ++ (operation ++ rest)) in
      stands_past img operation rest (past pop end-b) (stands_past img pop (operation ++ rest) end-b
      (after-b (pop ++ (operation ++ rest)) (past push end-a) (stands_past img push second end-a (after-a (push ++ second) at st))))

  pub behind_expr : (e : Expr) → Behind e
  behind_expr (num n) rest at st = stands_past img (constant value n) rest at st
  behind_expr (loc i) rest at st = stands_past img (load_local i) rest at st
  behind_expr (glob i) rest at st = stands_past img (load_global i) rest at st
  behind_expr (cell e) rest at st = stands_past img (load_cell g.cells) rest (end_of_expr e at) (behind_expr e (load_cell g.cells ++ rest) at st)
  behind_expr (add a b) rest at st = behind_two add_code a b (behind_expr a) (behind_expr b) rest at st
  behind_expr (sub a b) rest at st = behind_two sub_code a b (behind_expr a) (behind_expr b) rest at st
  behind_expr (nand a b) rest at st = behind_two nand_code a b (behind_expr a) (behind_expr b) rest at st
  behind_expr (less a b) rest at st = behind_two less_code a b (behind_expr a) (behind_expr b) rest at st
  behind_expr (half a) rest at st = stands_past img halve rest (end_of_expr a at) (behind_expr a (halve ++ rest) at st)
  behind_expr (call f a) rest at st = stands_past img (go_to (entry g f)) rest (end_of_expr a at) (behind_expr a (go_to (entry g f) ++ rest) at st)

  abbrev BehindStmt : Stmt → Type 0
  BehindStmt c = (rest : List Instruction) (at : ℕ) → Stands img at (code_stmt g c at rest) → Stands img (end_of_stmt c at) rest

  -- the parts of 'if', in their order
  pub record IfStands (e : Expr) (s t : Stmt) (rest : List Instruction) (at : ℕ) : Type 0 where
    pub branch : Stands img (end_of_expr e at) (go_unless_zero (then_place e t at))
    pub second : Stands img (else_place e at) (code_stmt g t (else_place e at) (go_to (end_of_stmt (if e s t) at) ++ code_stmt g s (then_place e t at) rest))
    pub way_on : Stands img (end_of_stmt t (else_place e at)) (go_to (end_of_stmt (if e s t) at))
    pub first : Stands img (then_place e t at) (code_stmt g s (then_place e t at) rest)

  if_parts : (e : Expr) (s t : Stmt) → BehindStmt t → (rest : List Instruction) (at : ℕ) → Stands img at (code_stmt g (if e s t) at rest) → IfStands e s t rest at
  if_parts e s t after-t rest at st =
      let first : List Instruction = code_stmt g s (then_place e t at) rest in
      let way_on : List Instruction = go_to (end_of_stmt (if e s t) at) in
      let second : List Instruction = code_stmt g t (else_place e at) (way_on ++ first) in
      let branch : List Instruction = go_unless_zero (then_place e t at) in
      let end-e : ℕ = end_of_expr e at in
      let end-t : ℕ = end_of_stmt t (else_place e at) in
      let at-branch = behind_expr e (branch ++ second) at st in
      let at_second = stands_past img branch second end-e at-branch in
      let at-way-on = after-t (way_on ++ first) (else_place e at) at_second in
      record {
        branch = stands_front img branch second end-e at-branch;
        second = at_second;
        way_on = stands_front img way_on first end-t at-way-on;
        first = stands_past img way_on first end-t at-way-on;
      }

  -- the parts of 'while', in their order
  pub record WhileStands (e : Expr) (s : Stmt) (rest : List Instruction) (at : ℕ) : Type 0 where
    pub branch : Stands img (end_of_expr e at) (go_unless_zero (loop_place e at))
    pub way_out : Stands img (past (go_unless_zero (loop_place e at)) (end_of_expr e at)) (go_to (end_of_stmt (while e s) at))
    pub body : Stands img (loop_place e at) (code_stmt g s (loop_place e at) (go_to at ++ rest))
    pub way_back : Stands img (end_of_stmt s (loop_place e at)) (go_to at)
    pub behind : Stands img (end_of_stmt (while e s) at) rest

  while_parts : (e : Expr) (s : Stmt) → BehindStmt s → (rest : List Instruction) (at : ℕ) → Stands img at (code_stmt g (while e s) at rest) → WhileStands e s rest at
  while_parts e s after-s rest at st =
      let body : List Instruction = code_stmt g s (loop_place e at) (go_to at ++ rest) in
      let way_out : List Instruction = go_to (end_of_stmt (while e s) at) in
      let branch : List Instruction = go_unless_zero (loop_place e at) in
      let end-e : ℕ = end_of_expr e at in
      let end-s : ℕ = end_of_stmt s (loop_place e at) in
      let at-branch = behind_expr e (branch ++ (way_out ++ body)) at st in
      let at-way-out = stands_past img branch (way_out ++ body) end-e at-branch in
      let at_body = stands_past img way_out body (past branch end-e) at-way-out in
      let at-way-back = after-s (go_to at ++ rest) (loop_place e at) at_body in
      record {
        branch = stands_front img branch (way_out ++ body) end-e at-branch;
        way_out = stands_front img way_out body (past branch end-e) at-way-out;
        body = at_body;
        way_back = stands_front img (go_to at) rest end-s at-way-back;
        behind = stands_past img (go_to at) rest end-s at-way-back;
      }

  pub behind_stmt : (c : Stmt) → BehindStmt c
  behind_stmt skip rest at st = st
  behind_stmt (then s t) rest at st = behind_stmt t rest (end_of_stmt s at) (behind_stmt s (code_stmt g t (end_of_stmt s at) rest) at st)
  behind_stmt (setloc i e) rest at st = stands_past img (store_local i) rest (end_of_expr e at) (behind_expr e (store_local i ++ rest) at st)
  behind_stmt (setglob i e) rest at st = stands_past img (store_global i) rest (end_of_expr e at) (behind_expr e (store_global i ++ rest) at st)
  behind_stmt (setcell e f) rest at st =
      let end-e : ℕ = end_of_expr e at in
      let value-code : List Instruction = code_expr g f (store_cell g.cells ++ rest) in
      stands_past img (store_cell g.cells) rest (end_of_expr f (past push end-e))
      (behind_expr f (store_cell g.cells ++ rest) (past push end-e) (stands_past img push value-code end-e (behind_expr e (push ++ value-code) at st)))
  behind_stmt (if e s t) rest at st = behind_stmt s rest (then_place e t at) (if_parts e s t (behind_stmt t) rest at st).first
  behind_stmt (while e s) rest at st = (while_parts e s (behind_stmt s) rest at st).behind
  behind_stmt (out e) rest at st = stands_past img put_out rest (end_of_expr e at) (behind_expr e (put_out ++ rest) at st)
  behind_stmt (take i) rest at st = stands_past img (take_to_local i) rest at st

  pub if_stands : (e : Expr) (s t : Stmt) (rest : List Instruction) (at : ℕ) → Stands img at (code_stmt g (if e s t) at rest) → IfStands e s t rest at
  if_stands e s t rest at st = if_parts e s t (behind_stmt t) rest at st

  pub while_stands : (e : Expr) (s : Stmt) (rest : List Instruction) (at : ℕ) → Stands img at (code_stmt g (while e s) at rest) → WhileStands e s rest at
  while_stands e s rest at st = while_parts e s (behind_stmt s) rest at st
