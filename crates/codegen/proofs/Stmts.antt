-- The heart, for statements: what the code of each statement does, given what calls and further turns of loops do. An
-- expression and what follows it; a store of its value; a store to a cell; then the induction over the statement.
use Rattle.std.proofs.Common.{◌≡◌, ℕ, suc, ◌+◌, ◌-◌, ◌<◌, ◌≤◌, Bool, true, false, cond, ◌&&◌, T, eqb, ltb, List, [], ◌∷◌, ◌++◌, sym, refl, ◌∙◌, subst, arith, lit<, ltb→lt}
use Rattle.std.proofs.lemmas.List.{get_or-set_same}
use Rattle.std.proofs.lemmas.Bool.{ltb-true}
use Rattle.words.specs.Words.{word, put, front}
use Rattle.words.specs.Words as words
use Rattle.words.specs.Runs.{ended_index}
use Rattle.words.proofs.Lists.{front_below, rest_below}
use Rattle.machine.specs.Machine.{Machine}
use Rattle.language.specs.Language.{Expr, Stmt, skip, then, setloc, setglob, setcell, if, while, out, take, Program, State, set_local, set_global, set_cell, take_word, Outcome, fine, ends, bind, if_cell, eval, exec, height, stmt_height}
use Rattle.language.specs.Language as language
use Rattle.language.specs.Limits.{most_globals, most_cells}
use Rattle.codegen.specs.Layout.{stack_top, stack_base, cells_base, globals_base}
use Rattle.codegen.specs.Instructions.{Instruction, past, Stands}
use Rattle.codegen.specs.Codegen.{push, go_to, go_unless_zero, store_local, store_global, store_cell, put_out, take_to_local, end_of_expr, end_of_stmt, else_place, then_place, loop_place, code_expr, code_stmt}
use Rattle.codegen.specs.Heart.{expr_ok, stmt_ok, Scratch, at_work, Holds, ChangedWithin, StatementDone, Does}
use Rattle.codegen.proofs.Rows.{both, stands_front, stands_past}
use Rattle.codegen.proofs.Outcomes.{Good, Reaches, along, arrived, has_ended}
use Rattle.codegen.proofs.Blocks.{with_work, local_stored, global_stored, word_taken, word_shown, pushed, cell_stored, cell_not_stored}
use Rattle.codegen.proofs.Holding.{holds_pushed, holds_io, holds_local, holds_global, holds_cell, changed_none, changed_one, changed_data, changed_wider, changed_then}
use Rattle.codegen.proofs.Behind.{behind_expr, behind_stmt}
use Rattle.codegen.proofs.Exprs.{CallsRun, operand, expr_runs}
use Rattle.codegen.proofs.Branches.{RunsStmt, finish, last_part, statement, if_run, while_run}

module _ (img : List ℕ) (g : Program) (few_globals : g.globals ≤ most_globals) (few_cells : g.cells ≤ most_cells)
    (locals n left : ℕ) (call-proc : ℕ → ℕ → State → Outcome) (calls : CallsRun img g n left call-proc)
    (turn : Expr → Stmt → State → Outcome) (turns : (e : Expr) (c : Stmt) → RunsStmt img g locals n left (turn e c) (while e c)) where
  -- an expression, with nothing on the stack below the frame, and then what follows it
  first : (e : Expr) (next : ℕ → State → Outcome) (Q : Good) (rest : List Instruction) (s : State) (at v : ℕ) (x : Scratch) (fp : ℕ) (mem : List ℕ) →
      Stands img at (code_expr g e rest) → T (expr_ok g locals e) → Holds img g locals s fp mem → stack_base + left + height e ≤ fp → fp + locals ≤ stack_top →
      ((k : ℕ) (t : State) (mem₁ : List ℕ) (y : Scratch) → k < 65536 → Holds img g locals t fp mem₁ → ChangedWithin (fp - (left + height e)) fp mem mem₁ →
      Does (suc n) Q (next k t) (at_work (end_of_expr e at) k y fp fp left mem₁ t)) →
      Does (suc n) Q (bind (eval call-proc e s) next) (at_work at v x fp fp left mem s)
  first e next Q rest s at v x fp mem st ok h low high follows =
      operand img g few_globals few_cells locals n left call-proc calls e (expr_runs img g few_globals few_cells locals n left call-proc calls e) next Q rest s at v x fp fp mem st ok h low (omega arith) high follows

  -- the steps to a statement's end
  done : (end fp taken : ℕ) (mem : List ℕ) (t : State) (v : ℕ) (x : Scratch) (mem' : List ℕ) {m : Machine} → Reaches m (at_work end v x fp fp left mem' t) →
      Holds img g locals t fp mem' → ChangedWithin (fp - (left + taken)) (fp + locals) mem mem' →
      Does (suc n) (StatementDone img g locals end fp left taken mem) (fine 0 t) m
  done end fp taken mem t v x mem' r h c = finish img g locals left (suc n) end fp taken mem 0 t v x mem' r h c

  -- 'setcell', after its value: its place is on the stack
  cell_set : (rest : List Instruction) (at fp taken : ℕ) (mem mem₁ : List ℕ) (i k : ℕ) (s : State) (x : Scratch) → Stands img at (store_cell g.cells ++ rest) →
      k < 65536 → Holds img g locals s fp mem₁ → word mem₁ (fp - 1) ≡ i → ChangedWithin (fp - (left + taken)) (fp + locals) mem mem₁ →
      stack_base < fp → fp + locals ≤ stack_top → (there : Bool) → ltb i g.cells ≡ there →
      Does (suc n) (StatementDone img g locals (past (store_cell g.cells) at) fp left taken mem) (cond there (fine 0 (set_cell s i k)) (ends ended_index s))
      (at_work at k x (fp - 1) fp left mem₁ s)
  cell_set rest at fp taken mem mem₁ i k s x st k-word h on_stack c low high true is =
      let there : i < g.cells = ltb-true i g.cells is in
      let block = stands_front img (store_cell g.cells) rest at st in
      done (past (store_cell g.cells) at) fp taken mem (set_cell s i k) k (record { in_work = i; in_back = cells_base + i; in_spare = 0 }) (put mem₁ (cells_base + i) k)
      (cell_stored img at k x (fp - 1) fp left mem₁ s h.code_kept g.cells i fp block refl low (omega arith) on_stack few_cells is)
      (holds_cell img g few_globals few_cells locals s fp mem₁ h (omega arith) high i k k-word there)
      (changed_then c (changed_data mem₁ (cells_base + i) k (omega arith) (omega arith)))
  cell_set rest at fp taken mem mem₁ i k s x st k-word h on_stack c low high false is =
      let Q : Good = StatementDone img g locals (past (store_cell g.cells) at) fp left taken mem in
      let block = stands_front img (store_cell g.cells) rest at st in
      along (suc n) Q (ends ended_index s) (cell_not_stored img at k x (fp - 1) fp left mem₁ s h.code_kept g.cells i fp block refl low (omega arith) on_stack is)
      (has_ended (suc n) Q ended_index s _ refl (lit< tt))

  setcell_runs : (e f : Expr) → RunsStmt img g locals (suc n) left (exec call-proc turn (setcell e f)) (setcell e f)
  setcell_runs e f rest s at v x fp mem st ok h low high =
      let oks = both (expr_ok g locals e) (expr_ok g locals f) ok in
      let end-e : ℕ = end_of_expr e at in
      let end-f : ℕ = end_of_expr f (past push end-e) in
      let taken : ℕ = stmt_height (setcell e f) in
      let Q : Good = StatementDone img g locals (end_of_stmt (setcell e f) at) fp left taken mem in
      let store_code : List Instruction = store_cell g.cells ++ rest in
      let value-code : List Instruction = code_expr g f store_code in
      let at_push = behind_expr img g e (push ++ value-code) at st in
      let at_value = stands_past img push value-code end-e at_push in
      let at_store = behind_expr img g f store_code (past push end-e) at_value in
      let stored : ℕ → ℕ → State → Outcome = λ i k u. if_cell i u (fine 0 (set_cell u i k)) in
      let f-runs = expr_runs img g few_globals few_cells locals n left call-proc calls f in
      first e (λ i t. bind (eval call-proc f t) (stored i)) Q (push ++ value-code) s at v x fp mem st oks.0 h (omega arith) high (λ i t mem₁ y i-word h₁ c₁.
      let mem₂ : List ℕ = put mem₁ (fp - 1) i in
      let h₂ = holds_pushed img g few_globals few_cells locals t fp mem₁ h₁ (fp - 1) i (omega arith) (omega arith) in
      let c₂ : ChangedWithin (fp - (left + taken)) (fp + locals) mem₁ mem₂ = changed_one mem₁ (fp - 1) i (omega arith) (omega arith) in
      along (suc n) Q (bind (eval call-proc f t) (stored i))
      (pushed img end-e i y fp fp left mem₁ t h₁.code_kept (stands_front img push value-code end-e at_push) (omega arith) (omega arith))
      (operand img g few_globals few_cells locals n left call-proc calls f f-runs (stored i) Q store_code t (past push end-e) i y (fp - 1) fp mem₂ at_value oks.1 h₂ (omega arith) (omega arith) high (λ k u mem₃ z k-word h₃ c₃.
      let on_stack : word mem₃ (fp - 1) ≡ i = c₃.above (fp - 1) (omega arith) ∙ get_or-set_same mem₁ (fp - 1) i 0 (omega (arith, h₁.size)) in
      let c = changed_then (changed_wider c₁ (omega arith) (omega arith)) (changed_then c₂ (changed_wider c₃ (omega arith) (omega arith))) in
      subst (λ (cells : ℕ). Does (suc n) Q (cond (ltb i cells) (fine 0 (set_cell u i k)) (ends ended_index u)) (at_work end-f k z (fp - 1) fp left mem₃ u)) (sym h₃.cells_count)
      (cell_set rest end-f fp taken mem mem₃ i k u z at_store k-word h₃ on_stack c (omega arith) high (ltb i g.cells) refl))))

  -- every statement
  pub stmt_runs : (c : Stmt) → RunsStmt img g locals (suc n) left (exec call-proc turn c) c
  stmt_runs skip rest s at v x fp mem st ok h low high =
      arrived (suc n) (StatementDone img g locals at fp left 0 mem) 0 s (at_work at v x fp fp left mem s)
      (record { value = v; scratch = x; memory = mem; is = refl; holds = h; frames_kept = changed_none })
  stmt_runs (then a b) rest s at v x fp mem st ok h low high =
      let end-a : ℕ = end_of_stmt a at in
      let end : ℕ = end_of_stmt (then a b) at in
      let taken : ℕ = stmt_height (then a b) in
      let Q : Good = StatementDone img g locals end fp left taken mem in
      let oks = both (stmt_ok g locals a) (stmt_ok g locals b) ok in
      let second : List Instruction = code_stmt g b end-a rest in
      let run : Stmt → State → Outcome = exec call-proc turn in
      statement img g locals left (suc n) a (run a) (stmt_runs a) (λ k t. run b t) Q second s at v x fp mem st oks.0 h (omega arith) high (λ k t w mem₁ y h₁ c.
      last_part img g locals left (suc n) end fp taken (stmt_height b) mem mem₁ (run b t) (at_work end-a w y fp fp left mem₁ t) (changed_wider c (omega arith) (omega arith)) (omega arith)
      (stmt_runs b rest t end-a w y fp mem₁ (behind_stmt img g a second at st) oks.1 h₁ (omega arith) high))
  stmt_runs (setloc i e) rest s at v x fp mem st ok h low high =
      let oks = both (ltb i locals) (expr_ok g locals e) ok in
      let there : i < locals = ltb→lt i locals oks.0 in
      let end : ℕ = end_of_stmt (setloc i e) at in
      let Q : Good = StatementDone img g locals end fp left (height e) mem in
      let block = stands_front img (store_local i) rest (end_of_expr e at) (behind_expr img g e (store_local i ++ rest) at st) in
      first e (λ k t. fine 0 (set_local t i k)) Q (store_local i ++ rest) s at v x fp mem st oks.1 h low high (λ k t mem₁ y k-word h₁ c.
      done end fp (height e) mem (set_local t i k) k (with_work y (fp + i)) (put mem₁ (fp + i) k)
      (local_stored img (end_of_expr e at) k y fp fp left mem₁ t h₁.code_kept i block (omega arith) (omega arith))
      (holds_local img g few_globals few_cells locals t fp mem₁ h₁ (omega arith) high i k k-word there)
      (changed_then (changed_wider c (omega arith) (omega arith)) (changed_one mem₁ (fp + i) k (omega arith) (omega arith))))
  stmt_runs (setglob i e) rest s at v x fp mem st ok h low high =
      let oks = both (ltb i g.globals) (expr_ok g locals e) ok in
      let there : i < g.globals = ltb→lt i g.globals oks.0 in
      let end : ℕ = end_of_stmt (setglob i e) at in
      let Q : Good = StatementDone img g locals end fp left (height e) mem in
      let block = stands_front img (store_global i) rest (end_of_expr e at) (behind_expr img g e (store_global i ++ rest) at st) in
      first e (λ k t. fine 0 (set_global t i k)) Q (store_global i ++ rest) s at v x fp mem st oks.1 h low high (λ k t mem₁ y k-word h₁ c.
      done end fp (height e) mem (set_global t i k) k (with_work y (globals_base + i)) (put mem₁ (globals_base + i) k)
      (global_stored img (end_of_expr e at) k y fp fp left mem₁ t h₁.code_kept i block (omega arith))
      (holds_global img g few_globals few_cells locals t fp mem₁ h₁ (omega arith) high i k k-word there)
      (changed_then (changed_wider c (omega arith) (omega arith)) (changed_data mem₁ (globals_base + i) k (omega arith) (omega arith))))
  stmt_runs (setcell e f) rest s at v x fp mem st ok h low high = setcell_runs e f rest s at v x fp mem st ok h low high
  stmt_runs (if e a b) rest s at v x fp mem st ok h low high =
      let oks = both (expr_ok g locals e) (stmt_ok g locals a && stmt_ok g locals b) ok in
      let oks-in = both (stmt_ok g locals a) (stmt_ok g locals b) oks.1 in
      let run : Stmt → State → Outcome = exec call-proc turn in
      let Q : Good = StatementDone img g locals (end_of_stmt (if e a b) at) fp left (stmt_height (if e a b)) mem in
      let second : List Instruction = code_stmt g b (else_place e at) (go_to (end_of_stmt (if e a b) at) ++ code_stmt g a (then_place e b at) rest) in
      first e (λ k t. cond (eqb k 0) (run b t) (run a t)) Q (go_unless_zero (then_place e b at) ++ second) s at v x fp mem st oks.0 h (omega arith) high (λ k t mem₁ y k-word h₁ c.
      if_run img g locals n left run turn rest at fp mem mem₁ k t y h₁ high e a b (stmt_runs a) (stmt_runs b) st oks-in.0 oks-in.1 c low (eqb k 0) refl)
  stmt_runs (while e a) rest s at v x fp mem st ok h low high =
      let oks = both (expr_ok g locals e) (stmt_ok g locals a) ok in
      let run : Stmt → State → Outcome = exec call-proc turn in
      let Q : Good = StatementDone img g locals (end_of_stmt (while e a) at) fp left (stmt_height (while e a)) mem in
      let on : ℕ → State → Outcome = λ k t. cond (eqb k 0) (fine 0 t) (bind (run a t) (λ z u. turn e a u)) in
      let body : List Instruction = go_to (end_of_stmt (while e a) at) ++ code_stmt g a (loop_place e at) (go_to at ++ rest) in
      first e on Q (go_unless_zero (loop_place e at) ++ body) s at v x fp mem st oks.0 h (omega arith) high (λ k t mem₁ y k-word h₁ c.
      while_run img g locals n left run turn rest at fp mem mem₁ k t y h₁ high e a (stmt_runs a) (turns e a) st ok oks.1 c low (eqb k 0) refl)
  stmt_runs (out e) rest s at v x fp mem st ok h low high =
      let end : ℕ = end_of_stmt (out e) at in
      let Q : Good = StatementDone img g locals end fp left (height e) mem in
      let block = stands_front img put_out rest (end_of_expr e at) (behind_expr img g e (put_out ++ rest) at st) in
      first e (λ k t. fine 0 (language.put_out t k)) Q (put_out ++ rest) s at v x fp mem st ok h low high (λ k t mem₁ y k-word h₁ c.
      done end fp (height e) mem (language.put_out t k) k y mem₁ (word_shown img (end_of_expr e at) k y fp fp left mem₁ t h₁.code_kept block)
      (holds_io img g few_globals few_cells locals t fp mem₁ h₁ t.tape (t.out ++ (k ∷ [])) h₁.words.tape_words) (changed_wider c (omega arith) (omega arith)))
  stmt_runs (take i) rest s at v x fp mem st ok h low high =
      let there : i < locals = ltb→lt i locals ok in
      let w : ℕ = front s.tape in
      let block = stands_front img (take_to_local i) rest at st in
      let h₁ = holds_local img g few_globals few_cells locals s fp mem h (omega arith) high i w (front_below s.tape h.words.tape_words) there in
      done (end_of_stmt (take i) at) fp 0 mem (take_word s i) w (with_work x (fp + i)) (put mem (fp + i) w)
      (word_taken img at v x fp fp left mem s h.code_kept i block (omega arith) (omega arith))
      (holds_io img g few_globals few_cells locals (set_local s i w) fp (put mem (fp + i) w) h₁ (words.rest s.tape) s.out (rest_below s.tape h.words.tape_words))
      (changed_one mem (fp + i) w (omega arith) (omega arith))
