-- The heart, for expressions: what the code of each expression does, given what calls do. The code of operations on two
-- values; an expression's end, and an expression with what follows it; operations on two, cells; every expression.
use Rattle.std.proofs.Common.{◌≡◌, ℕ, suc, ◌+◌, ◌-◌, ◌<◌, ◌≤◌, Bool, true, false, cond, ◌&&◌, T, ltb, List, ◌++◌, length, sym, refl, ap, ◌∙◌, subst, arith, lit<, ltb→lt}
use Rattle.std.proofs.lemmas.List.{get_or-set_same}
use Rattle.std.proofs.lemmas.Bool.{ltb-true, cond_both}
use Rattle.words.specs.Words.{add16, sub16, less16, nand16, half16, word, put}
use Rattle.words.specs.Runs.{ended_index}
use Rattle.words.proofs.Bits.{nands_and}
use Rattle.words.proofs.Lists.{word_below}
use Rattle.machine.specs.Machine.{Machine}
use Rattle.language.specs.Language.{Expr, num, loc, glob, cell, add, sub, nand, less, half, call, Program, State, Outcome, fine, ends, bind, if_cell, eval, height, both_height}
use Rattle.language.specs.Limits.{most_globals, most_cells}
use Rattle.codegen.specs.Layout.{stack_top, stack_base, cells_base, globals_base, value}
use Rattle.codegen.specs.Instructions.{Instruction, past, Stands}
use Rattle.codegen.specs.Codegen.{constant, push, pop, go_to, add_code, sub_code, nand_code, less_code, load_local, load_global, load_cell, halve, end_of_two, end_of_expr, entry, code_expr}
use Rattle.codegen.specs.Heart.{expr_ok, Scratch, at_work, HasCode, Holds, ChangedWithin, ValueInPlace, Does}
use Rattle.codegen.proofs.Rows.{both, stands_front, stands_past}
use Rattle.codegen.proofs.Outcomes.{Good, Reaches, reaches_then, by_row, along, along_more, arrived, has_ended, does_bind, weaken}
use Rattle.codegen.proofs.Blocks.{number_made, local_loaded, global_loaded, pushed, popped, jumped, halved, cell_loaded, cell_missing, with_work}
use Rattle.codegen.proofs.Holding.{holds_pushed, changed_none, changed_one, changed_wider, changed_then}
use Rattle.codegen.proofs.Behind.{behind_expr}

-- The code of an operation on two values: the first in 'work', the second in 'value', the result in 'value'.
pub record Operated (at result sp fp left : ℕ) (mem : List ℕ) (s : State) (m : Machine) : Type 0 where
  pub after : Scratch
  pub reached : Reaches m (at_work at result after sp fp left mem s)
  pub small : result < 65536

abbrev pub Operates : List Instruction → (ℕ → ℕ → ℕ) → Type 0
Operates operation f = (img : List ℕ) (at second : ℕ) (x : Scratch) (sp fp left : ℕ) (mem : List ℕ) (s : State) →
    x.in_work < 65536 → second < 65536 → HasCode img mem → Stands img at operation →
    Operated (past operation at) (f x.in_work second) sp fp left mem s (at_work at second x sp fp left mem s)

pub adds : Operates add_code add16
adds img at second x sp fp left mem s first_word second_word c st = record { after = x; reached = by_row img add_code c refl tt st (omega arith) refl; small = omega arith }

pub subtracts : Operates sub_code sub16
subtracts img at second x sp fp left mem s first_word second_word c st = record { after = x; reached = by_row img sub_code c refl tt st (omega arith) refl; small = omega arith }

pub nands : Operates nand_code nand16
nands img at second x sp fp left mem s first_word second_word c st = record {
  after = x;
  reached = by_row img nand_code c refl tt st (omega arith) refl;
  small = omega (arith, nands_and 16 x.in_work second first_word second_word);
}

pub compares : Operates less_code less16
compares img at second x sp fp left mem s first_word second_word c st = record {
  after = x;
  reached = by_row img less_code c refl tt st (omega arith) refl;
  small = cond_both (ltb x.in_work second) 1 0 (λ k. k < 65536) (λ e. lit< tt) (λ e. lit< tt);
}

-- What a call does: from a procedure's first word, with the place to go back to in 'back', it takes words for frames only.
abbrev pub CallsRun : List ℕ → Program → ℕ → ℕ → (ℕ → ℕ → State → Outcome) → Type 0
CallsRun img g n left call-proc = (locals f v : ℕ) (s : State) (x : Scratch) (sp fp : ℕ) (mem : List ℕ) → f < length g.procs → v < 65536 → Holds img g locals s fp mem →
    stack_base + left ≤ sp → sp ≤ fp → fp + locals ≤ stack_top →
    Does n (ValueInPlace img g locals x.in_back sp fp left 0 mem) (call-proc f v s) (at_work (entry g f) v x sp fp left mem s)

module _ (img : List ℕ) (g : Program) (few_globals : g.globals ≤ most_globals) (few_cells : g.cells ≤ most_cells)
    (locals n left : ℕ) (call-proc : ℕ → ℕ → State → Outcome) (calls : CallsRun img g n left call-proc) where
  abbrev pub Runs : Expr → Type 0
  Runs e = (rest : List Instruction) (s : State) (at v : ℕ) (x : Scratch) (sp fp : ℕ) (mem : List ℕ) →
      Stands img at (code_expr g e rest) → T (expr_ok g locals e) →
      Holds img g locals s fp mem → stack_base + left + height e ≤ sp → sp ≤ fp → fp + locals ≤ stack_top →
      Does (suc n) (ValueInPlace img g locals (end_of_expr e at) sp fp left (height e) mem) (eval call-proc e s) (at_work at v x sp fp left mem s)

  -- some steps lead to the end of an expression with its value
  in_place : (end sp fp taken : ℕ) (mem : List ℕ) (v w : ℕ) (t : State) (x : Scratch) (mem' : List ℕ) {m : Machine} →
      Reaches m (at_work end v x sp fp left mem' t) → v ≡ w → w < 65536 →
      Holds img g locals t fp mem' → ChangedWithin (sp - (left + taken)) sp mem mem' → Does (suc n) (ValueInPlace img g locals end sp fp left taken mem) (fine w t) m
  in_place end sp fp taken mem v w t x mem' r e small h c =
      let Q : Good = ValueInPlace img g locals end sp fp left taken mem in
      along (suc n) Q (fine w t) r (arrived (suc n) Q w t (at_work end v x sp fp left mem' t) (record {
        scratch = x;
        memory = mem';
        is = ap (λ (k : ℕ). at_work end k x sp fp left mem' t) e;
        value_word = small;
        holds = h;
        frames_kept = c;
      }))

  -- an expression, and then what follows it
  pub operand : (e : Expr) → Runs e → (next : ℕ → State → Outcome) (Q : Good) (rest : List Instruction) (s : State) (at v : ℕ) (x : Scratch) (sp fp : ℕ) (mem : List ℕ) →
      Stands img at (code_expr g e rest) → T (expr_ok g locals e) → Holds img g locals s fp mem →
      stack_base + left + height e ≤ sp → sp ≤ fp → fp + locals ≤ stack_top →
      ((u : ℕ) (t : State) (mem₁ : List ℕ) (y : Scratch) → u < 65536 → Holds img g locals t fp mem₁ → ChangedWithin (sp - (left + height e)) sp mem mem₁ →
      Does (suc n) Q (next u t) (at_work (end_of_expr e at) u y sp fp left mem₁ t)) →
      Does (suc n) Q (bind (eval call-proc e s) next) (at_work at v x sp fp left mem s)
  operand e run-e next Q rest s at v x sp fp mem st ok h low in_frame high follows =
      does_bind (suc n) (ValueInPlace img g locals (end_of_expr e at) sp fp left (height e) mem) Q (eval call-proc e s) next (at_work at v x sp fp left mem s)
      (run-e rest s at v x sp fp mem st ok h low in_frame high)
      (λ u t m A. subst (Does (suc n) Q (next u t)) (sym A.is) (follows u t A.memory A.scratch A.value_word A.holds A.frames_kept))

  -- an operation on two values: the first waits on the stack, where the working of the second leaves it alone
  two_run : (operation : List Instruction) (f : ℕ → ℕ → ℕ) → Operates operation f → (a b : Expr) → Runs a → Runs b →
      (rest : List Instruction) (s : State) (at v : ℕ) (x : Scratch) (sp fp : ℕ) (mem : List ℕ) →
      Stands img at (code_expr g a (push ++ code_expr g b (pop ++ (operation ++ rest)))) → T (expr_ok g locals a && expr_ok g locals b) →
      Holds img g locals s fp mem → stack_base + left + both_height (height a) (height b) ≤ sp → sp ≤ fp → fp + locals ≤ stack_top →
      Does (suc n) (ValueInPlace img g locals (end_of_two operation (end_of_expr b (past push (end_of_expr a at)))) sp fp left (both_height (height a) (height b)) mem)
      (bind (eval call-proc a s) (λ u t. bind (eval call-proc b t) (λ w r. fine (f u w) r))) (at_work at v x sp fp left mem s)
  two_run operation f operates a b run-a run-b rest s at v x sp fp mem st ok h low in_frame high =
      let end-a : ℕ = end_of_expr a at in
      let end-b : ℕ = end_of_expr b (past push end-a) in
      let taken : ℕ = both_height (height a) (height b) in
      let Q : Good = ValueInPlace img g locals (end_of_two operation end-b) sp fp left taken mem in
      let oks = both (expr_ok g locals a) (expr_ok g locals b) ok in
      let last : List Instruction = pop ++ (operation ++ rest) in
      let second : List Instruction = push ++ code_expr g b last in
      let at_push = behind_expr img g a second at st in
      let at_second = stands_past img push (code_expr g b last) end-a at_push in
      let at-pop = behind_expr img g b last (past push end-a) at_second in
      let at-operation = stands_past img pop (operation ++ rest) end-b at-pop in
      let on : ℕ → ℕ → State → Outcome = λ u w r. fine (f u w) r in
      operand a run-a (λ u t. bind (eval call-proc b t) (on u)) Q second s at v x sp fp mem st oks.0 h (omega arith) in_frame high (λ u t mem₁ y u-word h₁ c₁.
      let h₂ = holds_pushed img g few_globals few_cells locals t fp mem₁ h₁ (sp - 1) u (omega arith) (omega arith) in
      let c₂ : ChangedWithin (sp - (left + taken)) sp mem₁ (put mem₁ (sp - 1) u) = changed_one mem₁ (sp - 1) u (omega arith) (omega arith) in
      along (suc n) Q (bind (eval call-proc b t) (on u))
      (pushed img end-a u y sp fp left mem₁ t h₁.code_kept (stands_front img push (code_expr g b last) end-a at_push) (omega arith) (omega arith))
      (operand b run-b (on u) Q last t (past push end-a) u y (sp - 1) fp (put mem₁ (sp - 1) u) at_second oks.1 h₂ (omega arith) (omega arith) high (λ w r mem₃ z w-word h₃ c₃.
      let first : word mem₃ (sp - 1) ≡ u = c₃.above (sp - 1) (omega arith) ∙ get_or-set_same mem₁ (sp - 1) u 0 (omega (arith, h₁.size)) in
      let popping = popped img end-b w z (sp - 1) fp left mem₃ r h₃.code_kept sp (stands_front img pop (operation ++ rest) end-b at-pop) refl (omega arith) (omega arith) in
      let o = operates img (past pop end-b) w (with_work z (word mem₃ (sp - 1))) sp fp left mem₃ r (subst (λ (k : ℕ). k < 65536) (sym first) u-word) w-word h₃.code_kept (stands_front img operation rest (past pop end-b) at-operation) in
      in_place (end_of_two operation end-b) sp fp taken mem (f (word mem₃ (sp - 1)) w) (f u w) r o.after mem₃ (reaches_then popping o.reached) (ap (λ (k : ℕ). f k w) first) (subst (λ (k : ℕ). f k w < 65536) first o.small) h₃
      (changed_then (changed_wider c₁ (omega arith) (omega arith)) (changed_then c₂ (changed_wider c₃ (omega arith) (omega arith)))))))

  -- a cell whose number is worked out: it is there, or the run ends
  cell_run : (rest : List Instruction) (at sp fp taken : ℕ) (mem mem₁ : List ℕ) (i : ℕ) (s : State) (x : Scratch) → Stands img at (load_cell g.cells ++ rest) →
      Holds img g locals s fp mem₁ → ChangedWithin (sp - (left + taken)) sp mem mem₁ → (there : Bool) → ltb i g.cells ≡ there →
      Does (suc n) (ValueInPlace img g locals (past (load_cell g.cells) at) sp fp left taken mem) (cond there (fine (word s.cells i) s) (ends ended_index s))
      (at_work at i x sp fp left mem₁ s)
  cell_run rest at sp fp taken mem mem₁ i s x st h c true is =
      let block = stands_front img (load_cell g.cells) rest at st in
      let y : Scratch = record { in_work = cells_base + i; in_back = 0; in_spare = x.in_spare } in
      in_place (past (load_cell g.cells) at) sp fp taken mem (word mem₁ (cells_base + i)) (word s.cells i) s y mem₁
      (cell_loaded img at i x sp fp left mem₁ s h.code_kept g.cells block few_cells is) (h.cells_held i (ltb-true i g.cells is)) (word_below s.cells i h.words.cells_words) h c
  cell_run rest at sp fp taken mem mem₁ i s x st h c false is =
      let block = stands_front img (load_cell g.cells) rest at st in
      let Q : Good = ValueInPlace img g locals (past (load_cell g.cells) at) sp fp left taken mem in
      along (suc n) Q (ends ended_index s) (cell_missing img at i x sp fp left mem₁ s h.code_kept g.cells block is) (has_ended (suc n) Q ended_index s _ refl (lit< tt))

  -- every expression
  pub expr_runs : (e : Expr) → Runs e
  expr_runs (num k) rest s at v x sp fp mem st ok h low in_frame high =
      in_place (end_of_expr (num k) at) sp fp 1 mem k k s x mem (number_made img at v x sp fp left mem s h.code_kept k (stands_front img (constant value k) rest at st)) refl (ltb→lt k 65536 ok) h changed_none
  expr_runs (loc i) rest s at v x sp fp mem st ok h low in_frame high =
      let there : i < locals = ltb→lt i locals ok in
      let loaded = local_loaded img at v x sp fp left mem s h.code_kept i (stands_front img (load_local i) rest at st) (omega arith) in
      in_place (end_of_expr (loc i) at) sp fp 1 mem (word mem (fp + i)) (word s.locals i) s (with_work x (fp + i)) mem loaded (h.locals_held i there) (word_below s.locals i h.words.locals_words) h changed_none
  expr_runs (glob i) rest s at v x sp fp mem st ok h low in_frame high =
      let there : i < g.globals = ltb→lt i g.globals ok in
      let loaded = global_loaded img at v x sp fp left mem s h.code_kept i (stands_front img (load_global i) rest at st) (omega arith) in
      in_place (end_of_expr (glob i) at) sp fp 1 mem (word mem (globals_base + i)) (word s.globals i) s (with_work x (globals_base + i)) mem loaded (h.globals_held i there) (word_below s.globals i h.words.globals_words) h changed_none
  expr_runs (cell e) rest s at v x sp fp mem st ok h low in_frame high =
      let Q : Good = ValueInPlace img g locals (end_of_expr (cell e) at) sp fp left (height e) mem in
      let behind : List Instruction = load_cell g.cells ++ rest in
      operand e (expr_runs e) (λ i t. if_cell i t (fine (word t.cells i) t)) Q behind s at v x sp fp mem st ok h low in_frame high (λ i t mem₁ y i-word h₁ c.
      subst (λ (k : ℕ). Does (suc n) Q (cond (ltb i k) (fine (word t.cells i) t) (ends ended_index t)) (at_work (end_of_expr e at) i y sp fp left mem₁ t)) (sym h₁.cells_count)
      (cell_run rest (end_of_expr e at) sp fp (height e) mem mem₁ i t y (behind_expr img g e behind at st) h₁ c (ltb i g.cells) refl))
  expr_runs (add a b) rest s at v x sp fp mem st ok h low in_frame high =
      two_run add_code add16 adds a b (expr_runs a) (expr_runs b) rest s at v x sp fp mem st ok h low in_frame high
  expr_runs (sub a b) rest s at v x sp fp mem st ok h low in_frame high =
      two_run sub_code sub16 subtracts a b (expr_runs a) (expr_runs b) rest s at v x sp fp mem st ok h low in_frame high
  expr_runs (nand a b) rest s at v x sp fp mem st ok h low in_frame high =
      two_run nand_code nand16 nands a b (expr_runs a) (expr_runs b) rest s at v x sp fp mem st ok h low in_frame high
  expr_runs (less a b) rest s at v x sp fp mem st ok h low in_frame high =
      two_run less_code less16 compares a b (expr_runs a) (expr_runs b) rest s at v x sp fp mem st ok h low in_frame high
  expr_runs (half a) rest s at v x sp fp mem st ok h low in_frame high =
      let Q : Good = ValueInPlace img g locals (end_of_expr (half a) at) sp fp left (height a) mem in
      let block = stands_front img halve rest (end_of_expr a at) (behind_expr img g a (halve ++ rest) at st) in
      operand a (expr_runs a) (λ u t. fine (half16 u) t) Q (halve ++ rest) s at v x sp fp mem st ok h low in_frame high (λ u t mem₁ y u-word h₁ c.
      in_place (end_of_expr (half a) at) sp fp (height a) mem (half16 u) (half16 u) t y mem₁ (halved img (end_of_expr a at) u y sp fp left mem₁ t h₁.code_kept block) refl (omega arith) h₁ c)
  expr_runs (call f a) rest s at v x sp fp mem st ok h low in_frame high =
      let end : ℕ = end_of_expr (call f a) at in
      let Q : Good = ValueInPlace img g locals end sp fp left (height a) mem in
      let oks = both (ltb f (length g.procs)) (expr_ok g locals a) ok in
      let there : f < length g.procs = ltb→lt f (length g.procs) oks.0 in
      let way : List Instruction = go_to (entry g f) in
      let block = stands_front img way rest (end_of_expr a at) (behind_expr img g a (way ++ rest) at st) in
      operand a (expr_runs a) (λ u t. call-proc f u t) Q (way ++ rest) s at v x sp fp mem st oks.1 h low in_frame high (λ u t mem₁ y u-word h₁ c.
      let z : Scratch = record { in_work = entry g f; in_back = end; in_spare = y.in_spare } in
      along_more n Q (call-proc f u t) (jumped img (end_of_expr a at) u y sp fp left mem₁ t h₁.code_kept (entry g f) block)
      (weaken n (ValueInPlace img g locals end sp fp left 0 mem₁) Q (call-proc f u t) (at_work (entry g f) u z sp fp left mem₁ t)
      (calls locals f u t z sp fp mem₁ there u-word h₁ (omega arith) in_frame high)
      (λ w r m B. record {
        scratch = B.scratch;
        memory = B.memory;
        is = B.is;
        value_word = B.value_word;
        holds = B.holds;
        frames_kept = changed_then c (changed_wider B.frames_kept (omega arith) (omega arith));
      })))
