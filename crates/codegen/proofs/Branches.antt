-- The heart, for 'if' and 'while', given what the code of their statements does and what a further turn of a loop does: a
-- statement's end, its last part, a statement with what follows it; then which way a test goes.
use Rattle.std.proofs.Common.{◌≡◌, ℕ, suc, ◌+◌, ◌-◌, ◌≤◌, Bool, true, false, cond, T, eqb, List, ◌++◌, sym, refl, subst, arith}
use Rattle.machine.specs.Machine.{Machine}
use Rattle.language.specs.Language.{Expr, Stmt, if, while, Program, State, Outcome, fine, ends, spent, bind, height, stmt_height}
use Rattle.codegen.specs.Layout.{stack_top, stack_base}
use Rattle.codegen.specs.Instructions.{Instruction, past, Stands}
use Rattle.codegen.specs.Codegen.{go_to, go_unless_zero, end_of_expr, end_of_stmt, else_place, then_place, loop_place, code_stmt}
use Rattle.codegen.specs.Heart.{stmt_ok, Scratch, at_work, Holds, ChangedWithin, StatementDone, Does}
use Rattle.codegen.proofs.Outcomes.{Good, Reaches, reaches_then, along, along_more, arrived, does_bind, weaken}
use Rattle.codegen.proofs.Blocks.{with_work, jumped, branch_not_taken, branch_taken}
use Rattle.codegen.proofs.Holding.{changed_wider, changed_then}
use Rattle.codegen.proofs.Behind.{if_stands, while_stands}

-- what a statement's code does, where its run is 'run' and takes at least n steps if the fuel is spent
abbrev pub RunsStmt : List ℕ → Program → ℕ → ℕ → ℕ → (State → Outcome) → Stmt → Type 0
RunsStmt img g locals n left run c = (rest : List Instruction) (s : State) (at v : ℕ) (x : Scratch) (fp : ℕ) (mem : List ℕ) →
    Stands img at (code_stmt g c at rest) → T (stmt_ok g locals c) →
    Holds img g locals s fp mem → stack_base + left + stmt_height c ≤ fp → fp + locals ≤ stack_top →
    Does n (StatementDone img g locals (end_of_stmt c at) fp left (stmt_height c) mem) (run s) (at_work at v x fp fp left mem s)

bind_fine : (o : Outcome) → bind o fine ≡ o
bind_fine (fine v s) = refl
bind_fine (ends how s) = refl
bind_fine (spent s) = refl

module _ (img : List ℕ) (g : Program) (locals left : ℕ) where
  -- some steps lead to the end of a statement
  pub finish : (n end fp taken : ℕ) (mem : List ℕ) (k : ℕ) (t : State) (v : ℕ) (x : Scratch) (mem' : List ℕ) {m : Machine} →
      Reaches m (at_work end v x fp fp left mem' t) →
      Holds img g locals t fp mem' → ChangedWithin (fp - (left + taken)) (fp + locals) mem mem' → Does n (StatementDone img g locals end fp left taken mem) (fine k t) m
  finish n end fp taken mem k t v x mem' r h c =
      let Q : Good = StatementDone img g locals end fp left taken mem in
      along n Q (fine k t) r (arrived n Q k t (at_work end v x fp fp left mem' t) (record { value = v; scratch = x; memory = mem'; is = refl; holds = h; frames_kept = c }))

  -- what the last part of a statement does is done after what stands before it
  pub last_part : (n end fp taken taken₁ : ℕ) (mem mem₁ : List ℕ) (o : Outcome) (m : Machine) →
      ChangedWithin (fp - (left + taken)) (fp + locals) mem mem₁ → taken₁ ≤ taken →
      Does n (StatementDone img g locals end fp left taken₁ mem₁) o m → Does n (StatementDone img g locals end fp left taken mem) o m
  last_part n end fp taken taken₁ mem mem₁ o m c le d =
      weaken n (StatementDone img g locals end fp left taken₁ mem₁) (StatementDone img g locals end fp left taken mem) o m d (λ v t m' B. record {
        value = B.value;
        scratch = B.scratch;
        memory = B.memory;
        is = B.is;
        holds = B.holds;
        frames_kept = changed_then c (changed_wider B.frames_kept (omega arith) (omega arith));
      })

  -- a statement, and then what follows it
  pub statement : (n : ℕ) (c : Stmt) (run : State → Outcome) → RunsStmt img g locals n left run c →
      (next : ℕ → State → Outcome) (Q : Good) (rest : List Instruction) (s : State) (at v : ℕ) (x : Scratch) (fp : ℕ) (mem : List ℕ) →
      Stands img at (code_stmt g c at rest) → T (stmt_ok g locals c) → Holds img g locals s fp mem → stack_base + left + stmt_height c ≤ fp → fp + locals ≤ stack_top →
      ((k : ℕ) (t : State) (w : ℕ) (mem₁ : List ℕ) (y : Scratch) → Holds img g locals t fp mem₁ → ChangedWithin (fp - (left + stmt_height c)) (fp + locals) mem mem₁ →
      Does n Q (next k t) (at_work (end_of_stmt c at) w y fp fp left mem₁ t)) →
      Does n Q (bind (run s) next) (at_work at v x fp fp left mem s)
  statement n c run runs next Q rest s at v x fp mem st ok h low high follows =
      does_bind n (StatementDone img g locals (end_of_stmt c at) fp left (stmt_height c) mem) Q (run s) next (at_work at v x fp fp left mem s)
      (runs rest s at v x fp mem st ok h low high)
      (λ k t m B. subst (Does n Q (next k t)) (sym B.is) (follows k t B.value B.memory B.scratch B.holds B.frames_kept))

-- After the test of an 'if' or 'while', at 'end-e' with the value k.
module _ (img : List ℕ) (g : Program) (locals n left : ℕ) (run : Stmt → State → Outcome) (turn : Expr → Stmt → State → Outcome)
    (rest : List Instruction) (at fp : ℕ) (mem mem₁ : List ℕ) (k : ℕ) (now : State) (x : Scratch) (h : Holds img g locals now fp mem₁) (high : fp + locals ≤ stack_top) where
  pub if_run : (e : Expr) (s t : Stmt) → RunsStmt img g locals (suc n) left (run s) s → RunsStmt img g locals (suc n) left (run t) t →
      Stands img at (code_stmt g (if e s t) at rest) → T (stmt_ok g locals s) → T (stmt_ok g locals t) →
      ChangedWithin (fp - (left + height e)) fp mem mem₁ → stack_base + left + stmt_height (if e s t) ≤ fp → (zero? : Bool) → eqb k 0 ≡ zero? →
      Does (suc n) (StatementDone img g locals (end_of_stmt (if e s t) at) fp left (stmt_height (if e s t)) mem) (cond zero? (run t now) (run s now)) (at_work (end_of_expr e at) k x fp fp left mem₁ now)
  if_run e s t run-s run-t st ok-s ok-t c low true is =
      let q : ℕ = then_place e t at in
      let end : ℕ = end_of_stmt (if e s t) at in
      let end-t : ℕ = end_of_stmt t (else_place e at) in
      let taken : ℕ = stmt_height (if e s t) in
      let Q : Good = StatementDone img g locals end fp left taken mem in
      let parts = if_stands img g e s t rest at st in
      let y : Scratch = with_work x q in
      along (suc n) Q (run t now) (branch_not_taken img (end_of_expr e at) k x fp fp left mem₁ now h.code_kept q parts.branch is)
      (subst (λ (o : Outcome). Does (suc n) Q o (at_work (else_place e at) k y fp fp left mem₁ now)) (bind_fine (run t now))
      (statement img g locals left (suc n) t (run t) run-t fine Q (go_to end ++ code_stmt g s q rest) now (else_place e at) k y fp mem₁ parts.second ok-t h (omega arith) high (λ v r w mem₂ z h₂ c₂.
      finish img g locals left (suc n) end fp taken mem v r w (record { in_work = end; in_back = past (go_to end) end-t; in_spare = z.in_spare }) mem₂
      (jumped img end-t w z fp fp left mem₂ r h₂.code_kept end parts.way_on) h₂
      (changed_then (changed_wider c (omega arith) (omega arith)) (changed_wider c₂ (omega arith) (omega arith))))))
  if_run e s t run-s run-t st ok-s ok-t c low false is =
      let q : ℕ = then_place e t at in
      let end : ℕ = end_of_stmt (if e s t) at in
      let taken : ℕ = stmt_height (if e s t) in
      let Q : Good = StatementDone img g locals end fp left taken mem in
      let parts = if_stands img g e s t rest at st in
      let y : Scratch = record { in_work = q; in_back = else_place e at; in_spare = x.in_spare } in
      along (suc n) Q (run s now) (branch_taken img (end_of_expr e at) k x fp fp left mem₁ now h.code_kept q parts.branch is)
      (last_part img g locals left (suc n) end fp taken (stmt_height s) mem mem₁ (run s now) (at_work q k y fp fp left mem₁ now) (changed_wider c (omega arith) (omega arith)) (omega arith)
      (run-s rest now q k y fp mem₁ parts.first ok-s h (omega arith) high))

  pub while_run : (e : Expr) (s : Stmt) → RunsStmt img g locals (suc n) left (run s) s → RunsStmt img g locals n left (turn e s) (while e s) →
      Stands img at (code_stmt g (while e s) at rest) → T (stmt_ok g locals (while e s)) → T (stmt_ok g locals s) →
      ChangedWithin (fp - (left + height e)) fp mem mem₁ → stack_base + left + stmt_height (while e s) ≤ fp → (zero? : Bool) → eqb k 0 ≡ zero? →
      Does (suc n) (StatementDone img g locals (end_of_stmt (while e s) at) fp left (stmt_height (while e s)) mem) (cond zero? (fine 0 now) (bind (run s now) (λ v r. turn e s r)))
      (at_work (end_of_expr e at) k x fp fp left mem₁ now)
  while_run e s run-s again st ok ok-s c low true is =
      let q : ℕ = loop_place e at in
      let end : ℕ = end_of_stmt (while e s) at in
      let out-place : ℕ = past (go_unless_zero q) (end_of_expr e at) in
      let parts = while_stands img g e s rest at st in
      let out-of-loop = branch_not_taken img (end_of_expr e at) k x fp fp left mem₁ now h.code_kept q parts.branch is in
      let to_end = jumped img out-place k (with_work x q) fp fp left mem₁ now h.code_kept end parts.way_out in
      finish img g locals left (suc n) end fp (stmt_height (while e s)) mem 0 now k (record { in_work = end; in_back = past (go_to end) out-place; in_spare = x.in_spare }) mem₁
      (reaches_then out-of-loop to_end) h (changed_wider c (omega arith) (omega arith))
  while_run e s run-s again st ok ok-s c low false is =
      let q : ℕ = loop_place e at in
      let end : ℕ = end_of_stmt (while e s) at in
      let end-s : ℕ = end_of_stmt s q in
      let taken : ℕ = stmt_height (while e s) in
      let Q : Good = StatementDone img g locals end fp left taken mem in
      let parts = while_stands img g e s rest at st in
      let further : ℕ → State → Outcome = λ v r. turn e s r in
      let y : Scratch = record { in_work = q; in_back = past (go_unless_zero q) (end_of_expr e at); in_spare = x.in_spare } in
      along (suc n) Q (bind (run s now) further) (branch_taken img (end_of_expr e at) k x fp fp left mem₁ now h.code_kept q parts.branch is)
      (statement img g locals left (suc n) s (run s) run-s further Q (go_to at ++ rest) now q k y fp mem₁ parts.body ok-s h (omega arith) high (λ v r w mem₂ z h₂ c₂.
      let there : Scratch = record { in_work = at; in_back = past (go_to at) end-s; in_spare = z.in_spare } in
      along_more n Q (turn e s r) (jumped img end-s w z fp fp left mem₂ r h₂.code_kept at parts.way_back)
      (last_part img g locals left n end fp taken taken mem mem₂ (turn e s r) (at_work at w there fp fp left mem₂ r)
      (changed_then (changed_wider c (omega arith) (omega arith)) (changed_wider c₂ (omega arith) (omega arith))) (omega arith)
      (again rest r at w there fp mem₂ st ok h₂ low high))))
