-- A whole program, in every memory that has its code: the procedures stand at their entries; by induction on the fuel,
-- statements and calls run; so the heart holds, and the machine does from its start what the program does.
use Rattle.std.proofs.Common.{◌≡◌, ℕ, zero, suc, ◌+◌, ◌-◌, ◌<◌, ◌≤◌, ltb, List, [], ◌∷◌, length, sym, refl, ◌∙◌, subst, arith, lit<, lit≤}
use mathlib.Core.Option.{Option, some, none}
use lib.ListN.{length-replicate}
use Rattle.words.specs.Words.{word, memory_size, IsTape}
use Rattle.words.proofs.Memory.{word_of_zeros, zeros_below}
use Rattle.machine.specs.Machine.{Machine, begin}
use Rattle.language.specs.Language.{Stmt, while, Proc, Program, State, start, source, enter, room_inside, proc_at, run_stmt, run_call, frame_size, frame_room}
use Rattle.codegen.specs.Layout.{stack_top, stack_base, globals_base, cells_base}
use Rattle.codegen.specs.Instructions.{Instruction, DONE, past, Stands}
use Rattle.codegen.specs.Codegen.{first_call, start_code, first_proc, entry, proc_place, end_of_proc, code_procs, code}
use Rattle.codegen.specs.Heart.{Scratch, at_work, Holds, ValueInPlace, Does, ExpressionRuns, StatementRuns}
use Rattle.codegen.proofs.Rows.{stands_front, stands_past}
use Rattle.codegen.proofs.Outcomes.{Good, by_row, along, is_spent}
use Rattle.codegen.proofs.Blocks.{from_bytes}
use Rattle.codegen.proofs.Limits.{WithinLimits, within_limits, proc_there, body_fits_at}
use Rattle.codegen.proofs.Exprs.{CallsRun, expr_runs}
use Rattle.codegen.proofs.Branches.{RunsStmt}
use Rattle.codegen.proofs.Stmts.{stmt_runs}
use Rattle.codegen.proofs.Procs.{ProcStands, proc_stands, call_runs}

-- a procedure stands at its entry
pub record EntryStands (img : List ℕ) (g : Program) (p : Proc) (at : ℕ) : Type 0 where
  pub behind : List Instruction
  pub parts : ProcStands img g p behind at

procs_stand : (img : List ℕ) (g : Program) (ps : List Proc) (at : ℕ) → Stands img at (code_procs g ps at) → (f : ℕ) (p : Proc) →
    proc_at ps f ≡ some p → EntryStands img g p (proc_place ps at f)
procs_stand img g [] at st f p e = let z : ◌≡◌ {A = ℕ} 0 1 = cc in absurd (omega arith)
procs_stand img g (d ∷ ps) at st zero p e =
    let same : d ≡ p = cc in
    subst (λ (x : Proc). EntryStands img g x at) same (record { behind = code_procs g ps (end_of_proc d at); parts = proc_stands img g d (code_procs g ps (end_of_proc d at)) at st })
procs_stand img g (d ∷ ps) at st (suc f) p e = procs_stand img g ps (end_of_proc d at) (proc_stands img g d (code_procs g ps (end_of_proc d at)) at st).behind f p e

module _ (img : List ℕ) (g : Program) (within : WithinLimits g) (st : Stands img 0 (code g)) where
  -- a call, given what statements do with one less fuel
  called : (n left : ℕ) → ((left locals : ℕ) (c : Stmt) → RunsStmt img g locals n left (run_stmt n g left c) c) →
      (locals f v : ℕ) (s : State) (x : Scratch) (sp fp : ℕ) (mem : List ℕ) → f < length g.procs → v < 65536 → Holds img g locals s fp mem →
      stack_base + left ≤ sp → sp ≤ fp → fp + locals ≤ stack_top → (o : Option Proc) → proc_at g.procs f ≡ o →
      Does (suc n) (ValueInPlace img g locals x.in_back sp fp left 0 mem) (enter (λ c t. run_stmt n g (room_inside o left) c t) o left v s) (at_work (entry g f) v x sp fp left mem s)
  called n left stmts locals f v s x sp fp mem there small h low in_frame high none e = absurd (proc_there g.procs f there e)
  called n left stmts locals f v s x sp fp mem there small h low in_frame high (some p) e =
      let at_entry_lem = procs_stand img g g.procs first_proc (stands_past img (start_code (entry g 0)) (code_procs g g.procs first_proc) 0 st) f p e in
      call_runs img g within.few_globals within.few_cells p at_entry_lem.behind (entry g f) n at_entry_lem.parts (λ c t. run_stmt n g (left - frame_size p) c t)
      locals v s x sp fp left mem small h low in_frame high (stmts (left - frame_size p) (1 + p.locals) p.body)
      (body_fits_at g.globals (length g.procs) g.procs within.procs_fit f p e) (ltb left (frame_size p)) refl

  record RunsWith (n : ℕ) : Type 0 where
    stmts : (left locals : ℕ) (c : Stmt) → RunsStmt img g locals n left (run_stmt n g left c) c
    calls : (left : ℕ) → CallsRun img g n left (λ f v t. run_call n g left f v t)

  -- with every amount of fuel
  runs_with : (n : ℕ) → RunsWith n
  runs_with zero = record {
    stmts = λ left locals c rest s at v x fp mem at_code ok h low high. is_spent s _ refl;
    calls = λ left locals f v s x sp fp mem there small h low in_frame high. is_spent s _ refl;
  }
  runs_with (suc n) =
      let less = runs_with n in
      record {
        stmts = λ left locals c. stmt_runs img g within.few_globals within.few_cells locals n left (λ f v t. run_call n g left f v t) (less.calls left)
            (λ e p t. run_stmt n g left (while e p) t) (λ e p. less.stmts left locals (while e p)) c;
        calls = λ left locals f v s x sp fp mem there small h low in_frame high. called n left less.stmts locals f v s x sp fp mem there small h low in_frame high (proc_at g.procs f) refl;
      }

  -- The start: the call, and behind it 'done'.
  abbrev pub done_place : ℕ
  done_place = past (first_call (entry g 0)) 0

  pub done_stands : Stands img done_place (DONE ∷ [])
  done_stands = stands_past img (first_call (entry g 0)) (DONE ∷ []) 0 (stands_front img (start_code (entry g 0)) (code_procs g g.procs first_proc) 0 st)

  -- memory holds the program's first state if it has as many words as it should, and 0 in the globals and cells
  module _ (size : length img ≡ memory_size) (blank : (j : ℕ) → globals_base ≤ j → j < stack_base → word img j ≡ 0) where
    at_start : (tape : List ℕ) → IsTape tape → Holds img g 0 (start g tape) stack_top img
    at_start tape words =
        let few_globals = within.few_globals in
        let few_cells = within.few_cells in
        record {
          words = record { locals_words = tt; globals_words = zeros_below g.globals; cells_words = zeros_below g.cells; tape_words = words };
          size = size;
          code_kept = λ j b. refl;
          globals_count = length-replicate {A = ℕ} g.globals 0;
          cells_count = length-replicate {A = ℕ} g.cells 0;
          locals_count = refl;
          globals_held = λ i b. blank (globals_base + i) (omega arith) (omega arith) ∙ sym (word_of_zeros g.globals i);
          cells_held = λ i b. blank (cells_base + i) (omega arith) (omega arith) ∙ sym (word_of_zeros g.cells i);
          locals_held = λ i b. absurd (omega arith);
        }

    pub program_does : (tape : List ℕ) → IsTape tape → (n : ℕ) → Does n (ValueInPlace img g 0 done_place stack_top stack_top frame_room 0 img) (source g tape n) (begin img tape)
    program_does tape words n =
        let some_proc = within.some_proc in
        let Q : Good = ValueInPlace img g 0 done_place stack_top stack_top frame_room 0 img in
        let call : List Instruction = first_call (entry g 0) in
        let x : Scratch = record { in_work = entry g 0; in_back = done_place; in_spare = 0 } in
        let begun : Machine = at_work (entry g 0) 0 x stack_top stack_top frame_room img (start g tape) in
        let at_call = stands_front img call (DONE ∷ []) 0 (stands_front img (start_code (entry g 0)) (code_procs g g.procs first_proc) 0 st) in
        along n Q (source g tape n) {m' = begun} (by_row img call (λ j b. refl) refl tt at_call (omega arith) (rw (from_bytes (entry g 0)) refl))
        ((runs_with n).calls frame_room 0 0 0 (start g tape) x stack_top stack_top img (omega arith) (lit< tt) (at_start tape words) (lit≤ tt) (omega arith) (omega arith))

-- The heart.
pub expression_runs : ExpressionRuns
expression_runs img g ok st fuel locals e rest s at v x sp fp left mem at_code fits_e h low in_frame high =
    let within = within_limits g ok in
    let calls = (runs_with img g within st fuel).calls left in
    expr_runs img g within.few_globals within.few_cells locals fuel left (λ f u t. run_call fuel g left f u t) calls e rest s at v x sp fp mem at_code fits_e h low in_frame high

pub statement_runs : StatementRuns
statement_runs img g ok st fuel locals c rest s at v x fp left mem at_code fits-c h low high =
    (runs_with img g (within_limits g ok) st fuel).stmts left locals c rest s at v x fp mem at_code fits-c h low high
