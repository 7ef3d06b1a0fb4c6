-- A procedure's code, given what its body's code does: where its parts stand; the frame is made; the frame is left; the call
-- as a whole, with and without room.
use Rattle.std.proofs.Common.{◌≡◌, ℕ, suc, ◌+◌, ◌-◌, ◌<◌, ◌≤◌, Bool, true, false, cond, T, ltb, List, ◌∷◌, ◌++◌, replicate, sym, refl, ◌∙◌, subst, arith, lit<}
use Rattle.std.proofs.lemmas.List.{get_or-set_other}
use Rattle.std.proofs.lemmas.Bool.{ltb-false}
use Rattle.words.specs.Words.{add16, sub16, word, put}
use Rattle.words.specs.Runs.{ended_full}
use Rattle.words.proofs.Lists.{word_below}
use Rattle.words.proofs.Memory.{cleared}
use Rattle.machine.specs.Machine.{Machine}
use Rattle.language.specs.Language.{Stmt, Proc, Program, State, with_locals, Outcome, fine, ends, bind, frame_size, stmt_height}
use Rattle.language.specs.Limits.{most_globals, most_cells}
use Rattle.codegen.specs.Layout.{stack_top, stack_base}
use Rattle.codegen.specs.Instructions.{Instruction, past, Stands}
use Rattle.codegen.specs.Codegen.{check_room, make_frame, clear_words, leave_frame, body_place, end_of_stmt, end_of_proc, code_stmt, code_proc}
use Rattle.codegen.specs.Heart.{stmt_ok, Scratch, at_work, HasCode, Holds, ValueInPlace, StatementDone, Does}
use Rattle.codegen.proofs.Rows.{stands_front, stands_past}
use Rattle.codegen.proofs.Outcomes.{Good, Reaches, reaches_then, by_row, along, along_more, arrived, has_ended, does_bind}
use Rattle.codegen.proofs.Blocks.{from_bytes}
use Rattle.codegen.proofs.Behind.{behind_stmt}
use Rattle.codegen.proofs.Branches.{RunsStmt}
use Rattle.codegen.proofs.Frames.{no_room, room_left, clears, frame_place, Framed, framed, frame_holds, with_argument}

-- the parts of a procedure, in their order
pub record ProcStands (img : List ℕ) (g : Program) (p : Proc) (rest : List Instruction) (at : ℕ) : Type 0 where
  pub test : Stands img at (check_room p)
  pub making : Stands img (past (check_room p) at) (make_frame p)
  pub clearing : Stands img (past (make_frame p) (past (check_room p) at)) (clear_words 0 p.locals)
  pub body : Stands img (body_place p at) (code_stmt g p.body (body_place p at) (leave_frame p ++ rest))
  pub leaving : Stands img (end_of_stmt p.body (body_place p at)) (leave_frame p)
  pub behind : Stands img (end_of_proc p at) rest

pub proc_stands : (img : List ℕ) (g : Program) (p : Proc) (rest : List Instruction) (at : ℕ) → Stands img at (code_proc g p at rest) → ProcStands img g p rest at
proc_stands img g p rest at st =
    let body : List Instruction = code_stmt g p.body (body_place p at) (leave_frame p ++ rest) in
    let clearing : List Instruction = clear_words 0 p.locals in
    let after_test : ℕ = past (check_room p) at in
    let after-making : ℕ = past (make_frame p) after_test in
    let at-making = stands_past img (check_room p) (make_frame p ++ (clearing ++ body)) at st in
    let at-clearing = stands_past img (make_frame p) (clearing ++ body) after_test at-making in
    let at_body = stands_past img clearing body after-making at-clearing in
    let at-leaving = behind_stmt img g p.body (leave_frame p ++ rest) (body_place p at) at_body in
    record {
      test = stands_front img (check_room p) (make_frame p ++ (clearing ++ body)) at st;
      making = stands_front img (make_frame p) (clearing ++ body) after_test at-making;
      clearing = stands_front img clearing body after-making at-clearing;
      body = at_body;
      leaving = stands_front img (leave_frame p) rest (end_of_stmt p.body (body_place p at)) at-leaving;
      behind = stands_past img (leave_frame p) rest (end_of_stmt p.body (body_place p at)) at-leaving;
    }

module _ (img : List ℕ) (g : Program) (few_globals : g.globals ≤ most_globals) (few_cells : g.cells ≤ most_cells) (p : Proc) (rest : List Instruction) (at n : ℕ)
    (stands : ProcStands img g p rest at) (run-body : Stmt → State → Outcome)
    (locals v : ℕ) (s : State) (x : Scratch) (sp fp left : ℕ) (mem : List ℕ) (small : v < 65536) (h : Holds img g locals s fp mem)
    (low : stack_base + left ≤ sp) (in_frame : sp ≤ fp) (high : fp + locals ≤ stack_top) where
  abbrev own : State
  own = with_locals s (v ∷ replicate p.locals 0)

  abbrev base : ℕ
  base = frame_place p sp

  abbrev inside : ℕ
  inside = left - frame_size p

  abbrev framed_mem : List ℕ
  framed_mem = cleared (with_argument p v x.in_back sp fp mem) (suc base + 0) p.locals

  -- from the word after the test to the body's first
  enters : frame_size p ≤ left →
      Reaches (at_work (past (check_room p) at) v (record { in_work = frame_size p; in_back = x.in_back; in_spare = 0 }) sp fp left mem s)
      (at_work (body_place p at) v (record { in_work = suc base; in_back = x.in_back; in_spare = 0 }) base base inside framed_mem own)
  enters le =
      let k : ℕ = p.locals in
      let room : sub16 left (frame_size p) ≡ inside = omega arith in
      let down₁ : sub16 sp 1 ≡ sp - 1 = omega arith in
      let same₁ : add16 (sp - 1) 0 ≡ sp - 1 = omega arith in
      let down₂ : sub16 (sp - 1) 1 ≡ sp - 2 = omega arith in
      let same₂ : add16 (sp - 2) 0 ≡ sp - 2 = omega arith in
      let down₃ : sub16 (sp - 2) (1 + k) ≡ base = omega arith in
      let same₃ : add16 base 0 ≡ base = omega arith in
      let up : add16 base 1 ≡ suc base = omega arith in
      let code₁ : HasCode img (with_argument p v x.in_back sp fp mem) = λ j b.
      get_or-set_other (put (put mem (sp - 1) x.in_back) (sp - 2) fp) base j v 0 (omega arith) ∙ get_or-set_other (put mem (sp - 1) x.in_back) (sp - 2) j fp 0 (omega arith)
      ∙ get_or-set_other mem (sp - 1) j x.in_back 0 (omega arith) ∙ h.code_kept j b in
      clears img k 0 (past (make_frame p) (past (check_room p) at)) v (suc base) x.in_back base base inside (with_argument p v x.in_back sp fp mem) own
      (by_row img (make_frame p) h.code_kept refl tt stands.making (omega arith) (rw (room, down₁, same₁, down₂, same₂, down₃, same₃, same₃, up) refl))
      stands.clearing code₁ (omega arith) (omega arith)

  -- from the word after the body to the caller
  leaves : frame_size p ≤ left → (mem₁ : List ℕ) → Framed p v x.in_back sp fp mem mem₁ → (k : ℕ) (t : State) (m : Machine) →
      StatementDone img g (1 + p.locals) (end_of_stmt p.body (body_place p at)) base inside (stmt_height p.body) mem₁ k t m →
      Does n (ValueInPlace img g locals x.in_back sp fp left 0 mem) (fine (word t.locals 0) (with_locals t s.locals)) m
  leaves le mem₁ f k t m B =
      let Q : Good = ValueInPlace img g locals x.in_back sp fp left 0 mem in
      let result : ℕ = word t.locals 0 in
      let after : State = with_locals t s.locals in
      let end : ℕ = end_of_stmt p.body (body_place p at) in
      let y : Scratch = record { in_work = frame_size p; in_back = x.in_back; in_spare = past (leave_frame p) end } in
      let local₀ : add16 base 0 ≡ base + 0 = omega arith in
      let up₁ : add16 base (1 + p.locals) ≡ sp - 2 = omega arith in
      let same : add16 (sp - 2) 0 ≡ sp - 2 = omega arith in
      let up₂ : add16 (sp - 2) 1 ≡ sp - 1 = omega arith in
      let up₃ : add16 (sp - 1) 1 ≡ sp = omega arith in
      let room : add16 inside (frame_size p) ≡ left = omega arith in
      let value_there : word B.memory (base + 0) ≡ result = B.holds.locals_held 0 (omega arith) in
      let return-there : word B.memory (sp - 1) ≡ x.in_back = B.frames_kept.above (sp - 1) (omega arith) ∙ f.return_place in
      let caller-there : word B.memory (sp - 2) ≡ fp = B.frames_kept.above (sp - 2) (omega arith) ∙ f.caller_frame in
      subst (Does n Q (fine result after)) (sym B.is)
      (along n Q (fine result after) {m' = at_work x.in_back result y sp fp left B.memory after}
      (by_row img (leave_frame p) B.holds.code_kept refl tt stands.leaving (omega arith) (rw (local₀, value_there, up₁, same, caller-there, up₂, return-there, up₃, from_bytes, room) refl))
      (arrived n Q result after (at_work x.in_back result y sp fp left B.memory after) (record {
        scratch = y;
        memory = B.memory;
        is = refl;
        value_word = word_below t.locals 0 B.holds.words.locals_words;
        holds = record {
          words = record { locals_words = h.words.locals_words; globals_words = B.holds.words.globals_words; cells_words = B.holds.words.cells_words; tape_words = B.holds.words.tape_words };
          size = B.holds.size;
          code_kept = B.holds.code_kept;
          globals_count = B.holds.globals_count;
          cells_count = B.holds.cells_count;
          locals_count = h.locals_count;
          globals_held = B.holds.globals_held;
          cells_held = B.holds.cells_held;
          locals_held = λ i b. B.frames_kept.above (fp + i) (omega arith) ∙ f.above (fp + i) (omega arith) ∙ h.locals_held i b;
        };
        frames_kept = record {
          below = λ j b c. B.frames_kept.below j b (omega arith) ∙ f.below j (omega arith);
          above = λ j b. B.frames_kept.above j (omega arith) ∙ f.above j b;
        };
      })))

  -- the call, with and without room
  pub call_runs : RunsStmt img g (1 + p.locals) n inside (run-body p.body) p.body → T (stmt_ok g (1 + p.locals) p.body) → (full : Bool) →
      ltb left (frame_size p) ≡ full →
      Does (suc n) (ValueInPlace img g locals x.in_back sp fp left 0 mem)
      (cond full (ends ended_full s) (bind (run-body p.body own) (λ k t. fine (word t.locals 0) (with_locals t s.locals)))) (at_work at v x sp fp left mem s)
  call_runs body ok true e =
      let Q : Good = ValueInPlace img g locals x.in_back sp fp left 0 mem in
      along (suc n) Q (ends ended_full s) (no_room img p at v x sp fp left mem s h.code_kept stands.test e) (has_ended (suc n) Q ended_full s _ refl (lit< tt))
  call_runs body ok false e =
      let Q : Good = ValueInPlace img g locals x.in_back sp fp left 0 mem in
      let le : frame_size p ≤ left = ltb-false left (frame_size p) e in
      let back : ℕ → State → Outcome = λ k t. fine (word t.locals 0) (with_locals t s.locals) in
      let f : Framed p v x.in_back sp fp mem framed_mem = framed p v x.in_back sp fp mem h.size (omega arith) (omega arith) in
      let y : Scratch = record { in_work = suc base; in_back = x.in_back; in_spare = 0 } in
      along_more n Q (bind (run-body p.body own) back) (reaches_then (room_left img p at v x sp fp left mem s h.code_kept stands.test e) (enters le))
      (does_bind n (StatementDone img g (1 + p.locals) (end_of_stmt p.body (body_place p at)) base inside (stmt_height p.body) framed_mem) Q (run-body p.body own) back
      (at_work (body_place p at) v y base base inside framed_mem own)
      (body (leave_frame p ++ rest) own (body_place p at) v y base framed_mem stands.body ok
      (frame_holds img g few_globals few_cells p locals v x.in_back sp fp s mem framed_mem small h f (omega arith)) (omega arith) (omega arith))
      (leaves le framed_mem f))
