-- A procedure's frame: the test for room; the further locals set to 0; the frame that stands after its making, and that
-- memory then holds the procedure's own state.
use Rattle.std.proofs.Common.{◌≡◌, ℕ, zero, suc, ◌+◌, ◌-◌, ◌<◌, ◌≤◌, true, false, ltb, List, [], ◌∷◌, length, replicate, sym, refl, ap, ◌∙◌, arith, length-set}
use lib.ListN.{length-replicate}
use Rattle.std.proofs.lemmas.List.{get_or-set_same, get_or-set_other}
use Rattle.words.specs.Words.{add16, word, put, memory_size}
use Rattle.words.specs.Runs.{ended_full}
use Rattle.words.proofs.Memory.{word_of_zeros, zeros_below, cleared, cleared_none, cleared_more, length_cleared, cleared_below, cleared_above, cleared_is}
use Rattle.machine.specs.Machine.{Machine, halt}
use Rattle.language.specs.Language.{Proc, Program, State, with_locals, frame_size}
use Rattle.language.specs.Limits.{most_globals, most_cells}
use Rattle.codegen.specs.Layout.{stack_top, stack_base, code_limit, cells_base, globals_base, work, spare}
use Rattle.codegen.specs.Instructions.{STORE, FULL, past, Stands}
use Rattle.codegen.specs.Codegen.{room_test, check_room, clear_words}
use Rattle.codegen.specs.Heart.{Scratch, at_work, HasCode, Holds}
use Rattle.codegen.proofs.Rows.{stands_front, stands_past}
use Rattle.codegen.proofs.Outcomes.{Reaches, reaches_then, by_row}
use Rattle.codegen.proofs.Blocks.{from_bytes}

-- The test for room.
module _ (img : List ℕ) (p : Proc) (at v : ℕ) (x : Scratch) (sp fp left : ℕ) (mem : List ℕ) (s : State) (code : HasCode img mem) (st : Stands img at (check_room p)) where
  pub no_room : ltb left (frame_size p) ≡ true →
      Reaches (at_work at v x sp fp left mem s) (halt (at_work (past (room_test p) at) v (record { in_work = frame_size p; in_back = x.in_back; in_spare = 1 }) sp fp left mem s) ended_full)
  no_room e = reaches_then {m' = at_work (past (room_test p) at) v (record { in_work = frame_size p; in_back = x.in_back; in_spare = 1 }) sp fp left mem s}
      (by_row img (room_test p) code refl tt (stands_front img (room_test p) (FULL ∷ []) at st) (omega arith) (rw (from_bytes, e) refl))
      (by_row img (FULL ∷ []) code refl tt (stands_past img (room_test p) (FULL ∷ []) at st) (omega arith) refl)

  pub room_left : ltb left (frame_size p) ≡ false →
      Reaches (at_work at v x sp fp left mem s) (at_work (past (check_room p) at) v (record { in_work = frame_size p; in_back = x.in_back; in_spare = 0 }) sp fp left mem s)
  room_left e = by_row img (room_test p) code refl tt (stands_front img (room_test p) (FULL ∷ []) at st) (omega arith) (rw (from_bytes, e) refl)

-- The words from 'work' + i on are set to 0.
pub clears : (img : List ℕ) (n i at v b q sp fp left : ℕ) (mem : List ℕ) (s : State) {m : Machine} → Reaches m (at_work at v (record { in_work = b; in_back = q; in_spare = 0 }) sp fp left mem s) →
    Stands img at (clear_words i n) → HasCode img mem → code_limit ≤ b → b + i + n ≤ stack_top →
    Reaches m (at_work (past (clear_words i n) at) v (record { in_work = b; in_back = q; in_spare = 0 }) sp fp left (cleared mem (b + i) n) s)
clears img zero i at v b q sp fp left mem s r st code lo hi = rw (cleared_none mem (b + i)) r
clears img (suc n) i at v b q sp fp left mem s r st code lo hi =
    let sum : add16 b i ≡ b + i = omega arith in
    let next : b + suc i ≡ suc (b + i) = omega arith in
    let x : Scratch = record { in_work = b; in_back = q; in_spare = 0 } in
    let one : Reaches (at_work at v x sp fp left mem s) (at_work (suc at) v x sp fp left (put mem (b + i) 0) s)
    = by_row img (STORE spare work i ∷ []) code refl tt (st.0, st.1, st.2, tt) (omega arith) (rw sum refl) in
    let code₁ : HasCode img (put mem (b + i) 0) = λ j k. get_or-set_other mem (b + i) j 0 0 (omega arith) ∙ code j k in
    let more = clears img n (suc i) (suc at) v b q sp fp left (put mem (b + i) 0) s (reaches_then r one) st.3 code₁ lo (omega arith) in
    rw (cleared_more mem (b + i) n, ← next) more

-- The place of a procedure's frame below the caller's words: the argument and further locals, the caller's frame pointer,
-- the place to go back to.
abbrev pub frame_place : Proc → ℕ → ℕ
frame_place p sp = sp - (3 + p.locals)

-- the frame stands in memory: below it and from the caller's words on, nothing has changed
pub record Framed (p : Proc) (v q sp fp : ℕ) (mem mem' : List ℕ) : Type 0 where
  pub size : length mem' ≡ length mem
  pub below : (j : ℕ) → j < frame_place p sp → word mem' j ≡ word mem j
  pub above : (j : ℕ) → sp ≤ j → word mem' j ≡ word mem j
  pub return_place : word mem' (sp - 1) ≡ q
  pub caller_frame : word mem' (sp - 2) ≡ fp
  pub argument : word mem' (frame_place p sp) ≡ v
  pub zeros : (i : ℕ) → i < p.locals → word mem' (suc (frame_place p sp) + i) ≡ 0

module _ (p : Proc) (v q sp fp : ℕ) (mem : List ℕ) where
  abbrev pub with_return : List ℕ
  with_return = put mem (sp - 1) q

  abbrev pub with_caller : List ℕ
  with_caller = put with_return (sp - 2) fp

  abbrev pub with_argument : List ℕ
  with_argument = put with_caller (frame_place p sp) v

  -- a word that is none of the three that are stored
  kept : (j : ℕ) → (j ≡ sp - 1 → ⊥) → (j ≡ sp - 2 → ⊥) → (j ≡ frame_place p sp → ⊥) → word with_argument j ≡ word mem j
  kept j no_return no-caller no-argument =
      get_or-set_other with_caller (frame_place p sp) j v 0 no-argument ∙ get_or-set_other with_return (sp - 2) j fp 0 no-caller ∙ get_or-set_other mem (sp - 1) j q 0 no_return

  pub framed : length mem ≡ memory_size → stack_base + frame_size p ≤ sp → sp ≤ stack_top →
      Framed p v q sp fp mem (cleared with_argument (suc (frame_place p sp) + 0) p.locals)
  framed fits lo hi =
      let b : ℕ = frame_place p sp in
      let k : ℕ = p.locals in
      let from : ℕ = suc b + 0 in
      let size₁ = length-set mem (sp - 1) q in
      let size₂ = length-set with_return (sp - 2) fp in
      let size₃ = length-set with_caller b v in
      let return-stored : word with_argument (sp - 1) ≡ q =
      get_or-set_other with_caller b (sp - 1) v 0 (omega arith) ∙ get_or-set_other with_return (sp - 2) (sp - 1) fp 0 (omega arith) ∙ get_or-set_same mem (sp - 1) q 0 (omega arith) in
      let caller-stored : word with_argument (sp - 2) ≡ fp = get_or-set_other with_caller b (sp - 2) v 0 (omega arith) ∙ get_or-set_same with_return (sp - 2) fp 0 (omega arith) in
      record {
        size = length_cleared with_argument from k ∙ size₃ ∙ size₂ ∙ size₁;
        below = λ j h. cleared_below with_argument from k j (omega arith) ∙ kept j (omega arith) (omega arith) (omega arith);
        above = λ j h. cleared_above with_argument from k j (omega arith) ∙ kept j (omega arith) (omega arith) (omega arith);
        return_place = cleared_above with_argument from k (sp - 1) (omega arith) ∙ return-stored;
        caller_frame = cleared_above with_argument from k (sp - 2) (omega arith) ∙ caller-stored;
        argument = cleared_below with_argument from k b (omega arith) ∙ get_or-set_same with_caller b v 0 (omega arith);
        zeros = λ i h. (let e : suc b + i ≡ from + i = omega arith in ap (word (cleared with_argument from k)) e ∙ cleared_is with_argument from k i h (omega arith));
      }

-- Memory with the frame holds the state that the body begins with.
module _ (img : List ℕ) (g : Program) (few_globals : g.globals ≤ most_globals) (few_cells : g.cells ≤ most_cells) (p : Proc) (locals v q sp fp : ℕ) (s : State) (mem mem' : List ℕ)
    (small : v < 65536) (h : Holds img g locals s fp mem) (f : Framed p v q sp fp mem mem') (lo : stack_base + frame_size p ≤ sp) where
  own_locals : (i : ℕ) → i < 1 + p.locals → word mem' (frame_place p sp + i) ≡ word (v ∷ replicate p.locals 0) i
  own_locals zero b = let e : frame_place p sp + 0 ≡ frame_place p sp = omega arith in ap (word mem') e ∙ f.argument
  own_locals (suc i) b = let e : frame_place p sp + suc i ≡ suc (frame_place p sp) + i = omega arith in ap (word mem') e ∙ f.zeros i (omega arith) ∙ sym (word_of_zeros p.locals i)

  pub frame_holds : Holds img g (1 + p.locals) (with_locals s (v ∷ replicate p.locals 0)) (frame_place p sp) mem'
  frame_holds = record {
    words = record { locals_words = (small, zeros_below p.locals); globals_words = h.words.globals_words; cells_words = h.words.cells_words; tape_words = h.words.tape_words };
    size = f.size ∙ h.size;
    code_kept = λ j b. f.below j (omega arith) ∙ h.code_kept j b;
    globals_count = h.globals_count;
    cells_count = h.cells_count;
    locals_count = omega (arith, length-replicate {A = ℕ} p.locals 0);
    globals_held = λ i b. f.below (globals_base + i) (omega arith) ∙ h.globals_held i b;
    cells_held = λ i b. f.below (cells_base + i) (omega arith) ∙ h.cells_held i b;
    locals_held = own_locals;
  }
