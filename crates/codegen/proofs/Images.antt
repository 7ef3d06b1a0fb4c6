-- The image of a program within the limits: its words; its code stands in it; the machine's run tracks the program's; the
-- promise.
use Rattle.std.proofs.Common.{◌≡◌, ℕ, zero, suc, ◌+◌, ◌-◌, ◌<◌, ◌≤◌, List, [], ◌∷◌, ◌++◌, map, length, replicate, sym, refl, ap, ◌∙◌, subst, arith, length-append}
use native.Mathlib.Decide.{dec_le}
use lib.ListN.{length-replicate, length-map}
use Rattle.std.proofs.lemmas.List.{get_or_append_left}
use Rattle.words.specs.Words.{word, memory_size, All, IsTape}
use Rattle.words.specs.Runs.{Seen, running}
use Rattle.words.proofs.Memory.{word_behind, zeros_below}
use Rattle.words.proofs.Runs.{tracks_follows}
use Rattle.machine.specs.Machine.{Machine, steps, begin, seen_machine, machine_run}
use Rattle.machine.proofs.Steps.{steps_add, steps_from, steps_halted, machine_grows}
use Rattle.language.specs.Language.{Program, Outcome, fine, ends, spent, source, seen_outcome, program_run, frame_room}
use Rattle.codegen.specs.Layout.{stack_top, globals_base, code_limit}
use Rattle.codegen.specs.Instructions.{Instruction, ADD, SUB, NAND, LESS, HALF, LOW, HIGH, LOAD, STORE, ZERO, JUMP, IN, OUT, DONE, INDEX, FULL, encode, WithinWidths, Stands}
use Rattle.codegen.specs.Codegen.{code, image}
use Rattle.codegen.specs.Top.{LeavesTop, LeavesTopFor}
use Rattle.codegen.specs.Heart.{at_work, ValueInPlace, Does}
use Rattle.codegen.specs.Promise.{RightImage, ImagesRight}
use Rattle.codegen.proofs.Rows.{more_steps, row}
use Rattle.codegen.proofs.Limits.{WithinLimits, within_limits}
use Rattle.codegen.proofs.Sizes.{code_length, end_within}
use Rattle.codegen.proofs.Widths.{AllWithin, code_within}
use Rattle.codegen.proofs.Whole.{done_place, done_stands, program_does}

-- An instruction's word is a word.
encode_below : (i : Instruction) → WithinWidths i → encode i < 65536
encode_below (ADD d a b) h = omega arith
encode_below (SUB d a b) h = omega arith
encode_below (NAND d a b) h = omega arith
encode_below (LESS d a b) h = omega arith
encode_below (HALF d a) h = omega arith
encode_below (LOW d n) h = omega arith
encode_below (HIGH d n) h = omega arith
encode_below (LOAD d a m) h = omega arith
encode_below (STORE d a m) h = omega arith
encode_below (ZERO d n) h = omega arith
encode_below (JUMP d a) h = omega arith
encode_below (IN d) h = omega arith
encode_below (OUT d) h = omega arith
encode_below DONE h = omega arith
encode_below INDEX h = omega arith
encode_below FULL h = omega arith

all_words : (is : List Instruction) (k : ℕ) → AllWithin is → All (λ x. x < 65536) (map encode is ++ replicate k 0)
all_words [] k h = zeros_below k
all_words (i ∷ is) k h = (encode_below i h.0, all_words is k h.1)

-- instructions stand where their words do
stands_where : (mem : List ℕ) (is : List Instruction) (at : ℕ) → AllWithin is → at + length is ≤ code_limit →
    ((j : ℕ) → j < length is → word mem (at + j) ≡ word (map encode is) j) → Stands mem at is
stands_where mem [] at h b same = tt
stands_where mem (i ∷ is) at h b same =
    let here : at + 0 ≡ at = omega arith in (
      omega arith,
      h.0,
      ap (word mem) (sym here) ∙ same 0 (omega arith),
      stands_where mem is (suc at) h.1 (omega arith) (λ j c. let e : suc at + j ≡ at + suc j = omega arith in ap (word mem) e ∙ same (suc j) (omega arith)),
    )

module _ (g : Program) (within : WithinLimits g) where
  short : length (code g) ≤ code_limit
  short = omega (arith, code_length g within, end_within g within)

  image_size : length (image g) ≡ memory_size
  image_size =
      let few = short in
      length-append (map encode (code g)) (replicate (memory_size - length (code g)) 0) ∙ omega (arith, length-map (code g) encode, length-replicate {A = ℕ} (memory_size - length (code g)) 0)

  -- 0 from the globals on
  image_blank : (j : ℕ) → globals_base ≤ j → word (image g) j ≡ 0
  image_blank j b = let few = short in word_behind (map encode (code g)) (memory_size - length (code g)) j (omega (arith, length-map (code g) encode))

  pub code_stands : Stands (image g) 0 (code g)
  code_stands =
      let few = short in
      stands_where (image g) (code g) 0 (code_within g within) (omega arith) (λ j b. let e : 0 + j ≡ j = omega arith in
      ap (word (image g)) e ∙ get_or_append_left (map encode (code g)) (replicate (memory_size - length (code g)) 0) 0 j (omega (arith, length-map (code g) encode)))

  -- With every amount of fuel the machine comes to what is seen of the program, and leaves memory's top alone on the way.
  record Tracked (tape : List ℕ) (n : ℕ) (o : Outcome) : Type 0 where
    count : ℕ
    same : machine_run (image g) tape count ≡ seen_outcome o
    late : (seen_outcome o).ending ≡ 0 → n ≤ count
    top : LeavesTopFor count (begin (image g) tape)

  tracked : (tape : List ℕ) (n : ℕ) (o : Outcome) →
      Does n (ValueInPlace (image g) g 0 (done_place (image g) g within code_stands) stack_top stack_top frame_room 0 (image g)) o (begin (image g) tape) → Tracked tape n o
  tracked tape n (fine v t) d =
      let A = d.good in
      let at_done : Machine = at_work (done_place (image g) g within code_stands) v A.scratch stack_top stack_top frame_room A.memory t in
      let done = row (image g) (DONE ∷ []) at_done A.holds.code_kept refl tt (done_stands (image g) g within code_stands) (omega arith) in
      record {
        count = d.count + 1;
        same = ap seen_machine (steps_add d.count 1 (begin (image g) tape) ∙ ap (steps 1) A.is ∙ done.arrives);
        late = λ z. omega arith;
        top = more_steps d.count 1 (begin (image g) tape) d.top (subst (LeavesTopFor 1) (sym A.is) done.top);
      }
  tracked tape n (ends how t) d = let ended = d.good.1 in record { count = d.count; same = d.good.0; late = λ z. omega arith; top = d.top }
  tracked tape n (spent t) d = record { count = d.count; same = d.good.0; late = λ z. d.good.1; top = d.top }

  track : (tape : List ℕ) → IsTape tape → (n : ℕ) → Tracked tape n (source g tape n)
  track tape words n = tracked tape n (source g tape n) (program_does (image g) g within code_stands image_size (λ j b c. image_blank j b) tape words n)

  -- a step that is carried out is one of those on the way, with enough fuel
  leaves_top : (tape : List ℕ) → IsTape tape → (k : ℕ) → (steps k (begin (image g) tape)).halted ≡ running → LeavesTop (steps k (begin (image g) tape))
  leaves_top tape words k runs = go (track tape words (suc k))
    where
      go : Tracked tape (suc k) (source g tape (suc k)) → LeavesTop (steps k (begin (image g) tape))
      go t = elim (dec_le (suc k) t.count) [
        | yes h ↦ t.top k h
        | no h ↦ absurd (past_end (omega arith) (seen_outcome (source g tape (suc k))).ending refl)
      ]
        where
          past_end : t.count ≤ k → (e : ℕ) → (seen_outcome (source g tape (suc k))).ending ≡ e → ⊥
          past_end h zero z = let l = t.late z in omega arith
          past_end h (suc e) z =
              let ended = ap (λ (s : Seen). s.ending) t.same in
              let same = steps_from t.count k (begin (image g) tape) (omega arith) ∙ steps_halted (k - t.count) (steps t.count (begin (image g) tape)) (omega arith) in
              let stays = ap (λ (m : Machine). m.halted) same in
              omega arith

  right : RightImage g
  right = record {
    is_memory = (image_size, all_words (code g) (memory_size - length (code g)) (code_within g within));
    does_the_same = λ tape words. tracks_follows (program_run g tape) (machine_run (image g) tape) (machine_grows (image g) tape) (λ n. ((track tape words n).count, (track tape words n).same, (track tape words n).late));
    top_blank = λ j b. image_blank j (omega arith);
    top_alone = leaves_top;
  }

pub images_right : ImagesRight
images_right g ok = right g (within_limits g ok)
