-- The sheet as the code cuts it: its parts, and that a sound sheet is one that fits.
use Rattle.std.proofs.Common.{◌≡◌, ℕ, zero, suc, ◌+◌, ◌-◌, ◌*◌, ◌≤◌, List, [], ◌∷◌, length, take, drop, sym, refl, ap, ◌∙◌, subst, arith}
use Rattle.std.proofs.lemmas.List.{length-take-le, length-drop}
use Rattle.words.specs.Words.{memory_size}
use Rattle.circuit.specs.Circuit.{SoundGates, AllBelow, input_signals, pin_count}
use Rattle.circuit.specs.Sheet.{pairs, levels, drawn, sheet_size}
use Rattle.board.specs.Board.{Fits}
use Rattle.board.specs.Slices.{SoundSheet}
use Rattle.board.proofs.Bytes.{length_levels}

-- `&sheet[flops..wires_end]` and the two parts behind it
pub wires_part : (sheet : List ℕ) (f k : ℕ) → take (f + 2 * k - f) (drop f sheet) ≡ take (2 * k) (drop f sheet)
wires_part sheet f k = let e : f + 2 * k - f ≡ 2 * k = omega arith in ap (λ (n : ℕ). take n (drop f sheet)) e

pub next_part : (sheet : List ℕ) (f k : ℕ) → take (f + 2 * k + f - (f + 2 * k)) (drop (f + 2 * k) sheet) ≡ take f (drop (f + 2 * k) sheet)
next_part sheet f k = let e : f + 2 * k + f - (f + 2 * k) ≡ f = omega arith in ap (λ (n : ℕ). take n (drop (f + 2 * k) sheet)) e

pub pins_part : (sheet : List ℕ) (f k : ℕ) → take (f + 2 * k + f + pin_count - (f + 2 * k + f)) (drop (f + 2 * k + f) sheet) ≡ take pin_count (drop (2 * f + 2 * k) sheet)
pins_part sheet f k =
    let e : f + 2 * k + f + pin_count - (f + 2 * k + f) ≡ pin_count = omega arith in
    let d : f + 2 * k + f ≡ 2 * f + 2 * k = omega arith in
    ap (λ (n : ℕ). take n (drop (f + 2 * k + f) sheet)) e ∙ ap (λ (n : ℕ). take pin_count (drop n sheet)) d

-- how long the parts are
length_pairs : (k : ℕ) (xs : List ℕ) → length xs ≡ 2 * k → length (pairs xs) ≡ k
length_pairs zero [] e = refl
length_pairs (suc k) [] e = absurd (omega arith)
length_pairs k (a ∷ []) e = absurd (omega arith)
length_pairs zero (a ∷ (b ∷ xs)) e = absurd (omega arith)
length_pairs (suc k) (a ∷ (b ∷ xs)) e = let h : length xs ≡ 2 * k = omega arith in ap suc (length_pairs k xs h)

pub flops_length : (sheet : List ℕ) (f : ℕ) → f ≤ length sheet → length (levels (take f sheet)) ≡ f
flops_length sheet f l = length_levels (take f sheet) ∙ length-take-le f sheet l

wires_length : (sheet : List ℕ) (f k : ℕ) → sheet_size f k ≤ length sheet → length (take (2 * k) (drop f sheet)) ≡ 2 * k
wires_length sheet f k l = let h : 2 * k ≤ length (drop f sheet) = omega (arith, length-drop f sheet) in length-take-le (2 * k) (drop f sheet) h

pub next_length : (sheet : List ℕ) (f k : ℕ) → sheet_size f k ≤ length sheet → length (take f (drop (f + 2 * k) sheet)) ≡ f
next_length sheet f k l = let h : f ≤ length (drop (f + 2 * k) sheet) = omega (arith, length-drop (f + 2 * k) sheet) in length-take-le f (drop (f + 2 * k) sheet) h

pins_length : (sheet : List ℕ) (f k : ℕ) → sheet_size f k ≤ length sheet → length (take pin_count (drop (2 * f + 2 * k) sheet)) ≡ pin_count
pins_length sheet f k l =
    let h : pin_count ≤ length (drop (2 * f + 2 * k) sheet) = omega (arith, length-drop (2 * f + 2 * k) sheet) in
    length-take-le pin_count (drop (2 * f + 2 * k) sheet) h

-- the signals counted by the circuit and by f and k
signals_all : (sheet : List ℕ) (f k : ℕ) → sheet_size f k ≤ length sheet → (length (drawn f k sheet).flops ≡ f) × (length (drawn f k sheet).gates ≡ k)
signals_all sheet f k l =
    let h : f ≤ length sheet = omega arith in
    (flops_length sheet f h, length_pairs k (take (2 * k) (drop f sheet)) (wires_length sheet f k l))

-- a sound sheet fits, and one that fits is sound
pub fits_from : (sheet : List ℕ) (f k : ℕ) (state mem : List ℕ) → SoundSheet sheet f k → length state ≡ f → length mem ≡ memory_size → Fits f k sheet state mem
fits_from sheet f k state mem s ls lm =
    let a = signals_all sheet f k s.long in
    let n : input_signals + (f + k) ≡ input_signals + (length (drawn f k sheet).flops + length (drawn f k sheet).gates) = omega (arith, a.0, a.1) in
    record {
      long = s.long;
      whole = record {
        gates_sound = subst (λ (m : ℕ). SoundGates (drawn f k sheet).gates (input_signals + m)) (sym a.0) s.gates;
        next_sound = subst (λ (m : ℕ). AllBelow (drawn f k sheet).next m) n s.next;
        pins_sound = subst (λ (m : ℕ). AllBelow (drawn f k sheet).pins m) n s.pins;
        next_all = next_length sheet f k s.long ∙ sym a.0;
        pins_all = pins_length sheet f k s.long;
      };
      flops_all = ls;
      memory_all = lm;
    }

pub sound_from : (sheet : List ℕ) (f k : ℕ) (state mem : List ℕ) → Fits f k sheet state mem → SoundSheet sheet f k
sound_from sheet f k state mem t =
    let a = signals_all sheet f k t.long in
    let n : input_signals + (length (drawn f k sheet).flops + length (drawn f k sheet).gates) ≡ input_signals + (f + k) = omega (arith, a.0, a.1) in
    record {
      long = t.long;
      gates = subst (λ (m : ℕ). SoundGates (drawn f k sheet).gates (input_signals + m)) a.0 t.whole.gates_sound;
      next = subst (λ (m : ℕ). AllBelow (drawn f k sheet).next m) n t.whole.next_sound;
      pins = subst (λ (m : ℕ). AllBelow (drawn f k sheet).pins m) n t.whole.pins_sound;
    }
