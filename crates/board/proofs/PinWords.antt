-- A word read from pins, from its highest bit down: one bit more, and that it stays below 65,536; one level; the ending
-- whose code two pins show.
use Rattle.std.proofs.Common.{◌≡◌, ◌≢◌, ℕ, zero, suc, ◌+◌, ◌*◌, ◌<◌, ◌≤◌, Bool, List, [], ◌∷◌, ◌++◌, map, length, get_or, take, drop, Ok, Err, Result, sym, refl, ap, ◌∙◌, arith}
use Rattle.std.proofs.lemmas.List.{drop_more, length-map, length-drop, length-take, length-append, get_or_at, get_or-take, take_at, take-take}
use Rattle.std.specs.Result.{result_ok}
use Rattle.words.specs.Words.{bit, value, shifted, bit_at}
use Rattle.words.specs.Endings.{code_of, halt_code, Decodes}
use Rattle.words.specs.declared.ending.Ending.{Ending}
use Rattle.words.specs.declared.ending.Ending.TheVariants.{Done, Index, Full}
use Rattle.words.specs.declared.ending.NoEnding.{NoEnding}
use Rattle.words.proofs.Bits.{value_below}
use Rattle.circuit.specs.Sheet.{levels}
use Rattle.board.specs.Slices.{Clean, on_signals}
use Rattle.board.proofs.Bytes.{clean_at}

-- the level on pin i
pub bit_at_map : (f : ℕ → Bool) (xs : List ℕ) (i : ℕ) → i < length xs → bit_at (map f xs) i ≡ f (get_or xs i 0)
bit_at_map f [] i l = absurd (omega arith)
bit_at_map f (x ∷ xs) zero l = refl
bit_at_map f (x ∷ xs) (suc i) l = bit_at_map f xs i (omega arith)

-- Pins gone through from the last one down: the next of them, where `before` are left before it and `after` behind it.
pub record Turn (pins before after : List ℕ) (pin : ℕ) : Type 0 where
  pub count : length before ≡ length after + 1
  pub within : length after < length pins
  pub pin_is : pin ≡ get_or pins (length after) 0
  pub front : after ≡ take (length after) pins

pub turn : (pins before after : List ℕ) (pin : ℕ) → before ≡ take (length before) pins → before ≡ after ++ (pin ∷ []) → Turn pins before after pin
turn pins before after pin e1 e2 =
    let n = length before in
    let m = length after in
    let count : n ≡ m + 1 = omega (arith, ap length e2, length-append after (pin ∷ [])) in
    let within : m < length pins = omega (arith, ap length e1, length-take n pins) in
    let l : m < n = omega arith in
    let le : m ≤ n = omega arith in
    record {
      count = count;
      within = within;
      pin_is = sym (get_or_at after pin [] 0 m refl) ∙ (ap (λ (t : List ℕ). get_or t m 0) (sym e2 ∙ e1) ∙ get_or-take n pins m 0 l);
      front = sym (take_at after (pin ∷ []) m refl) ∙ (ap (take m) (sym e2 ∙ e1) ∙ take-take m n pins le);
    }

-- the word on the pins behind the next, and with it as the new lowest bit
pub word_more : (w pins before after : List ℕ) (pin word : ℕ) → Clean w → Turn pins before after pin → word ≡ value (on_signals w (drop (length before) pins))
    → 2 * word + get_or w pin 0 ≡ value (on_signals w (drop (length after) pins))
word_more w pins before after pin word h t e =
    let j = length after in
    let x = get_or pins j 0 in
    let off : drop j pins ≡ x ∷ drop (length before) pins = drop_more pins j 0 t.within ∙ ap (λ (k : ℕ). x ∷ drop k pins) (sym t.count) in
    let v : value (on_signals w (drop j pins)) ≡ bit (bit_at (levels w) x) + 2 * value (on_signals w (drop (length before) pins)) = ap (λ (y : List ℕ). value (on_signals w y)) off in
    omega (arith, v, clean_at w x h, e, ap (λ (y : ℕ). get_or w y 0) t.pin_is)

-- at most 15 bits of at most 16 pins are behind the first
pub word_low : (w pins before after : List ℕ) (pin : ℕ) → length pins ≤ 16 → Turn pins before after pin → value (on_signals w (drop (length before) pins)) < 32768
word_low w pins before after pin l t =
    let n = length before in
    let v = on_signals w (drop n pins) in
    let k : length v ≤ 15 = omega (arith, t.count, length-map (drop n pins) (bit_at (levels w)), length-drop n pins) in
    below v 15 k
  where
    shifted_le : (n m : ℕ) → n ≤ m → shifted n 1 ≤ shifted m 1
    shifted_le zero zero h = omega arith
    shifted_le zero (suc m) h = let ih = shifted_le zero m (omega arith) in omega arith
    shifted_le (suc n) zero h = absurd (omega arith)
    shifted_le (suc n) (suc m) h = let ih = shifted_le n m (omega arith) in omega arith

    below : (v : List Bool) (m : ℕ) → length v ≤ m → value v < shifted m 1
    below v m h = omega (arith, value_below v, shifted_le (length v) m h)

-- a word on two pins is 0 or the code of an ending
pub ending_from : (v : List Bool) (r : Result Ending NoEnding) → length v ≡ 2 → Decodes (value v) r → halt_code (result_ok r) ≡ value v
ending_from v (Ok e) l d = sym d
ending_from v (Err none) l d = below (value v) (let b : value v < shifted 2 1 = rw l at (value_below v) in b) d.1
  where
    below : (n : ℕ) → n < 4 → ((e : Ending) → n ≢ code_of e) → 0 ≡ n
    below zero h f = refl
    below (suc zero) h f = absurd (f Done refl)
    below (suc (suc zero)) h f = absurd (f Index refl)
    below (suc (suc (suc zero))) h f = absurd (f Full refl)
    below (suc (suc (suc (suc n)))) h f = absurd (omega arith)
