-- Reading digits one after the other: what was read and what is left make the whole number; a byte that is no digit, and
-- a number that has passed a bound, settle the answer.
use Rattle.std.proofs.Common.{◌≡◌, ℕ, ◌+◌, ◌-◌, ◌*◌, ◌<◌, ◌≤◌, Bool, true, false, ◌&&◌, T, List, [], ◌∷◌, length, get_or, drop, sym, refl, ap, ◌∙◌, subst, arith}
use Rattle.std.proofs.lemmas.List.{drop_more, drop_all}
use Rattle.std.proofs.lemmas.Bool.{le-leb, lt-leb}
use Rattle.decimal.specs.Decimal.{is_digit, all_digits, from_digits}

pub record Left (text rest : List ℕ) (n : ℕ) : Type 0 where
  pub value : from_digits n rest ≡ from_digits 0 text
  pub digits : all_digits rest ≡ all_digits text

digits_grow : (n : ℕ) (cs : List ℕ) → n ≤ from_digits n cs
digits_grow n [] = omega arith
digits_grow n (c ∷ cs) = let more = digits_grow (10 * n + (c - 48)) cs in omega arith

module _ (text : List ℕ) (i n : ℕ) (within : i < length text) (left : Left text (drop i text) n) where
  -- one digit more
  pub left_more : 48 ≤ get_or text i 0 → get_or text i 0 ≤ 57 → Left text (drop (i + 1) text) (10 * n + (get_or text i 0 - 48))
  left_more low high =
      let off = drop_more text i 0 within in
      let digit : is_digit (get_or text i 0) ≡ true = rw (le-leb 48 (get_or text i 0) low, le-leb (get_or text i 0) 57 high) refl in
      record {
        value = sym (ap (from_digits n) off) ∙ left.value;
        digits = sym (ap all_digits off ∙ ap (λ (b : Bool). b && all_digits (drop (i + 1) text)) digit) ∙ left.digits;
      }

  -- a byte that is no digit
  bad : is_digit (get_or text i 0) ≡ false → T (all_digits text) → ⊥
  bad no_digit t =
      let none : all_digits text ≡ false = sym left.digits ∙ (ap all_digits (drop_more text i 0 within) ∙ ap (λ (b : Bool). b && all_digits (drop (i + 1) text)) no_digit) in
      subst T none t

  pub left_below : get_or text i 0 < 48 → T (all_digits text) → ⊥
  left_below h = bad (rw (lt-leb 48 (get_or text i 0) h) refl)

  pub left_above : 57 < get_or text i 0 → T (all_digits text) → ⊥
  left_above h = bad (rw (le-leb 48 (get_or text i 0) (omega arith), lt-leb (get_or text i 0) 57 h) refl)

  -- a number that has passed a bound stays past it
  pub left_large : 10 * n + (get_or text i 0 - 48) ≤ from_digits 0 text
  left_large =
      let grown = digits_grow (10 * n + (get_or text i 0 - 48)) (drop (i + 1) text) in
      let whole : from_digits (10 * n + (get_or text i 0 - 48)) (drop (i + 1) text) ≡ from_digits 0 text = sym (ap (from_digits n) (drop_more text i 0 within)) ∙ left.value in
      omega arith

pub left_all : (text : List ℕ) (i n : ℕ) → length text ≤ i → Left text (drop i text) n → (from_digits 0 text ≡ n) × T (all_digits text)
left_all text i n all left =
    let none = drop_all i text all in
    (sym left.value ∙ ap (from_digits n) none, subst T (sym (ap all_digits none) ∙ left.digits) tt)
