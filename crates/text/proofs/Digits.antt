-- A number digit by digit, as a loop reads it: one digit more at a decimal's end; what holds of every decimal; a number
-- so far; and each reason why a word is no number.
use Rattle.std.proofs.Common.{◌≡◌, ℕ, zero, suc, ◌+◌, ◌-◌, ◌*◌, ◌/◌, ◌<◌, ◌≤◌, List, [], ◌∷◌, ◌++◌, length, get_or, take, Some, None, Option, sym, refl, ap, ◌∙◌, subst, arith, le_refl, ltb→lt, lt→ltb}
use native.Mathlib.Nat.{div-div-eq-div-mul}
use Rattle.std.proofs.lemmas.List.{take_all, take_more, get_or-take, length-take-le}
use Rattle.text.specs.Text.{digit, decimal}
use Rattle.text.specs.Numbers.{number_of}
use Rattle.text.proofs.Decimals.{decimal_cases, number_of_decimal, number_of_sound}

no : {A : Type 0} → ⊥ → A
no f = absurd f

module _ (m : ℕ) where
  -- the decimals of one digit to five
  one_digit : m < 10 → decimal m ≡ digit m ∷ []
  one_digit a = decimal_cases (λ w. w ≡ digit m ∷ []) m (λ h. refl) (λ h k. no (omega arith)) (λ h k. no (omega arith)) (λ h k. no (omega arith)) (λ h. no (omega arith))

  two_digits : 10 ≤ m → m < 100 → decimal m ≡ digit (m / 10) ∷ digit m ∷ []
  two_digits a b = decimal_cases (λ w. w ≡ digit (m / 10) ∷ digit m ∷ []) m (λ h. no (omega arith)) (λ h k. refl) (λ h k. no (omega arith)) (λ h k. no (omega arith)) (λ h. no (omega arith))

  three_digits : 100 ≤ m → m < 1000 → decimal m ≡ digit (m / 100) ∷ digit (m / 10) ∷ digit m ∷ []
  three_digits a b = decimal_cases (λ w. w ≡ digit (m / 100) ∷ digit (m / 10) ∷ digit m ∷ []) m (λ h. no (omega arith)) (λ h k. no (omega arith)) (λ h k. refl) (λ h k. no (omega arith)) (λ h. no (omega arith))

  four_digits : 1000 ≤ m → m < 10000 → decimal m ≡ digit (m / 1000) ∷ digit (m / 100) ∷ digit (m / 10) ∷ digit m ∷ []
  four_digits a b = decimal_cases (λ w. w ≡ digit (m / 1000) ∷ digit (m / 100) ∷ digit (m / 10) ∷ digit m ∷ []) m (λ h. no (omega arith)) (λ h k. no (omega arith)) (λ h k. no (omega arith)) (λ h k. refl) (λ h. no (omega arith))

  five_digits : 10000 ≤ m → decimal m ≡ digit (m / 10000) ∷ digit (m / 1000) ∷ digit (m / 100) ∷ digit (m / 10) ∷ digit m ∷ []
  five_digits a = decimal_cases (λ w. w ≡ digit (m / 10000) ∷ digit (m / 1000) ∷ digit (m / 100) ∷ digit (m / 10) ∷ digit m ∷ []) m (λ h. no (omega arith)) (λ h k. no (omega arith)) (λ h k. no (omega arith)) (λ h k. no (omega arith)) (λ h. refl)

-- one digit more
pub decimal_more : (n d : ℕ) → 0 < n → n < 10000 → d < 10 → decimal n ++ ((48 + d) ∷ []) ≡ decimal (n * 10 + d)
decimal_more n d a b c =
    let m = n * 10 + d in
    let r : 48 + d ≡ digit m = omega arith in
    let q1 : n ≡ m / 10 = omega arith in
    let q2 : n / 10 ≡ m / 100 = ap (λ x. x / 10) q1 ∙ div-div-eq-div-mul m 10 10 in
    let q3 : n / 100 ≡ m / 1000 = ap (λ x. x / 100) q1 ∙ div-div-eq-div-mul m 10 100 in
    let q4 : n / 1000 ≡ m / 10000 = ap (λ x. x / 1000) q1 ∙ div-div-eq-div-mul m 10 1000 in
    decimal_cases (λ w. w ++ ((48 + d) ∷ []) ≡ decimal m) n
    (λ h. (cc (ap digit q1, r)) ∙ sym (two_digits m (omega arith) (omega arith)))
    (λ h k. (cc (ap digit q1, ap digit q2, r)) ∙ sym (three_digits m (omega arith) (omega arith)))
    (λ h k. (cc (ap digit q1, ap digit q2, ap digit q3, r)) ∙ sym (four_digits m (omega arith) (omega arith)))
    (λ h k. (cc (ap digit q1, ap digit q2, ap digit q3, ap digit q4, r)) ∙ sym (five_digits m (omega arith)))
    (λ h. no (omega arith))

-- what every decimal is
abbrev Digits : List ℕ → Type 0
Digits [] = Unit {0}
Digits (c ∷ cs) = (48 ≤ c) × (c < 58) × Digits cs

decimal_digits : (m : ℕ) → Digits (decimal m)
decimal_digits m = decimal_cases Digits m (λ h. (omega arith, omega arith, tt)) (λ h k. (omega arith, omega arith, (omega arith, omega arith, tt))) (λ h k. (omega arith, omega arith, (omega arith, omega arith, (omega arith, omega arith, tt))))
    (λ h k. (omega arith, omega arith, (omega arith, omega arith, (omega arith, omega arith, (omega arith, omega arith, tt))))) (λ h. (omega arith, omega arith, (omega arith, omega arith, (omega arith, omega arith, (omega arith, omega arith, (omega arith, omega arith, tt))))))

digit_at : (w : List ℕ) (k : ℕ) → Digits w → k < length w → (48 ≤ get_or w k 0) × (get_or w k 0 < 58)
digit_at [] k d h = no (omega arith)
digit_at (c ∷ w) zero d h = (d.0, d.1)
digit_at (c ∷ w) (suc k) d h = digit_at w k d.2 (omega arith)

decimal_length : (m : ℕ) → (0 < length (decimal m)) × (length (decimal m) ≤ 5)
decimal_length m = decimal_cases (λ w. (0 < length w) × (length w ≤ 5)) m (λ h. (omega arith, omega arith)) (λ h k. (omega arith, omega arith)) (λ h k. (omega arith, omega arith)) (λ h k. (omega arith, omega arith)) (λ h. (omega arith, omega arith))

decimal_front : (m : ℕ) → m < 100000 → 1 < length (decimal m) → get_or (decimal m) 0 0 ≡ 48 → ⊥
decimal_front m b = decimal_cases (λ w. 1 < length w → get_or w 0 0 ≡ 48 → ⊥) m (λ h p q. omega arith) (λ h k p q. omega arith) (λ h k p q. omega arith) (λ h k p q. omega arith) (λ h p q. omega arith)

-- a number so far, after i bytes
pub record NumberSoFar (w : List ℕ) (i n : ℕ) : Type 0 where
  pub small : n < 100000
  pub none : i ≡ 0 → n ≡ 0
  pub some : 0 < i → take i w ≡ decimal n

pub number_more : (w : List ℕ) (i n : ℕ) → i < length w → 48 ≤ get_or w i 0 → get_or w i 0 < 58 → (0 < i → 0 < n) → n ≤ 9999 → NumberSoFar w i n → NumberSoFar w (i + 1) (n * 10 + (get_or w i 0 - 48))
number_more w zero n h lo hi z b r =
    let c = get_or w 0 0 in let n0 : n ≡ 0 = r.none refl in
    let e : 48 + (c - 48) ≡ c = omega arith in
    record {
      small = omega arith;
      none = λ e. no (omega arith);
      some = λ _. take_more w 0 0 h ∙ ap (λ x. x ∷ []) (sym (omega arith)) ∙ sym (one_digit (n * 10 + (c - 48)) (omega arith));
    }
number_more w (suc i) n h lo hi z b r =
    let c = get_or w (suc i) 0 in
    let e : c ≡ 48 + (c - 48) = omega arith in
    record {
      small = omega arith;
      none = λ e. no (omega arith);
      some = λ _. take_more w (suc i) 0 h ∙ ap (λ x. x ++ (c ∷ [])) (r.some (omega arith)) ∙ ap (λ x. decimal n ++ (x ∷ [])) e ∙ decimal_more n (c - 48) (z (omega arith)) (omega arith) (omega arith);
    }

pub number_all : (w : List ℕ) (n : ℕ) → 0 < length w → NumberSoFar w (length w) n → number_of w ≡ Some n
number_all w n h r = ap number_of (sym (take_all (length w) w (le_refl _)) ∙ r.some h) ∙ number_of_decimal n (lt→ltb n 100000 r.small)

-- why a word is no number
pub no_number : (w : List ℕ) → ((m : ℕ) → m < 100000 → w ≡ decimal m → ⊥) → number_of w ≡ None
no_number w f = go (number_of w) refl
  where
    go : (o : Option ℕ) → number_of w ≡ o → o ≡ None
    go None e = refl
    go (Some n) e = no (f n (ltb→lt n 100000 (number_of_sound w n e).1) (number_of_sound w n e).0)

pub no_number_empty : (w : List ℕ) → length w ≡ 0 → number_of w ≡ None
no_number_empty w h = no_number w (λ m b e. omega (arith, (decimal_length m).0, ap length e))

pub no_number_letter : (w : List ℕ) (i : ℕ) → i < length w → (48 ≤ get_or w i 0 → get_or w i 0 < 58 → ⊥) → number_of w ≡ None
no_number_letter w i h f = no_number w (λ m b e. let d = digit_at w i (subst Digits (sym e) (decimal_digits m)) h in f d.0 d.1)

pub no_number_zero : (w : List ℕ) (i n : ℕ) → i < length w → 0 < i → n ≡ 0 → NumberSoFar w i n → number_of w ≡ None
no_number_zero w i n h p z r = no_number w (λ m b e.
    let f : get_or w 0 0 ≡ 48 = sym (get_or-take i w 0 0 p) ∙ ap (λ x. get_or x 0 0) (r.some p ∙ ap decimal z) in
    decimal_front m b (omega (arith, ap length e)) (sym (ap (λ x. get_or x 0 0) e) ∙ f))

pub no_number_long : (w : List ℕ) (i n : ℕ) → i < length w → 9999 < n → NumberSoFar w i n → number_of w ≡ None
no_number_long w i n h p r = no_number w (λ m b e.
    let z : 0 < i = pos i r.none in
    let l : i ≡ 5 = sym (length-take-le i w (omega arith)) ∙ ap length (r.some z ∙ five_digits n (omega arith)) in
    omega (arith, (decimal_length m).1, ap length e))
  where
    pos : (i : ℕ) → (i ≡ 0 → n ≡ 0) → 0 < i
    pos zero f = let q : n ≡ 0 = f refl in no (omega arith)
    pos (suc i) f = omega arith
