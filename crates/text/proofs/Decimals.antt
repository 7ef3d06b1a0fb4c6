-- Decimals of at most five digits: a case for each number of digits; the value of a decimal is its number; and the number
-- that a word writes is the one that it is the decimal of.
use Rattle.std.proofs.Common.{◌≡◌, ℕ, ◌+◌, ◌-◌, ◌*◌, ◌/◌, ◌%◌, ◌<◌, ◌≤◌, Bool, true, cond, ◌&&◌, T, ltb, List, [], ◌∷◌, Some, None, Option, sym, refl, ap, ◌∙◌, subst, arith, ltb→lt}
use native.Mathlib.Nat.{div-div-eq-div-mul}
use Rattle.std.specs.Str.{bytes_eq}
use Rattle.std.proofs.lemmas.Slice.Eq.{bytes_eq-Decides}
use Rattle.std.proofs.lemmas.Bool.{ltb-true, ltb-false, cond_both, and_from, and_parts}
use Rattle.words.proofs.Tests.{T_true, true_T, not_nothing}
use Rattle.text.specs.Text.{digit, decimal, writable}
use Rattle.text.specs.Numbers.{digits_value, number_of}

-- a case for each number of digits
pub decimal_cases : (P : List ℕ → Type 0) (n : ℕ) → (n < 10 → P (digit n ∷ [])) → (10 ≤ n → n < 100 → P (digit (n / 10) ∷ digit n ∷ [])) → (100 ≤ n → n < 1000 → P (digit (n / 100) ∷ digit (n / 10) ∷ digit n ∷ []))
    → (1000 ≤ n → n < 10000 → P (digit (n / 1000) ∷ digit (n / 100) ∷ digit (n / 10) ∷ digit n ∷ []))
    → (10000 ≤ n → P (digit (n / 10000) ∷ digit (n / 1000) ∷ digit (n / 100) ∷ digit (n / 10) ∷ digit n ∷ [])) → P (decimal n)
decimal_cases P n one two three four five =
    cond_both (ltb n 10) _ _ P (λ e. one (ltb-true n 10 e)) (λ past1.
    cond_both (ltb n 100) _ _ P (λ e. two (ltb-false n 10 past1) (ltb-true n 100 e)) (λ past2.
    cond_both (ltb n 1000) _ _ P (λ e. three (ltb-false n 100 past2) (ltb-true n 1000 e)) (λ past3.
    cond_both (ltb n 10000) _ _ P (λ e. four (ltb-false n 1000 past3) (ltb-true n 10000 e)) (λ past4. five (ltb-false n 10000 past4)))))

-- the value of digits, one more at the end of v
abbrev then_digit : ℕ → ℕ → ℕ
then_digit v r = 10 * v + (48 + r - 48)

four_digits : (n q1 q2 q3 r0 r1 r2 r3 : ℕ) → n ≡ 10 * q1 + r0 → q1 ≡ 10 * q2 + r1 → q2 ≡ 10 * q3 + r2 → q3 ≡ r3 → then_digit (then_digit (then_digit (then_digit 0 r3) r2) r1) r0 ≡ n
four_digits n q1 q2 q3 r0 r1 r2 r3 a b c d = omega arith

five_digits : (n q1 q2 q3 q4 r0 r1 r2 r3 r4 : ℕ) → n ≡ 10 * q1 + r0 → q1 ≡ 10 * q2 + r1 → q2 ≡ 10 * q3 + r2 → q3 ≡ 10 * q4 + r3 → q4 ≡ r4 → then_digit (then_digit (then_digit (then_digit (then_digit 0 r4) r3) r2) r1) r0 ≡ n
five_digits n q1 q2 q3 q4 r0 r1 r2 r3 r4 a b c d e = omega arith

last_digit : (m : ℕ) → m ≡ 10 * (m / 10) + m % 10
last_digit m = omega arith

next_digit : (n k : ℕ) → n / k ≡ 10 * (n / (k * 10)) + n / k % 10
next_digit n k = rw (← div-div-eq-div-mul n k 10) (last_digit (n / k))

-- the value of a decimal is its number
pub value_decimal : (n : ℕ) → n < 100000 → digits_value 0 (decimal n) ≡ n
value_decimal n h =
    let d1 : n / 10 ≡ 10 * (n / 100) + n / 10 % 10 = next_digit n 10 in
    let d2 : n / 100 ≡ 10 * (n / 1000) + n / 100 % 10 = next_digit n 100 in
    let d3 : n / 1000 ≡ 10 * (n / 10000) + n / 1000 % 10 = next_digit n 1000 in
    decimal_cases (λ w. digits_value 0 w ≡ n) n (λ a. omega arith) (λ a b. omega arith) (λ a b. omega arith)
    (λ a b. four_digits n (n / 10) (n / 100) (n / 1000) (n % 10) (n / 10 % 10) (n / 100 % 10) (n / 1000 % 10) (last_digit n) d1 d2 (omega arith))
    (λ a. five_digits n (n / 10) (n / 100) (n / 1000) (n / 10000) (n % 10) (n / 10 % 10) (n / 100 % 10) (n / 1000 % 10) (n / 10000 % 10) (last_digit n) d1 d2 d3 (omega arith))

-- a decimal writes its number
pub number_of_decimal : (n : ℕ) → T (writable n) → number_of (decimal n) ≡ Some n
unfolding number_of
number_of_decimal n h =
    let answer : ℕ → Option ℕ = λ v. cond (bytes_eq (decimal n) (decimal v) && writable v) (Some v) None in
    let t : (bytes_eq (decimal n) (decimal n) && writable n) ≡ true = and_from _ _ ((bytes_eq-Decides (decimal n) (decimal n)).1 refl) (T_true (writable n) h) in
    ap answer (value_decimal n (ltb→lt n 100000 h)) ∙ ap (λ (q : Bool). cond q (Some n) None) t

-- and a word that writes a number is its decimal
pub number_of_sound : (w : List ℕ) (n : ℕ) → number_of w ≡ Some n → (w ≡ decimal n) × T (writable n)
unfolding number_of
number_of_sound w n = cond_both _ _ _ (λ (o : Option ℕ). o ≡ Some n → (w ≡ decimal n) × T (writable n))
    (λ e q.
    let v : digits_value 0 w ≡ n = cc in
    let a : (bytes_eq w (decimal (digits_value 0 w)) ≡ true) × (writable (digits_value 0 w) ≡ true) = and_parts _ _ e in
    ((bytes_eq-Decides w (decimal (digits_value 0 w))).0 a.0 ∙ ap decimal v, subst (λ (x : ℕ). T (writable x)) v (true_T (writable (digits_value 0 w)) a.1)))
    (λ e q. not_nothing n (sym q))
