-- Numbers and their bits: from a number to its bits and back, for every width; bits past the width; the inverse of a
-- word; a word that is 0; the word and the carry of a sum.
use Rattle.std.proofs.Common.{◌≡◌, ℕ, zero, suc, ◌+◌, ◌*◌, ◌/◌, ◌%◌, ◌<◌, min, Bool, true, false, cond, not, ◌&&◌, eqb, ltb, List, [], ◌∷◌, ◌++◌, map, length, sym, refl, ap, ◌∙◌, ap₂, arith}
use lib.Bits.{bit_and, and_step, and_le_l}
use Rattle.std.proofs.lemmas.Bool.{eqb-true, eqb-false, eq-eqb, ne_eqb, lt-ltb, le-ltb}
use Rattle.words.specs.Words.{bit, bits, value, shifted, nand, nands}

pub bit_eqb : (x : ℕ) → x < 2 → bit (eqb x 1) ≡ x
bit_eqb x h = go (eqb x 1) refl
  where
    go : (t : Bool) → eqb x 1 ≡ t → bit (eqb x 1) ≡ x
    go true e = rw e (sym (eqb-true x 1 e))
    go false e = let k = eqb-false x 1 e in rw e (omega arith)

-- the lowest bit of a value, and what is left without it
pub eqb_bit : (b : Bool) (v : ℕ) → eqb ((bit b + 2 * v) % 2) 1 ≡ b
eqb_bit true v = eq-eqb ((1 + 2 * v) % 2) 1 (omega arith)
eqb_bit false v = ne_eqb ((0 + 2 * v) % 2) 1 (omega arith)

pub half_bit : (b : Bool) (v : ℕ) → (bit b + 2 * v) / 2 ≡ v
half_bit true v = omega arith
half_bit false v = omega arith

pub bits_length : (n x : ℕ) → length (bits n x) ≡ n
bits_length zero x = refl
bits_length (suc n) x = ap suc (bits_length n (x / 2))

-- from a number to its bits and back
pub value_bits : (n x : ℕ) → x < shifted n 1 → value (bits n x) ≡ x
value_bits zero x h = omega arith
value_bits (suc n) x h =
    let ih = value_bits n (x / 2) (omega arith) in
    let e = bit_eqb (x % 2) (omega arith) in
    omega arith

pub value_bits_16 : (x : ℕ) → x < 65536 → value (bits 16 x) ≡ x
value_bits_16 x h = value_bits 16 x h

-- from bits to their value and back
pub bits_value : (bs : List Bool) → bits (length bs) (value bs) ≡ bs
bits_value [] = refl
bits_value (b ∷ bs) = ap₂ {C = List Bool} (λ x y. x ∷ y) (eqb_bit b (value bs)) (ap (bits (length bs)) (half_bit b (value bs)) ∙ bits_value bs)

pub bits_of_value : (n : ℕ) (bs : List Bool) (x : ℕ) → length bs ≡ n → value bs ≡ x → bs ≡ bits n x
bits_of_value n bs x l e = sym (bits_value bs) ∙ ap₂ bits l e

pub value_below : (bs : List Bool) → value bs < shifted (length bs) 1
value_below [] = omega arith
value_below (true ∷ bs) = let ih = value_below bs in omega arith
value_below (false ∷ bs) = let ih = value_below bs in omega arith

pub value_++ : (xs ys : List Bool) → value (xs ++ ys) ≡ value xs + shifted (length xs) (value ys)
value_++ [] ys = omega arith
value_++ (x ∷ xs) ys = let ih = value_++ xs ys in omega arith

-- bits past the width do not count
pub bits_more : (n x k : ℕ) → bits n (x + shifted n k) ≡ bits n x
bits_more zero x k = refl
bits_more (suc n) x k =
    let m : (x + 2 * shifted n k) % 2 ≡ x % 2 = omega arith in
    let d : (x + 2 * shifted n k) / 2 ≡ x / 2 + shifted n k = omega arith in
    rw (m, d, bits_more n (x / 2) k)

pub bits_mod : (x : ℕ) → bits 16 (x % 65536) ≡ bits 16 x
bits_mod x =
    let e : x ≡ x % 65536 + shifted 16 (x / 65536) = omega arith in
    sym (ap (bits 16) e ∙ bits_more 16 (x % 65536) (x / 65536))

-- the value of the lowest n bits is a remainder: x is r below the n-th power of 2, and a multiple of that power
pub value_low : (n r k : ℕ) → r < shifted n 1 → value (bits n (r + shifted n k)) ≡ r
value_low n r k h = ap value (bits_more n r k) ∙ value_bits n r h

-- a word and its inverse are all ones together
pub value_not : (bs : List Bool) → value (map not bs) + value bs + 1 ≡ shifted (length bs) 1
value_not [] = refl
value_not (true ∷ bs) = let ih = value_not bs in omega arith
value_not (false ∷ bs) = let ih = value_not bs in omega arith

-- a word with no bit set is 0
abbrev pub all_low : List Bool → Bool
all_low [] = true
all_low (b ∷ bs) = not b && all_low bs

pub all_low_is : (bs : List Bool) → all_low bs ≡ eqb (value bs) 0
all_low_is [] = refl
all_low_is (true ∷ bs) = sym (ne_eqb (1 + 2 * value bs) 0 (omega arith))
all_low_is (false ∷ bs) = all_low_is bs ∙ go (eqb (value bs) 0) refl
  where
    go : (t : Bool) → eqb (value bs) 0 ≡ t → eqb (value bs) 0 ≡ eqb (0 + 2 * value bs) 0
    go true e = let k = eqb-true (value bs) 0 e in e ∙ sym (eq-eqb (0 + 2 * value bs) 0 (omega arith))
    go false e = let k = eqb-false (value bs) 0 e in e ∙ sym (ne_eqb (0 + 2 * value bs) 0 (omega arith))

pub shifted_bit : (n : ℕ) (b : Bool) → shifted n (bit b) ≡ cond b (shifted n 1) 0
shifted_bit n true = refl
shifted_bit zero false = refl
shifted_bit (suc n) false = let ih = shifted_bit n false in omega arith

-- a sum of n bits and a carry: the bits are those of the sum, and the carry says that the sum does not fit
pub word_of_sum : (bs : List Bool) (n x : ℕ) (c : Bool) → length bs ≡ n → value bs + shifted n (bit c) ≡ x → (bs ≡ bits n x) × (c ≡ not (ltb x (shifted n 1)))
word_of_sum bs n x c l e =
    let b : value bs < shifted n 1 = rw l at (value_below bs) in
    (bits_of_value n bs (value bs) l refl ∙ (sym (bits_more n (value bs) (bit c)) ∙ ap (bits n) e), go c e)
  where
    go : (c : Bool) → value bs + shifted n (bit c) ≡ x → c ≡ not (ltb x (shifted n 1))
    go true e = let k = le-ltb x (shifted n 1) (omega arith) in rw k refl
    go false e = let z = shifted_bit n false in let b : value bs < shifted n 1 = rw l at (value_below bs) in let k = lt-ltb x (shifted n 1) (omega arith) in rw k refl

-- NAND of all bits is all ones less the bits that both words have
one_nand : (x y : ℕ) → x < 2 → y < 2 → bit (nand (eqb x 1) (eqb y 1)) + min x y ≡ 1
one_nand zero zero h k = refl
one_nand zero (suc zero) h k = refl
one_nand (suc zero) zero h k = refl
one_nand (suc zero) (suc zero) h k = refl
one_nand zero (suc (suc y)) h k = absurd (omega arith)
one_nand (suc zero) (suc (suc y)) h k = absurd (omega arith)
one_nand (suc (suc x)) y h k = absurd (omega arith)

pub nands_and : (n a b : ℕ) → a < shifted n 1 → b < shifted n 1 → value (nands (bits n a) (bits n b)) + bit_and a b + 1 ≡ shifted n 1
nands_and zero a b h k = let none = and_le_l a b in omega arith
nands_and (suc n) a b h k =
    let ih = nands_and n (a / 2) (b / 2) (omega arith) (omega arith) in
    let one = one_nand (a % 2) (b % 2) (omega arith) (omega arith) in
    let s = and_step a b in
    omega arith

-- NAND of words is a word
pub nands_length : (xs ys : List Bool) → length xs ≡ length ys → length (nands xs ys) ≡ length xs
nands_length [] ys e = refl
nands_length (x ∷ xs) [] e = absurd (omega arith)
nands_length (x ∷ xs) (y ∷ ys) e = ap suc (nands_length xs ys (omega arith))
