-- The adder adds and the subtractor subtracts and compares, of levels f that obey their gates. In order: one bit, the
-- adder, what the adder makes of a word and the inverse of another.
use Rattle.std.proofs.Common.{◌≡◌, ℕ, suc, ◌+◌, ◌-◌, ◌*◌, ◌<◌, Bool, true, false, cond, not, ltb, List, [], ◌∷◌, ◌++◌, map, length, sym, refl, ap, ◌∙◌, subst, arith}
use lib.ListN.{length-map}
use Rattle.std.proofs.lemmas.Bool.{lt-ltb, le-ltb}
use Rattle.words.specs.Words.{bit, value, shifted, nand}
use Rattle.words.proofs.Bits.{value_not, value_below, shifted_bit}
use Rattle.circuit.specs.Parts.{Gates}
use Rattle.circuit.specs.PartsAdder.{plus7, plus8, plus9, full_adder, adder_gates, adder_results, adder_carry}
use Rattle.circuit.proofs.Settling.{Obeys}

abbrev half_sum : Bool → Bool → Bool
half_sum a b = nand (nand a (nand a b)) (nand b (nand a b))

full_bit : (a b c : Bool) → bit (half_sum (half_sum a b) c) + 2 * bit (nand (nand a b) (nand (half_sum a b) c)) ≡ bit a + bit b + bit c
full_bit true true true = refl
full_bit true true false = refl
full_bit true false true = refl
full_bit true false false = refl
full_bit false true true = refl
full_bit false true false = refl
full_bit false false true = refl
full_bit false false false = refl

-- sum and carry of one bit
adds_bit : (f : ℕ → Bool) (n a b c : ℕ) (gs : Gates) → Obeys f n (full_adder n a b c ++ gs) → bit (f (plus7 n)) + 2 * bit (f (plus8 n)) ≡ bit (f a) + bit (f b) + bit (f c)
adds_bit f n a b c gs q =
    rw (q.1.1.1.1.1.1.1.1.0, q.1.1.1.1.1.1.1.0, q.1.1.1.1.1.1.0, q.1.1.1.1.1.0, q.1.1.1.1.0, q.1.1.1.0, q.1.1.0, q.1.0, q.0) (full_bit (f a) (f b) (f c))

pub adds : (f : ℕ → Bool) (n : ℕ) (xs ys : List ℕ) (c : ℕ) → length xs ≡ length ys → Obeys f n (adder_gates n xs ys c) →
    value (map f (adder_results n xs ys)) + shifted (length xs) (bit (f (adder_carry n xs ys c))) ≡ value (map f xs) + value (map f ys) + bit (f c)
unfolding adder_gates adder_results adder_carry
adds f n [] [] c l q = omega arith
adds f n [] (b ∷ ys) c l q = absurd (omega arith)
adds f n (a ∷ xs) [] c l q = absurd (omega arith)
adds f n (a ∷ xs) (b ∷ ys) c l q =
    let ih = adds f (plus9 n) xs ys (plus8 n) (omega arith) q.1.1.1.1.1.1.1.1.1 in
    let here = adds_bit f n a b c (adder_gates (plus9 n) xs ys (plus8 n)) q in
    omega arith

pub adder_length : (n : ℕ) (xs ys : List ℕ) → length xs ≡ length ys → length (adder_results n xs ys) ≡ length xs
unfolding adder_results
adder_length n [] ys l = refl
adder_length n (a ∷ xs) [] l = absurd (omega arith)
adder_length n (a ∷ xs) (b ∷ ys) l = ap suc (adder_length (plus9 n) xs ys (omega arith))

-- a number s and a carry c that make, with b, the number a and a power of 2
difference : (w a b s : ℕ) (c : Bool) → a < shifted w 1 → b < shifted w 1 → s < shifted w 1 → s + b + shifted w (bit c) ≡ a + shifted w 1 →
    (s ≡ cond (not c) (a + shifted w 1 - b) (a - b)) × (not c ≡ ltb a b)
difference w a b s true ha hb hs e = (omega arith, sym (le-ltb a b (omega arith)))
difference w a b s false ha hb hs e = let t = shifted_bit w false in (omega arith, sym (lt-ltb a b (omega arith)))

-- an adder of xs and the inverse of zs, with a carry in that is high
pub subtracts : (f : ℕ → Bool) (n : ℕ) (xs ys : List ℕ) (c : ℕ) (zs : List ℕ) → length xs ≡ length ys → length ys ≡ length zs → f c ≡ true → map f ys ≡ map not (map f zs) → Obeys f n (adder_gates n xs ys c) →
    (value (map f (adder_results n xs ys)) ≡ cond (not (f (adder_carry n xs ys c))) (value (map f xs) + shifted (length xs) 1 - value (map f zs)) (value (map f xs) - value (map f zs)))
    × (not (f (adder_carry n xs ys c)) ≡ ltb (value (map f xs)) (value (map f zs)))
subtracts f n xs ys c zs l m e i q =
    let s = adds f n xs ys c l q in
    let v = value_not (map f zs) in
    let w : value (map f ys) ≡ value (map not (map f zs)) = ap value i in
    let high : bit (f c) ≡ 1 = ap bit e in
    let k : length (map f zs) ≡ length xs = length-map zs f ∙ sym (l ∙ m) in
    let t : shifted (length (map f zs)) 1 ≡ shifted (length xs) 1 = ap (λ j. shifted j 1) k in
    let all : value (map f (adder_results n xs ys)) + value (map f zs) + shifted (length xs) (bit (f (adder_carry n xs ys c))) ≡ value (map f xs) + shifted (length xs) 1 = omega arith in
    let wide : (us : List ℕ) → length us ≡ length xs → value (map f us) < shifted (length xs) 1 = λ us k. subst (λ j. value (map f us) < shifted j 1) (length-map us f ∙ k) (value_below (map f us)) in
    difference (length xs) (value (map f xs)) (value (map f zs)) (value (map f (adder_results n xs ys))) (f (adder_carry n xs ys c)) (wide xs refl) (wide zs (sym (l ∙ m))) (wide (adder_results n xs ys) (adder_length n xs ys l)) all
