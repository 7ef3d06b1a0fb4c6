-- Inverters, NANDs, choices and the zero test, of levels f that obey their gates. In order: single bits, inverters,
-- NAND of words, the choice, the choice whose lines may both be low, the conditional inverse, the zero test.
use Rattle.std.proofs.Common.{◌≡◌, ℕ, suc, Bool, true, false, cond, not, ◌&&◌, List, [], ◌∷◌, map, length, sym, refl, ap, ◌∙◌, ap₂, arith}
use Rattle.words.specs.Words.{nand, nands}
use Rattle.words.proofs.Bits.{all_low}
use Rattle.circuit.specs.Parts.{plus2, plus3, plus4, inverter_gates, inverter_results, nand_gates, nand_results, mux_gates, mux_results, invert_if_gates, invert_if_results, zero_gates, zero_result}
use Rattle.circuit.proofs.Settling.{Obeys}

pub nand_self : (x : Bool) → nand x x ≡ not x
nand_self true = refl
nand_self false = refl

pub not_not : (x : Bool) → not (not x) ≡ x
not_not true = refl
not_not false = refl

pub and_bit : (x y : Bool) → nand (nand x y) (nand x y) ≡ x && y
and_bit true true = refl
and_bit true false = refl
and_bit false true = refl
and_bit false false = refl

-- one inverter; and the AND of two levels, from a NAND and an inverter behind it
pub inverts_one : (f : ℕ → Bool) (n a : ℕ) → f n ≡ nand (f a) (f a) → f n ≡ not (f a)
inverts_one f n a e = e ∙ nand_self (f a)

pub and_two : (f : ℕ → Bool) (n m : ℕ) (x y : Bool) → f n ≡ nand x y → f m ≡ nand (f n) (f n) → f m ≡ x && y
and_two f n m x y e d = rw (d, e) (and_bit x y)

pub inverts : (f : ℕ → Bool) (n : ℕ) (xs : List ℕ) → Obeys f n (inverter_gates n xs) → map f (inverter_results n xs) ≡ map not (map f xs)
unfolding inverter_gates inverter_results
inverts f n [] s = refl
inverts f n (a ∷ xs) s = ap₂ {C = List Bool} (λ x y. x ∷ y) (inverts_one f n a s.0) (inverts f (suc n) xs s.1)

pub nands_are : (f : ℕ → Bool) (n : ℕ) (xs ys : List ℕ) → Obeys f n (nand_gates n xs ys) → map f (nand_results n xs ys) ≡ nands (map f xs) (map f ys)
unfolding nand_gates nand_results
nands_are f n [] ys s = refl
nands_are f n (a ∷ xs) [] s = refl
nands_are f n (a ∷ xs) (b ∷ ys) s = ap₂ {C = List Bool} (λ x y. x ∷ y) s.0 (nands_are f (suc n) xs ys s.1)

-- the choice of two words
mux_bit : (s a b : Bool) → nand (nand a s) (nand b (not s)) ≡ cond s a b
mux_bit true true true = refl
mux_bit true true false = refl
mux_bit true false true = refl
mux_bit true false false = refl
mux_bit false true true = refl
mux_bit false true false = refl
mux_bit false false true = refl
mux_bit false false false = refl

cond_cons : (s x y : Bool) (us vs : List Bool) → cond s (x ∷ us) (y ∷ vs) ≡ cond s x y ∷ cond s us vs
cond_cons true x y xs ys = refl
cond_cons false x y xs ys = refl

pub cond_same : {A : Type 0} (s : Bool) (x : A) → x ≡ cond s x x
cond_same true x = refl
cond_same false x = refl

pub chooses : (f : ℕ → Bool) (n s t : ℕ) (xs ys : List ℕ) → length xs ≡ length ys → f t ≡ not (f s) → Obeys f n (mux_gates n s t xs ys) → map f (mux_results n xs ys) ≡ cond (f s) (map f xs) (map f ys)
unfolding mux_gates mux_results
chooses f n s t [] [] l e q = cond_same (f s) []
chooses f n s t [] (b ∷ ys) l e q = absurd (omega arith)
chooses f n s t (a ∷ xs) [] l e q = absurd (omega arith)
chooses f n s t (a ∷ xs) (b ∷ ys) l e q =
    let ih = chooses f (plus3 n) s t xs ys (omega arith) e q.1.1.1 in
    let here : f (plus2 n) ≡ cond (f s) (f a) (f b) = rw (q.1.1.0, q.1.0, q.0, e) (mux_bit (f s) (f a) (f b)) in
    ap₂ {C = List Bool} (λ x y. x ∷ y) here ih ∙ sym (cond_cons (f s) (f a) (f b) (map f xs) (map f ys))

pub mux_length : (n : ℕ) (xs ys : List ℕ) → length xs ≡ length ys → length (mux_results n xs ys) ≡ length xs
unfolding mux_results
mux_length n [] ys l = refl
mux_length n (a ∷ xs) [] l = absurd (omega arith)
mux_length n (a ∷ xs) (b ∷ ys) l = ap suc (mux_length (plus3 n) xs ys (omega arith))

-- the same gates with lines that are not both high: where neither is, all bits are low
abbrev pub lows : List Bool → List Bool
lows [] = []
lows (b ∷ bs) = false ∷ lows bs

either_bit : (s t a b : Bool) → s && t ≡ false → nand (nand a s) (nand b t) ≡ cond s a (cond t b false)
either_bit true true a b e = absurd (let z : ◌≡◌ {A = ℕ} 0 1 = cc in omega arith)
either_bit true false true true e = refl
either_bit true false true false e = refl
either_bit true false false true e = refl
either_bit true false false false e = refl
either_bit false true true true e = refl
either_bit false true true false e = refl
either_bit false true false true e = refl
either_bit false true false false e = refl
either_bit false false true true e = refl
either_bit false false true false e = refl
either_bit false false false true e = refl
either_bit false false false false e = refl

pub chooses_either : (f : ℕ → Bool) (n s t : ℕ) (xs ys : List ℕ) → length xs ≡ length ys → f s && f t ≡ false → Obeys f n (mux_gates n s t xs ys) → map f (mux_results n xs ys) ≡ cond (f s) (map f xs) (cond (f t) (map f ys) (lows (map f xs)))
unfolding mux_gates mux_results
chooses_either f n s t [] [] l e q = cond_same (f s) [] ∙ ap (cond (f s) []) (cond_same (f t) [])
chooses_either f n s t [] (b ∷ ys) l e q = absurd (omega arith)
chooses_either f n s t (a ∷ xs) [] l e q = absurd (omega arith)
chooses_either f n s t (a ∷ xs) (b ∷ ys) l e q =
    let ih = chooses_either f (plus3 n) s t xs ys (omega arith) e q.1.1.1 in
    let here : f (plus2 n) ≡ cond (f s) (f a) (cond (f t) (f b) false) = rw (q.1.1.0, q.1.0, q.0) (either_bit (f s) (f t) (f a) (f b) e) in
    ap₂ {C = List Bool} (λ x y. x ∷ y) here ih ∙ go (f s) (f t)
  where
    go : (s t : Bool) → cond s (f a) (cond t (f b) false) ∷ cond s (map f xs) (cond t (map f ys) (lows (map f xs))) ≡ cond s (map f (a ∷ xs)) (cond t (map f (b ∷ ys)) (lows (map f (a ∷ xs))))
    go true t = refl
    go false true = refl
    go false false = refl

-- a word, or its inverse
invert_bit : (s a : Bool) → nand (nand a (nand a s)) (nand s (nand a s)) ≡ cond s (not a) a
invert_bit true true = refl
invert_bit true false = refl
invert_bit false true = refl
invert_bit false false = refl

cond_not : (s : Bool) (x : Bool) (xs : List Bool) → cond s (not x) x ∷ cond s (map not xs) xs ≡ cond s (map not (x ∷ xs)) (x ∷ xs)
cond_not true x xs = refl
cond_not false x xs = refl

pub inverts_if : (f : ℕ → Bool) (n s : ℕ) (xs : List ℕ) → Obeys f n (invert_if_gates n s xs) → map f (invert_if_results n xs) ≡ cond (f s) (map not (map f xs)) (map f xs)
unfolding invert_if_gates invert_if_results
inverts_if f n s [] q = cond_same (f s) []
inverts_if f n s (a ∷ xs) q =
    let here : f (plus3 n) ≡ cond (f s) (not (f a)) (f a) = rw (q.1.1.1.0, q.1.1.0, q.1.0, q.0) (invert_bit (f s) (f a)) in
    ap₂ {C = List Bool} (λ x y. x ∷ y) here (inverts_if f (plus4 n) s xs q.1.1.1.1) ∙ cond_not (f s) (f a) (map f xs)

-- is every bit low, and z high?
zero_bit : (z a r : Bool) → nand (nand z (nand a a)) (nand z (nand a a)) && r ≡ z && (not a && r)
zero_bit true true r = refl
zero_bit true false r = refl
zero_bit false true r = refl
zero_bit false false r = refl

and_true : (z : Bool) → z ≡ z && true
and_true true = refl
and_true false = refl

pub tests_zero : (f : ℕ → Bool) (n z : ℕ) (xs : List ℕ) → Obeys f n (zero_gates n z xs) → f (zero_result n z xs) ≡ f z && all_low (map f xs)
unfolding zero_gates zero_result
tests_zero f n z [] q = and_true (f z)
tests_zero f n z (a ∷ xs) q =
    tests_zero f (plus3 n) (plus2 n) xs q.1.1.1 ∙ rw (q.1.1.0, q.1.0, q.0) (zero_bit (f z) (f a) (all_low (map f xs)))
