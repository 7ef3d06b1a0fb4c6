-- The ripple-carry adder, and the subtractor that compares, for every width.
use Rattle.std.specs.Prelude.{ℕ, suc, List, [], ◌∷◌, ◌++◌}
use Rattle.circuit.specs.Parts.{Gates, after, plus2, plus3, plus4, inverter_gates, inverter_results}

abbrev pub plus5 : ℕ → ℕ
plus5 n = suc (plus4 n)

abbrev pub plus6 : ℕ → ℕ
plus6 n = suc (plus5 n)

abbrev pub plus7 : ℕ → ℕ
plus7 n = suc (plus6 n)

abbrev pub plus8 : ℕ → ℕ
plus8 n = suc (plus7 n)

abbrev pub plus9 : ℕ → ℕ
plus9 n = suc (plus8 n)

-- One bit: a, b and the carry c. The fourth gate is high where just one of a and b is, the eighth is the sum, the ninth
-- the carry into the next bit.
abbrev pub full_adder : ℕ → ℕ → ℕ → ℕ → Gates
full_adder n a b c =
    (a, b) ∷ (a, n) ∷ (b, n) ∷ (suc n, plus2 n) ∷
    (plus3 n, c) ∷ (plus3 n, plus4 n) ∷ (c, plus4 n) ∷ (plus5 n, plus6 n) ∷
    (n, plus4 n) ∷ []

-- Ripple-carry adder: nine gates a bit, the carry of each bit led to the next.
unfoldable pub adder_gates : ℕ → List ℕ → List ℕ → ℕ → Gates
adder_gates n [] ys c = []
adder_gates n (a ∷ xs) [] c = []
adder_gates n (a ∷ xs) (b ∷ ys) c = full_adder n a b c ++ adder_gates (plus9 n) xs ys (plus8 n)

unfoldable pub adder_results : ℕ → List ℕ → List ℕ → List ℕ
adder_results n [] ys = []
adder_results n (a ∷ xs) [] = []
adder_results n (a ∷ xs) (b ∷ ys) = plus7 n ∷ adder_results (plus9 n) xs ys

-- the carry out of the highest bit
unfoldable pub adder_carry : ℕ → List ℕ → List ℕ → ℕ → ℕ
adder_carry n [] ys c = c
adder_carry n (a ∷ xs) [] c = c
adder_carry n (a ∷ xs) (b ∷ ys) c = adder_carry (plus9 n) xs ys (plus8 n)

-- Subtract and compare: the second word inverted, added with a carry in that is high; the inverse of the carry out says
-- that the first word is below the second.
abbrev pub adder_place : ℕ → List ℕ → ℕ
adder_place n ys = after n (inverter_gates n ys)

abbrev pub less_place : ℕ → List ℕ → List ℕ → ℕ → ℕ
less_place n xs ys c = after (adder_place n ys) (adder_gates (adder_place n ys) xs (inverter_results n ys) c)

abbrev pub subtract_carry : ℕ → List ℕ → List ℕ → ℕ → ℕ
subtract_carry n xs ys c = adder_carry (adder_place n ys) xs (inverter_results n ys) c

unfoldable pub subtract_gates : ℕ → List ℕ → List ℕ → ℕ → Gates
subtract_gates n xs ys c =
    inverter_gates n ys ++ (adder_gates (adder_place n ys) xs (inverter_results n ys) c ++
    ((subtract_carry n xs ys c, subtract_carry n xs ys c) ∷ []))

unfoldable pub subtract_results : ℕ → List ℕ → List ℕ → List ℕ
subtract_results n xs ys = adder_results (adder_place n ys) xs (inverter_results n ys)

unfoldable pub less_result : ℕ → List ℕ → List ℕ → ℕ → ℕ
less_result n xs ys c = less_place n xs ys c
