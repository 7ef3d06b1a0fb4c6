-- Parts of a circuit, for every width. A part is two things: its gates, from signal n on, and the signals that carry
-- its results. Words are lists of signals, lowest bit first.
use Rattle.std.specs.Prelude.{ℕ, suc, List, [], ◌∷◌, ◌++◌}

-- a gate is the two signals whose NAND it is
abbrev pub Gates : Type 0
Gates = List (ℕ × ℕ)

-- the first signal after some gates that begin at n
abbrev pub after : ℕ → Gates → ℕ
after n [] = n
after n (g ∷ gs) = after (suc n) gs

-- gates of several parts one behind the other
abbrev pub join : List Gates → Gates
join [] = []
join (g ∷ gs) = g ++ join gs

-- lines with their inverses
abbrev pub paired : List ℕ → List ℕ → List (ℕ × ℕ)
paired [] ys = []
paired (x ∷ xs) [] = []
paired (x ∷ xs) (y ∷ ys) = (x, y) ∷ paired xs ys

-- signals counted on from n
abbrev pub plus2 : ℕ → ℕ
plus2 n = suc (suc n)

abbrev pub plus3 : ℕ → ℕ
plus3 n = suc (plus2 n)

abbrev pub plus4 : ℕ → ℕ
plus4 n = suc (plus3 n)

-- Inverters: one gate a bit, fed twice by that bit.
unfoldable pub inverter_gates : ℕ → List ℕ → Gates
inverter_gates n [] = []
inverter_gates n (a ∷ xs) = (a, a) ∷ inverter_gates (suc n) xs

unfoldable pub inverter_results : ℕ → List ℕ → List ℕ
inverter_results n [] = []
inverter_results n (a ∷ xs) = n ∷ inverter_results (suc n) xs

-- NAND of two words: one gate a bit.
unfoldable pub nand_gates : ℕ → List ℕ → List ℕ → Gates
nand_gates n [] ys = []
nand_gates n (a ∷ xs) [] = []
nand_gates n (a ∷ xs) (b ∷ ys) = (a, b) ∷ nand_gates (suc n) xs ys

unfoldable pub nand_results : ℕ → List ℕ → List ℕ → List ℕ
nand_results n [] ys = []
nand_results n (a ∷ xs) [] = []
nand_results n (a ∷ xs) (b ∷ ys) = n ∷ nand_results (suc n) xs ys

-- Choice of two words: xs where the line s is high, else ys; t is the inverse of s. Three gates a bit.
unfoldable pub mux_gates : ℕ → ℕ → ℕ → List ℕ → List ℕ → Gates
mux_gates n s t [] ys = []
mux_gates n s t (a ∷ xs) [] = []
mux_gates n s t (a ∷ xs) (b ∷ ys) = (a, s) ∷ (b, t) ∷ (n, suc n) ∷ mux_gates (plus3 n) s t xs ys

unfoldable pub mux_results : ℕ → List ℕ → List ℕ → List ℕ
mux_results n [] ys = []
mux_results n (a ∷ xs) [] = []
mux_results n (a ∷ xs) (b ∷ ys) = plus2 n ∷ mux_results (plus3 n) xs ys

-- A word, or its inverse where the line s is high: exclusive or with s, four gates a bit.
unfoldable pub invert_if_gates : ℕ → ℕ → List ℕ → Gates
invert_if_gates n s [] = []
invert_if_gates n s (a ∷ xs) = (a, s) ∷ (a, n) ∷ (s, n) ∷ (suc n, plus2 n) ∷ invert_if_gates (plus4 n) s xs

unfoldable pub invert_if_results : ℕ → List ℕ → List ℕ
invert_if_results n [] = []
invert_if_results n (a ∷ xs) = plus3 n ∷ invert_if_results (plus4 n) xs

-- Zero test: high where z is high and every bit is low. Three gates a bit: each bit inverted, then AND with what the
-- bits below gave.
unfoldable pub zero_gates : ℕ → ℕ → List ℕ → Gates
zero_gates n z [] = []
zero_gates n z (a ∷ xs) = (a, a) ∷ (z, n) ∷ (suc n, suc n) ∷ zero_gates (plus3 n) (plus2 n) xs

unfoldable pub zero_result : ℕ → ℕ → List ℕ → ℕ
zero_result n z [] = z
zero_result n z (a ∷ xs) = zero_result (plus3 n) (plus2 n) xs
