-- What each part does, by its words, whatever levels stand on the board before it. In each law v are the levels before
-- the part; its gates come right behind them and settle. Together with the pictures of the parts this is all that a
-- drawing needs to know of them.
use Rattle.std.specs.Prelude.{◌≡◌, ℕ, ◌+◌, ◌-◌, ◌<◌, Bool, true, cond, not, List, [], ◌∷◌, map, length, ◌==◌, nat_lt}
use Rattle.words.specs.Words.{bit, value, shifted, nands, bit_at, word, put}
use Rattle.circuit.specs.Circuit.{settle, AllBelow}
use Rattle.circuit.specs.Parts.{inverter_gates, inverter_results, nand_gates, nand_results, mux_gates, mux_results, invert_if_gates, invert_if_results, zero_gates, zero_result}
use Rattle.circuit.specs.PartsAdder.{adder_gates, adder_results, adder_carry, subtract_gates, subtract_results, less_result}
use Rattle.circuit.specs.PartsRegisters.{read_gates, read_results, write_gates, write_results}

-- the levels on some signals, and the word that they stand for
abbrev pub levels_on : List Bool → List ℕ → List Bool
levels_on v xs = map (bit_at v) xs

abbrev pub word_on : List Bool → List ℕ → ℕ
word_on v xs = value (levels_on v xs)

-- the words of a register file
abbrev pub words_on : List Bool → List (List ℕ) → List ℕ
words_on v [] = []
words_on v (x ∷ ws) = word_on v x ∷ words_on v ws

-- the number that select lines say, lowest first
abbrev pub selected : List Bool → List (ℕ × ℕ) → List Bool
selected v [] = []
selected v (p ∷ ps) = bit_at v p.0 ∷ selected v ps

-- each line is there, with its inverse
abbrev pub Lines : List Bool → List (ℕ × ℕ) → Type 0
Lines v [] = Unit {0}
Lines v (p ∷ ps) = ((p.0 < length v) × (p.1 < length v) × (bit_at v p.1 ≡ not (bit_at v p.0))) × Lines v ps

-- each word of a register file is there, and has w bits
abbrev pub File : List Bool → ℕ → List (List ℕ) → Type 0
File v w [] = Unit {0}
File v w (x ∷ ws) = (AllBelow x (length v) × (length x ≡ w)) × File v w ws

-- a word and its inverse are all ones together
abbrev pub InverterInverts : Type 0
InverterInverts = (v : List Bool) (xs : List ℕ) → AllBelow xs (length v) →
    word_on (settle (inverter_gates (length v) xs) v) (inverter_results (length v) xs) + word_on v xs + 1 ≡ shifted (length xs) 1

-- NAND of all bits
abbrev pub NandNands : Type 0
NandNands = (v : List Bool) (xs ys : List ℕ) → AllBelow xs (length v) → AllBelow ys (length v) →
    levels_on (settle (nand_gates (length v) xs ys) v) (nand_results (length v) xs ys) ≡ nands (levels_on v xs) (levels_on v ys)

-- the first word where the line is high, else the second
abbrev pub MuxChooses : Type 0
MuxChooses = (v : List Bool) (s t : ℕ) (xs ys : List ℕ) → Lines v ((s, t) ∷ []) → AllBelow xs (length v) → AllBelow ys (length v) → length xs ≡ length ys →
    word_on (settle (mux_gates (length v) s t xs ys) v) (mux_results (length v) xs ys) ≡ cond (bit_at v s) (word_on v xs) (word_on v ys)

-- the inverse of the word where the line is high, else the word
abbrev pub InvertIfInverts : Type 0
InvertIfInverts = (v : List Bool) (s : ℕ) (xs : List ℕ) → s < length v → AllBelow xs (length v) →
    word_on (settle (invert_if_gates (length v) s xs) v) (invert_if_results (length v) xs) ≡ cond (bit_at v s) (shifted (length xs) 1 - 1 - word_on v xs) (word_on v xs)

-- high where the word is 0
abbrev pub ZeroTests : Type 0
ZeroTests = (v : List Bool) (z : ℕ) (xs : List ℕ) → z < length v → bit_at v z ≡ true → AllBelow xs (length v) →
    bit_at (settle (zero_gates (length v) z xs) v) (zero_result (length v) z xs) ≡ (word_on v xs == 0)

-- the sum, with the carry out in front of it, is the sum of both words and the carry in
abbrev pub AdderAdds : Type 0
AdderAdds = (v : List Bool) (xs ys : List ℕ) (c : ℕ) → AllBelow xs (length v) → AllBelow ys (length v) → c < length v → length xs ≡ length ys →
    word_on (settle (adder_gates (length v) xs ys c) v) (adder_results (length v) xs ys)
    + shifted (length xs) (bit (bit_at (settle (adder_gates (length v) xs ys c) v) (adder_carry (length v) xs ys c)))
    ≡ word_on v xs + word_on v ys + bit (bit_at v c)

-- the difference, which wraps where the first word is below the second
abbrev pub SubtractSubtracts : Type 0
SubtractSubtracts = (v : List Bool) (xs ys : List ℕ) (c : ℕ) → AllBelow xs (length v) → AllBelow ys (length v) → c < length v → bit_at v c ≡ true → length xs ≡ length ys →
    word_on (settle (subtract_gates (length v) xs ys c) v) (subtract_results (length v) xs ys)
    ≡ cond (nat_lt (word_on v xs) (word_on v ys)) (word_on v xs + shifted (length xs) 1 - word_on v ys) (word_on v xs - word_on v ys)

-- less says that the first word is below the second, without sign
abbrev pub LessCompares : Type 0
LessCompares = (v : List Bool) (xs ys : List ℕ) (c : ℕ) → AllBelow xs (length v) → AllBelow ys (length v) → c < length v → bit_at v c ≡ true → length xs ≡ length ys →
    bit_at (settle (subtract_gates (length v) xs ys c) v) (less_result (length v) xs ys c) ≡ nat_lt (word_on v xs) (word_on v ys)

-- the port shows the register whose number is on the select lines
abbrev pub PortReads : Type 0
PortReads = (v : List Bool) (w : ℕ) (ps : List (ℕ × ℕ)) (ws : List (List ℕ)) → Lines v ps → File v w ws → length ws ≡ shifted (length ps) 1 →
    word_on (settle (read_gates (length v) ps ws) v) (read_results (length v) ps ws) ≡ word (words_on v ws) (value (selected v ps))

-- where the line e is high, the register whose number is on the select lines takes the word d; all others keep theirs
abbrev pub PortWrites : Type 0
PortWrites = (v : List Bool) (w : ℕ) (ps : List (ℕ × ℕ)) (e : ℕ × ℕ) (d : List ℕ) (ws : List (List ℕ)) →
    Lines v ps → Lines v (e ∷ []) → AllBelow d (length v) → length d ≡ w → File v w ws → length ws ≡ shifted (length ps) 1 →
    words_on (settle (write_gates (length v) ps e d ws) v) (write_results (length v) ps e d ws)
    ≡ cond (bit_at v e.0) (put (words_on v ws) (value (selected v ps)) (word_on v d)) (words_on v ws)
