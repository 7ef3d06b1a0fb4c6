-- 16-bit words as numbers below 65,536; their bits, lowest first; lists of words as memory, registers and tape.
use Rattle.std.specs.Prelude.{◌≡◌, ℕ, zero, suc, ◌+◌, ◌-◌, ◌*◌, ◌/◌, ◌%◌, ◌<◌, Bool, false, cond, not, ◌&&◌, List, [], ◌∷◌, length, ◌==◌, nat_lt, slice_index, slice_index_or, slice_set}

-- The five operations on words. Sums and differences wrap at 65,536.
abbrev pub add16 : ℕ → ℕ → ℕ
add16 a b = (a + b) % 65536

abbrev pub sub16 : ℕ → ℕ → ℕ
sub16 a b = (a + 65536 - b) % 65536

-- 1 if the first is below the second, without sign, else 0
abbrev pub less16 : ℕ → ℕ → ℕ
less16 a b = cond (nat_lt a b) 1 0

-- rounded down
abbrev pub half16 : ℕ → ℕ
half16 a = a / 2

-- the lowest n bits of a number, lowest first
abbrev pub bits : ℕ → ℕ → List Bool
bits zero x = []
bits (suc n) x = (x % 2 == 1) ∷ bits n (x / 2)

-- a level as a number
abbrev pub bit : Bool → ℕ
bit b = cond b 1 0

-- the number that some bits stand for, lowest first
abbrev pub value : List Bool → ℕ
value [] = 0
value (b ∷ bs) = bit b + 2 * value bs

-- a number shifted n places to the left: x times the n-th power of 2
abbrev pub shifted : ℕ → ℕ → ℕ
shifted zero x = x
shifted (suc n) x = 2 * shifted n x

-- what a NAND gate gives, of two levels and of two lists of levels
abbrev pub nand : Bool → Bool → Bool
nand a b = not (a && b)

abbrev pub nands : List Bool → List Bool → List Bool
nands [] ys = []
nands (x ∷ xs) [] = []
nands (x ∷ xs) (y ∷ ys) = nand x y ∷ nands xs ys

-- NAND of all bits of two words
abbrev pub nand16 : ℕ → ℕ → ℕ
nand16 a b = value (nands (bits 16 a) (bits 16 b))

-- the level at a place, low past the end
abbrev pub bit_at : List Bool → ℕ → Bool
bit_at bs n = slice_index_or bs n false

-- the word at a place of a memory or a register file, 0 past the end
abbrev pub word : List ℕ → ℕ → ℕ
word ws n = slice_index ws n

-- the words with v at a place; past the end nothing changes
abbrev pub put : List ℕ → ℕ → ℕ → List ℕ
put ws n v = slice_set ws n v

-- a tape's next word, 0 at its end, and what comes after it
abbrev pub front : List ℕ → ℕ
front [] = 0
front (x ∷ xs) = x

abbrev pub rest : List ℕ → List ℕ
rest [] = []
rest (x ∷ xs) = xs

-- each number of a list has the property P
abbrev pub All : (ℕ → Type 0) → List ℕ → Type 0
All P [] = Unit {0}
All P (x ∷ xs) = P x × All P xs

-- a memory has 65,536 places, for as many as a word can name
abbrev pub memory_size : ℕ
memory_size = 65536

abbrev pub IsMemory : List ℕ → Type 0
IsMemory mem = (length mem ≡ memory_size) × All (λ x. x < 65536) mem

abbrev pub IsTape : List ℕ → Type 0
IsTape tape = All (λ x. x < 65536) tape
