-- The machine's instructions by name, the words that stand for them, and a list of them that stands in memory.
use Rattle.std.specs.Prelude.{◌≡◌, ℕ, suc, ◌+◌, ◌*◌, ◌<◌, List, [], ◌∷◌}
use Rattle.words.specs.Words.{word}
use Rattle.codegen.specs.Layout.{code_limit}

-- Registers go by number, in the order d, a, b; then a 9-bit or a 6-bit number.
pub data Instruction : Type 0 where
  ADD : ℕ → ℕ → ℕ → Instruction
  SUB : ℕ → ℕ → ℕ → Instruction
  NAND : ℕ → ℕ → ℕ → Instruction
  LESS : ℕ → ℕ → ℕ → Instruction
  HALF : ℕ → ℕ → Instruction
  LOW : ℕ → ℕ → Instruction
  HIGH : ℕ → ℕ → Instruction
  LOAD : ℕ → ℕ → ℕ → Instruction
  STORE : ℕ → ℕ → ℕ → Instruction
  -- only forwards
  ZERO : ℕ → ℕ → Instruction
  JUMP : ℕ → ℕ → Instruction
  IN : ℕ → Instruction
  OUT : ℕ → Instruction
  DONE : Instruction
  INDEX : Instruction
  FULL : Instruction

-- The three forms of an instruction word: three registers; one and a 9-bit number; two and a 6-bit number.
abbrev pub form_three : ℕ → ℕ → ℕ → ℕ → ℕ
form_three op d a b = op * 4096 + d * 512 + a * 64 + b * 8

abbrev pub form_wide : ℕ → ℕ → ℕ → ℕ
form_wide op d n = op * 4096 + d * 512 + n

abbrev pub form_near : ℕ → ℕ → ℕ → ℕ → ℕ
form_near op d a m = op * 4096 + d * 512 + a * 64 + m

-- the word of an instruction; unused bits are 0
abbrev pub encode : Instruction → ℕ
encode (ADD d a b) = form_three 0 d a b
encode (SUB d a b) = form_three 1 d a b
encode (NAND d a b) = form_three 2 d a b
encode (LESS d a b) = form_three 3 d a b
encode (HALF d a) = form_near 4 d a 0
encode (LOW d n) = form_wide 5 d n
encode (HIGH d n) = form_wide 6 d n
encode (LOAD d a m) = form_near 7 d a m
encode (STORE d a m) = form_near 8 d a m
encode (ZERO d n) = form_wide 9 d n
encode (JUMP d a) = form_near 10 d a 0
encode (IN d) = form_wide 11 d 0
encode (OUT d) = form_wide 12 d 0
encode DONE = form_wide 13 0 0
encode INDEX = form_wide 14 0 0
encode FULL = form_wide 15 0 0

-- each field is within its width, and a branch goes forwards
abbrev pub WithinWidths : Instruction → Type 0
WithinWidths (ADD d a b) = (d < 8) × (a < 8) × (b < 8)
WithinWidths (SUB d a b) = (d < 8) × (a < 8) × (b < 8)
WithinWidths (NAND d a b) = (d < 8) × (a < 8) × (b < 8)
WithinWidths (LESS d a b) = (d < 8) × (a < 8) × (b < 8)
WithinWidths (HALF d a) = (d < 8) × (a < 8)
WithinWidths (LOW d n) = (d < 8) × (n < 512)
WithinWidths (HIGH d n) = (d < 8) × (n < 256)
WithinWidths (LOAD d a m) = (d < 8) × (a < 8) × (m < 64)
WithinWidths (STORE d a m) = (d < 8) × (a < 8) × (m < 64)
WithinWidths (ZERO d n) = (d < 8) × (n < 256)
WithinWidths (JUMP d a) = (d < 8) × (a < 8)
WithinWidths (IN d) = d < 8
WithinWidths (OUT d) = d < 8
WithinWidths DONE = Unit {0}
WithinWidths INDEX = Unit {0}
WithinWidths FULL = Unit {0}

-- the place after some instructions that begin at a place
abbrev pub past : List Instruction → ℕ → ℕ
past [] at = at
past (i ∷ is) at = past is (suc at)

-- the instructions stand in memory from a place on, all of them among the words for code
abbrev pub Stands : List ℕ → ℕ → List Instruction → Type 0
Stands mem at [] = Unit {0}
Stands mem at (i ∷ is) = (at < code_limit) × WithinWidths i × (word mem at ≡ encode i) × Stands mem (suc at) is
