-- What stands where: the places in memory and the use of the registers.
use Rattle.std.specs.Prelude.{ℕ, ◌-◌}
use Rattle.words.specs.Words.{memory_size}
use Rattle.language.specs.Language.{frame_room}
use Rattle.language.specs.Limits.{most_globals, most_cells}

-- Memory from above: the loader's words, which an image leaves alone; the stack, which grows downwards; the cells; the
-- globals; the code.
abbrev pub loader_words : ℕ
loader_words = 40

-- one past the stack's highest word
abbrev pub stack_top : ℕ
stack_top = memory_size - loader_words

abbrev pub stack_base : ℕ
stack_base = stack_top - frame_room

abbrev pub cells_base : ℕ
cells_base = stack_base - most_cells

abbrev pub globals_base : ℕ
globals_base = cells_base - most_globals

-- one past the highest word that code may take
abbrev pub code_limit : ℕ
code_limit = globals_base

-- The registers. The value that was worked out last; at a call the argument, at a return the procedure's value.
abbrev pub value : ℕ
value = 0

-- places and first operands
abbrev pub work : ℕ
work = 1

-- at a call the place to go back to, else free
abbrev pub back : ℕ
back = 2

-- free
abbrev pub spare : ℕ
spare = 3

-- the stack pointer: the place of the stack's lowest word in use
abbrev pub stack : ℕ
stack = 4

-- the frame pointer: the place of local 0
abbrev pub frame : ℕ
frame = 5

-- how many words are left for frames
abbrev pub room : ℕ
room = 6

-- always 1
abbrev pub one : ℕ
one = 7
