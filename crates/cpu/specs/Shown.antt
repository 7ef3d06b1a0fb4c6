-- How many words the drawing can have shown.
use Rattle.std.specs.Prelude.{ℕ, ◌+◌, ◌*◌, ◌≤◌, List, length}
use Rattle.words.specs.Words.{IsMemory, IsTape}
use Rattle.circuit.specs.Circuit.{board_run}
use Rattle.cpu.specs.Cpu.{cpu}

-- An instruction takes three cycles and puts out at most one word: of n cycles at most every third shows one.
abbrev pub OneWordInThree : Type 0
OneWordInThree = (mem tape : List ℕ) → IsMemory mem → IsTape tape → (n : ℕ) → 3 * length (board_run cpu mem tape n).shown ≤ n + 1
