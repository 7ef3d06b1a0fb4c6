-- How a board with the drawing stands to a machine: ready for an instruction, in its second cycle, in its third, or
-- halted with it.
use Rattle.std.proofs.Common.{◌≡◌, ℕ, suc, ◌<◌, Bool, true, false, ◌⊎◌, List, length}
use Rattle.words.specs.Words.{word, IsTape, memory_size}
use Rattle.words.specs.Runs.{running}
use Rattle.circuit.specs.Circuit.{Board}
use Rattle.machine.specs.Machine.{Machine}
use Rattle.drawing.specs.Drawing.{HaltedAlike}
use Rattle.cpu.proofs.Board.{held}

-- a machine whose numbers are words, with eight registers
pub record WordsIn (s : Machine) : Type 0 where
  pub pc_below : s.pc < 65536
  pub eight : length s.registers ≡ 8
  pub registers_below : IsTape s.registers
  pub mem_below : IsTape s.mem
  pub tape_below : IsTape s.tape
  pub mem_long : length s.mem ≡ memory_size

-- before each of an instruction's three cycles; t, r and d are operand, result and register to write
abbrev pub ready : ℕ → List ℕ → ℕ → ℕ → ℕ → Bool → List ℕ → List ℕ → List ℕ → Board
ready pc regs t r d ld mem tape out = record { state = held pc regs t r d true false false false ld; mem = mem; read = word mem pc; tape = tape; out = out; halted = running }

abbrev pub second : ℕ → List ℕ → ℕ → ℕ → ℕ → Bool → List ℕ → ℕ → List ℕ → List ℕ → Board
second pc regs t r d ld mem w tape out = record { state = held pc regs t r d false true false false ld; mem = mem; read = w; tape = tape; out = out; halted = running }

abbrev pub third : ℕ → List ℕ → ℕ → ℕ → ℕ → Bool → Bool → List ℕ → ℕ → List ℕ → List ℕ → Board
third pc regs t r d wr ld mem w tape out = record { state = held pc regs t r d false false true wr ld; mem = mem; read = w; tape = tape; out = out; halted = running }

-- the board stands where the machine does, ready for its instruction: whatever the operand, the result and the register
-- to write hold does not count
pub record Ready (s : Machine) (b : Board) : Type 0 where
  pub t : ℕ
  pub r : ℕ
  pub d : ℕ
  pub ld : Bool
  pub d_below : d < 8
  pub words_in : WordsIn s
  pub runs : s.halted ≡ running
  pub is : b ≡ ready s.pc s.registers t r d ld s.mem s.tape s.out

pub record Stopped (s : Machine) (b : Board) : Type 0 where
  pub how : ℕ
  pub has_halted : s.halted ≡ suc how
  pub alike : HaltedAlike s b

abbrev pub Stands : Machine → Board → Type 0
Stands s b = Ready s b ⊎ Stopped s b
