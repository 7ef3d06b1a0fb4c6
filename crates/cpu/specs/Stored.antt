-- A stored word is there when it is wanted. Memory hands over the word that stood at the address before a store of the
-- same cycle; so a machine that stored and asked in one cycle would get the old word. Ours never does: a store happens in
-- an instruction's second cycle, and the next word that anybody takes is asked for in its third.
use Rattle.std.specs.Prelude.{◌≡◌, ℕ, zero, suc, ◌-◌, ◌*◌, Bool, true, false, List, length, take, drop}
use Rattle.words.specs.Words.{value, bit_at, IsMemory, IsTape}
use Rattle.words.specs.Runs.{running}
use Rattle.circuit.specs.Circuit.{Board, input_signals, store_pin, pin_levels, tick, ticks, power_on}
use Rattle.machine.specs.Machine.{Machine, Store, Load, operation, fetched, place, following, register, step, steps, begin}
use Rattle.cpu.specs.Signals.{PHASE_1, PHASE_2, PHASE_3, LOADS, flop_count}
use Rattle.cpu.specs.Cpu.{cpu}

-- the level of a flip-flop, by its signal
abbrev pub flop : Board → ℕ → Bool
flop b n = bit_at b.state (n - input_signals)

-- where phase 2 is high, the other two are low
abbrev pub OnePhase : Board → Type 0
OnePhase b = flop b PHASE_2 ≡ true → (flop b PHASE_1 ≡ false) × (flop b PHASE_3 ≡ false)

-- In a cycle that stores, the word handed over next is wanted by nobody: the next cycle is neither the first nor the
-- second of an instruction, where an instruction is taken, and loads no register.
abbrev pub StoresAlone : Type 0
StoresAlone = (b : Board) → length b.state ≡ flop_count → b.halted ≡ running → OnePhase b → bit_at (pin_levels cpu b) store_pin ≡ true →
    (flop (tick cpu b) PHASE_1 ≡ false) × (flop (tick cpu b) PHASE_2 ≡ false) × (flop (tick cpu b) LOADS ≡ false)

-- the word in a register of the drawing: the flip-flops behind the program counter and the registers below it
abbrev pub behind_words : ℕ → List Bool → List Bool
behind_words zero v = v
behind_words (suc k) v = behind_words k (drop 16 v)

abbrev pub register_on : Board → ℕ → ℕ
register_on b k = value (take 16 (behind_words (suc k) b.state))

-- the board after t instructions: a cycle at the start and three for each
abbrev pub board_after : List ℕ → List ℕ → ℕ → Board
board_after mem tape t = ticks (suc (3 * t)) cpu (power_on cpu mem tape)

-- a load that comes right after a store to the same place gets the stored word
abbrev pub LoadAfterStore : Type 0
LoadAfterStore = (mem tape : List ℕ) → IsMemory mem → IsTape tape → (t : ℕ) (s : Machine) → s ≡ steps t (begin mem tape) → s.halted ≡ running →
    operation (fetched s).op ≡ Store → operation (fetched (step s)).op ≡ Load → place (fetched (step s)) (step s) ≡ place (fetched s) s →
    register_on (board_after mem tape (suc (suc t))) (fetched (step s)).d ≡ register s (fetched s).d

-- where a store goes to the place of the next instruction, the stored word is the instruction that comes next
abbrev pub FetchAfterStore : Type 0
FetchAfterStore = (mem tape : List ℕ) → IsMemory mem → IsTape tape → (t : ℕ) (s : Machine) → s ≡ steps t (begin mem tape) → s.halted ≡ running →
    operation (fetched s).op ≡ Store → place (fetched s) s ≡ following s → (board_after mem tape (suc t)).read ≡ register s (fetched s).d
