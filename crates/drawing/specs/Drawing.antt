-- What a circuit has to do on the board to be the instruction machine. Everything above rests on this statement alone,
-- so any circuit that satisfies it may stand in the place of ours.
use Rattle.std.specs.Prelude.{◌≡◌, List, ℕ, ◌+◌, ◌*◌, ◌<◌}
use Rattle.words.specs.Words.{IsMemory, IsTape}
use Rattle.words.specs.Runs.{Prefix, Follows}
use Rattle.circuit.specs.Circuit.{Circuit, Whole, Board, ticks, power_on, board_run}
use Rattle.machine.specs.Machine.{Machine, steps, begin, machine_run}

-- a halted board stands as a halted machine does
pub record HaltedAlike (s : Machine) (b : Board) : Type 0 where
  pub same_ending : b.halted ≡ s.halted
  pub same_words : b.out ≡ s.out
  pub same_memory : b.mem ≡ s.mem
  pub same_tape : b.tape ≡ s.tape

-- The cycles that a drawing may take for the first t instructions from a machine at its start are a parameter.
-- The course allows four an instruction and eight at the start.
abbrev pub course_cycles : Machine → ℕ → ℕ
course_cycles s t = 4 * t + 8

-- On every memory and tape the board with the circuit does what the instruction machine does, and it keeps up: within
-- the cycles allowed for t instructions it has shown what the machine has put out, and if the machine has halted, the
-- board has halted like it.
pub record IsMachine (allowed : Machine → ℕ → ℕ) (c : Circuit) : Type 0 where
  pub whole : Whole c
  pub does : (mem tape : List ℕ) → IsMemory mem → IsTape tape → Follows (machine_run mem tape) (board_run c mem tape)
  pub soon : (mem tape : List ℕ) → IsMemory mem → IsTape tape → (t : ℕ) →
      Prefix (machine_run mem tape t).shown (board_run c mem tape (allowed (begin mem tape) t)).shown
  pub halts_soon : (mem tape : List ℕ) → IsMemory mem → IsTape tape → (t : ℕ) → 0 < (steps t (begin mem tape)).halted →
      HaltedAlike (steps t (begin mem tape)) (ticks (allowed (begin mem tape) t) c (power_on c mem tape))
