-- What the lamps show after so many cycles, in terms of the program.
use Rattle.std.specs.Prelude.{◌≡◌, ℕ, ◌<◌, ◌≤◌, T, List}
use Rattle.words.specs.Words.{IsTape}
use Rattle.words.specs.Runs.{Seen, Prefix}
use Rattle.circuit.specs.Circuit.{Circuit, board_run}
use Rattle.machine.specs.Machine.{begin, machine_run}
use Rattle.language.specs.Language.{Program, program_run}
use Rattle.language.specs.Limits.{fits}
use Rattle.drawing.specs.Drawing.{IsMachine, course_cycles}
use Rattle.codegen.specs.Codegen.{image}

-- What is seen of the board after so many cycles is right for the program g on a tape.
pub record RightLamps (g : Program) (tape : List ℕ) (cycles : ℕ) (seen : Seen) : Type 0 where
  -- nothing else: the words shown are a beginning of what the program puts out
  pub nothing_else : (n : ℕ) × Prefix seen.shown (program_run g tape n).shown
  -- a board that has halted has shown the program's words, all of them, and halted as the program ends
  pub ends_right : 0 < seen.ending → (n : ℕ) × (program_run g tape n ≡ seen)
  -- every word that the program puts out, its image puts out in so many instructions
  pub image_keeps_up : (n : ℕ) → (t : ℕ) × Prefix (program_run g tape n).shown (machine_run (image g) tape t).shown
  -- and if the program ends, its image halts in the same way
  pub image_ends : (n : ℕ) → 0 < (program_run g tape n).ending → (t : ℕ) × (machine_run (image g) tape t ≡ program_run g tape n)
  -- nothing missing: what the image puts out in as many instructions as the cycles allow has been shown
  pub nothing_missing : (t : ℕ) → course_cycles (begin (image g) tape) t ≤ cycles → Prefix (machine_run (image g) tape t).shown seen.shown
  -- and if it halts within them, so has the board, in the same way
  pub halts_in_time : (t : ℕ) → course_cycles (begin (image g) tape) t ≤ cycles → 0 < (machine_run (image g) tape t).ending → seen ≡ machine_run (image g) tape t

-- With every drawing that is the machine, the lamps are right for every program within the limits, on every tape, after
-- any number of cycles.
abbrev pub LampsRight : Type 0
LampsRight = (g : Program) → T (fits g) → (c : Circuit) → IsMachine course_cycles c → (tape : List ℕ) → IsTape tape → (cycles : ℕ) →
    RightLamps g tape cycles (board_run c (image g) tape cycles)
