-- From the program to the lamps, by the two statements that meet at the instruction machine and by nothing else.
use Rattle.std.specs.Prelude.{ℕ, List}
use Rattle.words.specs.Words.{IsMemory, IsTape}
use Rattle.words.specs.Runs.{Follows}
use Rattle.circuit.specs.Circuit.{Circuit, board_run}
use Rattle.machine.specs.Machine.{Machine}
use Rattle.language.specs.Language.{Program, program_run}
use Rattle.image.specs.Image.{ImageOf}
use Rattle.drawing.specs.Drawing.{IsMachine}

-- For every image that does on the instruction machine what the program does, and every drawing that does on the board
-- what the instruction machine does, in however many cycles: the board does what the program does.
abbrev pub LayersJoin : Type 0
LayersJoin = (g : Program) (mem : List ℕ) (allowed : Machine → ℕ → ℕ) (c : Circuit) →
    IsMemory mem → ImageOf g mem → IsMachine allowed c →
    (tape : List ℕ) → IsTape tape → Follows (program_run g tape) (board_run c mem tape)
