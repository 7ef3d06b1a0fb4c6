-- What an image has to do on the instruction machine to be the image of a program.
use Rattle.std.specs.Prelude.{List, ℕ}
use Rattle.words.specs.Words.{IsTape}
use Rattle.words.specs.Runs.{Follows}
use Rattle.machine.specs.Machine.{machine_run}
use Rattle.language.specs.Language.{Program, program_run}

-- On every tape the machine does with the image what the program does: same words, same ending, same words taken from
-- the tape, and nothing else.
abbrev pub ImageOf : Program → List ℕ → Type 0
ImageOf g mem = (tape : List ℕ) → IsTape tape → Follows (program_run g tape) (machine_run mem tape)
