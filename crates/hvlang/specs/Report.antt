-- What is reported of a text: the run of the program that it writes, or why there is none; and what is printed of how a run
-- ended.
use Rattle.std.specs.Prelude.{ℕ, ◌<◌, T, List, length, codes, Some, None, Option, Ok, Err, Result}
use Rattle.words.specs.Endings.{ending_name}
use Rattle.words.specs.declared.ending.Ending.{Ending}
use Rattle.language.specs.Language.{Program, program_run}
use Rattle.language.specs.Limits.{fits}
use Rattle.text.specs.Text.{Reads}
use Rattle.text.specs.Verdicts.{Judged}
use Rattle.text.specs.declared.judge.Refused.{Refused}
use Rattle.text.specs.declared.judge.Refused.TheVariants as R
use Rattle.interpreter.specs.declared.Run.{Run}
use Rattle.interpreter.specs.Interpreter.{Shows}
use Rattle.hvlang.specs.declared.run.RunError.{RunError}
use Rattle.hvlang.specs.declared.run.RunError.TheVariants.{NoOut, NoProgram, Limits}

-- what is printed of how a run ended
abbrev pub printed_ending : Option Ending → List ℕ
printed_ending (Some e) = ending_name e
printed_ending None = codes "still running"

-- The text writes the program g, within the limits.
pub record Written (text : List ℕ) (g : Program) : Type 0 where
  pub reads : Reads text g
  pub within : T (fits g)

-- a refusal of the text as it is reported
abbrev pub refused_as : Refused → RunError
refused_as R.NoProgram = NoProgram
refused_as R.Limits = Limits

-- The run with so much fuel, out words before and after; or more words are put out than there are out words; or the text
-- is judged no program, or outside the limits.
abbrev pub Reports : List ℕ → List ℕ → ℕ → List ℕ → List ℕ → Result Run RunError → Type 0
Reports text tape fuel out out' (Ok run) = (g : Program) × Written text g × Shows (program_run g tape fuel) run tape out out'
Reports text tape fuel out out' (Err NoOut) = (g : Program) × Written text g × (length out < length (program_run g tape fuel).shown)
Reports text tape fuel out out' (Err NoProgram) = Judged text (Err R.NoProgram)
Reports text tape fuel out out' (Err Limits) = Judged text (Err R.Limits)
