-- What 'run' promises: from a text and a tape to the lamps, in one call.
use Rattle.std.specs.Prelude.{◌≡◌, ℕ, ◌+◌, ◌<◌, ◌≤◌, false, T, List, length, take, drop, Some, None, Option, Ok, Err, Result}
use Rattle.words.specs.Words.{memory_size}
use Rattle.words.specs.Runs.{Seen}
use Rattle.words.specs.Endings.{halt_code}
use Rattle.circuit.specs.Circuit.{input_signals}
use Rattle.language.specs.Language.{Program}
use Rattle.language.specs.Limits.{fits}
use Rattle.text.specs.Text.{Reads}
use Rattle.cpu.specs.Signals.{flop_count, gate_count}
use Rattle.cpu.specs.Promise.{sheet_room}
use Rattle.stack.specs.Lamps.{RightLamps}
use Rattle.stack.specs.declared.Lit.{Lit}
use Rattle.compiler.specs.declared.BuildError.{BuildError}
use Rattle.compiler.specs.declared.BuildError.TheVariants as B
use Rattle.stack.specs.declared.RunError.{RunError}
use Rattle.stack.specs.declared.RunError.TheVariants.{NoProgram, Limits, NoOut, BadRoom}

-- what is seen in the out words, the tape and the numbers that came back
abbrev pub seen_in : List ℕ → List ℕ → Lit → Seen
seen_in tape out l = record { shown = take l.sent out; tape_left = drop l.taken tape; ending = halt_code l.halted }

-- the words shown are the first of the out words, and the others stay
pub record Placed (tape out out' : List ℕ) (l : Lit) : Type 0 where
  pub sent_there : l.sent ≤ length out
  pub taken_there : l.taken ≤ length tape
  pub past_kept : drop l.sent out' ≡ drop l.sent out

-- what came of some cycles after which the board is seen like this: it stands in the out words, or they were too few
abbrev pub Lights : Seen → List ℕ → List ℕ → List ℕ → Option Lit → Type 0
Lights seen tape out out' (Some l) = (seen_in tape out' l ≡ seen) × Placed tape out out' l
Lights seen tape out out' None = length out < length seen.shown

-- what a call may write to: the image, the sheet, the flip-flops, the work bytes, the out words
pub record Lent : Type 0 where
  pub image : List ℕ
  pub sheet : List ℕ
  pub state : List ℕ
  pub work : List ℕ
  pub out : List ℕ

abbrev pub lent : List ℕ → List ℕ → List ℕ → List ℕ → List ℕ → Lent
lent image sheet state work out = record { image = image; sheet = sheet; state = state; work = work; out = out }

-- there is room for the image, the sheet, a byte for each flip-flop and one for each signal
pub record HasRoom (l : Lent) : Type 0 where
  pub image_room : length l.image ≡ memory_size
  pub sheet_long : sheet_room ≤ length l.sheet
  pub state_room : length l.state ≡ flop_count
  pub work_room : input_signals + (flop_count + gate_count) ≤ length l.work

-- The text reads a program within the limits, and what is seen on the lamps is right for it.
pub record Keeps (text tape : List ℕ) (cycles : ℕ) (before after : Lent) (l : Lit) : Type 0 where
  pub program : Program
  pub reads : Reads text program
  pub within : T (fits program)
  pub right : RightLamps program tape cycles (seen_in tape after.out l)
  pub placed : Placed tape before.out after.out l

-- Each answer under its condition; a refusal leaves everything lent as it was. Only after 'no out' may it hold anything.
abbrev pub RunPromise : List ℕ → List ℕ → ℕ → Lent → Lent → Result Lit RunError → Type 0
RunPromise text tape cycles before after (Ok l) = HasRoom before × Keeps text tape cycles before after l
RunPromise text tape cycles before after (Err NoProgram) = HasRoom before × ((g : Program) → Reads text g → ⊥) × (after ≡ before)
RunPromise text tape cycles before after (Err Limits) = HasRoom before × ((g : Program) × Reads text g × (fits g ≡ false)) × (after ≡ before)
-- what the lamps show after these cycles, and it is right for the program, is more than there is room for
RunPromise text tape cycles before after (Err NoOut) = HasRoom before
    × ((g : Program) × Reads text g × T (fits g) × ((seen : Seen) × RightLamps g tape cycles seen × (length before.out < length seen.shown)))
RunPromise text tape cycles before after (Err BadRoom) = (HasRoom before → ⊥) × (after ≡ before)

-- why nothing is shown, where no image was built
abbrev pub refused_as : BuildError → RunError
refused_as B.NoProgram = NoProgram
refused_as B.Limits = Limits
refused_as B.Short = BadRoom
