-- What is said of a text: that it is a program within the limits, or why it is refused.
use Rattle.std.specs.Prelude.{◌≡◌, ℕ, false, T, List, Ok, Err, Result, codes}
use Rattle.language.specs.Language.{Program}
use Rattle.text.specs.Text.{Reads, fits}
use Rattle.text.specs.declared.judge.Refused.{Refused}
use Rattle.text.specs.declared.judge.Refused.TheVariants.{NoProgram, Limits}

abbrev pub Verdict : Type 0
Verdict = Result (Unit {0}) Refused

-- the text s is one within the limits, or no program, or a program outside the limits
abbrev pub Judged : List ℕ → Verdict → Type 0
Judged s (Ok u) = (g : Program) × Reads s g × T (fits g)
Judged s (Err NoProgram) = (g : Program) → Reads s g → ⊥
Judged s (Err Limits) = (g : Program) × Reads s g × (fits g ≡ false)

-- the verdict r on the text s is right, and no other is
pub record VerdictIs (s : List ℕ) (r : Verdict) : Type 0 where
  pub right : Judged s r
  pub only : (v : Verdict) → Judged s v → v ≡ r

-- how a refusal is printed
abbrev pub refusal : Refused → List ℕ
refusal NoProgram = codes "no program"
refusal Limits = codes "limits"
