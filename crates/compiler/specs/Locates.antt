-- What is promised of the list of a text's signs.
use Rattle.std.specs.Prelude.{◌≡◌, ℕ, T, List, map, Ok, Err, Result}
use Rattle.arrayvec.specs.ArrayVec.{ArrayVec}
use Rattle.language.specs.Language.{Program}
use Rattle.language.specs.Limits.{fits}
use Rattle.text.specs.Text.{Reads}
use Rattle.text.specs.Verdicts.{Judged}
use Rattle.text.specs.declared.judge.Refused.{Refused}
use Rattle.signs.specs.Signs.{Located as Sign, locate_signs, RightSigns}
use Rattle.compiler.specs.declared.located.SignPlace.{SignPlace}

-- the word and the place of a sign
abbrev pub spot : Sign → SignPlace
spot x = record { word = x.word; place = x.place }

-- The text reads a program within the limits; the list has the words and the places of its signs, and they are right.
pub record SignsLocated (s : List ℕ) (l : ArrayVec SignPlace) : Type 0 where
  pub program : Program
  pub reads : Reads s program
  pub within : T (fits program)
  pub signs_are : l.items ≡ map spot (locate_signs program)
  pub right : RightSigns s program (locate_signs program)

-- or the refusal is right
abbrev pub Locates : List ℕ → Result (ArrayVec SignPlace) Refused → Type 0
Locates s (Ok l) = SignsLocated s l
Locates s (Err r) = Judged s (Err r)
