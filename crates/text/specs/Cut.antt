-- A text's first word, and what stands after it.
use Rattle.std.specs.Prelude.{◌≡◌, ℕ, ◌<◌, Bool, not, List, ◌∷◌, length}
use Rattle.text.specs.Text.{words, blank}

-- a byte of a word: any that is no blank
abbrev pub letter : ℕ → Bool
letter c = not (blank c)

-- the text s begins with the word w, and its other words are those of rest
pub record Cut (s w rest : List ℕ) : Type 0 where
  pub text : words s ≡ w ∷ words rest
  pub less : length rest < length s
