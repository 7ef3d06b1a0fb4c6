-- Numbers written onto a sheet.
use Rattle.std.specs.Prelude.{◌≡◌, ℕ, ◌+◌, ◌*◌, List, [], ◌∷◌, ◌++◌, length, take, drop, map}
use Rattle.std.specs.List.{range_with_len}
use Rattle.circuit.specs.Parts.{Gates}

-- gates as numbers, two for each
abbrev pub ink : Gates → List ℕ
ink [] = []
ink (g ∷ gs) = g.0 ∷ (g.1 ∷ ink gs)

-- xs were written at a place of the sheet, and nothing else changed
pub record Drew (before : List ℕ) (at : ℕ) (xs after : List ℕ) : Type 0 where
  pub put : take (at + length xs) after ≡ take at before ++ xs
  pub kept : drop (at + length xs) after ≡ drop (at + length xs) before

-- a word of sixteen signals, each so many after the one before
abbrev pub spaced : ℕ → ℕ → List ℕ
spaced n k = map (λ i. n + i * k) (range_with_len 0 16)
