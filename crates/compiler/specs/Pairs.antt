-- Two rows of numbers as one row of signs.
use Rattle.std.specs.Prelude.{ℕ, List, [], ◌∷◌}
use Rattle.compiler.specs.declared.located.SignPlace.{SignPlace}

-- words and places, side by side
abbrev pub pairs : List ℕ → List ℕ → List SignPlace
pairs [] places = []
pairs (w ∷ words) [] = []
pairs (w ∷ words) (p ∷ places) = record { word = w; place = p } ∷ pairs words places
