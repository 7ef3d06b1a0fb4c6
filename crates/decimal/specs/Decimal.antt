-- A number in decimal: digits, at least one, the highest first.
use Rattle.std.specs.Prelude.{◌≡◌, ℕ, ◌+◌, ◌-◌, ◌*◌, ◌<◌, Bool, true, ◌&&◌, T, List, [], ◌∷◌, length, nat_le}

-- the bytes 48 to 57
abbrev pub is_digit : ℕ → Bool
is_digit c = nat_le 48 c && nat_le c 57

abbrev pub all_digits : List ℕ → Bool
all_digits [] = true
all_digits (c ∷ cs) = is_digit c && all_digits cs

-- the number that digits stand for, behind digits that stand for n
abbrev pub from_digits : ℕ → List ℕ → ℕ
from_digits n [] = n
from_digits n (c ∷ cs) = from_digits (10 * n + (c - 48)) cs

-- the text is the number n in decimal
pub record Writes (text : List ℕ) (n : ℕ) : Type 0 where
  pub some : 0 < length text
  pub digits : T (all_digits text)
  pub value : from_digits 0 text ≡ n
