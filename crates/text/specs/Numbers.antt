-- The number that a word writes.
use Rattle.std.specs.Prelude.{ℕ, ◌+◌, ◌-◌, ◌*◌, cond, ◌&&◌, List, [], ◌∷◌, Some, None, Option}
use Rattle.std.specs.Str.{bytes_eq}
use Rattle.text.specs.Text.{decimal, writable}

-- the value of digits that go on after the number n
abbrev pub digits_value : ℕ → List ℕ → ℕ
digits_value n [] = n
digits_value n (c ∷ cs) = digits_value (10 * n + (c - 48)) cs

-- the number that a word is the writing of: the word has to be that number in decimal, of at most five digits
unfoldable pub number_of : List ℕ → Option ℕ
number_of w = cond (bytes_eq w (decimal (digits_value 0 w)) && writable (digits_value 0 w)) (Some (digits_value 0 w)) None
