-- The words that an image is read from.
use Rattle.std.specs.Prelude.{◌≡◌, ℕ, ◌<◌, ◌≤◌, List, [], ◌∷◌, ◌++◌, length, Result, Ok, Err}
use Rattle.words.specs.Words.{memory_size}
use Rattle.decimal.specs.Decimal.{Writes}
use Rattle.hvmachine.specs.declared.image.ImageError.{ImageError}
use Rattle.hvmachine.specs.declared.image.ImageError.TheVariants.{NoWord, TooMany, NoMemory}

-- A word joins an image: the image has one word more, the one that the text writes; else it is as it was.
abbrev pub Adds : List ℕ → List ℕ → List ℕ → Result Unit ImageError → Type 0
Adds text image image' (Ok _) = (n : ℕ) × (n < 65536) × Writes text n × (image' ≡ image ++ (n ∷ []))
Adds text image image' (Err NoWord) = ((n : ℕ) → n < 65536 → Writes text n → ⊥) × (image' ≡ image)
Adds text image image' (Err TooMany) = (memory_size ≤ length image) × (image' ≡ image)
Adds text image image' (Err NoMemory) = image' ≡ image
