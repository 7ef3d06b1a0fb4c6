-- The used length of an image: up to the last word that isn't 0.
use Rattle.std.specs.Prelude.{◌≡◌, ℕ, ◌+◌, ◌≤◌, List, length, ◌≢◌, slice_index}

pub record Used (image : List ℕ) (r : ℕ) : Type 0 where
  pub within : r ≤ length image
  -- every word from there on is 0
  pub blank : (k : ℕ) → r ≤ k → slice_index image k ≡ 0
  -- and the word before it isn't
  pub last : (k : ℕ) → k + 1 ≡ r → slice_index image k ≢ 0
