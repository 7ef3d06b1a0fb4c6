-- What can be seen of a run from outside, and when two runs do the same. All layers are compared in these words.
use Rattle.std.specs.Prelude.{◌≡◌, ℕ, ◌<◌, List, ◌++◌}

-- How a run ended, as a number: it has not, or it came to its end, or a place was past the cells, or there was no room for a frame.
abbrev pub running : ℕ
running = 0

abbrev pub ended_done : ℕ
ended_done = 1

abbrev pub ended_index : ℕ
ended_index = 2

abbrev pub ended_full : ℕ
ended_full = 3

-- what is seen after so many steps: the words put out, the words still on the tape, how it ended
pub record Seen : Type 0 where
  pub shown : List ℕ
  pub tape_left : List ℕ
  pub ending : ℕ

-- xs is a beginning of ys
abbrev pub Prefix : List ℕ → List ℕ → Type 0
Prefix xs ys = (zs : List ℕ) × (xs ++ zs ≡ ys)

-- Two runs, each given by what is seen of it after n steps of its own, do the same:
-- every word that one shows the other shows too, in that order, and where one ends the other ends,
-- in the same way, after the same words, with the same words left on the tape.
pub record Follows (a b : ℕ → Seen) : Type 0 where
  pub reaches : (n : ℕ) → (k : ℕ) × Prefix (a n).shown (b k).shown
  pub finishes : (n : ℕ) → 0 < (a n).ending → (k : ℕ) × (b k ≡ a n)
  pub no_more : (k : ℕ) → (n : ℕ) × Prefix (b k).shown (a n).shown
  pub no_end : (k : ℕ) → 0 < (b k).ending → (n : ℕ) × (a n ≡ b k)
