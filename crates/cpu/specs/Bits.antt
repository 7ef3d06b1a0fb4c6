-- A part drawn bit by bit.
use Rattle.std.specs.Prelude.{◌≡◌, ℕ, ◌+◌, ◌-◌, ◌*◌, ◌^◌, ◌<◌, ◌≤◌, List, [], ◌∷◌, ◌++◌, length}
use Rattle.std.specs.Borrow.{MutBor}
use Rattle.circuit.specs.Parts.{Gates}
use Rattle.cpu.specs.Ink.{ink, Drew}

-- The gates of a part over two words: `part` gives the k gates of a bit, from the signal at which they begin, the last gate
-- of the bit before, and the bit of either word. `before` stands for the last gate at the first bit.
abbrev pub bits : {X : Type 0} → (ℕ → ℕ → X → X → Gates) → ℕ → ℕ → ℕ → List X → List X → Gates
bits part k n before [] ys = []
bits part k n before (x ∷ xs) [] = []
bits part k n before (x ∷ xs) (y ∷ ys) = part n before x y ++ bits part k (n + k) (n + k - 1) xs ys

-- What a closure does that draws one bit of a part of k gates a bit: where there is room for them, and their signals are
-- numbers of 32 bits, it may be called (`pre`), and has then drawn them (`post`).
pub record DrawsBit {X : Type 0} (part : ℕ → ℕ → X → X → Gates) (k : ℕ) (pre : MutBor (List ℕ) → ℕ → ℕ → X → X → Type 0) (post : MutBor (List ℕ) → ℕ → ℕ → X → X → Unit {0} → MutBor (List ℕ) → Type 0) : Type 0 where
  pub some : 0 < k
  pub size : (n b : ℕ) (x y : X) → length (part n b x y) ≡ k
  pub callable : (place : MutBor (List ℕ)) (n b : ℕ) (x y : X) → 2 * k ≤ length place.now → n + k < 2 ^ 32 → pre place n b x y
  pub draws : (place left : MutBor (List ℕ)) (n b : ℕ) (x y : X) → post place n b x y tt left → Drew place.now 0 (ink (part n b x y)) left.now
