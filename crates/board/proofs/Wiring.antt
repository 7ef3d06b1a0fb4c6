-- The signals that gates and pins name, as numbers in a list: two numbers taken off for a gate, the pairs that they are
-- read as, whether a gate names signals before it, whether each number of a list names a signal that is there.
use Rattle.std.proofs.Common.{◌≡◌, ℕ, zero, suc, ◌+◌, ◌*◌, ◌/◌, ◌<◌, ◌≤◌, Bool, true, false, ◌&&◌, ltb, List, [], ◌∷◌, length, get_or, take, drop, sym, refl, ap, ◌∙◌, subst, arith}
use Rattle.std.specs.List.{list_all}
use Rattle.std.specs.Simd.{first_chunks}
use Rattle.std.proofs.lemmas.List.{drop_more, length-drop}
use Rattle.std.proofs.lemmas.Bool.{false≢true}
use Rattle.std.proofs.lemmas.Bool.Decides.{Decides-ltb}
use Rattle.circuit.specs.Circuit.{SoundGates, AllBelow}
use Rattle.circuit.specs.Sheet.{pairs}
use Rattle.board.specs.Slices.{Tells}

-- a gate's two signals stand in front of the rest
pub two_off : (xs : List ℕ) (p : ℕ) → p + 1 < length xs → drop p xs ≡ get_or xs p 0 ∷ (get_or xs (p + 1) 0 ∷ drop (p + 2) xs)
two_off xs p h =
    let h0 : p < length xs = omega arith in
    let e : p + 1 + 1 ≡ p + 2 = omega arith in
    drop_more xs p 0 h0 ∙ ap (λ (t : List ℕ). get_or xs p 0 ∷ t) (drop_more xs (p + 1) 0 h ∙ ap (λ (q : ℕ). get_or xs (p + 1) 0 ∷ drop q xs) e)

-- the pairs that the numbers are read as
pair_in : (n : ℕ) (xs : List ℕ) (i : ℕ) → 2 * n ≤ length xs → i < n
    → (get_or (get_or (first_chunks 2 n xs) i []) 0 0 ≡ get_or xs (2 * i) 0) × (get_or (get_or (first_chunks 2 n xs) i []) 1 0 ≡ get_or xs (2 * i + 1) 0)
pair_in zero xs i h l = absurd (omega arith)
pair_in (suc n) [] i h l = absurd (omega arith)
pair_in (suc n) (a ∷ []) i h l = absurd (omega arith)
pair_in (suc n) (a ∷ (b ∷ xs)) zero h l = (refl, refl)
pair_in (suc n) (a ∷ (b ∷ xs)) (suc i) h l =
    let ih = pair_in n xs i (omega arith) (omega arith) in
    let e : suc (suc (2 * i)) ≡ 2 * suc i = omega arith in
    let d : suc (suc (2 * i + 1)) ≡ 2 * suc i + 1 = omega arith in
    (ih.0 ∙ ap (λ (q : ℕ). get_or (a ∷ (b ∷ xs)) q 0) e, ih.1 ∙ ap (λ (q : ℕ). get_or (a ∷ (b ∷ xs)) q 0) d)

-- gate i stands in two numbers, and pair i has them
pub record Gate (xs : List ℕ) (gates : List (List ℕ)) (i : ℕ) : Type 0 where
  pub there : 2 * i + 1 < length xs
  pub one : get_or (get_or gates i []) 0 0 ≡ get_or xs (2 * i) 0
  pub other : get_or (get_or gates i []) 1 0 ≡ get_or xs (2 * i + 1) 0

pub gate_in : (xs : List ℕ) (gates : List (List ℕ)) (i : ℕ) → gates ≡ first_chunks 2 (length xs / 2) xs → i < length xs / 2 → Gate xs gates i
gate_in xs gates i e l =
    let p = pair_in (length xs / 2) xs i (omega arith) l in
    rw e (record { there = omega arith; one = p.0; other = p.1 })

-- behind all pairs there is no gate
pub pairs_none : (xs : List ℕ) (p : ℕ) → length xs ≤ p + 1 → pairs (drop p xs) ≡ []
pairs_none xs p l = few (drop p xs) (omega (arith, length-drop p xs))
  where
    few : (ys : List ℕ) → length ys ≤ 1 → pairs ys ≡ []
    few [] h = refl
    few (y ∷ []) h = refl
    few (y ∷ (z ∷ ys)) h = absurd (omega arith)

-- the gates from a place on are sound if the first is and those behind it are
pub sound_more : (xs : List ℕ) (p n : ℕ) → p + 1 < length xs → SoundGates (pairs (drop p xs)) n → (get_or xs p 0 < n) × (get_or xs (p + 1) 0 < n) × SoundGates (pairs (drop (p + 2) xs)) (suc n)
sound_more xs p n h s = subst (λ (r : List ℕ). SoundGates (pairs r) n) (two_off xs p h) s

pub sound_back : (xs : List ℕ) (p n : ℕ) → p + 1 < length xs → get_or xs p 0 < n → get_or xs (p + 1) 0 < n → SoundGates (pairs (drop (p + 2) xs)) (suc n) → SoundGates (pairs (drop p xs)) n
sound_back xs p n h a b s = subst (λ (r : List ℕ). SoundGates (pairs r) n) (sym (two_off xs p h)) (a, b, s)

-- gate i of sound gates is fed by signals before it
pub sound_at : (xs : List ℕ) (n i : ℕ) → SoundGates (pairs xs) n → 2 * i + 1 < length xs → (get_or xs (2 * i) 0 < n + i) × (get_or xs (2 * i + 1) 0 < n + i)
sound_at [] n i s h = absurd (omega arith)
sound_at (a ∷ []) n i s h = absurd (omega arith)
sound_at (a ∷ (b ∷ xs)) n zero s h = (omega (arith, s.0), omega (arith, s.1))
sound_at (a ∷ (b ∷ xs)) n (suc i) s h =
    let l : 2 * i + 1 < length xs = omega arith in
    let ih = sound_at xs (suc n) i s.2 l in
    let e : suc (suc (2 * i)) ≡ 2 * suc i = omega arith in
    let d : suc (suc (2 * i + 1)) ≡ 2 * suc i + 1 = omega arith in (
      subst (λ (q : ℕ). get_or (a ∷ (b ∷ xs)) q 0 < n + suc i) e (omega (arith, ih.0)),
      subst (λ (q : ℕ). get_or (a ∷ (b ∷ xs)) q 0 < n + suc i) d (omega (arith, ih.1)),
    )

pub gate_below : (xs : List ℕ) (gates : List (List ℕ)) (n i : ℕ) → SoundGates (pairs xs) n → Gate xs gates i
    → (get_or (get_or gates i []) 0 0 < n + i) × (get_or (get_or gates i []) 1 0 < n + i)
gate_below xs gates n i s gate = let g = sound_at xs n i s gate.there in (omega (arith, gate.one, g.0), omega (arith, gate.other, g.1))

-- numbers that are all below n: one of them, the first of them, those behind
pub below_at : (xs : List ℕ) (n i : ℕ) → AllBelow xs n → i < length xs → get_or xs i 0 < n
below_at [] n i h l = absurd (omega arith)
below_at (x ∷ xs) n zero h l = h.0
below_at (x ∷ xs) n (suc i) h l = below_at xs n i h.1 (omega arith)

pub below_take : (xs : List ℕ) (n m : ℕ) → AllBelow xs n → AllBelow (take m xs) n
below_take xs n zero h = tt
below_take [] n (suc m) h = tt
below_take (x ∷ xs) n (suc m) h = (h.0, below_take xs n m h.1)

pub below_drop : (xs : List ℕ) (n m : ℕ) → AllBelow xs n → AllBelow (drop m xs) n
below_drop xs n zero h = h
below_drop [] n (suc m) h = tt
below_drop (x ∷ xs) n (suc m) h = below_drop xs n m h.1

-- a test of all of them
pub below_tested : (xs : List ℕ) (n : ℕ) → Tells (AllBelow xs n) (list_all (λ x. ltb x n) xs)
below_tested [] n = tt
below_tested (x ∷ xs) n = both (ltb x n) refl (list_all (λ y. ltb y n) xs) (below_tested xs n)
  where
    both : (b : Bool) → ltb x n ≡ b → (r : Bool) → Tells (AllBelow xs n) r → Tells ((x < n) × AllBelow xs n) (b && r)
    both true e true h = ((Decides-ltb x n).0 e, h)
    both true e false h = λ p. h p.1
    both false e r h = λ p. false≢true (sym e ∙ (Decides-ltb x n).1 p.0)
