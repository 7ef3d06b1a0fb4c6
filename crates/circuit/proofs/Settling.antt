-- Settled levels as one function from signal to level, of which every gate is an equation; then no fact is ever lost
-- when later gates are added. In order: gates as equations, settled levels obey them, what stands stays, drawings in
-- stages, and tests that show soundness by computing.
use Rattle.std.proofs.Common.{◌≡◌, ℕ, zero, suc, ◌+◌, ◌<◌, Bool, true, ◌&&◌, ltb, List, [], ◌∷◌, ◌++◌, map, length, sym, refl, ap, ◌∙◌, ap₂, append_assoc, append-nil, arith, length-append}
use Rattle.std.proofs.lemmas.Bool.{and_parts, ltb-true, lt-ltb}
use Rattle.words.specs.Words.{nand, bit_at}
use Rattle.circuit.specs.Circuit.{settle, SoundGates, AllBelow}
use Rattle.circuit.specs.Parts.{Gates, after, join}

-- the levels f obey the gates, of which the first is signal n
abbrev pub Obeys : (ℕ → Bool) → ℕ → Gates → Type 0
Obeys f n [] = Unit {0}
Obeys f n (g ∷ gs) = (f n ≡ nand (f g.0) (f g.1)) × Obeys f (suc n) gs

pub after_length : (n : ℕ) (gs : Gates) → after n gs ≡ n + length gs
after_length n [] = omega arith
after_length n (g ∷ gs) = after_length (suc n) gs ∙ omega arith

pub after_both : (n : ℕ) (gs hs : Gates) → after n (gs ++ hs) ≡ after (after n gs) hs
after_both n [] hs = refl
after_both n (g ∷ gs) hs = after_both (suc n) gs hs

pub obeys_both : (f : ℕ → Bool) (n : ℕ) (gs hs : Gates) → Obeys f n (gs ++ hs) → Obeys f n gs × Obeys f (after n gs) hs
obeys_both f n [] hs s = (tt, s)
obeys_both f n (g ∷ gs) hs s = let r = obeys_both f (suc n) gs hs s.1 in ((s.0, r.0), r.1)

-- what stands before a gate
at_append : (v w : List Bool) (i : ℕ) → i < length v → bit_at (v ++ w) i ≡ bit_at v i
at_append [] w i h = absurd (omega arith)
at_append (x ∷ v) w zero h = refl
at_append (x ∷ v) w (suc i) h = at_append v w i (omega arith)

at_end : (v w : List Bool) (b : Bool) → bit_at (v ++ (b ∷ w)) (length v) ≡ b
at_end [] w b = refl
at_end (x ∷ v) w b = at_end v w b

-- settling only puts levels behind
settled : (gs : Gates) (v : List Bool) → (w : List Bool) × (settle gs v ≡ v ++ w)
settled [] v = ([], sym (append-nil v))
settled (g ∷ gs) v =
    let b = nand (bit_at v g.0) (bit_at v g.1) in
    let r = settled gs (v ++ (b ∷ [])) in
    (b ∷ r.0, r.1 ∙ append_assoc v (b ∷ []) r.0)

pub kept : (gs : Gates) (v : List Bool) (i : ℕ) → i < length v → bit_at (settle gs v) i ≡ bit_at v i
kept gs v i h = let r = settled gs v in ap (λ u. bit_at u i) r.1 ∙ at_append v r.0 i h

pub kept_word : (gs : Gates) (v : List Bool) (xs : List ℕ) → AllBelow xs (length v) → map (bit_at (settle gs v)) xs ≡ map (bit_at v) xs
kept_word gs v [] h = refl
kept_word gs v (x ∷ xs) h = ap₂ {C = List Bool} (λ a b. a ∷ b) (kept gs v x h.0) (kept_word gs v xs h.1)

pub settle_obeys : (gs : Gates) (v : List Bool) → SoundGates gs (length v) → Obeys (bit_at (settle gs v)) (length v) gs
settle_obeys [] v s = tt
settle_obeys (g ∷ gs) v s =
    let b = nand (bit_at v g.0) (bit_at v g.1) in
    let u = v ++ (b ∷ []) in
    let e : length u ≡ suc (length v) = length-append v (b ∷ []) ∙ omega arith in
    let k : (i : ℕ) → i < length v → bit_at (settle gs u) i ≡ bit_at v i = λ i h. kept gs u i (omega arith) ∙ at_append v (b ∷ []) i h in
    let here : bit_at (settle gs u) (length v) ≡ b = kept gs u (length v) (omega arith) ∙ at_end v [] b in
    let ih : Obeys (bit_at (settle gs u)) (length u) gs = settle_obeys gs u (rw e s.2) in
    (rw (k g.0 s.0, k g.1 s.1) here, rw e at ih)

-- a drawing in stages
abbrev pub ObeysEach : (ℕ → Bool) → ℕ → List Gates → Type 0
ObeysEach f n [] = Unit {0}
ObeysEach f n (g ∷ gs) = Obeys f n g × ObeysEach f (after n g) gs

pub obeys_each : (f : ℕ → Bool) (n : ℕ) (gs : List Gates) → Obeys f n (join gs) → ObeysEach f n gs
obeys_each f n [] q = tt
obeys_each f n (g ∷ gs) q = let r = obeys_both f n g (join gs) q in (r.0, obeys_each f (after n g) gs r.1)

-- one gate of many, by its place
abbrev pub gate_at : Gates → ℕ → ℕ × ℕ
gate_at [] k = (0, 0)
gate_at (g ∷ gs) zero = g
gate_at (g ∷ gs) (suc k) = gate_at gs k

pub obeys_at : (f : ℕ → Bool) (n : ℕ) (gs : Gates) (k : ℕ) → Obeys f n gs → ltb k (length gs) ≡ true → f (n + k) ≡ nand (f (gate_at gs k).0) (f (gate_at gs k).1)
obeys_at f n [] k q e = let h = ltb-true k 0 e in absurd (omega arith)
obeys_at f n (g ∷ gs) zero q e = let z : n + 0 ≡ n = omega arith in rw z q.0
obeys_at f n (g ∷ gs) (suc k) q e =
    let z : n + suc k ≡ suc n + k = omega arith in
    let h = ltb-true (suc k) (suc (length gs)) e in
    rw z (obeys_at f (suc n) gs k q.1 (lt-ltb k (length gs) (omega arith)))

-- soundness by a test that computes
abbrev pub sound_test : Gates → ℕ → Bool
sound_test [] n = true
sound_test (g ∷ gs) n = ltb g.0 n && (ltb g.1 n && sound_test gs (suc n))

pub sound_by_test : (gs : Gates) (n : ℕ) → sound_test gs n ≡ true → SoundGates gs n
sound_by_test [] n e = tt
sound_by_test (g ∷ gs) n e =
    let a = and_parts (ltb g.0 n) (ltb g.1 n && sound_test gs (suc n)) e in
    let b = and_parts (ltb g.1 n) (sound_test gs (suc n)) a.1 in
    (ltb-true g.0 n a.0, ltb-true g.1 n b.0, sound_by_test gs (suc n) b.1)

abbrev pub below_test : List ℕ → ℕ → Bool
below_test [] n = true
below_test (x ∷ xs) n = ltb x n && below_test xs n

pub below_by_test : (xs : List ℕ) (n : ℕ) → below_test xs n ≡ true → AllBelow xs n
below_by_test [] n e = tt
below_by_test (x ∷ xs) n e = let a = and_parts (ltb x n) (below_test xs n) e in (ltb-true x n a.0, below_by_test xs n a.1)
