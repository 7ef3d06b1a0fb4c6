-- Words of a memory: zeros, words past a list, a list that stands in a memory from a place on, and words set to 0.
use Rattle.std.proofs.Common.{◌≡◌, ℕ, zero, suc, ◌+◌, ◌<◌, ◌≤◌, List, [], ◌∷◌, ◌++◌, length, replicate, sym, refl, ap, ◌∙◌, subst, arith, lit<, length-set}
use native.Mathlib.Decide.{ℕ_discrete}
use Rattle.std.proofs.lemmas.List.{get_or-set_same, get_or-set_other}
use Rattle.words.specs.Words.{word, put, IsTape}

pub word_of_zeros : (k i : ℕ) → word (replicate k 0) i ≡ 0
word_of_zeros zero i = refl
word_of_zeros (suc k) zero = refl
word_of_zeros (suc k) (suc i) = word_of_zeros k i

pub zeros_below : (k : ℕ) → IsTape (replicate k 0)
zeros_below zero = tt
zeros_below (suc k) = (lit< tt, zeros_below k)

pub word_behind : (ws : List ℕ) (k i : ℕ) → length ws ≤ i → word (ws ++ replicate k 0) i ≡ 0
word_behind [] k i h = word_of_zeros k i
word_behind (x ∷ ws) k zero h = absurd (omega arith)
word_behind (x ∷ ws) k (suc i) h = word_behind ws k i (omega arith)

-- a list stands in a memory from the place b on; a word of it is set there and in the list
pub put_both : (ws mem : List ℕ) (b i j v : ℕ) → i < length ws → b + i < length mem → word mem (b + j) ≡ word ws j → word (put mem (b + i) v) (b + j) ≡ word (put ws i v) j
put_both ws mem b i j v short long same = elim (ℕ_discrete i j) [
  | yes e ↦ subst (λ (k : ℕ). word (put mem (b + i) v) (b + k) ≡ word (put ws i v) k) e (get_or-set_same mem (b + i) v 0 long ∙ sym (get_or-set_same ws i v 0 short))
  | no ne ↦ get_or-set_other mem (b + i) (b + j) v 0 (λ e. ne (omega arith)) ∙ same ∙ sym (get_or-set_other ws i j v 0 (λ e. ne (sym e)))
]

-- n words from the place b on are set to 0
pub cleared : List ℕ → ℕ → ℕ → List ℕ
cleared mem b zero = mem
cleared mem b (suc n) = cleared (put mem b 0) (suc b) n

pub cleared_none : (mem : List ℕ) (b : ℕ) → cleared mem b 0 ≡ mem
unfolding cleared
cleared_none mem b = refl

pub cleared_more : (mem : List ℕ) (b n : ℕ) → cleared mem b (suc n) ≡ cleared (put mem b 0) (suc b) n
unfolding cleared
cleared_more mem b n = refl

pub length_cleared : (mem : List ℕ) (b n : ℕ) → length (cleared mem b n) ≡ length mem
unfolding cleared
length_cleared mem b zero = refl
length_cleared mem b (suc n) = length_cleared (put mem b 0) (suc b) n ∙ length-set mem b 0

pub cleared_below : (mem : List ℕ) (b n j : ℕ) → j < b → word (cleared mem b n) j ≡ word mem j
unfolding cleared
cleared_below mem b zero j h = refl
cleared_below mem b (suc n) j h = cleared_below (put mem b 0) (suc b) n j (omega arith) ∙ get_or-set_other mem b j 0 0 (omega arith)

pub cleared_above : (mem : List ℕ) (b n j : ℕ) → b + n ≤ j → word (cleared mem b n) j ≡ word mem j
unfolding cleared
cleared_above mem b zero j h = refl
cleared_above mem b (suc n) j h = cleared_above (put mem b 0) (suc b) n j (omega arith) ∙ get_or-set_other mem b j 0 0 (omega arith)

pub cleared_is : (mem : List ℕ) (b n i : ℕ) → i < n → b + n ≤ length mem → word (cleared mem b n) (b + i) ≡ 0
unfolding cleared
cleared_is mem b zero i h fits = absurd (omega arith)
cleared_is mem b (suc n) zero h fits =
    let e : b + 0 ≡ b = omega arith in
    ap (word (cleared (put mem b 0) (suc b) n)) e ∙ cleared_below (put mem b 0) (suc b) n b (omega arith) ∙ get_or-set_same mem b 0 0 (omega arith)
cleared_is mem b (suc n) (suc i) h fits =
    let e : b + suc i ≡ suc b + i = omega arith in
    ap (word (cleared (put mem b 0) (suc b) n)) e ∙ cleared_is (put mem b 0) (suc b) n i (omega arith) (omega (arith, length-set mem b 0))
