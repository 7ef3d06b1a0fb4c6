-- Runs that do the same: a beginning of a beginning, two runs one after the other, and how to show that a run does what
-- another does from one statement for each step of it.
use Rattle.std.proofs.Common.{◌≡◌, ℕ, zero, suc, ◌<◌, ◌≤◌, ◌⊎◌, List, [], ◌++◌, sym, refl, ap, ◌∙◌, subst, inl, inr, append_assoc, append-nil, arith}
use native.Mathlib.Decide.{dec_le}
use Rattle.words.specs.Runs.{Seen, Prefix, Follows}

pub prefix_refl : (xs : List ℕ) → Prefix xs xs
prefix_refl xs = ([], append-nil xs)

pub prefix_trans : (xs ys zs : List ℕ) → Prefix xs ys → Prefix ys zs → Prefix xs zs
prefix_trans xs ys zs p q = (p.0 ++ q.0, sym (append_assoc xs p.0 q.0) ∙ ap (λ (l : List ℕ). l ++ q.0) p.1 ∙ q.1)

pub prefix_is : (xs ys : List ℕ) → xs ≡ ys → Prefix xs ys
prefix_is xs ys e = subst (λ (zs : List ℕ). Prefix xs zs) e (prefix_refl xs)

pub either_way : (j k : ℕ) → (j ≤ k) ⊎ (k ≤ j)
either_way j k = elim (dec_le j k) [ yes h ↦ inl h | no h ↦ inr (omega arith) ]

-- two runs that do the same, one after the other
pub joined : (a b c : ℕ → Seen) → Follows a b → Follows b c → Follows a c
joined a b c f g = record {
  reaches = λ n. (let p = f.reaches n in let q = g.reaches p.0 in (q.0, prefix_trans (a n).shown (b p.0).shown (c q.0).shown p.1 q.1));
  finishes = λ n h. (let p = f.finishes n h in let q = g.finishes p.0 (subst (λ (s : Seen). 0 < s.ending) (sym p.1) h) in (q.0, q.1 ∙ p.1));
  no_more = λ k. (let q = g.no_more k in let p = f.no_more q.0 in (p.0, prefix_trans (c k).shown (b q.0).shown (a p.0).shown q.1 p.1));
  no_end = λ k h. (let q = g.no_end k h in let p = f.no_end q.0 (subst (λ (s : Seen). 0 < s.ending) (sym q.1) h) in (p.0, p.1 ∙ q.1));
}

-- A run only grows: what is shown stays, and once ended nothing changes.
pub record Grows (b : ℕ → Seen) : Type 0 where
  pub more : (j k : ℕ) → j ≤ k → Prefix (b j).shown (b k).shown
  pub stays : (j k : ℕ) → j ≤ k → 0 < (b j).ending → b k ≡ b j

-- For each step of the one run the other comes to the same, and where the one has not ended, by no fewer steps.
abbrev pub Tracks : (ℕ → Seen) → (ℕ → Seen) → Type 0
Tracks a b = (n : ℕ) → (k : ℕ) × (b k ≡ a n) × ((a n).ending ≡ 0 → n ≤ k)

module _ (a b : ℕ → Seen) (g : Grows b) (t : Tracks a b) where
  same_end : (k n : ℕ) → 0 < (b k).ending → 0 < (b (t n).0).ending → b (t n).0 ≡ b k
  same_end k n h e = elim (either_way k (t n).0) [ inl c ↦ g.stays k (t n).0 c h | inr c ↦ sym (g.stays (t n).0 k c e) ]

  -- by step k the first run has come as far as the second in k steps, or ended
  covers : (k : ℕ) → (v : ℕ) → (a k).ending ≡ v → Prefix (b k).shown (a k).shown
  covers k zero z = subst (λ (s : Seen). Prefix (b k).shown s.shown) (t k).1 (g.more k (t k).0 ((t k).2 z))
  covers k (suc v) z = elim (either_way k (t k).0) [
    | inl c ↦ subst (λ (s : Seen). Prefix (b k).shown s.shown) (t k).1 (g.more k (t k).0 c)
    | inr c ↦ (let h : 0 < (b (t k).0).ending = subst (λ (s : Seen). 0 < s.ending) (sym (t k).1) (omega arith) in
        prefix_is (b k).shown (a k).shown (ap (λ (s : Seen). s.shown) (g.stays (t k).0 k c h ∙ (t k).1)))
  ]

  ends_too : (k : ℕ) → 0 < (b k).ending → (v : ℕ) → (a k).ending ≡ v → 0 < (a k).ending
  ends_too k h zero z = let e = ap (λ (s : Seen). s.ending) (sym (t k).1 ∙ g.stays k (t k).0 ((t k).2 z) h) in absurd (omega arith)
  ends_too k h (suc v) z = omega arith

  pub tracks_follows : Follows a b
  tracks_follows = record {
    reaches = λ n. ((t n).0, prefix_is (a n).shown (b (t n).0).shown (ap (λ (s : Seen). s.shown) (sym (t n).1)));
    finishes = λ n h. ((t n).0, (t n).1);
    no_more = λ k. (k, covers k (a k).ending refl);
    no_end = λ k h. (let e : 0 < (a k).ending = ends_too k h (a k).ending refl in
        (k, sym (t k).1 ∙ same_end k k h (subst (λ (s : Seen). 0 < s.ending) (sym (t k).1) e)));
  }
