-- An array made by a closure that gives the same function of the index at each call.
use Rattle.std.proofs.Common.{◌≡◌, ℕ, zero, suc, ◌+◌, ◌<◌, ◌≤◌, List, get_or, map, inl, inr, ◌∙◌, subst, arith}
use Rattle.std.proofs.Math.Nat.{eq-or-lt_of_le}
use Rattle.std.proofs.lemmas.List.FromFn.{fill_by_all}
use Rattle.std.specs.Array.{IsFromFnResultFrom, IsFromFnResult}
use Rattle.std.specs.Fn.{Called}
use Rattle.std.specs.List.{range_with_len}
use denote.Param.Members.{Mut}

module _ {F B : Type 0} (g : Mut F (ℕ × Unit {0}) B) (f : F) (h : ℕ → B) (same : (i : ℕ) (y : B) (q : F) → Called g f (i, tt) y q → (q ≡ f) × (y ≡ h i)) (ys : List B) where
  made_at : (n i k : ℕ) (d : B) → IsFromFnResultFrom g f ys i n → i ≤ k → k < i + n → get_or ys k d ≡ h k
  made_at zero i k d e l u = absurd (omega arith)
  made_at (suc n) i k d e l u =
      let now = same i e.1 e.0 e.3 in
      elim (eq-or-lt_of_le l) [
        | inl p ↦ subst (λ j. get_or ys j d ≡ h j) p (e.2.1 d ∙ now.1)
        | inr p ↦ made_at n (i + 1) k d (subst (λ q. IsFromFnResultFrom g q ys (i + 1) n) now.0 e.4) (omega arith) (omega arith)
      ]

  pub items_from_fn : (n : ℕ) (d : B) → IsFromFnResult g f ys n → ys ≡ map h (range_with_len 0 n)
  items_from_fn n d r = fill_by_all h ys n d r.long (λ k l. made_at n 0 k d r.each (omega arith) (omega arith))
