-- What the comparisons of words say, as agreement says it.
use Rattle.std.proofs.Common.{◌≡◌, ℕ, Bool, true, List, length, take, drop, inl, inr, nat_eq, sym, subst}
use Rattle.std.specs.Cmp.Lexicographic.{pointwise}
use Rattle.std.proofs.lemmas.Slice.Eq.{starts_is}
use Rattle.std.proofs.lemmas.Bool.Decides.{Decides-eqb}
use Rattle.three_machines.specs.Agreement.{Begins, SameWords}

-- s starts with p
pub starts_begins : (s p : List ℕ) (r : Bool) → r ≡ pointwise nat_eq p (take (length p) s) → r ≡ true → Begins p s
starts_begins s p r m t = (drop (length p) s, (starts_is Decides-eqb s p r m).0 t)

pub first_starts : (more : Bool) (a b : List ℕ) (r : Bool) → more ≡ true → r ≡ pointwise nat_eq b (take (length b) a) → r ≡ true → SameWords more a b
first_starts more a b r e m t = subst (λ (x : Bool). SameWords x a b) (sym e) (inr (starts_begins a b r m t))

pub second_starts : (more : Bool) (a b : List ℕ) (r : Bool) → more ≡ true → r ≡ pointwise nat_eq a (take (length a) b) → r ≡ true → SameWords more a b
second_starts more a b r e m t = subst (λ (x : Bool). SameWords x a b) (sym e) (inl (starts_begins b a r m t))
