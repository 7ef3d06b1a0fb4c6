-- That a fact on signals has one proof at most, which a struct's ghost field asks for.
use Rattle.std.proofs.Common.{ℕ, suc, List, [], ◌∷◌}
use Rattle.std.proofs.Props.{props}
use mathlib.Core.HLevel.{Unit-prop}
use Rattle.circuit.specs.Circuit.{SoundGates, AllBelow}

pub gates_prop : (gs : List (ℕ × ℕ)) (n : ℕ) → IsProp (SoundGates gs n)
gates_prop [] n = Unit-prop
gates_prop (g ∷ gs) n = hlevel (props, gates_prop gs (suc n))

pub below_prop : (xs : List ℕ) (n : ℕ) → IsProp (AllBelow xs n)
below_prop [] n = Unit-prop
below_prop (x ∷ xs) n = hlevel (props, below_prop xs n)
