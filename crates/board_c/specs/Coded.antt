-- The answers of `spin` as a number, and the port that goes with *ran*.
use Rattle.std.specs.Prelude.{◌≡◌, List, [], ◌∷◌, ℕ, Ok, Err, Result}
use Rattle.words.specs.Endings.{halt_code}
use Rattle.board.specs.declared.cycle.Port.{Port}
use Rattle.board.specs.declared.SpinError.{SpinError}
use Rattle.board.specs.declared.SpinError.TheVariants.{BadSheet, NoOut, FewWork}

abbrev pub Coded : Result Port SpinError → ℕ → List ℕ → List ℕ → Type 0
Coded (Ok p) code before after = (code ≡ 0) × (after ≡ p.read ∷ (p.taken ∷ (p.sent ∷ (halt_code p.halted ∷ []))))
Coded (Err BadSheet) code before after = (code ≡ 1) × (after ≡ before)
Coded (Err NoOut) code before after = (code ≡ 2) × (after ≡ before)
Coded (Err FewWork) code before after = (code ≡ 3) × (after ≡ before)
