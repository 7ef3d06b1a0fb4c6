-- A sheet of numbers that holds a circuit with f flip-flops and k gates: f values at power on (0 low, any other high),
-- the two signals of each gate, f next signals, and the signals of the pins.
use Rattle.std.specs.Prelude.{ℕ, zero, suc, ◌+◌, ◌*◌, Bool, true, false, List, [], ◌∷◌, take, drop}
use Rattle.circuit.specs.Circuit.{Circuit, pin_count}

abbrev pub pairs : List ℕ → List (ℕ × ℕ)
pairs [] = []
pairs (a ∷ []) = []
pairs (a ∷ (b ∷ xs)) = (a, b) ∷ pairs xs

-- 0 is low, any other number high
abbrev pub level : ℕ → Bool
level zero = false
level (suc n) = true

abbrev pub levels : List ℕ → List Bool
levels [] = []
levels (x ∷ xs) = level x ∷ levels xs

abbrev pub sheet_size : ℕ → ℕ → ℕ
sheet_size f k = 2 * f + (2 * k + pin_count)

-- the circuit that a sheet holds
abbrev pub drawn : ℕ → ℕ → List ℕ → Circuit
drawn f k sheet = record {
  flops = levels (take f sheet);
  gates = pairs (take (2 * k) (drop f sheet));
  next = take f (drop (f + 2 * k) sheet);
  pins = take pin_count (drop (2 * f + 2 * k) sheet);
}
