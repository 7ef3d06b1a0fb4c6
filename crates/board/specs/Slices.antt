-- What the functions below the calls say of the lent slices: signals as bytes, a circuit's parts as numbers, one cycle.
use Rattle.std.specs.Prelude.{◌≡◌, ℕ, ◌+◌, ◌-◌, ◌*◌, ◌^◌, ◌<◌, ◌≤◌, Bool, true, false, cond, List, [], ◌∷◌, ◌++◌, map, length, take, drop, Some, None, Option}
use Rattle.words.specs.Words.{bit, value, bit_at}
use Rattle.words.specs.Endings.{halt_code}
use Rattle.circuit.specs.Circuit.{Circuit, Board, inputs, settle, SoundGates, AllBelow, address, datum, input_signals, pin_count, store_pin, emit_pin, take_pin, halt_pins}
use Rattle.circuit.specs.Sheet.{pairs, levels, sheet_size}
use Rattle.board.specs.declared.pins.Pins.{Pins}
use Rattle.board.specs.declared.cycle.Port.{Port}

-- levels as bytes: 0 low, 1 high
abbrev pub bytes : List Bool → List ℕ
bytes [] = []
bytes (b ∷ bs) = bit b ∷ bytes bs

-- each byte is 0 or 1
abbrev pub Clean : List ℕ → Type 0
Clean xs = xs ≡ bytes (levels xs)

-- an answer of yes or no
abbrev pub Tells : Type 0 → Bool → Type 0
Tells P true = P
Tells P false = P → ⊥

-- a number that may not fit 64 bits
abbrev pub Counted : ℕ → Option ℕ → Type 0
Counted n None = 2 ^ 64 ≤ n
Counted n (Some r) = r ≡ n

-- the levels on some signals, read from the bytes of all signals
abbrev pub on_signals : List ℕ → List ℕ → List Bool
on_signals work numbers = map (bit_at (levels work)) numbers

-- all levels of a cycle, with the word handed over, the word ahead on the tape and the flip-flop bytes
abbrev pub cycle_levels : List ℕ → ℕ → ℕ → List ℕ → List Bool
cycle_levels wires read ahead state = settle (pairs wires) (inputs read ahead (levels state))

-- a sheet that holds a sound circuit of f flip-flops and k gates
pub record SoundSheet (sheet : List ℕ) (f k : ℕ) : Type 0 where
  pub long : sheet_size f k ≤ length sheet
  pub gates : SoundGates (pairs (take (2 * k) (drop f sheet))) (input_signals + f)
  pub next : AllBelow (take f (drop (f + 2 * k) sheet)) (input_signals + (f + k))
  pub pins : AllBelow (take pin_count (drop (2 * f + 2 * k) sheet)) (input_signals + (f + k))

-- the parts that a sound sheet of f flip-flops and k gates is cut into, n signals in all
pub record CutFrom (sheet : List ℕ) (f k : ℕ) (wires next pins : List ℕ) (n : ℕ) : Type 0 where
  pub sound : SoundSheet sheet f k
  pub wires_is : wires ≡ take (2 * k) (drop f sheet)
  pub next_is : next ≡ take f (drop (f + 2 * k) sheet)
  pub pins_is : pins ≡ take pin_count (drop (2 * f + 2 * k) sheet)
  pub signals_is : n ≡ input_signals + (f + k)

-- A circuit cut into its parts: the signals of the gates, two for each, the next signals, the pins' signals. Its values
-- at power on do not matter any more.
abbrev pub circuit_of : List ℕ → List ℕ → List ℕ → Circuit
circuit_of wires next pins = record { flops = []; gates = pairs wires; next = next; pins = pins }

-- the parts are sound for f flip-flops and n signals in all
pub record SoundParts (wires next pins : List ℕ) (f n : ℕ) : Type 0 where
  pub wires_all : length wires ≡ 2 * (n - (input_signals + f))
  pub room : input_signals + f ≤ n
  pub wires_sound : SoundGates (pairs wires) (input_signals + f)
  pub next_all : length next ≡ f
  pub next_sound : AllBelow next n
  pub pins_all : length pins ≡ pin_count
  pub pins_sound : AllBelow pins n

-- what the pins show, of the levels p on them
pub record Shown (p : List Bool) (r : Pins) : Type 0 where
  pub address_is : r.address ≡ address p
  pub datum_is : r.datum ≡ datum p
  pub store_is : r.store ≡ bit_at p store_pin
  pub emit_is : r.emit ≡ bit_at p emit_pin
  pub take_is : r.take ≡ bit_at p take_pin
  pub halted_is : halt_code r.halted ≡ value (drop halt_pins p)

-- the board that stands in the lent slices
abbrev pub standing : List ℕ → List ℕ → List ℕ → List ℕ → Port → Board
standing state mem tape out p = record {
  state = levels state;
  mem = mem;
  read = p.read;
  tape = drop p.taken tape;
  out = take p.sent out;
  halted = halt_code p.halted;
}

-- the places on the tape and in the out words are there, and out words past the place are as they were
pub record Placed (tape out out' : List ℕ) (p : Port) : Type 0 where
  pub taken : p.taken ≤ length tape
  pub sent : p.sent ≤ length out
  pub left : drop p.sent out' ≡ drop p.sent out

-- what came of some cycles that lead to the board b: it stands in the slices, or there was no room for its words
abbrev pub Went : Board → List ℕ → List ℕ → List ℕ → List ℕ → List ℕ → Option Port → Type 0
Went b state mem tape out out' None = length out < length b.out
Went b state mem tape out out' (Some p) = (standing state mem tape out' p ≡ b) × Clean state × Placed tape out out' p

-- a word put out where `emit` says so: how many there are then, or none where there is no room for it
abbrev pub Emitted : Bool → ℕ → ℕ → List ℕ → List ℕ → Option ℕ → Type 0
Emitted emit datum sent out out' None = (emit ≡ true) × (length out ≤ sent)
Emitted emit datum sent out out' (Some n) =
    (take n out' ≡ cond emit (take sent out ++ (datum ∷ [])) (take sent out)) × (n ≤ length out) × (drop n out' ≡ drop n out)
