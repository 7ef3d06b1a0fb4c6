-- A circuit of NAND gates and flip-flops, and the board that it stands on.
use Rattle.std.specs.Prelude.{◌≡◌, ℕ, zero, suc, ◌+◌, ◌<◌, Bool, true, false, cond, List, [], ◌∷◌, ◌++◌, map, length, take, drop}
use Rattle.words.specs.Words.{bits, value, nand, bit_at, word, put, front, rest}
use Rattle.words.specs.Runs.{Seen, running}

-- Signals are numbered: 0 is low, 1 is high, 2 to 17 are the word that memory hands over, 18 to 33 the tape's
-- next word, both lowest bit first; then come the flip-flops, then the gates in order.
abbrev pub input_signals : ℕ
input_signals = 34

-- The pins out: 16 of an address, 16 of a datum, then store, emit, take, and two that say how it halted.
abbrev pub store_pin : ℕ
store_pin = 32

abbrev pub emit_pin : ℕ
emit_pin = 33

abbrev pub take_pin : ℕ
take_pin = 34

abbrev pub halt_pins : ℕ
halt_pins = 35

abbrev pub pin_count : ℕ
pin_count = 37

-- A gate is the two signals whose NAND it is. A flip-flop has a value at power on and a signal that it holds in the
-- next cycle. A pin is a signal.
pub record Circuit : Type 0 where
  pub flops : List Bool
  pub gates : List (ℕ × ℕ)
  pub next : List ℕ
  pub pins : List ℕ

-- the gates settle in order, each behind the levels that were there before it
abbrev pub settle : List (ℕ × ℕ) → List Bool → List Bool
settle [] v = v
settle (g ∷ gs) v = settle gs (v ++ (nand (bit_at v g.0) (bit_at v g.1) ∷ []))

-- each gate is fed by signals before it, of which there are n before the first
abbrev pub SoundGates : List (ℕ × ℕ) → ℕ → Type 0
SoundGates [] n = Unit {0}
SoundGates (g ∷ gs) n = (g.0 < n) × (g.1 < n) × SoundGates gs (suc n)

abbrev pub AllBelow : List ℕ → ℕ → Type 0
AllBelow [] n = Unit {0}
AllBelow (x ∷ xs) n = (x < n) × AllBelow xs n

-- all signals that a circuit names are there, a next signal for each flip-flop and all pins among them
pub record Whole (c : Circuit) : Type 0 where
  pub gates_sound : SoundGates c.gates (input_signals + length c.flops)
  pub next_sound : AllBelow c.next (input_signals + (length c.flops + length c.gates))
  pub pins_sound : AllBelow c.pins (input_signals + (length c.flops + length c.gates))
  pub next_all : length c.next ≡ length c.flops
  pub pins_all : length c.pins ≡ pin_count

-- The board: the flip-flops' levels, a memory with one port, the word that it hands over in this cycle, a tape, the
-- words shown on the lamps, and how it halted (0: it has not).
pub record Board : Type 0 where
  pub state : List Bool
  pub mem : List ℕ
  pub read : ℕ
  pub tape : List ℕ
  pub out : List ℕ
  pub halted : ℕ

-- the levels before the gates, and all levels once the gates have settled
abbrev pub inputs : ℕ → ℕ → List Bool → List Bool
inputs read tape state = false ∷ true ∷ (bits 16 read ++ (bits 16 tape ++ state))

abbrev pub signals : Circuit → Board → List Bool
signals c b = settle c.gates (inputs b.read (front b.tape) b.state)

abbrev pub pin_levels : Circuit → Board → List Bool
pin_levels c b = map (bit_at (signals c b)) c.pins

-- the words on the pins
abbrev pub address : List Bool → ℕ
address p = value (take 16 p)

abbrev pub datum : List Bool → ℕ
datum p = value (take 16 (drop 16 p))

-- A cycle, with the levels p on the pins. The word handed over next is the one that stood at the address before a
-- store of this cycle.
abbrev pub cycle : Circuit → Board → List Bool → Board
cycle c b p = record {
  state = map (bit_at (signals c b)) c.next;
  mem = cond (bit_at p store_pin) (put b.mem (address p) (datum p)) b.mem;
  read = word b.mem (address p);
  tape = cond (bit_at p take_pin) (rest b.tape) b.tape;
  out = cond (bit_at p emit_pin) (b.out ++ (datum p ∷ [])) b.out;
  halted = value (drop halt_pins p);
}

-- a board that has halted stays as it is
abbrev pub unless_halted : ℕ → Board → Board → Board
unless_halted zero b after = after
unless_halted (suc h) b after = b

abbrev pub tick : Circuit → Board → Board
tick c b = unless_halted b.halted b (cycle c b (pin_levels c b))

abbrev pub ticks : ℕ → Circuit → Board → Board
ticks zero c b = b
ticks (suc k) c b = ticks k c (tick c b)

-- at power on the word handed over is 0
abbrev pub power_on : Circuit → List ℕ → List ℕ → Board
power_on c mem tape = record { state = c.flops; mem = mem; read = 0; tape = tape; out = []; halted = running }

-- what is seen of a board
abbrev pub seen_board : Board → Seen
seen_board b = record { shown = b.out; tape_left = b.tape; ending = b.halted }

-- what is seen of a board after so many cycles from power on
abbrev pub board_run : Circuit → List ℕ → List ℕ → ℕ → Seen
board_run c mem tape k = seen_board (ticks k c (power_on c mem tape))
