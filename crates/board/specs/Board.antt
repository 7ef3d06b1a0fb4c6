-- What `spin` and `power_on` promise: the lent slices stand for the board of the circuit's definition.
use Rattle.std.specs.Prelude.{◌≡◌, ℕ, ◌+◌, ◌<◌, ◌≤◌, ◌↔◌, List, [], length, take, drop, Ok, Err, Result}
use Rattle.words.specs.Words.{All, memory_size}
use Rattle.words.specs.Runs.{running}
use Rattle.words.specs.Endings.{halt_code}
use Rattle.circuit.specs.Circuit.{Whole, Board, ticks, power_on, input_signals}
use Rattle.circuit.specs.Sheet.{drawn, levels, sheet_size}
use Rattle.board.specs.declared.cycle.Port.{Port}
use Rattle.board.specs.declared.SpinError.{SpinError}
use Rattle.board.specs.declared.SpinError.TheVariants.{BadSheet, NoOut, FewWork}
use Rattle.board.specs.declared.start.NoPower.{NoPower}

-- the board that flip-flop bytes, a memory, a word in hand and a tape stand for: nothing shown yet, not halted
abbrev pub laid : List ℕ → List ℕ → ℕ → List ℕ → Board
laid state mem read tape = record { state = levels state; mem = mem; read = read; tape = tape; out = []; halted = running }

-- the sheet holds a whole circuit of f flip-flops and k gates, and there is a byte for each flip-flop and a full memory
pub record Fits (f k : ℕ) (sheet state mem : List ℕ) : Type 0 where
  pub long : sheet_size f k ≤ length sheet
  pub whole : Whole (drawn f k sheet)
  pub flops_all : length state ≡ f
  pub memory_all : length mem ≡ memory_size

-- What a call of `spin` reads ..
pub record Asked : Type 0 where
  pub sheet : List ℕ
  pub flops : ℕ
  pub gates : ℕ
  pub read : ℕ
  pub tape : List ℕ
  pub cycles : ℕ

-- .. and what it may write to
pub record Lent : Type 0 where
  pub state : List ℕ
  pub mem : List ℕ
  pub out : List ℕ
  pub work : List ℕ

abbrev pub lent : List ℕ → List ℕ → List ℕ → List ℕ → Lent
lent state mem out work = record { state = state; mem = mem; out = out; work = work }

abbrev pub asked : List ℕ → ℕ → ℕ → ℕ → List ℕ → ℕ → Asked
asked sheet flops gates read tape cycles = record { sheet = sheet; flops = flops; gates = gates; read = read; tape = tape; cycles = cycles }

-- the call can be met: its sheet, flip-flops and memory fit
abbrev pub SoundCall : Asked → Lent → Type 0
SoundCall a l = Fits a.flops a.gates a.sheet l.state l.mem

-- the board after the cycles that were asked for
abbrev pub spun_board : Asked → Lent → Board
spun_board a l = ticks a.cycles (drawn a.flops a.gates a.sheet) (laid l.state l.mem a.read a.tape)

-- what a run has left: flip-flop bytes, memory and out words, the word in hand, how many words of the tape are taken,
-- how many are put out, how it halted
pub record Left : Type 0 where
  pub state : List ℕ
  pub mem : List ℕ
  pub out : List ℕ
  pub read : ℕ
  pub taken : ℕ
  pub sent : ℕ
  pub halted : ℕ

-- the board b stands in what was left: each flip-flop byte is 0 or 1, and the words shown are the first of the out words
pub record Stands (b : Board) (tape : List ℕ) (l : Left) : Type 0 where
  pub state_is : levels l.state ≡ b.state
  pub state_bits : All (λ x. x < 2) l.state
  pub mem_is : l.mem ≡ b.mem
  pub read_is : l.read ≡ b.read
  pub tape_is : drop l.taken tape ≡ b.tape
  pub taken_there : l.taken ≤ length tape
  pub out_is : take l.sent l.out ≡ b.out
  pub halt_is : l.halted ≡ b.halted

-- what a run with the port p has left in the lent slices
abbrev pub left : Lent → Port → Left
left after p = record {
  state = after.state;
  mem = after.mem;
  out = after.out;
  read = p.read;
  taken = p.taken;
  sent = p.sent;
  halted = halt_code p.halted;
}

-- it ran: the board stands in the slices, and out words past those put out are as they were
pub record RanSays (a : Asked) (before after : Lent) (p : Port) : Type 0 where
  pub fits : SoundCall a before
  pub stands : Stands (spun_board a before) a.tape (left after p)
  pub sent_there : p.sent ≤ length before.out
  pub past_kept : drop p.sent after.out ≡ drop p.sent before.out

-- What each answer says. After *no out* flip-flops, memory and out words may hold anything, and so may the work bytes
-- after *no out* and after a run; a call that is refused leaves all as it was.
abbrev pub SpunSays : Asked → Lent → Lent → Result Port SpinError → Type 0
SpunSays a before after (Ok p) = RanSays a before after p
SpunSays a before after (Err BadSheet) = (SoundCall a before → ⊥) × (after ≡ before)
SpunSays a before after (Err NoOut) = SoundCall a before × (length before.out < length (spun_board a before).out)
SpunSays a before after (Err FewWork) = after ≡ before

-- the promise of `spin`: there is too little work where it has no byte for each signal, and only there
pub record SpunPost (a : Asked) (before after : Lent) (r : Result Port SpinError) : Type 0 where
  pub says : SpunSays a before after r
  pub few_work : (length before.work < input_signals + (a.flops + a.gates)) ↔ (r ≡ Err FewWork)

-- the sheet holds values at power on for the flip-flop bytes
abbrev pub HasPower : List ℕ → ℕ → List ℕ → Type 0
HasPower sheet f state = (f ≤ length sheet) × (length state ≡ f)

-- the promise of `power_on`: laid out with any memory and tape, and no word in hand, the bytes are the board at power on
abbrev pub PowerPost : List ℕ → ℕ → List ℕ → List ℕ → Result Unit NoPower → Type 0
PowerPost sheet f before after (Ok _) =
    HasPower sheet f before
    × All (λ x. x < 2) after
    × ((k : ℕ) (mem tape : List ℕ) → laid after mem 0 tape ≡ power_on (drawn f k sheet) mem tape)
PowerPost sheet f before after (Err _) = (HasPower sheet f before → ⊥) × (after ≡ before)
