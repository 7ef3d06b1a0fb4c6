-- Laws of a run that a caller of `spin` builds on: pieces of a run join, a halted board stays, and a cycle puts out at
-- most one word.
use Rattle.std.specs.Prelude.{◌≡◌, ℕ, ◌+◌, ◌<◌, ◌≤◌, List, [], ◌++◌, length, take, drop, Err}
use Rattle.words.specs.Runs.{running}
use Rattle.circuit.specs.Circuit.{Circuit, Board, ticks}
use Rattle.board.specs.Board.{laid, Left, Stands, Asked, Lent, SpunPost}
use Rattle.board.specs.declared.SpinError.TheVariants.{NoOut}

-- where a piece of a run ended, as the next piece begins: flip-flops, memory, the word in hand and the rest of the tape
-- are handed on
abbrev pub handed_on : Board → Board
handed_on b = record { state = b.state; mem = b.mem; read = b.read; tape = b.tape; out = []; halted = running }

-- the board b with words that were shown before its own
abbrev pub shown_after : List ℕ → Board → Board
shown_after before b = record {
  state = b.state;
  mem = b.mem;
  read = b.read;
  tape = b.tape;
  out = before ++ b.out;
  halted = b.halted;
}

-- A piece of m cycles that has not halted, and then a piece of n cycles, are m + n cycles.
abbrev pub PiecesJoin : Type 0
PiecesJoin =
    (c : Circuit) (b : Board) (m n : ℕ)
    → (ticks m c b).halted ≡ running
    → ticks (m + n) c b ≡ shown_after (ticks m c b).out (ticks n c (handed_on (ticks m c b)))

-- Once halted a board stays as it is.
abbrev pub HaltedStays : Type 0
HaltedStays = (c : Circuit) (b : Board) (m n : ℕ) → 0 < (ticks m c b).halted → ticks (m + n) c b ≡ ticks m c b

-- what two pieces have left together: the words put out one after the other
abbrev pub both_left : Left → Left → Left
both_left one two = record {
  state = two.state;
  mem = two.mem;
  out = take one.sent one.out ++ take two.sent two.out;
  read = two.read;
  taken = one.taken + two.taken;
  sent = one.sent + two.sent;
  halted = two.halted;
}

-- The same of what the pieces have left in lent slices: the second piece starts from what the first has left, on the
-- rest of the tape.
abbrev pub SpinsJoin : Type 0
SpinsJoin =
    (c : Circuit) (m n : ℕ) (state mem : List ℕ) (read : ℕ) (tape : List ℕ) (one two : Left)
    → Stands (ticks m c (laid state mem read tape)) tape one
    → one.halted ≡ running
    → Stands (ticks n c (laid one.state one.mem one.read (drop one.taken tape))) (drop one.taken tape) two
    → Stands (ticks (m + n) c (laid state mem read tape)) tape (both_left one two)

-- And where the first piece has halted, it is what any more cycles leave too.
abbrev pub HaltedSpinStays : Type 0
HaltedSpinStays =
    (c : Circuit) (m n : ℕ) (state mem : List ℕ) (read : ℕ) (tape : List ℕ) (one : Left)
    → Stands (ticks m c (laid state mem read tape)) tape one
    → 0 < one.halted
    → Stands (ticks (m + n) c (laid state mem read tape)) tape one

-- n cycles put out at most n words more,
abbrev pub OneWordACycle : Type 0
OneWordACycle = (c : Circuit) (b : Board) (n : ℕ) → length (ticks n c b).out ≤ length b.out + n

-- so with room for as many words as cycles the answer is never *no out*.
abbrev pub RoomSuffices : Type 0
RoomSuffices = (a : Asked) (before after : Lent) → a.cycles ≤ length before.out → SpunPost a before after (Err NoOut) → ⊥
