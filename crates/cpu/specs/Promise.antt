-- What draw promises.
use Rattle.std.specs.Prelude.{◌≡◌, ℕ, ◌<◌, ◌≤◌, List, length, drop, Result, Ok, Err}
use Rattle.circuit.specs.Sheet.{drawn, sheet_size}
use Rattle.drawing.specs.Drawing.{IsMachine, course_cycles}
use Rattle.cpu.specs.Signals.{flop_count, gate_count}
use Rattle.cpu.specs.declared.Size.{Size}
use Rattle.cpu.specs.declared.NoRoom.{NoRoom}

-- the numbers that a sheet must have room for
abbrev pub sheet_room : ℕ
sheet_room = 262144

-- the sheet holds a circuit that is the machine, of so many flip-flops and gates, and the numbers past it are as before
pub record Draws (before after : List ℕ) (f k : ℕ) : Type 0 where
  pub is_machine : IsMachine course_cycles (drawn f k after)
  pub past_kept : drop (sheet_size f k) after ≡ drop (sheet_size f k) before
  pub flops : f ≡ flop_count
  pub gates : k ≡ gate_count
  pub few_gates : k < 2000
  pub had_room : sheet_room ≤ length before

-- the sheet is too short, and is as it was
pub record Refuses (before after : List ℕ) : Type 0 where
  pub no_room : length before < sheet_room
  pub untouched : after ≡ before

abbrev pub DrawPromise : List ℕ → List ℕ → Result Size NoRoom → Type 0
DrawPromise before after (Ok size) = Draws before after size.flops size.gates
DrawPromise before after (Err none) = Refuses before after
