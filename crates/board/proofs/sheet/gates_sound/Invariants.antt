use Rattle.std.proofs.Common.{◌+◌, ◌*◌, drop}
use Rattle.circuit.specs.Circuit.{SoundGates}
use Rattle.circuit.specs.Sheet.{pairs}
use Rattle.board.proofs.sheet.gates_sound.Given as goal

abbrev pub invariant-loop-i : goal.invariant-loop-i
invariant-loop-i l = (SoundGates (pairs (drop (2 * l.i) l.wires)) (l.base + l.i) → SoundGates (pairs l.wires) l.base) × (SoundGates (pairs l.wires) l.base → SoundGates (pairs (drop (2 * l.i) l.wires)) (l.base + l.i))
