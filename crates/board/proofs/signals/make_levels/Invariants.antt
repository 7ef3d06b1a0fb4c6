use Rattle.std.proofs.Common.{◌≡◌, ◌++◌, take, drop}
use Rattle.circuit.specs.Sheet.{levels}
use Rattle.board.specs.Slices.{bytes}
use Rattle.board.proofs.signals.make_levels.Given as goal

abbrev pub invariant-loop-byte : goal.invariant-loop-byte
invariant-loop-byte l = take l.byte-index l.state ++ bytes (levels (drop l.byte-index l.state)) ≡ bytes (levels l.initial.state)
