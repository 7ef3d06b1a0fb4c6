use Rattle.std.proofs.Common.{take}
use Rattle.circuit.specs.Circuit.{settle}
use Rattle.circuit.specs.Sheet.{pairs, levels}
use Rattle.board.proofs.Settling.{Pass}
use Rattle.board.proofs.signals.settle_gates.Given as goal

abbrev pub invariant-loop-i : goal.invariant-loop-i
invariant-loop-i l = Pass l.wires l.base l.i l.work (settle (pairs l.wires) (levels (take l.base l.initial.work)))
