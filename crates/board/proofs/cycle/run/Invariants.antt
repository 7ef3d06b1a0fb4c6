use Rattle.std.proofs.Common.{◌-◌}
use Rattle.circuit.specs.Circuit.{ticks}
use Rattle.board.specs.Board.{laid}
use Rattle.board.specs.Slices.{circuit_of}
use Rattle.board.proofs.Along.{Along}
use Rattle.board.proofs.cycle.run.Given as goal

abbrev pub invariant-loop-done : goal.invariant-loop-done
invariant-loop-done l = Along (circuit_of l.parts.wires.now l.parts.next.now l.parts.pins.now) (ticks l.cycles (circuit_of l.parts.wires.now l.parts.next.now l.parts.pins.now) (laid l.initial.state l.initial.mem l.read l.tape)) (l.cycles - l._done) l.state l.mem l.tape l.initial.out l.out l.port
