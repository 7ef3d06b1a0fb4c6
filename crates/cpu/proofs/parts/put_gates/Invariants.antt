use Rattle.std.proofs.Common.{◌*◌, drop}
use Rattle.cpu.specs.Ink.{ink}
use Rattle.cpu.proofs.Inking.{Begun}
use Rattle.cpu.proofs.parts.put_gates.Given as goal

abbrev pub invariant-loop-i : goal.invariant-loop-i
invariant-loop-i l = Begun l.initial.sheet 0 (ink l.gates) l.sheet (2 * l.i) (ink (drop l.i l.gates))
