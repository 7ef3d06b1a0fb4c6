use Rattle.text.proofs.Digits.{NumberSoFar}
use Rattle.text.proofs.numbers.number.Given as goal

abbrev pub invariant-loop-i : goal.invariant-loop-i
invariant-loop-i l = NumberSoFar l.w l.i l.n
