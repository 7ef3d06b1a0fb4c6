-- Between the pieces nothing is put out that is not printed.
use Rattle.std.proofs.Common.{◌≡◌, length}
use Rattle.hvmachine.proofs.run_image.Given as goal

abbrev pub invariant-loop-left : goal.invariant-loop-left
invariant-loop-left g l = (length l.words ≡ 4096) × (l.p.sent ≡ 0)

abbrev pub decreases-loop-left : goal.decreases-loop-left
decreases-loop-left g l = l.left
