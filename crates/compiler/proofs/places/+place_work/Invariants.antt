use Rattle.std.proofs.Common.{◌-◌, length}
use Rattle.compiler.proofs.places.+place_work.Given as goal

-- parts stand at later nodes
abbrev pub decreases-place_work : goal.decreases-place_work
decreases-place_work l = length l.nodes.now - l.i
