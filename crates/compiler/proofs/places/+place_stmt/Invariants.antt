use Rattle.std.proofs.Common.{◌-◌, length}
use Rattle.compiler.proofs.places.+place_stmt.Given as goal

-- parts stand at later nodes
abbrev pub decreases-place_stmt : goal.decreases-place_stmt
decreases-place_stmt l = length l.nodes.now - l.i
