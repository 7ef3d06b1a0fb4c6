use Rattle.std.proofs.Common.{◌-◌, length}
use Rattle.compiler.proofs.measure.+measure_stmt.Given as goal

-- parts stand at later nodes
abbrev pub decreases-measure_stmt : goal.decreases-measure_stmt
decreases-measure_stmt l = length l.nodes.now - l.i
