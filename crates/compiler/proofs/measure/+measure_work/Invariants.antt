use Rattle.std.proofs.Common.{◌-◌, length}
use Rattle.compiler.proofs.measure.+measure_work.Given as goal

-- parts stand at later nodes
abbrev pub decreases-measure_work : goal.decreases-measure_work
decreases-measure_work l = length l.nodes.now - l.i
