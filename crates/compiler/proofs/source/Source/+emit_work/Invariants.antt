use Rattle.std.proofs.Common.{◌-◌, length}
use Rattle.compiler.proofs.source.Source.+emit_work.Given as goal

-- parts stand at later nodes
abbrev pub decreases-emit_work : goal.decreases-emit_work
decreases-emit_work l = length l.self.now.nodes.now - l.i
