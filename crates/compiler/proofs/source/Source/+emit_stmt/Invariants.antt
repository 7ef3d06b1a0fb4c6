use Rattle.std.proofs.Common.{◌-◌, length}
use Rattle.compiler.proofs.source.Source.+emit_stmt.Given as goal

-- parts stand at later nodes
abbrev pub decreases-emit_stmt : goal.decreases-emit_stmt
decreases-emit_stmt l = length l.self.now.nodes.now - l.i
