use Rattle.std.proofs.Common.{◌-◌, ◌*◌}
use Rattle.language.specs.Heights.{node_names}
use Rattle.language.proofs.heights.+stmt_height_stmt_part.Given as goal

abbrev pub decreases-stmt_height : goal.decreases-stmt_height
decreases-stmt_height l = 2 * (node_names - l.i)

abbrev pub decreases-stmt_part : goal.decreases-stmt_part
decreases-stmt_part l = 2 * (node_names - l.i) - 1
