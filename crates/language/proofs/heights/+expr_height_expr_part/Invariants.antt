use Rattle.std.proofs.Common.{◌-◌, ◌*◌}
use Rattle.language.specs.Heights.{node_names}
use Rattle.language.proofs.heights.+expr_height_expr_part.Given as goal

abbrev pub decreases-expr_height : goal.decreases-expr_height
decreases-expr_height l = 2 * (node_names - l.i)

abbrev pub decreases-expr_part : goal.decreases-expr_part
decreases-expr_part l = 2 * (node_names - l.i) - 1
