use Rattle.codegen.proofs.expressions_run.Goals as goal
use Rattle.codegen.proofs.Whole.{expression_runs}

pub returns : goal.returns
returns c = expression_runs
