use Rattle.codegen.proofs.statements_run.Goals as goal
use Rattle.codegen.proofs.Whole.{statement_runs}

pub returns : goal.returns
returns c = statement_runs
