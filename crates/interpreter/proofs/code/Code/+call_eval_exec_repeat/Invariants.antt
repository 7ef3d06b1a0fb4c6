-- Fuel falls with each call and each further turn, and within a body the node's number rises. A loop does from each turn
-- on what it does from its start.
use Rattle.std.proofs.Common.{◌+◌, ◌-◌, ◌*◌, min, length}
use Rattle.language.specs.Heights.{node_names}
use Rattle.interpreter.specs.Running.{SameLoans, work}
use Rattle.interpreter.proofs.Looping.{Still}
use Rattle.interpreter.proofs.code.Code.+call_eval_exec_repeat.Given as goal

abbrev pub decreases-eval : goal.decreases-eval
decreases-eval l = l.fuel * (2 * node_names) + 2 * (node_names - l.i)

abbrev pub decreases-exec : goal.decreases-exec
decreases-exec l = l.fuel * (2 * node_names) + 2 * (node_names - l.i)

abbrev pub decreases-repeat : goal.decreases-repeat
decreases-repeat l = l.fuel * (2 * node_names) + (2 * (node_names - min l.i l.j) + 1)

abbrev pub decreases-call : goal.decreases-call
decreases-call l = l.fuel * (2 * node_names)

abbrev pub invariant-repeat-loop-left : goal.invariant-repeat-loop-left
invariant-repeat-loop-left l = record {
  same_loans : SameLoans l.initial.store l.store;
  still : Still l.self l.i l.j (length l.initial.free) l.fuel (work l.initial.locals l.initial.store) l.left (work l.locals l.store);
}
