use Rattle.std.proofs.Common.{sym, ◌∙◌}
use Rattle.words.proofs.Lists.{rest_drop}
use Rattle.board.proofs.Ticking.{cond_true}
use Rattle.board.proofs.cycle.move_tape.Goals as goal

pub returns-then-taken-tape-clause-left : goal.returns-then-taken-tape-clause-left
returns-then-taken-tape-clause-left c = sym (rest_drop c.args.tape.now c.args.taken c.if-taken-tape.true) ∙ cond_true c.args.take _ _ c.if-take.true
