-- Each comparison, as agreement says it.
use Rattle.std.proofs.Common.{rules}
use Rattle.three_machines.proofs.Words.{first_starts, second_starts}
use Rattle.three_machines.proofs.agreement.same_words.Goals as goal

pub returns-then-starts_with : goal.returns-then-starts_with
returns-then-starts_with c = first_starts c.args.more c.args.a.now c.args.b.now c.starts_with.result (search rules) c.starts_with.ensures.value

pub returns-else-starts_with : goal.returns-else-starts_with
returns-else-starts_with c = second_starts c.args.more c.args.a.now c.args.b.now c.starts_with-else-starts_with.result (search rules) c.starts_with-else-starts_with.ensures.value
