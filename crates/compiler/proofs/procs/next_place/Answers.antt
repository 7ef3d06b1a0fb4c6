use Rattle.std.proofs.Common.{sym, ◌∙◌, arith}
use Rattle.codegen.specs.Codegen.{first_proc}
use Rattle.compiler.proofs.Placed.{next_proc, place_stays}
use Rattle.compiler.proofs.procs.next_place.Goals as goal

pub measure_proc-requires : goal.measure_proc-requires
measure_proc-requires c = let p = c.requires.stands in (next_proc c.args.parsed.now p.0 c.args.f c.args.at p.1 c.if-f-parsed.true p.2).works

pub returns-then-f-parsed : goal.returns-then-f-parsed
returns-then-f-parsed c = λ g h e. let n = next_proc c.args.parsed.now g c.args.f c.args.at h c.if-f-parsed.true e in c.measure_proc.ensures n.proc n.is ∙ sym n.next

pub returns-else-f-parsed : goal.returns-else-f-parsed
returns-else-f-parsed c = λ g h e. e ∙ sym (place_stays g.procs first_proc c.args.f (omega (arith, h.sized.procs)))
