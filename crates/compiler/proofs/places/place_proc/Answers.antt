use Rattle.std.proofs.Common.{arith}
use Rattle.compiler.proofs.Procedures.{proc_facts}
use Rattle.compiler.proofs.Noted.{noted_proc}
use Rattle.compiler.proofs.places.place_proc.Goals as goal

pub overflow_add-body_place : goal.overflow_add-body_place
overflow_add-body_place c = omega (arith, (proc_facts c.requires).begins)

pub overflow_add-body_place-2 : goal.overflow_add-body_place-2
overflow_add-body_place-2 c = omega (arith, (proc_facts c.requires).begins)

pub place_stmt-requires : goal.place_stmt-requires
place_stmt-requires c = (proc_facts c.requires).body_works

pub returns : goal.returns
returns c = noted_proc c.args.nodes.now c.args.procedure c.args.at c.args.places.now.items c.note.new.notes.items c.place_stmt.new.places.items c.note.ensures c.place_stmt.ensures
