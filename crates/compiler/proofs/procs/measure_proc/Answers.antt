use Rattle.std.proofs.Common.{refl, arith}
use Rattle.compiler.proofs.Procedures.{proc_facts, ends_proc}
use Rattle.compiler.proofs.procs.measure_proc.Goals as goal

pub overflow_add-body_place : goal.overflow_add-body_place
overflow_add-body_place c = omega (arith, (proc_facts c.requires).begins)

pub overflow_add-body_place-2 : goal.overflow_add-body_place-2
overflow_add-body_place-2 c = omega (arith, (proc_facts c.requires).begins)

pub measure_stmt-body_end-requires : goal.measure_stmt-body_end-requires
measure_stmt-body_end-requires c = (proc_facts c.requires).body_works

pub overflow_add-result : goal.overflow_add-result
overflow_add-result c = omega (arith, (proc_facts c.requires).room c.measure_stmt-body_end.result c.measure_stmt-body_end.ensures)

pub returns : goal.returns
returns c = ends_proc c.args.nodes.now c.args.procedure c.args.at c.measure_stmt-body_end.result _ c.measure_stmt-body_end.ensures refl
