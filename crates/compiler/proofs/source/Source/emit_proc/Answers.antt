use Rattle.std.proofs.Common.{arith}
use Rattle.compiler.proofs.Procedures.{proc_facts}
use Rattle.compiler.proofs.Wrote.{wrote_proc}
use Rattle.compiler.proofs.source.Source.emit_proc.Goals as goal

pub check_room-requires : goal.check_room-requires
check_room-requires c =
    let f = proc_facts c.requires.works in
    omega (arith, f.begins)

pub make_frame-requires-clause-room : goal.make_frame-requires-clause-room
make_frame-requires-clause-room c =
    let f = proc_facts c.requires.works in
    omega (arith, f.begins, c.check_room.ensures.words.ends)

pub clear_locals-requires-clause-room : goal.clear_locals-requires-clause-room
clear_locals-requires-clause-room c =
    let f = proc_facts c.requires.works in
    omega (arith, f.begins, c.check_room.ensures.words.ends, c.make_frame.ensures.words.ends)

pub returns : goal.returns
returns c = wrote_proc c.args.size c.requires.sized c.check_room.ensures c.make_frame.ensures c.clear_locals.ensures c.emit_stmt.ensures c.leave_frame.ensures
