-- The bytes that power on has laid are the board at power on, and spin is the board.
use Rattle.std.proofs.Common.{◌<◌, length, ap, ◌∙◌, subst}
use Rattle.circuit.specs.Circuit.{Board, ticks, seen_board}
use Rattle.circuit.specs.Sheet.{drawn}
use Rattle.stack.proofs.Lighting.{stands_seen}
use Rattle.stack.proofs.light.Goals as goal

pub returns-in-Ok-spin : goal.returns-in-Ok-spin
returns-in-Ok-spin c =
    let circuit = drawn c.args.size.flops c.args.size.gates c.args.sheet.now in
    let laid-is = c.in-Ok.ensures.2 c.args.size.gates c.args.mem.now c.args.tape.now in
    let says = c.in-Ok-spin.ensures.says in (
      stands_seen _ _ _ says.stands ∙ ap (λ (b : Board). seen_board (ticks c.args.cycles circuit b)) laid-is,
      record { sent_there = says.sent_there; taken_there = says.stands.taken_there; past_kept = says.past_kept },
    )

pub returns-in-Err-NoOut : goal.returns-in-Err-NoOut
returns-in-Err-NoOut c =
    let circuit = drawn c.args.size.flops c.args.size.gates c.args.sheet.now in
    let laid-is = c.in-Ok.ensures.2 c.args.size.gates c.args.mem.now c.args.tape.now in
    let says = (rw c.in-Err-NoOut.field-0-is at c.in-Err-NoOut.ensures).says in
    subst (λ (b : Board). length c.args.out.now < length (ticks c.args.cycles circuit b).out) laid-is says.1
