use Rattle.std.proofs.Common.{◌≤◌, length, refl, arith}
use Rattle.cpu.specs.Promise.{sheet_room}
use Rattle.cpu.proofs.Drawing.{drawing}
use Rattle.cpu.proofs.Inking.{behind}
use Rattle.cpu.proofs.OnSheet.{draws_machine}
use Rattle.cpu.proofs.draw.Goals as goal

pub returns : goal.returns
unfolding drawing
returns c =
    let control = behind 184 refl c.put_power_on.ensures c.draw_control.ensures in
    let read = behind 328 refl control c.draw_read.ensures in
    let arithmetic = behind 1042 refl read c.draw_arithmetic.ensures in
    let result = behind 1780 refl arithmetic c.draw_result.ensures in
    let write = behind 2452 refl result c.draw_write.ensures in
    let counter = behind 3380 refl write c.draw_counter.ensures in
    let next = behind 3678 refl counter c.put_next.ensures in
    let room : sheet_room ≤ length c.args.sheet.now = omega arith in
    draws_machine c.args.sheet.now _ room (behind 3862 refl next c.put_pins.ensures)
