use Rattle.std.proofs.Common.{refl}
use Rattle.cpu.proofs.Drawing.{drawing}
use Rattle.cpu.proofs.Inking.{behind}
use Rattle.cpu.proofs.frame.put_pins.Goals as goal

pub returns : goal.returns
unfolding drawing
returns c =
    let d1 = rw c.every.ensures at c.put_numbers.ensures in
    behind 32 refl (behind 16 refl d1 (rw c.port.ensures at c.put_numbers-2.ensures)) c.put_numbers-3.ensures
