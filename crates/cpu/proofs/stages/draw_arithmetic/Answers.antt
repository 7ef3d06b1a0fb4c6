use Rattle.std.proofs.Common.{refl}
use Rattle.cpu.proofs.Drawing.{drawing}
use Rattle.cpu.proofs.Inking.{behind}
use Rattle.cpu.proofs.stages.draw_arithmetic.Goals as goal

pub returns : goal.returns
unfolding drawing
returns c =
    let d1 = simp (c.program_counter-counter.ensures, c.operand-operand.ensures) at c.draw_mux.ensures in
    let d2 = behind 96 refl d1 (simp c.port-port.ensures at c.draw_mux-2.ensures) in
    let d3 = behind 192 refl d2 (simp c.every-second.ensures at c.draw_invert_if.ensures) in
    let d4 = behind 320 refl d3 (simp (c.every-first.ensures, c.every-addend.ensures) at c.draw_adder.ensures) in
    let d5 = behind 608 refl d4 (simp (c.operand-operand.ensures, c.port-port.ensures) at c.draw_nands.ensures) in
    let d6 = behind 640 refl d5 c.draw_inverters.ensures in
    behind 642 refl d6 (simp c.port-port.ensures at c.draw_zero_test.ensures)
