use Rattle.std.proofs.Common.{refl}
use Rattle.cpu.proofs.Drawing.{drawing}
use Rattle.cpu.proofs.Inking.{behind}
use Rattle.cpu.proofs.stages.draw_result.Goals as goal

pub returns : goal.returns
unfolding drawing
returns c =
    let d1 = simp c.every-nanded.ensures at c.draw_mux.ensures in
    let d2 = behind 96 refl d1 c.draw_mux-2.ensures in
    let d3 = behind 192 refl d2 (simp (c.every-nand_or_less.ensures, c.sum-sum.ensures) at c.draw_mux-3.ensures) in
    let d4 = behind 288 refl d3 (simp c.every-half_or_low.ensures at c.draw_mux-4.ensures) in
    let d5 = behind 384 refl d4 (simp (c.every-from_4.ensures, c.every-below_4.ensures) at c.draw_mux-5.ensures) in
    let d6 = behind 480 refl d5 (simp (c.every-tape.ensures, c.program_counter-counter.ensures) at c.draw_mux-6.ensures) in
    behind 576 refl d6 (simp (c.every-from_8.ensures, c.every-below_8.ensures) at c.draw_mux-7.ensures)
