use Rattle.std.proofs.Common.{refl}
use Rattle.cpu.proofs.Drawing.{drawing}
use Rattle.cpu.proofs.Inking.{behind}
use Rattle.cpu.proofs.stages.draw_read.Goals as goal

pub returns : goal.returns
unfolding drawing
returns c =
    let d1 = behind 18 refl c.draw_mux.ensures c.draw_mux-2.ensures in
    let d2 = behind 36 refl d1 c.draw_inverters.ensures in
    let d3 = behind 42 refl d2 (simp c.registers-eight.ensures at c.draw_level.ensures) in
    let d4 = behind 426 refl d3 (simp c.words-four.ensures at c.draw_level-2.ensures) in
    behind 618 refl d4 (simp c.words-two.ensures at c.draw_level-3.ensures)
