use Rattle.std.proofs.Common.{refl}
use Rattle.cpu.proofs.Drawing.{drawing}
use Rattle.cpu.proofs.Inking.{behind}
use Rattle.cpu.proofs.stages.draw_write.Goals as goal

pub returns : goal.returns
unfolding drawing
returns c =
    let d1 = simp (c.every-instruction.ensures, c.every-result.ensures) at c.draw_mux.ensures in
    let d2 = behind 96 refl d1 c.draw_inverters.ensures in
    let d3 = behind 104 refl d2 c.draw_split.ensures in
    let d4 = behind 112 refl d3 c.draw_split-2.ensures in
    let d5 = behind 128 refl d4 c.draw_split-3.ensures in
    behind 160 refl d5 (simp (c.registers-registers.ensures, c.every-written.ensures) at c.draw_keep.ensures)
