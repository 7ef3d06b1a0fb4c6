use Rattle.std.proofs.Common.{refl}
use Rattle.cpu.proofs.Drawing.{drawing}
use Rattle.cpu.proofs.Inking.{behind}
use Rattle.cpu.proofs.stages.draw_counter.Goals as goal

pub returns : goal.returns
unfolding drawing
returns c =
    let jump = simp (c.operand-operand.ensures, c.program_counter-counter.ensures) at c.draw_mux.ensures in
    let counter = simp (c.sum-sum.ensures, c.every-stay_or_jump.ensures) at c.draw_mux-2.ensures in
    let address = simp (c.sum-sum.ensures, c.program_counter-counter.ensures) at c.draw_mux-3.ensures in
    behind 202 refl (behind 106 refl (behind 10 refl c.put_gates.ensures jump) counter) address
