use Rattle.std.proofs.Common.{◌≡◌, ℕ, List, refl, ap, ◌∙◌}
use Rattle.std.specs.List.{flat_map}
use Rattle.cpu.specs.Stages.{NEXT_REGISTERS}
use Rattle.cpu.specs.Cpu.{flat}
use Rattle.cpu.proofs.Drawing.{drawing}
use Rattle.cpu.proofs.Inking.{behind}
use Rattle.cpu.proofs.frame.put_next.Goals as goal

pub returns : goal.returns
unfolding drawing
returns c =
    let registers : c.as_flattened.result.now ≡ flat NEXT_REGISTERS = c.as_flattened.ensures.value ∙ ap {B = List ℕ} (flat_map (λ x. x)) c.words-kept.ensures in
    let d1 = rw c.every.ensures at c.put_numbers.ensures in
    let d2 = behind 16 refl d1 (rw registers at c.put_numbers-2.ensures) in
    let d3 = behind 144 refl d2 (rw c.port.ensures at c.put_numbers-3.ensures) in
    let d4 = behind 160 refl d3 (rw c.every-2.ensures at c.put_numbers-4.ensures) in
    behind 176 refl d4 c.put_numbers-5.ensures
