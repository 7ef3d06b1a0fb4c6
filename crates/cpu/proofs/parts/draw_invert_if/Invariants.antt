use Rattle.cpu.proofs.BitByBit.{invert_if_bit}
use Rattle.cpu.proofs.parts.draw_invert_if.Given as goal

abbrev pub ghost-draw_bits : goal.ghost-draw_bits
ghost-draw_bits a = invert_if_bit a.draw.0
