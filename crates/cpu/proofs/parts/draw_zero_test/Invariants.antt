use Rattle.cpu.proofs.BitByBit.{zero_bit}
use Rattle.cpu.proofs.parts.draw_zero_test.Given as goal

abbrev pub ghost-draw_bits : goal.ghost-draw_bits
ghost-draw_bits a = zero_bit
