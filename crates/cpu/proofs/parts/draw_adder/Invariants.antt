use Rattle.cpu.proofs.BitByBit.{adder_bit}
use Rattle.cpu.proofs.parts.draw_adder.Given as goal

abbrev pub ghost-draw_bits : goal.ghost-draw_bits
ghost-draw_bits a = adder_bit
