use Rattle.cpu.proofs.BitByBit.{nand_bit}
use Rattle.cpu.proofs.parts.draw_nands.Given as goal

abbrev pub ghost-draw_bits : goal.ghost-draw_bits
ghost-draw_bits a = nand_bit
