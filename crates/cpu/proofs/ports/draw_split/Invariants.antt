use Rattle.cpu.proofs.BitByBit.{split_bit}
use Rattle.cpu.proofs.ports.draw_split.Given as goal

abbrev pub ghost-draw_bits : goal.ghost-draw_bits
ghost-draw_bits a = split_bit a.draw.1 a.draw.0
