use Rattle.cpu.proofs.BitByBit.{mux_bit}
use Rattle.cpu.proofs.parts.draw_mux.Given as goal

abbrev pub ghost-draw_bits : goal.ghost-draw_bits
ghost-draw_bits a = mux_bit a.draw.0 a.draw.1
