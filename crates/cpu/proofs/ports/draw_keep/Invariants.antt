use Rattle.std.proofs.Common.{◌≡◌, ◌+◌, ◌*◌, length, map}
use Rattle.std.specs.Iterator.Adapters.{enumerate_source, enumerate_count, zip_first, zip_second}
use Rattle.std.specs.Slice.Iter.{iter_rest}
use Rattle.circuit.specs.PartsRegisters.{keep_gates}
use Rattle.cpu.specs.Lines.{both}
use Rattle.cpu.specs.Ink.{ink}
use Rattle.cpu.proofs.PortLoops.{Chosen}
use Rattle.cpu.proofs.ports.draw_keep.Given as goal

abbrev pub invariant-loop-i : goal.invariant-loop-i
invariant-loop-i l =
    let k = enumerate_count l.i-iterator in
    let ls = iter_rest (zip_first (enumerate_source l.i-iterator)) in
    let ws = iter_rest (zip_second (enumerate_source l.i-iterator)) in
    (length ws + k ≡ length l.words) × Chosen l.initial.sheet (ink (keep_gates l.first (map both l.lines) l.word l.words)) l.sheet k (keep_gates (l.first + 48 * k) (map both ls) l.word ws)
