use Rattle.std.proofs.Common.{◌≡◌, ◌+◌, ◌*◌, length}
use Rattle.std.specs.Iterator.Adapters.{enumerate_source, enumerate_count}
use Rattle.std.specs.Slice.Iter.{chunks_exact_rest, chunks_exact_size}
use Rattle.circuit.specs.PartsRegisters.{level_gates}
use Rattle.cpu.specs.Ink.{ink}
use Rattle.cpu.proofs.PortLoops.{Chosen}
use Rattle.cpu.proofs.ports.draw_level.Given as goal

abbrev pub invariant-loop-i : goal.invariant-loop-i
invariant-loop-i l =
    let k = enumerate_count l.i-iterator in
    let ws = chunks_exact_rest (enumerate_source l.i-iterator) in
    (chunks_exact_size (enumerate_source l.i-iterator) ≡ 2) × (length ws + 2 * k ≡ length l.words) × Chosen l.initial.sheet (ink (level_gates l.first l.line.0 l.line.1 l.words)) l.sheet k (level_gates (l.first + 48 * k) l.line.0 l.line.1 ws)
