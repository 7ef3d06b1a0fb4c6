use Rattle.std.proofs.Common.{◌≡◌, ◌+◌, ◌*◌, length}
use Rattle.std.specs.Iterator.Adapters.{zip_first, zip_second}
use Rattle.std.specs.Slice.Iter.{iter_rest}
use Rattle.cpu.specs.Bits.{bits}
use Rattle.cpu.specs.Ink.{ink}
use Rattle.cpu.proofs.Inking.{Begun}
use Rattle.cpu.proofs.bits.draw_bits.Given as goal

abbrev pub invariant-loop-x : goal.invariant-loop-x
invariant-loop-x g l =
    let all = bits g.part l.count l.first l.before l.xs l.ys in
    let rest = bits g.part l.count l.n l.last (iter_rest (zip_first l.x-iterator)) (iter_rest (zip_second l.x-iterator)) in
    (goal.iterator-loop-x g).can_next l.x-iterator ×
    (goal.iterator-loop-x g).is_finite l.x-iterator ×
    Begun l.initial.sheet 0 (ink all) l.sheet l.at (ink rest) ×
    (l.at + 2 * length rest ≡ 2 * length all) ×
    (l.n + length rest ≡ l.first + length all) ×
    (length all ≡ l.count * length l.xs)
