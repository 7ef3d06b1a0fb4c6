use Rattle.std.proofs.Common.{◌≡◌, length, ap, arith}
use Rattle.std.specs.Iterator.Adapters.{zip_first, zip_second}
use Rattle.std.specs.Slice.Iter.{iter_rest}
use Rattle.std.proofs.lemmas.Slice.Zip.{Zip-more, either_empty_from_Zip}
use Rattle.cpu.specs.Bits.{bits}
use Rattle.cpu.specs.Ink.{ink}
use Rattle.cpu.proofs.BitByBit.{bits_size, bits_start, bits_length, bits_begun, bits_none}
use Rattle.cpu.proofs.Inking.{begun_all, ink_length}
use Rattle.cpu.proofs.bits.draw_bits.Goals as goal

pub loop-x-preserved : goal.loop-x-preserved
loop-x-preserved g c =
    let k = c.args.count in
    let n = c.loop-x.n in
    let b = c.loop-x.last in
    let x = c.in-Some.x.now in
    let y = c.in-Some.y.now in
    let next = Zip-more c.loop-x.x-iterator c.next.new.self c.next.result (c.in-Some.x, c.in-Some.y) c.in-Some.is c.next.ensures.steps in
    let size = c.requires.1.1.0.size n b x y in
    let long = bits_length g.part k n b next.0 next.1 size in (
      (tt, tt),
      tt,
      bits_begun g.part k n b next.0 next.1 size (omega arith) c.loop-x.invariant.2 (c.requires.1.1.0.draws _ _ _ _ _ _ c.draw.ensures),
      omega arith,
      omega arith,
      c.loop-x.invariant.5,
    )

pub loop-x-init : goal.loop-x-init
loop-x-init g c =
    let xs = c.args.xs.now in
    let ys = c.args.ys.now in
    let size = bits_size g.part c.args.count c.requires.1.1.0.size c.args.first c.args.before xs ys c.requires.1.1.1.0 in
    let us : iter_rest (zip_first c.into_iter-x-iterator.result) ≡ xs = cc in
    let vs : iter_rest (zip_second c.into_iter-x-iterator.result) ≡ ys = cc in
    ((tt, tt), tt, bits_start g.part c.args.count c.args.first c.args.before xs ys _ _ c.args.sheet.now us vs, rw (us, vs) (omega arith), rw (us, vs) (omega arith), size)

pub returns : goal.returns
returns g c =
    let k = c.args.count in
    let us = iter_rest (zip_first c.loop-x.x-iterator) in
    let vs = iter_rest (zip_second c.loop-x.x-iterator) in
    let all = bits g.part k c.args.first c.args.before c.args.xs.now c.args.ys.now in
    let rest = bits g.part k c.loop-x.n c.loop-x.last us vs in
    let none = bits_none g.part k c.loop-x.n c.loop-x.last us vs (either_empty_from_Zip c.loop-x.x-iterator c.next.new.self c.next.result c.in-None.is c.next.ensures.steps) in
    let l = ap length none in
    begun_all {all = ink all} c.loop-x.invariant.2 (ap ink none) (omega (arith, ink_length all, c.loop-x.invariant.3))
