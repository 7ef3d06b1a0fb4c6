use Rattle.std.proofs.Common.{◌≡◌, ◌+◌, ◌*◌, length, None, refl, ap, arith}
use Rattle.std.specs.Iterator.Adapters.{enumerate_source, enumerate_count, zip_first, zip_second}
use Rattle.std.specs.Slice.Iter.{iter_rest}
use Rattle.std.proofs.lemmas.Slice.Zip.{either_empty_from_Zip}
use Rattle.cpu.proofs.PortLoops.{chosen_more, chosen_all, keep_next, keep_none}
use Rattle.cpu.proofs.ports.draw_keep.Goals as goal

pub loop-i-preserved : goal.loop-i-preserved
loop-i-preserved c =
    let s = c.loop-i.i-iterator in
    let t = c.next.new.self in
    let step = c.in-Some.ensures.steps in
    let i = c.in-Some.i in
    let k' = enumerate_count t in
    let line = c.in-Some.field-0-1-0.now in
    let d = c.args.word.now in
    let x = c.in-Some.kept.now in
    let n = c.args.first + 48 * i in
    let n' = c.args.first + 48 * k' in
    let ld : length d ≡ 16 = omega arith in
    let lx : length x ≡ 16 = omega arith in
    let next : c.args.first + 48 * i + 48 ≡ c.args.first + 48 * k' = omega arith in (
      omega (arith, ap length step.0.1),
      chosen_more n line.0 line.1 d x step.1 step.2 ld lx (keep_next n n' d next step.0.0 step.0.1 ld lx) (omega arith) c.draw_mux.ensures (rw step.1 c.loop-i.invariant.1),
    )

pub returns : goal.returns
returns c =
    let s = c.loop-i.i-iterator in
    let k = enumerate_count s in
    let us = iter_rest (zip_first (enumerate_source s)) in
    let vs = iter_rest (zip_second (enumerate_source s)) in
    let n = c.args.first + 48 * k in
    let ended = either_empty_from_Zip (enumerate_source s) (enumerate_source c.next.new.self) None refl c.in-None.ensures.steps.0 in
    chosen_all c.loop-i.invariant.1 (keep_none n us c.args.word.now vs ended)
