use Rattle.std.proofs.Common.{◌≡◌, ◌+◌, ◌*◌, ◌<◌, [], length, get_or, ap, ◌∙◌, arith}
use Rattle.std.proofs.lemmas.List.{length-append}
use Rattle.std.specs.Iterator.Adapters.{enumerate_source, enumerate_count}
use Rattle.std.specs.Slice.Iter.{chunks_exact_rest}
use Rattle.cpu.proofs.PortLoops.{chosen_more, chosen_all, level_next, level_none}
use Rattle.cpu.proofs.ports.draw_level.Goals as goal

pub loop-i-preserved : goal.loop-i-preserved
loop-i-preserved c =
    let s = c.loop-i.i-iterator in
    let t = c.next.new.self in
    let step = c.in-Some.ensures.steps in
    let i = c.in-Some.i in
    let k = enumerate_count s in
    let k' = enumerate_count t in
    let pair = c.in-Some.pair.now in
    let y = get_or pair 1 [] in
    let x = get_or pair 0 [] in
    let ws = chunks_exact_rest (enumerate_source t) in
    let us = chunks_exact_rest (enumerate_source s) in
    let n = c.args.first + 48 * i in
    let n' = c.args.first + 48 * k' in
    let two : length c.in-Some.pair.now ≡ 2 = step.0.1.1 ∙ c.loop-i.invariant.0 in
    let ly : length (get_or c.in-Some.pair.now 1 []) ≡ 16 = omega arith in
    let lx : length (get_or c.in-Some.pair.now 0 []) ≡ 16 = omega arith in
    let next : c.args.first + 48 * i + 48 ≡ c.args.first + 48 * k' = omega arith in (
      step.0.0 ∙ c.loop-i.invariant.0,
      omega (arith, ap length step.0.1.0, length-append pair ws),
      chosen_more n c.args.line.0 c.args.line.1 y x step.1 step.2 ly lx (level_next n n' c.args.line.0 c.args.line.1 pair ws us next step.0.1.0 two ly lx) (omega arith) c.draw_mux.ensures (rw step.1 c.loop-i.invariant.2),
    )

pub returns : goal.returns
returns c =
    let s = c.loop-i.i-iterator in
    let k = enumerate_count s in
    let us = chunks_exact_rest (enumerate_source s) in
    let n = c.args.first + 48 * k in
    let ended : length (chunks_exact_rest (enumerate_source c.loop-i.i-iterator)) < 2 = omega (arith, c.in-None.ensures.steps.0.1.0, c.loop-i.invariant.0) in
    chosen_all c.loop-i.invariant.2 (level_none n c.args.line.0 c.args.line.1 us ended)
