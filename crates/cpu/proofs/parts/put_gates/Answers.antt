use Rattle.std.proofs.Common.{◌≡◌, ◌+◌, ◌*◌, [], ◌∷◌, ◌++◌, get_or, drop, ap, arith}
use Rattle.std.proofs.lemmas.List.{drop_more}
use Rattle.cpu.specs.Ink.{ink}
use Rattle.cpu.proofs.Inking.{begun_more, put_two}
use Rattle.cpu.proofs.parts.put_gates.Goals as goal

pub loop-i-preserved : goal.loop-i-preserved
loop-i-preserved c =
    let gates = c.args.gates.now in
    let i = c.loop-i.i in
    let w = c.loop-i.sheet in
    let g = get_or gates i (0, 0) in
    let m : 2 * c.loop-i.i + 2 ≡ 2 * (c.loop-i.i + 1) = omega arith in
    let e : ink (drop c.loop-i.i c.args.gates.now) ≡ (g.0 ∷ (g.1 ∷ [])) ++ ink (drop (c.loop-i.i + 1) c.args.gates.now) = ap ink (drop_more gates i (0, 0) c.loop-i-test.true) in
    begun_more c.loop-i.invariant e (put_two w (2 * i) g.0 g.1 (omega arith)) m
