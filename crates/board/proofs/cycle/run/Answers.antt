use Rattle.std.proofs.Common.{◌≡◌, suc, ◌+◌, ◌-◌, length, sym, ◌∙◌, inr, arith}
use Rattle.board.proofs.Along.{along_none, along_more, halts, along_all}
use Rattle.board.proofs.cycle.run.Goals as goal

pub returns-in_err-port : goal.returns-in_err-port
returns-in_err-port c =
    let t = c.loop-done in
    let n : c.args.cycles - t._done ≡ suc (c.args.cycles - (t._done + 1)) = omega arith in
    let l : length t.out ≡ length c.args.out.now = omega arith in
    rw c.from_residual.ensures (along_none _ _ _ _ t.state t.mem c.args.tape.now c.args.out.now t.out t.port t.invariant n l c.in_err-port.ensures)

pub loop-done-preserved : goal.loop-done-preserved
loop-done-preserved c =
    let t = c.loop-done in
    let after = c.one_cycle.new in
    let n : c.args.cycles - t._done ≡ suc (c.args.cycles - (t._done + 1)) = omega arith in
    let l : length t.out ≡ length c.args.out.now = omega arith in
    let k : length after.out ≡ length c.args.out.now = omega arith in
    let went = c.in_ok-port.ensures in
    along_more _ _ _ _ t.state t.mem after.state after.mem c.args.tape.now c.args.out.now t.out after.out t.port c.in_ok-port.port
    t.invariant n l k went.0 went.1 went.2

pub returns-then-is_some : goal.returns-then-is_some
returns-then-is_some c =
    let t = c.loop-done in
    along_all _ _ _ t.state t.mem c.args.tape.now c.args.out.now t.out t.port t.invariant (inr (halts t.port.halted (sym c.is_some.ensures ∙ c.if-is_some.true)))
