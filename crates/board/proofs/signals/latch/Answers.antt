use Rattle.std.proofs.Common.{◌<◌, length, arith}
use Rattle.board.proofs.Filling.{latch_more}
use Rattle.board.proofs.Wiring.{below_at}
use Rattle.board.proofs.signals.latch.Goals as goal

pub bounds-next-signal : goal.bounds-next-signal
bounds-next-signal c = below_at _ _ _ c.args.next.there c.loop-i-test.true

pub loop-i-preserved : goal.loop-i-preserved
loop-i-preserved c =
    let k : c.loop-i.i < length c.loop-i.state = omega arith in
    latch_more c.args.next.levels.now c.loop-i.state c.args.next.signals.now _ c.loop-i.i c.args.next.clean k c.loop-i-test.true c.loop-i.invariant
