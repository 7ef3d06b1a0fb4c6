use Rattle.std.proofs.Common.{◌/◌, ◌<◌, length, arith}
use Rattle.board.proofs.Wiring.{gate_in, gate_below}
use Rattle.board.proofs.Settling.{pass_more}
use Rattle.board.proofs.signals.settle_gates.Goals as goal

pub bounds-work-one : goal.bounds-work-one
bounds-work-one c =
    let wires = c.args.wires.now in
    let l : c.loop-i.i < length wires / 2 = omega (arith, c.as_chunks.ensures.front_len) in
    let gate = gate_in wires c.as_chunks.result.0.now c.loop-i.i c.as_chunks.ensures.front l in
    omega (arith, (gate_below wires _ c.args.base c.loop-i.i c.requires.sound gate).0)

pub bounds-work-other : goal.bounds-work-other
bounds-work-other c =
    let wires = c.args.wires.now in
    let l : c.loop-i.i < length wires / 2 = omega (arith, c.as_chunks.ensures.front_len) in
    let gate = gate_in wires c.as_chunks.result.0.now c.loop-i.i c.as_chunks.ensures.front l in
    omega (arith, (gate_below wires _ c.args.base c.loop-i.i c.requires.sound gate).1)

pub loop-i-preserved : goal.loop-i-preserved
loop-i-preserved c =
    let wires = c.args.wires.now in
    let l : c.loop-i.i < length wires / 2 = omega (arith, c.as_chunks.ensures.front_len) in
    let gate = gate_in wires c.as_chunks.result.0.now c.loop-i.i c.as_chunks.ensures.front l in
    pass_more wires _ c.loop-i.work c.args.base c.loop-i.i _ c.requires.sound gate (omega (arith, gate.there)) c.loop-i.invariant
