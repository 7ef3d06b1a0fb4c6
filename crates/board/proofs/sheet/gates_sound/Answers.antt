use Rattle.std.proofs.Common.{◌≡◌, suc, ◌+◌, ◌*◌, ◌/◌, ◌<◌, ◌≤◌, length, sym, subst, arith}
use Rattle.circuit.specs.Circuit.{SoundGates}
use Rattle.board.proofs.Wiring.{gate_in, sound_more, sound_back, pairs_none}
use Rattle.board.proofs.sheet.gates_sound.Goals as goal
use Rattle.board.proofs.sheet.gates_sound.Goals.{then-one-base-via-then-one-base, then-one-base-via-else-one-base+then-other-base}

pub returns-then-one-base : goal.returns-then-one-base
returns-then-one-base c = λ s.
    let l : c.loop-i.i < length c.args.wires.now / 2 = omega (arith, c.as_chunks.ensures.front_len) in
    let gate = gate_in c.args.wires.now c.as_chunks.result.0.now c.loop-i.i c.as_chunks.ensures.front l in
    let g = sound_more _ _ _ gate.there (c.loop-i.invariant.1 s) in
    elim c.then-one-base.branch [
      | then-one-base-via-then-one-base w ↦ omega (arith, g.0, gate.one)
      | then-one-base-via-else-one-base+then-other-base w ↦ omega (arith, g.1, gate.other)
    ]

pub loop-i-preserved : goal.loop-i-preserved
loop-i-preserved c =
    let l : c.loop-i.i < length c.args.wires.now / 2 = omega (arith, c.as_chunks.ensures.front_len) in
    let gate = gate_in c.args.wires.now c.as_chunks.result.0.now c.loop-i.i c.as_chunks.ensures.front l in
    let e2 : 2 * c.loop-i.i + 2 ≡ 2 * (c.loop-i.i + 1) = omega arith in
    let e1 : suc (c.args.base + c.loop-i.i) ≡ c.args.base + (c.loop-i.i + 1) = omega arith in
    simp (← e2, ← e1) (
      λ s. c.loop-i.invariant.0 (sound_back _ _ _ gate.there (omega (arith, gate.one)) (omega (arith, gate.other)) s),
      λ s. (sound_more _ _ _ gate.there (c.loop-i.invariant.1 s)).2,
    )

pub returns : goal.returns
returns c =
    let l : length c.args.wires.now ≤ 2 * c.loop-i.i + 1 = omega (arith, c.as_chunks.ensures.front_len) in
    c.loop-i.invariant.0 (subst (λ g. SoundGates g (c.args.base + c.loop-i.i)) (sym (pairs_none c.args.wires.now (2 * c.loop-i.i) l)) tt)
