use Rattle.std.proofs.Common.{◌≡◌, ℕ, ◌≤◌, map, length, take, refl, ap, subst, arith}
use Rattle.std.proofs.lemmas.List.{length-take-le}
use Rattle.words.specs.Words.{bit_at}
use Rattle.words.specs.Endings.{halt_code}
use Rattle.circuit.specs.Circuit.{settle, inputs, pin_levels, signals}
use Rattle.board.specs.Slices.{bytes, circuit_of, Shown, standing}
use Rattle.board.specs.declared.cycle.Port.{Port}
use Rattle.board.proofs.Bytes.{levels_of, clean_of}
use Rattle.board.proofs.Ticking.{ticked, emits}
use Rattle.board.proofs.cycle.one_cycle.Goals as goal

pub returns : goal.returns
returns c =
    let k = circuit_of c.args.parts.wires.now c.args.parts.next.now c.args.parts.pins.now in
    let p = c.args.port in
    let b = standing c.args.state.now c.args.mem.now c.args.tape.now c.args.out.now p in
    let shown : Shown (pin_levels k b) c.evaluate-shown.result =
    subst (λ (t : ℕ). Shown (map (bit_at (settle k.gates (inputs p.read t b.state))) k.pins) c.evaluate-shown.result) c.front_word-ahead.ensures c.evaluate-shown.ensures.shown in
    let next : c.evaluate-shown.new.state ≡ bytes (map (bit_at (signals k b)) k.next) =
    subst (λ (t : ℕ). c.evaluate-shown.new.state ≡ bytes (map (bit_at (settle k.gates (inputs p.read t b.state))) k.next)) c.front_word-ahead.ensures c.evaluate-shown.ensures.next in
    let put = c.in_ok-sent.ensures in
    let after : Port = record { read = c.access-read.result; taken = c.move_tape-taken.result; sent = c.in_ok-sent.sent; halted = c.evaluate-shown.result.halted } in (
      ticked k b c.evaluate-shown.new.state c.access-read.new.mem c.args.tape.now c.put_out.new.out after c.evaluate-shown.result
          (ap halt_code c.requires.going) shown (levels_of _ (map (bit_at (signals k b)) k.next) next)
          c.access-read.ensures.mem c.access-read.ensures.read c.move_tape-taken.ensures.left put.0 refl,
      clean_of _ (map (bit_at (signals k b)) k.next) next,
      record { taken = c.move_tape-taken.ensures.within; sent = put.1; left = put.2 },
    )

pub returns-in_err-sent : goal.returns-in_err-sent
returns-in_err-sent c =
    let k = circuit_of c.args.parts.wires.now c.args.parts.next.now c.args.parts.pins.now in
    let p = c.args.port in
    let out = c.args.out.now in
    let b = standing c.args.state.now c.args.mem.now c.args.tape.now out p in
    let shown : Shown (pin_levels k b) c.evaluate-shown.result =
    subst (λ (t : ℕ). Shown (map (bit_at (settle k.gates (inputs p.read t b.state))) k.pins) c.evaluate-shown.result) c.front_word-ahead.ensures c.evaluate-shown.ensures.shown in
    let full = c.in_err-sent.ensures in
    let l : length out ≤ length (take p.sent out) = omega (arith, full.1, length-take-le p.sent out c.requires.sent) in
    rw c.from_residual.ensures (emits k b c.evaluate-shown.result (length out) (ap halt_code c.requires.going) shown full.0 l)
