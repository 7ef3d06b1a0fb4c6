use Rattle.std.proofs.Common.{◌≡◌, ℕ, ◌+◌, Bool, List, map, length, ap, ◌∙◌, subst, arith}
use Rattle.words.specs.Words.{bit_at}
use Rattle.circuit.specs.Circuit.{inputs, settle, AllBelow, input_signals}
use Rattle.circuit.specs.Sheet.{pairs, levels}
use Rattle.board.specs.Slices.{bytes, Shown}
use Rattle.board.proofs.Bytes.{levels_of, clean_of}
use Rattle.board.proofs.Settling.{settled}
use Rattle.board.proofs.cycle.evaluate.Goals as goal

pub settle_gates-requires-clause-clean : goal.settle_gates-requires-clause-clean
settle_gates-requires-clause-clean c = clean_of _ (inputs c.args.read c.args.ahead (levels c.args.state.now)) c.lay_inputs.ensures

pub invariant_of-pins : goal.invariant_of-pins
invariant_of-pins c =
    let same : c.args.parts.signals ≡ length c.settle_gates.new.work = omega arith in
    record { clean = clean_of _ _ c.settle_gates.ensures; there = subst (λ (n : ℕ). AllBelow c.args.parts.pins.now n) same c.args.parts.sound.pins_sound }

pub invariant_of-next : goal.invariant_of-next
invariant_of-next c =
    let same : c.args.parts.signals ≡ length c.settle_gates.new.work = omega arith in
    record { clean = clean_of _ _ c.settle_gates.ensures; there = subst (λ (n : ℕ). AllBelow c.args.parts.next.now n) same c.args.parts.sound.next_sound }

pub returns : goal.returns
returns c =
    let levels-in = inputs c.args.read c.args.ahead (levels c.args.state.now) in
    let all = levels_of _ (settle (pairs c.args.parts.wires.now) levels-in) (settled c.args.parts.wires.now c.lay_inputs.new.work _ (input_signals + length c.args.state.now) levels-in c.lay_inputs.ensures c.settle_gates.ensures) in
    record {
      shown = subst (λ (v : List Bool). Shown (map (bit_at v) c.args.parts.pins.now) c.read_pins-shown.result) all c.read_pins-shown.ensures;
      next = c.latch.ensures ∙ ap (λ (v : List Bool). bytes (map (bit_at v) c.args.parts.next.now)) all;
    }
