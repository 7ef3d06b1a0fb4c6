use Rattle.std.proofs.Common.{◌+◌, sym, refl, subst, arith}
use Rattle.circuit.specs.Circuit.{SoundGates, AllBelow, input_signals}
use Rattle.circuit.specs.Sheet.{pairs}
use Rattle.board.proofs.Cuts.{wires_part, next_part, pins_part}
use Rattle.board.proofs.sheet.cut.Goals as goal
use Rattle.board.proofs.sheet.cut.Goals.{then-not-gates_sound-via-then-not-gates_sound, then-not-gates_sound-via-else-not-gates_sound+then-not-all_below, then-not-gates_sound-via-else-not-gates_sound+else-not-all_below+then-not-all_below-2}

pub returns : goal.returns
returns c =
    let sh = c.args.sheet.now in
    let f = c.args.flops in
    let k = c.args.gates in
    record {
      sound = record {
        long = omega arith;
        gates = subst (λ t. SoundGates (pairs t) (input_signals + f)) (wires_part sh f k) c.if-not-gates_sound.ensures;
        next = subst (λ t. AllBelow t (input_signals + (f + k))) (next_part sh f k) c.if-not-all_below.ensures;
        pins = subst (λ t. AllBelow t (input_signals + (f + k))) (pins_part sh f k) c.if-not-all_below-2.ensures;
      };
      wires_is = wires_part sh f k;
      next_is = next_part sh f k;
      pins_is = pins_part sh f k;
      signals_is = refl;
    }

pub returns-then-not-gates_sound : goal.returns-then-not-gates_sound
returns-then-not-gates_sound c = λ s.
    let sh = c.args.sheet.now in
    let f = c.args.flops in
    let k = c.args.gates in
    elim c.then-not-gates_sound.branch [
      | then-not-gates_sound-via-then-not-gates_sound w ↦ w.if-not-gates_sound.ensures (subst (λ t. SoundGates (pairs t) (input_signals + f)) (sym (wires_part sh f k)) s.gates)
      | then-not-gates_sound-via-else-not-gates_sound+then-not-all_below w ↦ w.if-not-all_below.ensures (subst (λ t. AllBelow t (input_signals + (f + k))) (sym (next_part sh f k)) s.next)
      | then-not-gates_sound-via-else-not-gates_sound+else-not-all_below+then-not-all_below-2 w ↦ w.if-not-all_below-2.ensures (subst (λ t. AllBelow t (input_signals + (f + k))) (sym (pins_part sh f k)) s.pins)
    ]
