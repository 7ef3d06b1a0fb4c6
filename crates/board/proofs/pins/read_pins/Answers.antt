use Rattle.std.proofs.Common.{◌≤◌, length, drop, ap, ◌∙◌, arith}
use Rattle.std.proofs.lemmas.List.{take_all, length-drop, length-map}
use Rattle.words.specs.Words.{value, bit_at}
use Rattle.circuit.specs.Circuit.{halt_pins}
use Rattle.circuit.specs.Sheet.{levels}
use Rattle.board.specs.Slices.{on_signals}
use Rattle.board.proofs.pins.read_pins.Goals as goal

pub returns : goal.returns
returns c =
    let p = on_signals c.args.pins.levels.now c.args.pins.signals.now in
    let l : length (drop halt_pins p) ≤ 2 = omega (arith, length-drop halt_pins p, length-map c.args.pins.signals.now (bit_at (levels c.args.pins.levels.now)), c.requires) in
    record {
      address_is = c.word_on-address.ensures ∙ ap value c.part.ensures.shown;
      datum_is = c.word_on-datum.ensures ∙ ap value c.part-2.ensures.shown;
      store_is = c.level_on-store.ensures;
      emit_is = c.level_on-emit.ensures;
      take_is = c.level_on-take.ensures;
      halted_is = c.ending_on-halted.ensures ∙ (ap value c.part-3.ensures.shown ∙ ap value (take_all 2 (drop halt_pins p) l));
    }
