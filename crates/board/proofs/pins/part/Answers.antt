use Rattle.std.proofs.Common.{◌-◌, ◌≤◌, length, take, drop, sym, ap, ◌∙◌, arith}
use Rattle.std.proofs.lemmas.List.{take-map, drop-map, length-take-le, length-drop}
use Rattle.words.specs.Words.{bit_at}
use Rattle.circuit.specs.Sheet.{levels}
use Rattle.board.proofs.Wiring.{below_take, below_drop}
use Rattle.board.proofs.pins.part.Goals as goal

pub invariant_of-result : goal.invariant_of-result
invariant_of-result c = record { clean = c.args.lines.clean; there = below_take _ _ (c.args.to - c.args.from) (below_drop _ _ c.args.from c.args.lines.there) }

pub returns : goal.returns
returns c =
    let f = bit_at (levels c.args.lines.levels.now) in
    let signals = c.args.lines.signals.now in
    let n = c.args.to - c.args.from in
    let l : n ≤ length (drop c.args.from signals) = omega (arith, length-drop c.args.from signals) in
    record {
      count = length-take-le n (drop c.args.from signals) l;
      shown = sym (take-map f n (drop c.args.from signals)) ∙ ap (take n) (sym (drop-map f c.args.from signals));
    }
