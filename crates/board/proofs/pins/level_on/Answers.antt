use Rattle.std.proofs.Common.{sym, ◌∙◌}
use Rattle.words.specs.Words.{bit_at}
use Rattle.circuit.specs.Sheet.{levels}
use Rattle.board.proofs.Bytes.{bit_at_levels, not_zero}
use Rattle.board.proofs.Wiring.{below_at}
use Rattle.board.proofs.PinWords.{bit_at_map}
use Rattle.board.proofs.pins.level_on.Goals as goal

pub bounds-lines-lines : goal.bounds-lines-lines
bounds-lines-lines c = below_at _ _ _ c.args.lines.there c.requires

pub returns : goal.returns
returns c = not_zero _ ∙ (sym (bit_at_levels c.args.lines.levels.now _) ∙ sym (bit_at_map (bit_at (levels c.args.lines.levels.now)) _ _ c.requires))
