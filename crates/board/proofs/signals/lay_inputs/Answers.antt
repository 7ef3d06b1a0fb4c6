use Rattle.std.proofs.Common.{◌≡◌, ◌+◌, ◌-◌, length, arith}
use Rattle.board.proofs.Filling.{inputs_laid}
use Rattle.board.proofs.signals.lay_inputs.Goals as goal

pub returns : goal.returns
returns c =
    let k : 34 + length c.args.state.now - 34 ≡ length c.args.state.now = omega arith in
    inputs_laid c.args.work.now c.lay_word.new.lines c.lay_word-2.new.lines c.lay_state.new.lines c.args.state.now _ c.args.read c.args.front
    c.requires.room k c.lay_word.ensures c.lay_word-2.ensures c.lay_state.ensures c.requires.clean
