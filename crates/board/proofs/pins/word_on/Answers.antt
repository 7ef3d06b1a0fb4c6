use Rattle.std.proofs.Common.{◌+◌, ◌*◌, ◌<◌, get_or, ap, ◌∙◌, arith, rules}
use Rattle.words.specs.Words.{bit_at}
use Rattle.circuit.specs.Sheet.{levels}
use Rattle.board.proofs.Bytes.{clean_at, bit_low}
use Rattle.board.proofs.Wiring.{below_at}
use Rattle.board.proofs.PinWords.{Turn, turn, word_more, word_low}
use Rattle.board.proofs.pins.word_on.Goals as goal

pub overflow_mul-word : goal.overflow_mul-word
overflow_mul-word c =
    let t : Turn c.args.lines.signals.now _ _ c.in-Some.signal.now = turn _ _ _ _ c.loop-signal.invariant.front c.in-Some.ensures.steps in
    let k : c.loop-signal.word < 32768 = omega (arith, word_low c.args.lines.levels.now _ _ _ _ c.requires t, c.loop-signal.invariant.word) in
    search rules

pub bounds-lines-signal : goal.bounds-lines-signal
bounds-lines-signal c =
    let t : Turn c.args.lines.signals.now _ _ c.in-Some.signal.now = turn _ _ _ _ c.loop-signal.invariant.front c.in-Some.ensures.steps in
    omega (arith, t.pin_is, below_at _ _ _ c.args.lines.there t.within)

pub overflow_add-word : goal.overflow_add-word
overflow_add-word c =
    let t : Turn c.args.lines.signals.now _ _ c.in-Some.signal.now = turn _ _ _ _ c.loop-signal.invariant.front c.in-Some.ensures.steps in
    let k : c.loop-signal.word < 32768 = omega (arith, word_low c.args.lines.levels.now _ _ _ _ c.requires t, c.loop-signal.invariant.word) in
    let pin = c.in-Some.signal.now in
    let y : get_or c.args.lines.levels.now pin 0 < 2 = omega (arith, clean_at c.args.lines.levels.now pin c.args.lines.clean, bit_low (bit_at (levels c.args.lines.levels.now) pin)) in
    search rules

pub loop-signal-preserved : goal.loop-signal-preserved
loop-signal-preserved c =
    let t : Turn c.args.lines.signals.now _ _ c.in-Some.signal.now = turn _ _ _ _ c.loop-signal.invariant.front c.in-Some.ensures.steps in
    record { front = t.front; word = ap (λ n. 2 * c.loop-signal.word + n) c.from.ensures ∙ word_more _ _ _ _ _ _ c.args.lines.clean t c.loop-signal.invariant.word }
