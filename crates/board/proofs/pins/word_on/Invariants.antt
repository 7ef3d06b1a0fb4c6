use Rattle.std.proofs.Common.{◌≡◌, length, take, drop}
use Rattle.std.specs.Iterator.Adapters.{rev_source}
use Rattle.std.specs.Slice.Iter.{iter_rest}
use Rattle.words.specs.Words.{value}
use Rattle.board.specs.Slices.{on_signals}
use Rattle.board.proofs.pins.word_on.Given as goal

abbrev pub invariant-loop-signal : goal.invariant-loop-signal
invariant-loop-signal l =
    let left = iter_rest (rev_source l.signal-iterator) in
    record { front : left ≡ take (length left) l.lines.signals.now; word : l.word ≡ value (on_signals l.lines.levels.now (drop (length left) l.lines.signals.now)) }
