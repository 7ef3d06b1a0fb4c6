use Rattle.std.proofs.Common.{◌≡◌, ℕ, length, ap, ◌∙◌, subst}
use Rattle.std.proofs.lemmas.List.{length-map}
use Rattle.words.specs.Words.{bit_at}
use Rattle.words.specs.Endings.{halt_code, Decodes}
use Rattle.circuit.specs.Sheet.{levels}
use Rattle.board.specs.Slices.{on_signals}
use Rattle.board.proofs.PinWords.{ending_from}
use Rattle.board.proofs.pins.ending_on.Goals as goal

pub returns : goal.returns
returns c =
    let v = on_signals c.args.lines.levels.now c.args.lines.signals.now in
    let two : length v ≡ 2 = length-map c.args.lines.signals.now (bit_at (levels c.args.lines.levels.now)) ∙ c.requires in
    ap halt_code c.ok.ensures.value ∙ ending_from v c.try_from.result two (subst (λ (n : ℕ). Decodes n c.try_from.result) c.word_on.ensures c.try_from.ensures)
