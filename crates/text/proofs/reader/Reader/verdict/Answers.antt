use Rattle.std.proofs.Common.{◌≡◌, false, ◌&&◌, leb, sym, ⊎_elim}
use Rattle.std.proofs.lemmas.Bool.{and_from, and_left, and_right, le-leb, lt-leb}
use Rattle.text.specs.Text.{most_signs}
use Rattle.text.proofs.Judging.{judged_undone, judged_limits, judged_program}
use Rattle.text.proofs.reader.Reader.verdict.Goals as goal

pub returns-then-not-is_done : goal.returns-then-not-is_done
returns-then-not-is_done c = λ s e. judged_undone s c.args.self e (sym c.if-not-is_done.ensures)

pub returns-then-self-le-MOST_SIGNS : goal.returns-then-self-le-MOST_SIGNS
returns-then-self-le-MOST_SIGNS c = λ s e.
    let a = c.args.self in
    judged_program s a e (sym c.if-not-is_done.ensures) (and_from a.fits (leb a.signs most_signs) c.if-self.true (le-leb a.signs most_signs c.if-self-le-MOST_SIGNS.true))

pub returns-else-self : goal.returns-else-self
returns-else-self c = λ s e.
    let a = c.args.self in
    let no : a.fits && leb a.signs most_signs ≡ false = ⊎_elim (λ h. and_right a.fits (leb a.signs most_signs) (lt-leb a.signs most_signs h.1)) (λ h. and_left a.fits (leb a.signs most_signs) h) c.else-self.either in
    judged_limits s a e (sym c.if-not-is_done.ensures) no
