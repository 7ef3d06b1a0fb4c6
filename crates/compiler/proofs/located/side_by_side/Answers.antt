use Rattle.std.proofs.Common.{◌++◌, sym, ap, ◌∙◌, append-nil}
use Rattle.std.proofs.lemmas.Slice.Zip.{either_empty_from_Zip}
use Rattle.compiler.proofs.Lists.{none_left}
use Rattle.compiler.proofs.located.side_by_side.Goals as goal

pub returns : goal.returns
returns c =
    let l = c.loop-word in
    let none = none_left l.word-iterator.a.rest.now l.word-iterator.b.rest.now (either_empty_from_Zip l.word-iterator c.next.new.self c.next.result c.in-None.is c.next.ensures.steps) in
    sym (append-nil l.signs.items) ∙ sym (ap (λ xs. l.signs.items ++ xs) none) ∙ l.invariant.all
