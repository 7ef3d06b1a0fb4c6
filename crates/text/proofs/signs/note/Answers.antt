use Rattle.text.proofs.Noting.{noted}
use Rattle.text.proofs.signs.note.Goals as goal

pub returns : goal.returns
returns c =
    let p = c.try_push in let e = p.ensures in
    noted p.result c.args.notes.now p.new.self c.args.n e.variant.0 e.ok e.err e.full
