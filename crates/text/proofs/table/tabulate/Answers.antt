use Rattle.std.proofs.Common.{◌∙◌, arith}
use Rattle.text.proofs.Tables.{next_proc, next_inside, tabled_more, tabled_all, entries_past}
use Rattle.text.proofs.table.tabulate.Goals.{in-Proc, in_default}
use Rattle.text.proofs.table.tabulate.Goals as goal

pub offset_bounds-nodes-at : goal.offset_bounds-nodes-at
offset_bounds-nodes-at c = omega (arith, next_inside c.args.nodes.now c.loop-entry.entry-items c.loop-entry.at c.loop-entry.entry-index c.args.count c.requires.stand (omega arith) c.loop-entry.invariant.tabled)

pub bounds-nodes-at : goal.bounds-nodes-at
bounds-nodes-at c = omega (arith, next_inside c.args.nodes.now c.loop-entry.entry-items c.loop-entry.at c.loop-entry.entry-index c.args.count c.requires.stand (omega arith) c.loop-entry.invariant.tabled)

pub loop-entry-preserved : goal.loop-entry-preserved
loop-entry-preserved c =
    let i = c.loop-entry.entry-index in let items = c.loop-entry.entry-items in
    record {
      tabled = λ ps l h. elim c.match-node.branch [
        | in-Proc w ↦ rw (w.entry-items-is, w.at-is, w.from-at.ensures) (tabled_more c.args.nodes.now items c.loop-entry.at i ps w.in-Proc.locals w.in-Proc.body w.in-Proc.after (omega (arith, l)) (omega arith) w.in-Proc.is (c.loop-entry.invariant.tabled ps l h))
        | in_default w ↦ absurd (w.in_default.not-Proc _ _ _ (next_proc c.args.nodes.now items c.loop-entry.at i ps (omega (arith, l)) (c.loop-entry.invariant.tabled ps l h)).node)
      ];
      size = c.match-node.auto.entry-items ∙ c.loop-entry.invariant.size;
    }

pub returns : goal.returns
returns c = record {
  holds = λ ps l h. tabled_all c.args.nodes.now c.loop-entry.entry-items _ c.loop-entry.at c.loop-entry.entry-index ps (omega (arith, l)) (omega arith) (c.loop-entry.invariant.tabled ps l h);
  others = entries_past c.loop-entry.entry-items _ c.args.count c.loop-entry.invariant.size;
}
