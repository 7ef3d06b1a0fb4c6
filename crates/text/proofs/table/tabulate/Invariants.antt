use Rattle.std.proofs.Common.{◌≡◌, List, length}
use Rattle.language.specs.Language.{Proc}
use Rattle.text.specs.Table.{ProcsAt}
use Rattle.text.proofs.Tables.{Tabled}
use Rattle.text.proofs.table.tabulate.Given as goal

abbrev pub invariant-loop-entry : goal.invariant-loop-entry
invariant-loop-entry l = record {
  tabled : (ps : List Proc) → length ps ≡ l.fn.count → ProcsAt l.fn.nodes 0 ps → Tabled l.fn.nodes l.entry-items l.at l.entry-index ps;
  size : length l.entry-items ≡ l.fn.count;
}
