use Rattle.std.proofs.Common.{ltb, subst, sym, rules, tests}
use Rattle.std.proofs.lemmas.Iterator.{YieldsList-from_slice}
use Rattle.std.proofs.lemmas.Iterator.Search.{all_from_yields_List}
use Rattle.circuit.specs.Circuit.{AllBelow}
use Rattle.board.specs.Slices.{Tells}
use Rattle.board.proofs.Wiring.{below_tested}
use Rattle.board.proofs.sheet.all_below.Goals as goal

pub returns : goal.returns
returns c =
    let xs = c.args.numbers.now in
    let n = c.args.signals in
    subst (Tells (AllBelow xs n)) (sym (all_from_yields_List (λ x. ltb x n) _ _ c.all.result c.all.ensures.ran (YieldsList-from_slice xs cc) (λ x b q k. search (rules, tests)))) (below_tested xs n)
