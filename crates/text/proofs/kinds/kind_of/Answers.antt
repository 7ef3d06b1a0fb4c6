use Rattle.std.proofs.Common.{rules, tests, sym, ◌∙◌}
use Rattle.std.specs.Str.{bytes_eq}
use Rattle.std.proofs.lemmas.Iterator.{YieldsList-from_slice}
use Rattle.std.proofs.lemmas.Iterator.Adapters.{option_map_id}
use Rattle.std.proofs.lemmas.Iterator.Consumers.{YieldsList-from_copied, YieldsList-at}
use Rattle.std.proofs.lemmas.Iterator.Search.{find_from_yields_List}
use Rattle.text.specs.Kinds.{kinds, spelled}
use Rattle.text.proofs.Spellings.{kind_lookup}
use Rattle.text.proofs.kinds.kind_of.Goals as goal

pub returns : goal.returns
returns c =
    let w = c.args.w.now in
    sym (option_map_id c.find.result)
    ∙ find_from_yields_List (λ k. bytes_eq w (spelled k)) _ _ c.find.result c.find.ensures.ran (YieldsList-from_copied (YieldsList-at c.copied.ensures.source (YieldsList-from_slice kinds cc))) (λ x b q k. search (rules, tests))
    ∙ kind_lookup w
