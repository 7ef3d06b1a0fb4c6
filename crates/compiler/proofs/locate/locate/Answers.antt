use Rattle.std.proofs.Common.{ℕ, List, map, ap, ◌∙◌}
use Rattle.signs.specs.Signs.{locate_signs}
use Rattle.signs.proofs.Righted.{right_signs}
use Rattle.compiler.specs.Pairs.{pairs}
use Rattle.compiler.proofs.Lists.{words_listed, places_listed, pairs_of}
use Rattle.compiler.proofs.locate.locate.Goals as goal

pub returns : goal.returns
returns c =
    let l = c.in_ok-parsed.ensures in let g = l.program in
    let e = words_listed c.args.text.now g c.as_slice.result.now l.reads l.held.within (c.as_slice.ensures.value ∙ c.sign_words-words.ensures) in
    let e' = places_listed g c.as_slice-2.result.now l.held.within (c.as_slice-2.ensures.value ∙ c.place_signs-places.ensures g l.held) in
    record {
      program = g;
      reads = l.reads;
      within = l.held.within;
      signs_are = c.side_by_side.ensures ∙ ap (λ (ws : List ℕ). pairs ws c.as_slice-2.result.now) e ∙ ap (pairs (map (λ x. x.word) (locate_signs g))) e' ∙ pairs_of (locate_signs g);
      right = right_signs c.args.text.now g l.reads l.held.within;
    }
