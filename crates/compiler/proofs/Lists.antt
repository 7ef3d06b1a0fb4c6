-- Words and places of signs side by side: when none is left; and those of the signs of a program, for which there is room.
use Rattle.std.proofs.Common.{◌≡◌, ℕ, ◌≤◌, T, List, [], ◌∷◌, map, length, sym, refl, ap, ◌∙◌, inl, inr, ◌⊎◌, arith}
use lib.ListN.{length-map}
use Rattle.language.specs.Language.{Program}
use Rattle.language.specs.Limits.{fits}
use Rattle.language.specs.Nodes.{most_nodes}
use Rattle.codegen.specs.Codegen.{first_proc}
use Rattle.codegen.proofs.Limits.{within_limits}
use Rattle.text.specs.Signs.{room, sign_words}
use Rattle.text.specs.Text.{Reads, words}
use Rattle.text.proofs.Noting.{room_all}
use Rattle.signs.specs.Places.{sign_places}
use Rattle.signs.specs.Signs.{Located as Sign, locate_signs}
use Rattle.signs.proofs.Located.{count_procs, procs_places}
use Rattle.signs.proofs.Worded.{program_worded}
use Rattle.compiler.specs.declared.located.SignPlace.{SignPlace}
use Rattle.compiler.specs.Pairs.{pairs}
use Rattle.compiler.specs.Locates.{spot}

room_mapped : (f : Sign → ℕ) (signs : List Sign) → length signs ≤ most_nodes → room (map f signs) ≡ map f signs
room_mapped f signs h = room_all (map f signs) (omega (arith, length-map signs f))

-- where words or places have come to their end, no pair is left
pub none_left : (words places : List ℕ) → (words ≡ []) ⊎ (places ≡ []) → pairs words places ≡ []
none_left words places (inl e) = rw e refl
none_left [] places (inr e) = refl
none_left (w ∷ words) places (inr e) = rw e refl

pub pairs_of : (signs : List Sign) → pairs (map (λ x. x.word) signs) (map (λ x. x.place) signs) ≡ map spot signs
pairs_of [] = refl
pairs_of (x ∷ signs) = ap (λ (l : List SignPlace). spot x ∷ l) (pairs_of signs)

-- Of a program within the limits.
few_signs : (g : Program) → T (fits g) → length (locate_signs g) ≤ most_nodes
few_signs g h = omega (arith, count_procs g.procs 4 first_proc, (within_limits g h).few_signs)

pub words_listed : (s : List ℕ) (g : Program) (m : List ℕ) → Reads s g → T (fits g) → m ≡ room (sign_words 0 (words s)) → m ≡ map (λ x. x.word) (locate_signs g)
words_listed s g m r h e = e ∙ ap room (program_worded s g r) ∙ room_mapped (λ x. x.word) (locate_signs g) (few_signs g h)

pub places_listed : (g : Program) (m : List ℕ) → T (fits g) → m ≡ room (sign_places g) → m ≡ map (λ x. x.place) (locate_signs g)
places_listed g m h e = e ∙ ap room (sym (procs_places g.procs 4 first_proc)) ∙ room_mapped (λ x. x.place) (locate_signs g) (few_signs g h)
