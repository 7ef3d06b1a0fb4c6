-- The kinds of words: a word that has a kind is written as that kind; a decimal has none; and the search through the
-- table of kinds, one kind at a time.
use Rattle.std.proofs.Common.{◌≡◌, ℕ, ◌/◌, true, false, List, [], ◌∷◌, Some, None, Option, sym, refl, ap, ◌∙◌, arith}
use Rattle.std.specs.Str.{bytes_eq}
use Rattle.std.proofs.lemmas.Slice.Eq.{bytes_eq-Decides}
use Rattle.std.proofs.lemmas.Bool.{both_ways, cond_both, le-ltb}
use Rattle.words.proofs.Tests.{not_nothing}
use Rattle.text.specs.declared.kinds.Kind.{Kind}
use Rattle.text.specs.declared.kinds.Kind.TheVariants as K
use Rattle.text.specs.Text.{digit, decimal}
use Rattle.text.specs.Kinds.{kind, lookup, kinds, spelled, lettered}
use Rattle.text.proofs.Decimals.{decimal_cases}

-- a word that is found among some kinds is written as the one found
lookup_sound : (w : List ℕ) (ks : List Kind) (k : Kind) → lookup w ks ≡ Some k → w ≡ spelled k
lookup_sound w [] k = λ e. not_nothing k (sym e)
lookup_sound w (j ∷ ks) k = cond_both (bytes_eq w (spelled j)) _ _ (λ (o : Option Kind). o ≡ Some k → w ≡ spelled k)
    (λ t q. let v : j ≡ k = cc in (bytes_eq-Decides w (spelled j)).0 t ∙ ap spelled v)
    (λ t q. lookup_sound w ks k q)

pub kind_sound : (w : List ℕ) (k : Kind) → kind w ≡ Some k → w ≡ spelled k
unfolding kind
kind_sound w k = cond_both (lettered w) (lookup w kinds) None (λ (o : Option Kind). o ≡ Some k → w ≡ spelled k)
    (λ t q. lookup_sound w kinds k q)
    (λ t q. not_nothing k (sym q))

-- a word that begins with a digit has no kind, and so no decimal has one
digit_no_kind : (d : ℕ) (cs : List ℕ) → kind (digit d ∷ cs) ≡ None
unfolding kind
digit_no_kind d cs = rw (le-ltb 96 (digit d) (omega arith))

pub kind_decimal : (n : ℕ) → kind (decimal n) ≡ None
kind_decimal n = decimal_cases (λ w. kind w ≡ None) n (λ _. digit_no_kind n _) (λ _ _. digit_no_kind (n / 10) _) (λ _ _. digit_no_kind (n / 100) _) (λ _ _. digit_no_kind (n / 1000) _) (λ _. digit_no_kind (n / 10000) _)

all_lettered : (k : Kind) → lettered (spelled k) ≡ true
all_lettered K.Num = refl
all_lettered K.Loc = refl
all_lettered K.Glob = refl
all_lettered K.Cell = refl
all_lettered K.Add = refl
all_lettered K.Sub = refl
all_lettered K.Nand = refl
all_lettered K.Less = refl
all_lettered K.Half = refl
all_lettered K.Call = refl
all_lettered K.Skip = refl
all_lettered K.Then = refl
all_lettered K.SetLoc = refl
all_lettered K.SetGlob = refl
all_lettered K.SetCell = refl
all_lettered K.If = refl
all_lettered K.While = refl
all_lettered K.Out = refl
all_lettered K.Take = refl
all_lettered K.Program = refl
all_lettered K.Proc = refl

-- the search through all kinds gives the kind
pub kind_lookup : (w : List ℕ) → lookup w kinds ≡ kind w
unfolding kind
kind_lookup w = cond_both (lettered w) (lookup w kinds) None (λ (o : Option Kind). lookup w kinds ≡ o) (λ t. refl) (λ t. go (lookup w kinds) refl t)
  where
    go : (o : Option Kind) → lookup w kinds ≡ o → lettered w ≡ false → o ≡ None
    go None e t = refl
    go (Some k) e t = absurd (both_ways (lettered w) t (ap lettered (lookup_sound w kinds k e) ∙ all_lettered k))
