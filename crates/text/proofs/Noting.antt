-- Numbers noted behind others, as far as there is a place; and that a number of a text begins no sign.
use Rattle.std.proofs.Common.{◌≡◌, ℕ, zero, suc, ◌+◌, ◌<◌, ◌≤◌, true, cond, List, [], ◌∷◌, ◌++◌, length, take, Option, sym, refl, ap, ◌∙◌, append_assoc, append-nil, add-one, length-append, length-take, arith}
use Rattle.std.proofs.lemmas.List.{take_all, take-append-le}
use Rattle.std.specs.Prelude.{Ok, Err, Result, IsOk, OnOk, OnErr}
use Rattle.arrayvec.specs.ArrayVec.{ArrayVec}
use Rattle.language.specs.Nodes.{most_nodes}
use Rattle.text.specs.declared.kinds.Kind.{Kind}
use Rattle.text.specs.Text.{decimal}
use Rattle.text.specs.Kinds.{kind}
use Rattle.text.specs.Signs.{room, kind_of_sign, sign_words}
use Rattle.text.proofs.Spellings.{kind_decimal}

-- what found no place is not missed: what is noted behind it finds none either
pub room_again : (xs ys : List ℕ) → room (room xs ++ ys) ≡ room (xs ++ ys)
room_again xs ys = again most_nodes xs
  where
    again : (n : ℕ) (xs : List ℕ) → take n (take n xs ++ ys) ≡ take n (xs ++ ys)
    again zero xs = refl
    again (suc n) [] = refl
    again (suc n) (x ∷ xs) = ap (λ (l : List ℕ). x ∷ l) (again n xs)

-- one number more
pub noted_one : (old new : List ℕ) (n : ℕ) → new ≡ room (old ++ n ∷ []) → (rest : List ℕ) → room (new ++ rest) ≡ room (old ++ n ∷ rest)
noted_one old new n e rest = ap (λ l. room (l ++ rest)) e ∙ room_again (old ++ n ∷ []) rest ∙ ap room (append_assoc old (n ∷ []) rest)

-- all have found a place
pub room_all : (xs : List ℕ) → length xs ≤ most_nodes → room xs ≡ xs
room_all xs h = take_all most_nodes xs h

pub room_few : (notes xs : List ℕ) → notes ≡ room xs → length notes ≤ most_nodes
room_few notes xs e = rw e (simp length-take (omega arith))

-- how a number is noted: behind the others where it finds a place, and else not at all
noted_place : (xs : List ℕ) (n : ℕ) → length xs < most_nodes → xs ++ n ∷ [] ≡ room (xs ++ n ∷ [])
noted_place xs n h = sym (room_all (xs ++ n ∷ []) (simp length-append (omega arith)))

noted_full : (xs : List ℕ) (n : ℕ) → length xs ≡ most_nodes → xs ≡ room (xs ++ n ∷ [])
noted_full xs n h = sym (take-append-le most_nodes xs (n ∷ []) (omega (arith, h)) ∙ take_all most_nodes xs (omega (arith, h)))

pub noted : {T E : Type 0} (r : Result T E) (old new : ArrayVec ℕ) (n : ℕ) → (IsOk r → length old.items < most_nodes) → OnOk r (new.items ≡ old.items ++ n ∷ []) → OnErr r (new ≡ old) → OnErr r (length old.items ≡ most_nodes) → new.items ≡ room (old.items ++ n ∷ [])
noted (Ok x) old new n few e same full = e ∙ noted_place old.items n (few refl)
noted (Err x) old new n few e same full = ap (λ v. v.items) same ∙ noted_full old.items n full

-- What is noted, and what is left where n words of the text were read, is all that there is to note.
pub record NotedSoFar (ws : List (List ℕ)) (notes : List ℕ) (n : ℕ) (left : List (List ℕ)) : Type 0 where
  pub noted : room (notes ++ sign_words n left) ≡ room (sign_words 0 ws)
  pub few : length notes ≤ most_nodes

-- one word more: it begins a sign, or not
sign_more : (ws left left' : List (List ℕ)) (w notes notes' : List ℕ) (n : ℕ) → NotedSoFar ws notes n left → left ≡ w ∷ left' → true ≡ kind_of_sign (kind w) → notes' ≡ room (notes ++ n ∷ []) → NotedSoFar ws notes' (n + 1) left'
sign_more ws left left' w notes notes' n s cut h e = record {
  noted = noted_one notes notes' n e (sign_words (n + 1) left') ∙ sym (ap (λ l. room (notes ++ l)) (ap (sign_words n) cut ∙ rw (← h, add-one))) ∙ s.noted;
  few = room_few notes' (notes ++ n ∷ []) e;
}

pub sign_noted : (ws left left' : List (List ℕ)) (w notes notes' : List ℕ) (n n' k : ℕ) → NotedSoFar ws notes n left → left ≡ w ∷ left' → k ≡ n → n' ≡ n + 1 → true ≡ kind_of_sign (kind w) → notes' ≡ room (notes ++ k ∷ []) → NotedSoFar ws notes' n' left'
sign_noted ws left left' w notes notes' n n' k s cut a b h e = rw b (sign_more ws left left' w notes notes' n s cut h (e ∙ ap (λ m. room (notes ++ m ∷ [])) a))

pub all_noted : (ws left : List (List ℕ)) (notes : List ℕ) (n : ℕ) → NotedSoFar ws notes n left → left ≡ [] → notes ≡ room (sign_words 0 ws)
all_noted ws left notes n s e = sym (ap (λ vs. room (notes ++ sign_words n vs)) e ∙ ap room (append-nil notes) ∙ room_all notes s.few) ∙ s.noted

pub number_passed : (n i : ℕ) (ws : List (List ℕ)) → sign_words n (decimal i ∷ ws) ≡ sign_words (suc n) ws
number_passed n i ws = ap (λ (o : Option Kind). cond (kind_of_sign o) (n ∷ sign_words (suc n) ws) (sign_words (suc n) ws)) (kind_decimal i)
