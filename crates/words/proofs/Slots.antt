-- A list that has some things from its i-th place on: its first, what follows it, and the two halves of a joined part.
use Rattle.std.proofs.Common.{◌≡◌, ℕ, ◌+◌, List, [], ◌∷◌, ◌++◌, length, get_or, sym, ap, ◌∙◌, append_assoc, arith, length-append}
use Rattle.std.proofs.lemmas.List.{get_or_at}

pub record Slot {A : Type 0} (whole : List A) (i : ℕ) (part : List A) : Type 0 where
  pub front : List A
  pub back : List A
  pub at : length front ≡ i
  pub is : whole ≡ front ++ (part ++ back)

module _ {A : Type 0} (whole : List A) (i : ℕ) where
  pub slot_head : (default d : A) (ds : List A) → Slot whole i (d ∷ ds) → get_or whole i default ≡ d
  slot_head default d ds s = ap (λ x. get_or x i default) s.is ∙ get_or_at s.front d (ds ++ s.back) default i s.at

  pub slot_tail : (d : A) (ds : List A) → Slot whole i (d ∷ ds) → Slot whole (i + 1) ds
  slot_tail d ds s = record { front = s.front ++ (d ∷ []); back = s.back; at = length-append s.front (d ∷ []) ∙ omega (arith, s.at); is = s.is ∙ sym (append_assoc s.front (d ∷ []) (ds ++ s.back)) }

  pub slot_left : (a b : List A) → Slot whole i (a ++ b) → Slot whole i a
  slot_left a b s = record { front = s.front; back = b ++ s.back; at = s.at; is = s.is ∙ ap (λ x. s.front ++ x) (append_assoc a b s.back) }

  pub slot_right : (n : ℕ) (a b : List A) → length a ≡ n → Slot whole i (a ++ b) → Slot whole (i + n) b
  slot_right n a b l s = record { front = s.front ++ a; back = s.back; at = length-append s.front a ∙ omega (arith, s.at, l); is = s.is ∙ ap (λ x. s.front ++ x) (append_assoc a b s.back) ∙ sym (append_assoc s.front a (b ++ s.back)) }
