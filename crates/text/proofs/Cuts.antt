-- A text's words from its front. First a blank goes and any other byte joins the first word; then where the first word
-- begins and how far it goes; then what is cut off: blanks and a word.
use Rattle.std.proofs.Common.{◌≡◌, ℕ, zero, suc, ◌+◌, ◌-◌, ◌<◌, ◌≤◌, Bool, true, false, cond, not, List, [], ◌∷◌, length, get_or, take, drop, sym, refl, ap, ◌∙◌, add-zero, arith}
use Rattle.std.specs.List.{position_or_len}
use Rattle.std.proofs.lemmas.Bool.{both_ways, not-true}
use Rattle.std.proofs.lemmas.List.{drop_more, drop_all, length-drop, length-take, get_or-drop, nil_from_length}
use Rattle.std.proofs.lemmas.List.Sums.{passes_at_first, prefix_len-le-length}
use Rattle.text.specs.Cut.{Cut, letter}
use Rattle.text.specs.Text.{words, blank, split, close}

-- the first word, and the words after it
abbrev Split : Type 0
Split = List ℕ × List (List ℕ)

pub split_blank : (c : ℕ) (cs : List ℕ) → blank c ≡ true → split (c ∷ cs) ≡ ([], words cs)
split_blank c cs e = ap (λ (b : Bool). cond {A = Split} b ([], words cs) (c ∷ (split cs).0, (split cs).1)) e

pub split_letter : (c : ℕ) (cs : List ℕ) → blank c ≡ false → split (c ∷ cs) ≡ (c ∷ (split cs).0, (split cs).1)
split_letter c cs e = ap (λ (b : Bool). cond {A = Split} b ([], words cs) (c ∷ (split cs).0, (split cs).1)) e

pub words_blank : (c : ℕ) (cs : List ℕ) → blank c ≡ true → words (c ∷ cs) ≡ words cs
words_blank c cs e = ap (λ (r : Split). close r.0 r.1) (split_blank c cs e)

-- The place that a loop over the first i bytes has still to find: one byte on, where it is found, and where there is none.
pub place_more : (p : ℕ → Bool) (s : List ℕ) (i : ℕ) → i < length s → p (get_or s i 0) ≡ false → position_or_len p s ≡ i + position_or_len p (drop i s) → position_or_len p s ≡ (i + 1) + position_or_len p (drop (i + 1) s)
place_more p s i h e inv =
    let n : position_or_len p (drop i s) ≡ 1 + position_or_len p (drop (i + 1) s) = ap (position_or_len p) (drop_more s i 0 h) ∙ ap (λ (b : Bool). cond (not b) (1 + position_or_len p (drop (i + 1) s)) 0) e in
    omega (arith, inv, n)

pub place_found : (p : ℕ → Bool) (s : List ℕ) (i : ℕ) → i < length s → p (get_or s i 0) ≡ true → position_or_len p s ≡ i + position_or_len p (drop i s) → i ≡ position_or_len p s
place_found p s i h e inv =
    let n : position_or_len p (drop i s) ≡ 0 = ap (position_or_len p) (drop_more s i 0 h) ∙ ap (λ (b : Bool). cond (not b) (1 + position_or_len p (drop (i + 1) s)) 0) e in
    omega (arith, inv, n)

pub place_none : (p : ℕ → Bool) (s : List ℕ) (i : ℕ) → length s ≤ i → i ≤ length s → position_or_len p s ≡ i + position_or_len p (drop i s) → length s ≡ position_or_len p s
place_none p s i h l inv =
    let n : position_or_len p (drop i s) ≡ 0 = ap (position_or_len p) (drop_all i s h) in
    omega (arith, inv, n)

-- Where the first byte stands that is no blank, and where the first blank stands.
pub words_skip : (s : List ℕ) → words s ≡ words (drop (position_or_len letter s) s)
words_skip [] = refl
words_skip (c ∷ cs) = skip (blank c) refl (words_skip cs)
  where
    skip : (b : Bool) → blank c ≡ b → words cs ≡ words (drop (position_or_len letter cs) cs) → words (c ∷ cs) ≡ words (drop (position_or_len letter (c ∷ cs)) (c ∷ cs))
    skip true e h =
        let n : position_or_len letter (c ∷ cs) ≡ suc (position_or_len letter cs) = ap (λ (b : Bool). cond (not (not b)) (1 + position_or_len letter cs) 0) e ∙ omega arith in
        words_blank c cs e ∙ h ∙ ap (λ (i : ℕ). words (drop i (c ∷ cs))) (sym n)
    skip false e h = ap (λ (b : Bool). words (drop (cond (not (not b)) (1 + position_or_len letter cs) 0) (c ∷ cs))) (sym e)

-- the first word is what stands before the first blank
pub record Closed (s : List ℕ) (i : ℕ) : Type 0 where
  pub word : (split s).0 ≡ take i s
  pub rest : (split s).1 ≡ words (drop i s)

pub closed : (s : List ℕ) → Closed s (position_or_len blank s)
closed [] = record { word = refl; rest = refl }
closed (c ∷ cs) = close_one (blank c) refl (closed cs)
  where
    close_one : (b : Bool) → blank c ≡ b → Closed cs (position_or_len blank cs) → Closed (c ∷ cs) (position_or_len blank (c ∷ cs))
    close_one true e h =
        let n : position_or_len blank (c ∷ cs) ≡ 0 = ap (λ (b : Bool). cond (not b) (1 + position_or_len blank cs) 0) e in
        record {
          word = ap (λ (r : Split). r.0) (split_blank c cs e) ∙ ap (λ (i : ℕ). take i (c ∷ cs)) (sym n);
          rest = ap (λ (r : Split). r.1) (split_blank c cs e) ∙ sym (words_blank c cs e) ∙ ap (λ (i : ℕ). words (drop i (c ∷ cs))) (sym n);
        }
    close_one false e h =
        let n : position_or_len blank (c ∷ cs) ≡ suc (position_or_len blank cs) = ap (λ (b : Bool). cond (not b) (1 + position_or_len blank cs) 0) e ∙ omega arith in
        record {
          word = ap (λ (r : Split). r.0) (split_letter c cs e) ∙ ap (λ (w : List ℕ). c ∷ w) h.word ∙ ap (λ (i : ℕ). take i (c ∷ cs)) (sym n);
          rest = ap (λ (r : Split). r.1) (split_letter c cs e) ∙ h.rest ∙ ap (λ (i : ℕ). words (drop i (c ∷ cs))) (sym n);
        }

-- with at least one byte it is a word
words_closed : (s : List ℕ) (i : ℕ) → 0 < length (take i s) → Closed s i → words s ≡ take i s ∷ words (drop i s)
words_closed s i h o = ap (λ (x : List ℕ). close x (split s).1) o.word ∙ ap (close (take i s)) o.rest ∙ opened (take i s) (words (drop i s)) h
  where
    opened : (x : List ℕ) (ws : List (List ℕ)) → 0 < length x → close x ws ≡ x ∷ ws
    opened [] ws h = absurd (elim h [ ])
    opened (c ∷ cs) ws h = refl

-- where a text begins with a byte that is no blank, its first word has a byte
letter_first : (t : List ℕ) → letter (get_or t 0 0) ≡ true → 0 < length t → 0 < position_or_len blank t
letter_first t e h = first (position_or_len blank t) refl
  where
    first : (n : ℕ) → position_or_len blank t ≡ n → 0 < n
    first zero z = let p : blank (get_or t 0 0) ≡ true = ap (λ (n : ℕ). blank (get_or t n 0)) (sym z) ∙ passes_at_first blank t 0 (omega arith) in absurd (both_ways (blank (get_or t 0 0)) (not-true (blank (get_or t 0 0)) e) p)
    first (suc n) z = omega arith

-- what is cut off: blanks and a word, by the places that are found
pub cut_none : (s t : List ℕ) (b : ℕ) → t ≡ drop b s → b ≡ position_or_len letter s → length t ≡ 0 → words s ≡ []
cut_none s t b q1 q2 e =
    words_skip s ∙ ap (λ (i : ℕ). words (drop i s)) (sym q2) ∙ sym (ap words q1) ∙ ap words (nil_from_length t e)

pub cut_some : (s t w r : List ℕ) (b n : ℕ) → t ≡ drop b s → b ≡ position_or_len letter s → 0 < length t → n ≡ position_or_len blank t → w ≡ take n t → r ≡ drop n t → Cut s w r
cut_some s t w r b n q1 e h m q3 q4 =
    let lt : length t ≡ length s - b = ap length q1 ∙ length-drop b s in
    let lm : position_or_len blank t ≤ length t = prefix_len-le-length letter t in
    let g : get_or t 0 0 ≡ get_or s (position_or_len letter s) 0 = ap (λ (x : List ℕ). get_or x 0 0) q1 ∙ get_or-drop b s 0 0 ∙ ap (λ (i : ℕ). get_or s i 0) (add-zero b ∙ e) in
    let some : 0 < n = omega (arith, letter_first t (ap letter g ∙ passes_at_first letter s 0 (omega arith)) h) in
    let lr : length r ≡ length t - n = ap length q4 ∙ length-drop n t in
    let taken : 0 < length (take n t) = simp length-take (omega arith) in
    let all : words s ≡ words t = words_skip s ∙ ap (λ (i : ℕ). words (drop i s)) (sym e) ∙ sym (ap words q1) in
    record {
      text = all ∙ words_closed t n taken (rw m (closed t)) ∙ ap (λ (x : List ℕ). x ∷ words (drop n t)) (sym q3) ∙ ap (λ (x : List ℕ). w ∷ words x) (sym q4);
      less = omega arith;
    }

-- a text has no more words than bytes
close_up : (w : List ℕ) (ws : List (List ℕ)) → length ws ≤ length (close w ws)
close_up [] ws = omega arith
close_up (c ∷ cs) ws = omega arith

pub words_few : (s : List ℕ) → length (words s) ≤ length s
words_few [] = omega arith
words_few (c ∷ cs) = few (blank c) refl (words_few cs)
  where
    few : (b : Bool) → blank c ≡ b → length (words cs) ≤ length cs → length (words (c ∷ cs)) ≤ length (c ∷ cs)
    few true e h = omega (arith, ap length (words_blank c cs e))
    few false e h = omega (arith, close_up (split cs).0 (split cs).1, ap (λ (r : Split). length (close r.0 r.1)) (split_letter c cs e))
