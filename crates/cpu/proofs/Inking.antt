-- Numbers written one after the other onto a sheet. In order: a drawing that is begun and what is left of it, two numbers,
-- a part of a sheet that starts in its middle, two drawings one behind the other, lengths.
use Rattle.std.proofs.Common.{◌≡◌, ℕ, zero, suc, ◌+◌, ◌-◌, ◌*◌, ◌<◌, ◌≤◌, List, [], ◌∷◌, ◌++◌, length, take, drop, set, sym, refl, ap, ◌∙◌, subst, arith}
use lib.Seq.{take-append-add}
use borrow.Rule.Slice.PartMut.{put_mid}
use Rattle.std.proofs.lemmas.List.{append_assoc, append-nil, drop-drop, take_more_set, drop-set-lt, length-append, length-set, length-take-le, length-drop, drop_all, take_rest, drop_at}
use Rattle.circuit.specs.Parts.{Gates}
use Rattle.cpu.specs.Ink.{ink, Drew}

-- a drawing of all at a place of the sheet w0: it has come to place n of w, and rest is still to be drawn
pub record Begun (w0 : List ℕ) (at : ℕ) (all w : List ℕ) (n : ℕ) (rest : List ℕ) : Type 0 where
  pub put : take n w ++ rest ≡ take at w0 ++ all
  pub kept : drop n w ≡ drop n w0

drop_further : (m n : ℕ) (xs ys : List ℕ) → m ≤ n → drop m xs ≡ drop m ys → drop n xs ≡ drop n ys
drop_further m n xs ys l e =
    let k : m + (n - m) ≡ n = omega arith in
    subst (λ t. drop t xs ≡ drop t ys) k (sym (drop-drop (n - m) m xs) ∙ (ap (drop (n - m)) e ∙ drop-drop (n - m) m ys))

pub begun_none : (w0 : List ℕ) (at : ℕ) (all : List ℕ) → Begun w0 at all w0 at all
begun_none w0 at all = record { put = refl; kept = refl }

pub begun_more : {w0 : List ℕ} {at : ℕ} {all w : List ℕ} {n : ℕ} {rest xs rest' w' : List ℕ} {n' : ℕ} → Begun w0 at all w n rest → rest ≡ xs ++ rest' → Drew w n xs w' → n + length xs ≡ n' → Begun w0 at all w' n' rest'
begun_more {w0} {at} {all} {w} {n} {rest} {xs} {rest'} {w'} {n'} p e d m =
    let le : n ≤ n + length xs = omega arith in
    subst (λ k. Begun w0 at all w' k rest') m (record {
      put = ap (λ t. t ++ rest') d.put ∙ (append_assoc (take n w) xs rest' ∙ (ap (λ t. take n w ++ t) (sym e) ∙ p.put));
      kept = d.kept ∙ drop_further n (n + length xs) w w0 le p.kept;
    })

pub begun_all : {w0 : List ℕ} {at : ℕ} {all w : List ℕ} {n : ℕ} {rest : List ℕ} → Begun w0 at all w n rest → rest ≡ [] → n ≡ at + length all → Drew w0 at all w
begun_all {w0} {at} {all} {w} {n} {rest} p e m =
    subst (λ k. (take k w ≡ take at w0 ++ all) → (drop k w ≡ drop k w0) → Drew w0 at all w) (sym m) (λ a b. record { put = a; kept = b })
    (sym (append-nil (take n w)) ∙ (ap (λ t. take n w ++ t) (sym e) ∙ p.put)) p.kept

-- two numbers
pub put_two : (w : List ℕ) (at a b : ℕ) → at + 2 ≤ length w → Drew w at (a ∷ (b ∷ [])) (set (set w at a) (at + 1) b)
put_two w at a b l =
    let l1 : at < length w = omega arith in
    let l2 : at + 1 < length (set w at a) = omega (arith, length-set w at a) in
    let e : at + 2 ≡ at + 1 + 1 = omega arith in
    let n1 : at + 1 < at + 2 = omega arith in
    let n0 : at < at + 2 = omega arith in
    record {
      put = ap (λ n. take n (set (set w at a) (at + 1) b)) e ∙ (take_more_set (set w at a) (at + 1) b l2
          ∙ (ap (λ t. t ++ (b ∷ [])) (take_more_set w at a l1) ∙ append_assoc (take at w) (a ∷ []) (b ∷ [])));
      kept = drop-set-lt (at + 2) (set w at a) (at + 1) b n1 ∙ drop-set-lt (at + 2) w at a n0;
    }

-- a drawing on the part of a sheet that starts at m is one on the sheet
pub drew_part : (w : List ℕ) (m : ℕ) (xs ys : List ℕ) → m ≤ length w → Drew (take (length w - m) (drop m w)) 0 xs ys → Drew w m xs (put_mid m (length w - m) w ys)
drew_part w m xs ys l d =
    let k = length w - m in
    let lm = length-take-le m w l in
    let past : drop k (drop m w) ≡ [] = let h : length (drop m w) ≤ k = omega (arith, length-drop m w) in drop_all k (drop m w) h in
    let new : put_mid m k w ys ≡ take m w ++ ys = ap (λ t. take m w ++ (ys ++ t)) past ∙ ap (λ t. take m w ++ t) (append-nil ys) in
    let z : 0 + length xs ≡ length xs = omega arith in
    let zt : take (length xs) ys ≡ xs = subst (λ n. take n ys ≡ xs) z d.put in
    let zd : drop (length xs) ys ≡ drop (length xs) (drop m w) = subst (λ n. drop n ys ≡ drop n (take k (drop m w))) z d.kept ∙ ap (drop (length xs)) (take_rest w m) in
    let tk : take (m + length xs) (take m w ++ ys) ≡ take m w ++ xs = ap (λ n. take (n + length xs) (take m w ++ ys)) (sym lm) ∙ (take-append-add (take m w) ys (length xs) ∙ ap (λ t. take m w ++ t) zt) in
    let dk : drop (m + length xs) (take m w ++ ys) ≡ drop (m + length xs) w =
    sym (drop-drop (length xs) m (take m w ++ ys)) ∙ (ap (drop (length xs)) (drop_at (take m w) ys m lm) ∙ (zd ∙ drop-drop (length xs) m w)) in
    record {
      put = ap (take (m + length xs)) new ∙ tk;
      kept = ap (drop (m + length xs)) new ∙ dk;
    }

-- two drawings one behind the other
pub drew_both : (w : List ℕ) (at : ℕ) (xs w1 : List ℕ) (n : ℕ) (ys w2 : List ℕ) → Drew w at xs w1 → at + length xs ≡ n → Drew w1 n ys w2 → Drew w at (xs ++ ys) w2
drew_both w at xs w1 n ys w2 d e f =
    let p : Begun w at (xs ++ ys) w1 n ys = begun_more (begun_none w at (xs ++ ys)) refl d e in
    let y : ys ≡ ys ++ [] = sym (append-nil ys) in
    let q : Begun w at (xs ++ ys) w2 (n + length ys) [] = begun_more p y f refl in
    let m : n + length ys ≡ at + length (xs ++ ys) = omega (arith, length-append xs ys, e) in
    begun_all q refl m

-- what was drawn at the front is no longer than the sheet
take_short : (n : ℕ) (xs : List ℕ) → length (take n xs) ≤ length xs
take_short zero xs = omega arith
take_short (suc n) [] = omega arith
take_short (suc n) (x ∷ xs) = let ih = take_short n xs in omega arith

drew_fits : (w xs w1 : List ℕ) → Drew w 0 xs w1 → length xs ≤ length w1
drew_fits w xs w1 d = let e = ap length d.put in let s = take_short (0 + length xs) w1 in omega arith

-- numbers drawn behind what stands already at the front
pub behind : {w xs w1 ys y2 : List ℕ} (n : ℕ) → length xs ≡ n → Drew w 0 xs w1 → Drew (take (length w1 - n) (drop n w1)) 0 ys y2 → Drew w 0 (xs ++ ys) (put_mid n (length w1 - n) w1 y2)
behind {w} {xs} {w1} {ys} {y2} n e d f =
    let z : 0 + length xs ≡ n = omega arith in
    let l : n ≤ length w1 = omega (arith, drew_fits w xs w1 d) in
    drew_both w 0 xs w1 n ys (put_mid n (length w1 - n) w1 y2) d z (drew_part w1 n ys y2 l f)

pub ink_append : (xs ys : Gates) → ink (xs ++ ys) ≡ ink xs ++ ink ys
ink_append [] ys = refl
ink_append (g ∷ xs) ys = ap (λ t. g.0 ∷ (g.1 ∷ t)) (ink_append xs ys)

pub ink_length : (xs : Gates) → length (ink xs) ≡ 2 * length xs
ink_length [] = refl
ink_length (g ∷ xs) = omega (arith, ink_length xs)
