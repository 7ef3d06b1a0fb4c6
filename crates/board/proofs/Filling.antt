-- Loops that fill a slice from its front: what is done and what is left make up the whole. First any filling, then a
-- word's bits, the flip-flops' next levels, and all inputs of the gates one after the other.
use Rattle.std.proofs.Common.{◌≡◌, ℕ, suc, ◌+◌, ◌-◌, ◌/◌, ◌%◌, ◌<◌, ◌≤◌, Bool, true, false, List, [], ◌∷◌, ◌++◌, length, get_or, take, drop, set, sym, refl, ap, ◌∙◌, subst, arith}
use Rattle.std.proofs.lemmas.List.{take_all, take_more_set, drop_more, append_assoc, append-nil, length-set, length-append, length-take-le, length-drop}
use Rattle.std.proofs.lemmas.Slice.{take-put_mid}
use borrow.Rule.Slice.PartMut.{put_mid}
use Rattle.words.specs.Words.{bits}
use Rattle.circuit.specs.Circuit.{inputs}
use Rattle.circuit.specs.Sheet.{levels}
use Rattle.board.specs.Slices.{bytes, Clean, on_signals}
use Rattle.board.proofs.Bytes.{bytes_append, clean_at, lowest_bit}

-- a byte y is next: with it done, one less is left
pub fill_more : (w : List ℕ) (n y : ℕ) (left all : List ℕ) → n < length w → take n w ++ (y ∷ left) ≡ all → take (n + 1) (set w n y) ++ left ≡ all
fill_more w n y left all l e = ap (λ (t : List ℕ). t ++ left) (take_more_set w n y l) ∙ (append_assoc (take n w) (y ∷ []) left ∙ e)

-- at the end nothing is left
pub fill_all : (w left all : List ℕ) (n : ℕ) → length w ≤ n → left ≡ [] → take n w ++ left ≡ all → w ≡ all
fill_all w left all n l z e = sym (take_all n w l) ∙ (sym (append-nil (take n w)) ∙ (ap (λ (t : List ℕ). take n w ++ t) (sym z) ∙ e))

-- the bits of a word, lowest first
pub word_bit_more : (w all : List ℕ) (n i x : ℕ) → n < length w → i < 16 → take n w ++ bytes (bits (16 - i) x) ≡ all → take (n + 1) (set w n (x % 2)) ++ bytes (bits (16 - (i + 1)) (x / 2)) ≡ all
word_bit_more w all n i x l li e =
    let s : 16 - i ≡ suc (16 - (i + 1)) = omega arith in
    let left = bytes (bits (16 - (i + 1)) (x / 2)) in
    fill_more w n (x % 2) left all l (ap (λ (t : ℕ). take n w ++ (t ∷ left)) (lowest_bit x) ∙ subst (λ (m : ℕ). take n w ++ bytes (bits m x) ≡ all) s e)

pub word_bits_all : (w all : List ℕ) (n x : ℕ) → length w ≡ 16 → 16 ≤ n → take n w ++ bytes (bits (16 - n) x) ≡ all → w ≡ all
word_bits_all w all n x l h e = let z : 16 - n ≡ 0 = omega arith in fill_all w (bytes (bits (16 - n) x)) all n (omega arith) (ap (λ (m : ℕ). bytes (bits m x)) z) e

-- the flip-flops' next levels
pub latch_more : (w state next all : List ℕ) (i : ℕ) → Clean w → i < length state → i < length next → take i state ++ bytes (on_signals w (drop i next)) ≡ all
    → take (i + 1) (set state i (get_or w (get_or next i 0) 0)) ++ bytes (on_signals w (drop (i + 1) next)) ≡ all
latch_more w state next all i h l li e =
    let y = get_or w (get_or next i 0) 0 in
    let left = bytes (on_signals w (drop (i + 1) next)) in
    fill_more state i y left all l
    (ap (λ (t : ℕ). take i state ++ (t ∷ left)) (clean_at w (get_or next i 0) h)
    ∙ subst (λ (d : List ℕ). take i state ++ bytes (on_signals w d) ≡ all) (drop_more next i 0 li) e)

-- signals 0 and 1
low_high : (w : List ℕ) → 2 ≤ length w → take 2 (set (set w 0 0) 1 1) ≡ 0 ∷ (1 ∷ [])
low_high [] h = absurd (omega arith)
low_high (x ∷ []) h = absurd (omega arith)
low_high (x ∷ (y ∷ w)) h = refl

-- all inputs: low and high, then p, q and r
inputs_join : (p q r : List Bool) → (((0 ∷ (1 ∷ [])) ++ bytes p) ++ bytes q) ++ bytes r ≡ bytes (false ∷ (true ∷ (p ++ (q ++ r))))
inputs_join p q r =
    let x : (((0 ∷ (1 ∷ [])) ++ bytes p) ++ bytes q) ++ bytes r ≡ 0 ∷ (1 ∷ (bytes p ++ (bytes q ++ bytes r))) = ap (λ (t : List ℕ). 0 ∷ (1 ∷ t)) (append_assoc (bytes p) (bytes q) (bytes r)) in
    let y : bytes (p ++ (q ++ r)) ≡ bytes p ++ (bytes q ++ bytes r) = bytes_append p (q ++ r) ∙ ap (λ (t : List ℕ). bytes p ++ t) (bytes_append q r) in
    x ∙ ap (λ (t : List ℕ). 0 ∷ (1 ∷ t)) (sym y)

length-put_mid : (a k : ℕ) (xs ys : List ℕ) → length ys ≡ k → a + k ≤ length xs → length (put_mid a k xs ys) ≡ length xs
length-put_mid a k xs ys e l =
    let h : a ≤ length xs = omega arith in
    omega (arith, length-append (take a xs) (ys ++ drop k (drop a xs)), length-append ys (drop k (drop a xs)), length-take-le a xs h, length-drop k (drop a xs), length-drop a xs)

-- the parts of the inputs laid one after the other
pub inputs_laid : (w lines lines2 flops state : List ℕ) (k read front : ℕ) → 34 + length state ≤ length w → k ≡ length state
    → lines ≡ bytes (bits 16 read) → lines2 ≡ bytes (bits 16 front) → flops ≡ state → Clean state
    → take (34 + length state) (put_mid 34 k (put_mid 18 16 (put_mid 2 16 (set (set w 0 0) 1 1) lines) lines2) flops) ≡ bytes (inputs read front (levels state))
inputs_laid w lines lines2 flops state k read front l ek e1 e2 e3 h =
    let start = set (set w 0 0) 1 1 in
    let l0 : 34 ≤ length start = omega (arith, length-set {A = ℕ}) in
    let n1 : length lines ≡ 16 = ap length e1 in
    let n2 : length lines2 ≡ 16 = ap length e2 in
    let n3 : 34 + length state ≡ 34 + length flops = omega (arith, ap length e3) in
    let one = put_mid 2 16 start lines in
    let l1 : 34 ≤ length one = omega (arith, length-put_mid 2 16 start lines n1 (omega arith)) in
    let two = put_mid 18 16 one lines2 in
    let l2 : 34 ≤ length two = omega (arith, length-put_mid 18 16 one lines2 n2 (omega arith)) in
    let t1 : take 18 one ≡ (0 ∷ (1 ∷ [])) ++ bytes (bits 16 read) = take-put_mid 2 16 start lines 18 (omega arith) (omega arith) ∙ (ap (λ (t : List ℕ). t ++ lines) (low_high w (omega arith)) ∙ ap (λ (t : List ℕ). (0 ∷ (1 ∷ [])) ++ t) e1) in
    let t2 : take 34 two ≡ ((0 ∷ (1 ∷ [])) ++ bytes (bits 16 read)) ++ bytes (bits 16 front) = take-put_mid 18 16 one lines2 34 (omega arith) (omega arith) ∙ (ap (λ (t : List ℕ). t ++ lines2) t1 ∙ ap (λ (t : List ℕ). ((0 ∷ (1 ∷ [])) ++ bytes (bits 16 read)) ++ t) e2) in
    take-put_mid 34 k two flops (34 + length state) n3 l2
    ∙ (ap (λ (t : List ℕ). t ++ flops) t2
    ∙ (ap (λ (t : List ℕ). (((0 ∷ (1 ∷ [])) ++ bytes (bits 16 read)) ++ bytes (bits 16 front)) ++ t) (e3 ∙ h)
    ∙ inputs_join (bits 16 read) (bits 16 front) (levels state)))
