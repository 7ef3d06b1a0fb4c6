-- The write port writes, of levels f that obey its gates. In order: lines of which one is high, the decoder that makes
-- them, the registers that keep or take, the whole port.
use Rattle.std.proofs.Common.{◌≡◌, ℕ, zero, suc, ◌+◌, ◌*◌, Bool, true, false, cond, not, ◌&&◌, List, [], ◌∷◌, map, length, set, sym, refl, ap, ◌∙◌, ap₂, arith}
use Rattle.words.specs.Words.{bit, value, shifted, nand}
use Rattle.circuit.specs.Parts.{after, plus2, plus3, plus4, mux_gates}
use Rattle.circuit.specs.PartsRegisters.{split_gates, split_results, decoder, keep_gates, keep_results, write_gates, write_results}
use Rattle.circuit.proofs.Settling.{Obeys, obeys_both}
use Rattle.circuit.proofs.Words.{chooses, and_bit}
use Rattle.circuit.proofs.Reading.{Wide, Inverses, line_levels, file_levels, file_length}

-- each line led on to two
abbrev split : Bool → List Bool → List Bool
split b [] = []
split b (l ∷ ls) = (l && not b) ∷ (l && b) ∷ split b ls

split_is : (f : ℕ → Bool) (n s t : ℕ) (ls : List (ℕ × ℕ)) → f t ≡ not (f s) → Obeys f n (split_gates n s t ls) → line_levels f (split_results n ls) ≡ split (f s) (line_levels f ls)
unfolding split_gates split_results
split_is f n s t [] e q = refl
split_is f n s t (l ∷ ls) e q =
    let low : f (suc n) ≡ f l.0 && not (f s) = rw (q.1.0, q.0, e) (and_bit (f l.0) (not (f s))) in
    let high : f (plus3 n) ≡ f l.0 && f s = rw (q.1.1.1.0, q.1.1.0) (and_bit (f l.0) (f s)) in
    let ih = split_is f (plus4 n) s t ls e q.1.1.1.1 in
    rw (low, high, ih) refl

twice_not : (x : Bool) → x ≡ not (nand x x)
twice_not true = refl
twice_not false = refl

split_inverses : (f : ℕ → Bool) (n s t : ℕ) (ls : List (ℕ × ℕ)) → Obeys f n (split_gates n s t ls) → Inverses f (split_results n ls)
unfolding split_gates split_results
split_inverses f n s t [] q = tt
split_inverses f n s t (l ∷ ls) q =
    (rw q.1.0 (twice_not (f n)), (rw q.1.1.1.0 (twice_not (f (plus2 n))), split_inverses f (plus4 n) s t ls q.1.1.1.1))

-- n levels, all low but for place i, which is e
abbrev one_high : Bool → ℕ → ℕ → List Bool
one_high e i zero = []
one_high e zero (suc n) = e ∷ one_high false zero n
one_high e (suc i) (suc n) = false ∷ one_high e i n

split_low : (b : Bool) (n : ℕ) → split b (one_high false zero n) ≡ one_high false zero (2 * n)
split_low b zero = refl
split_low b (suc n) = let e : 2 * suc n ≡ suc (suc (2 * n)) = omega arith in rw (e, split_low b n)

split_high : (b e : Bool) (i n : ℕ) → split b (one_high e i n) ≡ one_high e (bit b + 2 * i) (2 * n)
split_high b e i zero = refl
split_high true true zero (suc n) = let k : 2 * suc n ≡ suc (suc (2 * n)) = omega arith in rw (k, split_low true n)
split_high true false zero (suc n) = let k : 2 * suc n ≡ suc (suc (2 * n)) = omega arith in rw (k, split_low true n)
split_high false true zero (suc n) = let k : 2 * suc n ≡ suc (suc (2 * n)) = omega arith in rw (k, split_low false n)
split_high false false zero (suc n) = let k : 2 * suc n ≡ suc (suc (2 * n)) = omega arith in rw (k, split_low false n)
split_high b e (suc i) (suc n) =
    let k : 2 * suc n ≡ suc (suc (2 * n)) = omega arith in
    let j : bit b + 2 * suc i ≡ suc (suc (bit b + 2 * i)) = omega arith in
    rw (k, j, split_high b e i n)

decodes : (f : ℕ → Bool) (n : ℕ) (ps : List (ℕ × ℕ)) (e : ℕ × ℕ) → Inverses f ps → f e.1 ≡ not (f e.0) → Obeys f n (decoder n ps e).0 →
    (line_levels f (decoder n ps e).1 ≡ one_high (f e.0) (value (line_levels f ps)) (shifted (length ps) 1)) × Inverses f (decoder n ps e).1
unfolding decoder
decodes f n [] e i j q = (refl, (j, tt))
decodes f n (p ∷ ps) e i j q =
    let g = (decoder n ps e).0 in
    let r = obeys_both f n g (split_gates (after n g) p.0 p.1 (decoder n ps e).1) q in
    let ih = decodes f n ps e i.1 j r.0 in (
      split_is f (after n g) p.0 p.1 (decoder n ps e).1 i.0 r.1 ∙ (ap (split (f p.0)) ih.0 ∙ split_high (f p.0) (f e.0) (value (line_levels f ps)) (shifted (length ps) 1)),
      split_inverses f (after n g) p.0 p.1 (decoder n ps e).1 r.1,
    )

-- a register takes the word where its line is high
abbrev keeps : List Bool → List Bool → List (List Bool) → List (List Bool)
keeps [] d ws = []
keeps (l ∷ ls) d [] = []
keeps (l ∷ ls) d (x ∷ ws) = cond l d x ∷ keeps ls d ws

keep_is : (f : ℕ → Bool) (n w : ℕ) (ls : List (ℕ × ℕ)) (d : List ℕ) (ws : List (List ℕ)) → length d ≡ w → Wide w ws → Inverses f ls → Obeys f n (keep_gates n ls d ws) → file_levels f (keep_results n ls d ws) ≡ keeps (line_levels f ls) (map f d) (file_levels f ws)
unfolding keep_gates keep_results
keep_is f n w [] d ws k h i q = refl
keep_is f n w (l ∷ ls) d [] k h i q = refl
keep_is f n w (l ∷ ls) d (x ∷ ws) k h i q =
    let g = mux_gates n l.0 l.1 d x in
    let r = obeys_both f n g (keep_gates (after n g) ls d ws) q in
    ap₂ {C = List (List Bool)} (λ a b. a ∷ b) (chooses f n l.0 l.1 d x (k ∙ sym h.0) i.0 r.0) (keep_is f (after n g) w ls d ws k h.1 i.1 r.1)

keeps_low : (d : List Bool) (ws : List (List Bool)) → keeps (one_high false zero (length ws)) d ws ≡ ws
keeps_low d [] = refl
keeps_low d (x ∷ ws) = ap {B = List (List Bool)} (λ r. x ∷ r) (keeps_low d ws)

cond_cons : (e : Bool) (x : List Bool) (a b : List (List Bool)) → x ∷ cond e a b ≡ cond e (x ∷ a) (x ∷ b)
cond_cons true x a b = refl
cond_cons false x a b = refl

keeps_high : (e : Bool) (i : ℕ) (d : List Bool) (ws : List (List Bool)) → keeps (one_high e i (length ws)) d ws ≡ cond e (set ws i d) ws
keeps_high true i d [] = refl
keeps_high false i d [] = refl
keeps_high true zero d (x ∷ ws) = ap {B = List (List Bool)} (λ r. d ∷ r) (keeps_low d ws)
keeps_high false zero d (x ∷ ws) = ap {B = List (List Bool)} (λ r. x ∷ r) (keeps_low d ws)
keeps_high e (suc i) d (x ∷ ws) = ap {B = List (List Bool)} (λ r. x ∷ r) (keeps_high e i d ws) ∙ cond_cons e x (set ws i d) ws

pub writes : (f : ℕ → Bool) (n w : ℕ) (ps : List (ℕ × ℕ)) (e : ℕ × ℕ) (d : List ℕ) (ws : List (List ℕ)) → length ws ≡ shifted (length ps) 1 → length d ≡ w → Wide w ws → Inverses f ps → f e.1 ≡ not (f e.0) → Obeys f n (write_gates n ps e d ws) →
    file_levels f (write_results n ps e d ws) ≡ cond (f e.0) (set (file_levels f ws) (value (line_levels f ps)) (map f d)) (file_levels f ws)
unfolding write_gates write_results
writes f n w ps e d ws l k h i j q =
    let g = (decoder n ps e).0 in
    let r = obeys_both f n g (keep_gates (after n g) (decoder n ps e).1 d ws) q in
    let a = decodes f n ps e i j r.0 in
    let b = keep_is f (after n g) w (decoder n ps e).1 d ws k h a.1 r.1 in
    b ∙ (ap (λ u. keeps u (map f d) (file_levels f ws)) (a.0 ∙ ap (one_high (f e.0) (value (line_levels f ps))) (sym (file_length f ws ∙ l))) ∙ keeps_high (f e.0) (value (line_levels f ps)) (map f d) (file_levels f ws))
