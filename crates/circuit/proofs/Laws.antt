-- The laws of the parts as the board settles them: whatever levels stand before a part, its words are as its law says.
-- In order: words, sums, the register file.
use Rattle.std.proofs.Common.{◌≡◌, ℕ, zero, suc, ◌+◌, ◌-◌, ◌<◌, ◌≤◌, Bool, true, false, cond, not, ltb, List, [], ◌∷◌, ◌++◌, map, length, get_or, set, sym, refl, ap, ◌∙◌, ap₂, arith}
use lib.ListN.{length-map}
use Rattle.words.specs.Words.{value, shifted, bit_at, word, put, nands}
use Rattle.words.proofs.Bits.{value_not, all_low_is}
use Rattle.circuit.specs.Circuit.{settle, AllBelow}
use Rattle.circuit.specs.Parts.{Gates, after, inverter_gates, inverter_results, nand_gates, mux_gates, invert_if_gates, zero_gates}
use Rattle.circuit.specs.PartsAdder.{adder_gates, adder_carry, subtract_gates, subtract_results, less_result}
use Rattle.circuit.specs.PartsRegisters.{read_gates, write_gates, write_results}
use Rattle.circuit.specs.PartsLaws.{word_on, levels_on, words_on, selected, Lines, File, InverterInverts, NandNands, MuxChooses, InvertIfInverts, ZeroTests, AdderAdds, SubtractSubtracts, LessCompares, PortReads, PortWrites}
use Rattle.circuit.proofs.Settling.{Obeys, obeys_both, kept, kept_word, settle_obeys}
use Rattle.circuit.proofs.Words.{inverts, inverts_one, nands_are, chooses, inverts_if, tests_zero}
use Rattle.circuit.proofs.Adding.{adds, subtracts}
use Rattle.circuit.proofs.Reading.{Wide, Inverses, line_levels, file_levels, reads}
use Rattle.circuit.proofs.Writing.{writes}
use Rattle.circuit.proofs.Sound.{inverter_sound, nand_sound, mux_sound, invert_if_sound, zero_sound, adder_sound, subtract_sound, FileBelow, LinesBelow, read_sound, write_sound}

no_more : (n : ℕ) → n ≤ n
no_more n = omega arith

pub inverter_inverts : InverterInverts
inverter_inverts v xs a =
    let g = inverter_gates (length v) xs in
    let e = inverts (bit_at (settle g v)) (length v) xs (settle_obeys g v (inverter_sound (length v) (length v) xs (no_more (length v)) a)) ∙ ap (map not) (kept_word g v xs a) in
    let k : length (levels_on v xs) ≡ length xs = length-map xs (bit_at v) in
    rw (e, ← k) (value_not (levels_on v xs))

pub nand_nands : NandNands
nand_nands v xs ys a b =
    let g = nand_gates (length v) xs ys in
    nands_are (bit_at (settle g v)) (length v) xs ys (settle_obeys g v (nand_sound (length v) (length v) xs ys (no_more (length v)) a b)) ∙ ap₂ nands (kept_word g v xs a) (kept_word g v ys b)

value_cond : (s : Bool) (xs ys : List Bool) → value (cond s xs ys) ≡ cond s (value xs) (value ys)
value_cond true xs ys = refl
value_cond false xs ys = refl

pub mux_chooses : MuxChooses
mux_chooses v s t xs ys i a b l =
    let g = mux_gates (length v) s t xs ys in
    let es = kept g v s i.0.0 in
    let et : bit_at (settle g v) t ≡ not (bit_at (settle g v) s) = kept g v t i.0.1 ∙ (i.0.2 ∙ ap not (sym es)) in
    let e = chooses (bit_at (settle g v)) (length v) s t xs ys l et (settle_obeys g v (mux_sound (length v) (length v) s t xs ys (no_more (length v)) i.0.0 i.0.1 a b)) in
    ap value e ∙ rw (es, kept_word g v xs a, kept_word g v ys b) (value_cond (bit_at v s) (levels_on v xs) (levels_on v ys))

-- the value of a word's inverse
inverse_value : (bs : List Bool) → value (map not bs) ≡ shifted (length bs) 1 - 1 - value bs
inverse_value bs = let e = value_not bs in omega arith

pub invert_if_inverts : InvertIfInverts
invert_if_inverts v s xs h a =
    let g = invert_if_gates (length v) s xs in
    let e = inverts_if (bit_at (settle g v)) (length v) s xs (settle_obeys g v (invert_if_sound (length v) (length v) s xs (no_more (length v)) h a)) in
    let k : length (levels_on v xs) ≡ length xs = length-map xs (bit_at v) in
    let i : value (map not (levels_on v xs)) ≡ shifted (length xs) 1 - 1 - word_on v xs = inverse_value (levels_on v xs) ∙ ap (λ n. shifted n 1 - 1 - word_on v xs) k in
    ap value e ∙ rw (kept g v s h, kept_word g v xs a) (value_cond (bit_at v s) (map not (levels_on v xs)) (levels_on v xs) ∙ ap (λ x. cond (bit_at v s) x (word_on v xs)) i)

pub zero_tests : ZeroTests
zero_tests v z xs h e a =
    let g = zero_gates (length v) z xs in
    let r = tests_zero (bit_at (settle g v)) (length v) z xs (settle_obeys g v (zero_sound (length v) (length v) z xs (no_more (length v)) h a)) in
    r ∙ rw (kept g v z h ∙ e, kept_word g v xs a) (all_low_is (levels_on v xs))

-- sums
pub adder_adds : AdderAdds
adder_adds v xs ys c a b h l =
    let g = adder_gates (length v) xs ys c in
    rw (← kept_word g v xs a, ← kept_word g v ys b, ← kept g v c h)
    (adds (bit_at (settle g v)) (length v) xs ys c l (settle_obeys g v (adder_sound (length v) (length v) xs ys c (no_more (length v)) a b h)))

inverter_length : (n : ℕ) (xs : List ℕ) → length (inverter_results n xs) ≡ length xs
unfolding inverter_results
inverter_length n [] = refl
inverter_length n (x ∷ xs) = ap suc (inverter_length (suc n) xs)

-- difference and compare of one subtractor
subtract_does : (v : List Bool) (xs ys : List ℕ) (c : ℕ) → AllBelow xs (length v) → AllBelow ys (length v) → c < length v → bit_at v c ≡ true → length xs ≡ length ys →
    (word_on (settle (subtract_gates (length v) xs ys c) v) (subtract_results (length v) xs ys)
    ≡ cond (ltb (word_on v xs) (word_on v ys)) (word_on v xs + shifted (length xs) 1 - word_on v ys) (word_on v xs - word_on v ys))
    × (bit_at (settle (subtract_gates (length v) xs ys c) v) (less_result (length v) xs ys c) ≡ ltb (word_on v xs) (word_on v ys))
unfolding subtract_gates subtract_results less_result
subtract_does v xs ys c a b h high l =
    let n = length v in
    let inverters = inverter_gates n ys in
    let m = after n inverters in
    let zs = inverter_results n ys in
    let adder = adder_gates m xs zs c in
    let carry = adder_carry m xs zs c in
    let last : Gates = (carry, carry) ∷ [] in
    let g = inverters ++ (adder ++ last) in
    let f = bit_at (settle g v) in
    let o : Obeys f n g = settle_obeys g v (subtract_sound n xs ys c a b h) in
    let p = obeys_both f n inverters (adder ++ last) o in
    let q = obeys_both f m adder last p.1 in
    let i : map f zs ≡ map not (map f ys) = inverts f n ys p.0 in
    let d = subtracts f m xs zs c ys (l ∙ sym (inverter_length n ys)) (inverter_length n ys) (kept g v c h ∙ high) i q.0 in
    let less : not (f carry) ≡ ltb (word_on v xs) (word_on v ys) = d.1 ∙ ap₂ (λ x y. ltb (value x) (value y)) (kept_word g v xs a) (kept_word g v ys b) in (
      d.0 ∙ rw (less, kept_word g v xs a, kept_word g v ys b) refl,
      inverts_one f (after m adder) carry q.1.0 ∙ less,
    )

pub subtract_subtracts : SubtractSubtracts
subtract_subtracts v xs ys c a b h high l = (subtract_does v xs ys c a b h high l).0

pub less_compares : LessCompares
less_compares v xs ys c a b h high l = (subtract_does v xs ys c a b h high l).1

-- the register file: what is asked of lines and words, as the ports' lemmas ask it
lines_below : (v : List Bool) (ps : List (ℕ × ℕ)) → Lines v ps → LinesBelow ps (length v)
lines_below v [] i = tt
lines_below v (p ∷ ps) i = ((i.0.0, i.0.1), lines_below v ps i.1)

lines_inverse : (g : Gates) (v : List Bool) (ps : List (ℕ × ℕ)) → Lines v ps → Inverses (bit_at (settle g v)) ps
lines_inverse g v [] i = tt
lines_inverse g v (p ∷ ps) i = (kept g v p.1 i.0.1 ∙ (i.0.2 ∙ ap not (sym (kept g v p.0 i.0.0))), lines_inverse g v ps i.1)

lines_kept : (g : Gates) (v : List Bool) (ps : List (ℕ × ℕ)) → Lines v ps → line_levels (bit_at (settle g v)) ps ≡ selected v ps
lines_kept g v [] i = refl
lines_kept g v (p ∷ ps) i = ap₂ {C = List Bool} (λ x y. x ∷ y) (kept g v p.0 i.0.0) (lines_kept g v ps i.1)

file_below : (v : List Bool) (w : ℕ) (ws : List (List ℕ)) → File v w ws → FileBelow ws (length v)
file_below v w [] h = tt
file_below v w (x ∷ ws) h = (h.0.0, file_below v w ws h.1)

file_wide : (v : List Bool) (w : ℕ) (ws : List (List ℕ)) → File v w ws → Wide w ws
file_wide v w [] h = tt
file_wide v w (x ∷ ws) h = (h.0.1, file_wide v w ws h.1)

-- a file's levels and its words
abbrev values : List (List Bool) → List ℕ
values [] = []
values (x ∷ xs) = value x ∷ values xs

file_values : (g : Gates) (v : List Bool) (w : ℕ) (ws : List (List ℕ)) → File v w ws → values (file_levels (bit_at (settle g v)) ws) ≡ words_on v ws
file_values g v w [] h = refl
file_values g v w (x ∷ ws) h = ap₂ {C = List ℕ} (λ x y. x ∷ y) (ap value (kept_word g v x h.0.0)) (file_values g v w ws h.1)

value_at : (xs : List (List Bool)) (i : ℕ) → value (get_or xs i []) ≡ word (values xs) i
value_at [] i = refl
value_at (x ∷ xs) zero = refl
value_at (x ∷ xs) (suc i) = value_at xs i

values_set : (xs : List (List Bool)) (i : ℕ) (x : List Bool) → values (set xs i x) ≡ put (values xs) i (value x)
values_set [] i x = refl
values_set (y ∷ xs) zero x = refl
values_set (y ∷ xs) (suc i) x = ap {B = List ℕ} (λ r. value y ∷ r) (values_set xs i x)

pub port_reads : PortReads
port_reads v w ps ws i h l =
    let g = read_gates (length v) ps ws in
    let f = bit_at (settle g v) in
    let e = reads f (length v) w ps ws l (file_wide v w ws h) (lines_inverse g v ps i) (settle_obeys g v (read_sound (length v) ps ws (lines_below v ps i) (file_below v w ws h))) in
    ap value e ∙ (value_at (file_levels f ws) (value (line_levels f ps)) ∙ ap₂ word (file_values g v w ws h) (ap value (lines_kept g v ps i)))

words_values : (v : List Bool) (ws : List (List ℕ)) → words_on v ws ≡ values (file_levels (bit_at v) ws)
words_values v [] = refl
words_values v (x ∷ ws) = ap {B = List ℕ} (λ r. word_on v x ∷ r) (words_values v ws)

values_cond : (e : Bool) (xs ys : List (List Bool)) → values (cond e xs ys) ≡ cond e (values xs) (values ys)
values_cond true xs ys = refl
values_cond false xs ys = refl

pub port_writes : PortWrites
port_writes v w ps e d ws i j a k h l =
    let g = write_gates (length v) ps e d ws in
    let f = bit_at (settle g v) in
    let o = settle_obeys g v (write_sound (length v) ps e d ws (lines_below v ps i) (lines_below v (e ∷ []) j) a (file_below v w ws h)) in
    let r = writes f (length v) w ps e d ws l k (file_wide v w ws h) (lines_inverse g v ps i) (lines_inverse g v (e ∷ []) j).0 o in
    let fw = file_values g v w ws h in
    words_values (settle g v) (write_results (length v) ps e d ws)
    ∙ (ap values r ∙ (values_cond (f e.0) (set (file_levels f ws) (value (line_levels f ps)) (map f d)) (file_levels f ws)
    ∙ rw (values_set (file_levels f ws) (value (line_levels f ps)) (map f d), fw, kept g v e.0 j.0.0, lines_kept g v ps i, kept_word g v d a) refl))
