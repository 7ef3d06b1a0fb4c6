-- A part drawn bit by bit: what one more bit adds, and what is left when a word ends.
use Rattle.std.proofs.Common.{◌≡◌, ℕ, suc, ◌+◌, ◌-◌, ◌*◌, ◌≤◌, List, [], ◌∷◌, ◌++◌, ◌⊎◌, inl, inr, length, map, take, drop, refl, sym, ap, ap₂, ◌∙◌, arith, length-append, mul-zero, mul-suc}
use borrow.Rule.Slice.PartMut.{put_mid}
use Rattle.circuit.specs.Parts.{Gates, plus2, plus3, plus4, inverter_gates, nand_gates, mux_gates, invert_if_gates, zero_gates}
use Rattle.circuit.specs.PartsAdder.{plus5, plus6, plus8, plus9, full_adder, adder_gates}
use Rattle.circuit.specs.PartsRegisters.{split_gates}
use Rattle.cpu.specs.declared.signals.Line.{Line}
use Rattle.cpu.specs.Lines.{both}
use Rattle.cpu.specs.Bits.{bits}
use Rattle.cpu.specs.Ink.{ink, Drew}
use Rattle.cpu.proofs.Inking.{Begun, begun_none, begun_more, drew_part, ink_append, ink_length}

bits_cons : {X : Type 0} (part : ℕ → ℕ → X → X → Gates) (k n c : ℕ) (x y : X) (xs ys us vs : List X) → us ≡ x ∷ xs → vs ≡ y ∷ ys →
    bits part k n c us vs ≡ part n c x y ++ bits part k (n + k) (n + k - 1) xs ys
bits_cons part k n c x y xs ys us vs eu ev = rw (eu, ev) refl

pub bits_length : {X : Type 0} (part : ℕ → ℕ → X → X → Gates) (k n c : ℕ) {x y : X} {xs ys us vs : List X} → us ≡ x ∷ xs → vs ≡ y ∷ ys → length (part n c x y) ≡ k →
    length (bits part k n c us vs) ≡ k + length (bits part k (n + k) (n + k - 1) xs ys)
bits_length part k n c {x} {y} {xs} {ys} {us} {vs} eu ev l =
    let e = ap length (bits_cons part k n c x y xs ys us vs eu ev) in
    let a = length-append (part n c x y) (bits part k (n + k) (n + k - 1) xs ys) in
    omega arith

pub bits_start : {X : Type 0} (part : ℕ → ℕ → X → X → Gates) (k n c : ℕ) (xs ys us vs : List X) (w : List ℕ) → us ≡ xs → vs ≡ ys →
    Begun w 0 (ink (bits part k n c xs ys)) w 0 (ink (bits part k n c us vs))
bits_start part k n c xs ys us vs w eu ev = rw (eu, ev) (begun_none w 0 (ink (bits part k n c xs ys)))

pub bits_begun : {X : Type 0} (part : ℕ → ℕ → X → X → Gates) (k n c : ℕ) {x y : X} {xs ys us vs : List X} {w0 all w : List ℕ} {at : ℕ} {new : List ℕ} → us ≡ x ∷ xs → vs ≡ y ∷ ys → length (part n c x y) ≡ k →
    at ≤ length w → Begun w0 0 all w at (ink (bits part k n c us vs)) → Drew (take (length w - at) (drop at w)) 0 (ink (part n c x y)) new →
    Begun w0 0 all (put_mid at (length w - at) w new) (at + 2 * k) (ink (bits part k (n + k) (n + k - 1) xs ys))
bits_begun part k n c {x} {y} {xs} {ys} {us} {vs} {w0} {all} {w} {at} {new} eu ev l room p d =
    let rest = bits part k (n + k) (n + k - 1) xs ys in
    let e : ink (bits part k n c us vs) ≡ ink (part n c x y) ++ ink rest = ap ink (bits_cons part k n c x y xs ys us vs eu ev) ∙ ink_append (part n c x y) rest in
    let m : at + length (ink (part n c x y)) ≡ at + 2 * k = omega (arith, ink_length (part n c x y)) in
    begun_more p e (drew_part w at (ink (part n c x y)) new room d) m

pub bits_none : {X : Type 0} (part : ℕ → ℕ → X → X → Gates) (k n c : ℕ) (us vs : List X) → (us ≡ []) ⊎ (vs ≡ []) → bits part k n c us vs ≡ []
bits_none part k n c us vs (inl e) = rw e refl
bits_none part k n c [] vs (inr e) = refl
bits_none part k n c (u ∷ us) vs (inr e) = rw e refl

-- how many gates there are
pub bits_size : {X : Type 0} (part : ℕ → ℕ → X → X → Gates) (k : ℕ) → ((n b : ℕ) (x y : X) → length (part n b x y) ≡ k) → (n c : ℕ) (xs ys : List X) → length xs ≡ length ys →
    length (bits part k n c xs ys) ≡ k * length xs
bits_size part k size n c [] ys l = sym (mul-zero k)
bits_size part k size n c (x ∷ xs) [] l = absurd (omega arith)
bits_size part k size n c (x ∷ xs) (y ∷ ys) l =
    let ih = bits_size part k size (n + k) (n + k - 1) xs ys (omega arith) in
    let a = length-append (part n c x y) (bits part k (n + k) (n + k - 1) xs ys) in
    let s = size n c x y in
    let m : k * length (x ∷ xs) ≡ k * length xs + k = mul-suc k (length xs) in
    omega arith

-- ---- each part bit by bit: the gates of a bit, and that the bits are the part
abbrev pub nand_bit : ℕ → ℕ → ℕ → ℕ → Gates
nand_bit n b x y = (x, y) ∷ []

pub nand_bits : (n b : ℕ) (xs ys : List ℕ) → bits nand_bit 1 n b xs ys ≡ nand_gates n xs ys
unfolding nand_gates
nand_bits n b [] ys = refl
nand_bits n b (x ∷ xs) [] = refl
nand_bits n b (x ∷ xs) (y ∷ ys) = let e : n + 1 ≡ suc n = omega arith in rw (nand_bits (n + 1) (n + 1 - 1) xs ys, e) refl

pub nand_inverts : (n : ℕ) (xs : List ℕ) → nand_gates n xs xs ≡ inverter_gates n xs
unfolding nand_gates inverter_gates
nand_inverts n [] = refl
nand_inverts n (x ∷ xs) = rw (nand_inverts (suc n) xs) refl

abbrev pub mux_bit : ℕ → ℕ → ℕ → ℕ → ℕ → ℕ → Gates
mux_bit s t n b x y = (x, s) ∷ ((y, t) ∷ ((n, n + 1) ∷ []))

pub mux_bits : (s t n b : ℕ) (xs ys : List ℕ) → bits (mux_bit s t) 3 n b xs ys ≡ mux_gates n s t xs ys
unfolding mux_gates
mux_bits s t n b [] ys = refl
mux_bits s t n b (x ∷ xs) [] = refl
mux_bits s t n b (x ∷ xs) (y ∷ ys) =
    let e1 : n + 1 ≡ suc n = omega arith in
    let e3 : n + 3 ≡ plus3 n = omega arith in
    rw (mux_bits s t (n + 3) (n + 3 - 1) xs ys, e1, e3) refl

abbrev pub invert_if_bit : ℕ → ℕ → ℕ → ℕ → ℕ → Gates
invert_if_bit s n b x y = (x, s) ∷ ((x, n) ∷ ((s, n) ∷ ((n + 1, n + 2) ∷ [])))

pub invert_if_bits : (s n b : ℕ) (xs : List ℕ) → bits (invert_if_bit s) 4 n b xs xs ≡ invert_if_gates n s xs
unfolding invert_if_gates
invert_if_bits s n b [] = refl
invert_if_bits s n b (x ∷ xs) =
    let e1 : n + 1 ≡ suc n = omega arith in
    let e2 : n + 2 ≡ plus2 n = omega arith in
    let e4 : n + 4 ≡ plus4 n = omega arith in
    rw (invert_if_bits s (n + 4) (n + 4 - 1) xs, e1, e2, e4) refl

abbrev pub zero_bit : ℕ → ℕ → ℕ → ℕ → Gates
zero_bit n so_far x y = (x, x) ∷ ((so_far, n) ∷ ((n + 1, n + 1) ∷ []))

pub zero_bits : (n z : ℕ) (xs : List ℕ) → bits zero_bit 3 n z xs xs ≡ zero_gates n z xs
unfolding zero_gates
zero_bits n z [] = refl
zero_bits n z (x ∷ xs) =
    let e1 : n + 1 ≡ suc n = omega arith in
    let e2 : n + 3 - 1 ≡ plus2 n = omega arith in
    let e3 : n + 3 ≡ plus3 n = omega arith in
    rw (zero_bits (n + 3) (n + 3 - 1) xs, e1, e2, e3) refl

abbrev pub adder_bit : ℕ → ℕ → ℕ → ℕ → Gates
adder_bit n c a b =
    (a, b) ∷ ((a, n) ∷ ((b, n) ∷ ((n + 1, n + 2) ∷ ((n + 3, c) ∷ ((n + 3, n + 4) ∷ ((c, n + 4) ∷ ((n + 5, n + 6) ∷ ((n, n + 4) ∷ []))))))))

adder_bit_full : (n c a b : ℕ) → adder_bit n c a b ≡ full_adder n a b c
adder_bit_full n c a b =
    let e1 : n + 1 ≡ suc n = omega arith in
    let e2 : n + 2 ≡ plus2 n = omega arith in
    let e3 : n + 3 ≡ plus3 n = omega arith in
    let e4 : n + 4 ≡ plus4 n = omega arith in
    let e5 : n + 5 ≡ plus5 n = omega arith in
    let e6 : n + 6 ≡ plus6 n = omega arith in
    rw (e1, e2, e3, e4, e5, e6) refl

pub adder_bits : (n c : ℕ) (xs ys : List ℕ) → bits adder_bit 9 n c xs ys ≡ adder_gates n xs ys c
unfolding adder_gates
adder_bits n c [] ys = refl
adder_bits n c (x ∷ xs) [] = refl
adder_bits n c (x ∷ xs) (y ∷ ys) =
    let e8 : n + 9 - 1 ≡ plus8 n = omega arith in
    let e9 : n + 9 ≡ plus9 n = omega arith in
    ap₂ {C = Gates} (λ g r. g ++ r) (adder_bit_full n c x y) (adder_bits (n + 9) (n + 9 - 1) xs ys ∙ rw (e8, e9) refl)

abbrev pub split_bit : ℕ → ℕ → ℕ → ℕ → Line → Line → Gates
split_bit s t n b l m = (l.0, t) ∷ ((n, n) ∷ ((l.0, s) ∷ ((n + 2, n + 2) ∷ [])))

pub split_bits : (s t n b : ℕ) (ls : List Line) → bits (split_bit s t) 4 n b ls ls ≡ split_gates n s t (map both ls)
unfolding split_gates
split_bits s t n b [] = refl
split_bits s t n b (l ∷ ls) =
    let e2 : n + 2 ≡ plus2 n = omega arith in
    let e4 : n + 4 ≡ plus4 n = omega arith in
    rw (split_bits s t (n + 4) (n + 4 - 1) ls, e2, e4) refl
