-- Bytes that stand for levels: from levels to bytes and back, one byte read, bytes that are all 0 or 1, one byte more.
use Rattle.std.proofs.Common.{◌≡◌, ℕ, zero, suc, ◌%◌, ◌<◌, Bool, true, false, not, eqb, List, [], ◌∷◌, ◌++◌, length, get_or, take, sym, refl, ap, ◌∙◌, mod-lt, arith, lit<}
use Rattle.std.proofs.lemmas.List.{get_or-take}
use Rattle.std.proofs.lemmas.Bool.{ne_eqb}
use Rattle.words.specs.Words.{bit, bit_at, All}
use Rattle.words.proofs.Bits.{bit_eqb}
use Rattle.circuit.specs.Sheet.{level, levels}
use Rattle.board.specs.Slices.{bytes, Clean}

-- from levels to bytes and back
pub levels_bytes : (v : List Bool) → levels (bytes v) ≡ v
levels_bytes [] = refl
levels_bytes (true ∷ v) = ap (λ (t : List Bool). true ∷ t) (levels_bytes v)
levels_bytes (false ∷ v) = ap (λ (t : List Bool). false ∷ t) (levels_bytes v)

pub levels_of : (xs : List ℕ) (v : List Bool) → xs ≡ bytes v → levels xs ≡ v
levels_of xs v e = ap levels e ∙ levels_bytes v

pub bytes_append : (v w : List Bool) → bytes (v ++ w) ≡ bytes v ++ bytes w
bytes_append [] w = refl
bytes_append (b ∷ v) w = ap (λ (t : List ℕ). bit b ∷ t) (bytes_append v w)

pub levels_append : (v w : List ℕ) → levels (v ++ w) ≡ levels v ++ levels w
levels_append [] w = refl
levels_append (b ∷ v) w = ap (λ (t : List Bool). level b ∷ t) (levels_append v w)

pub length_levels : (xs : List ℕ) → length (levels xs) ≡ length xs
length_levels [] = refl
length_levels (x ∷ xs) = ap suc (length_levels xs)

-- one byte
pub level_bit : (b : Bool) → level (bit b) ≡ b
level_bit true = refl
level_bit false = refl

pub bit_low : (b : Bool) → bit b < 2
bit_low true = lit< tt
bit_low false = lit< tt

pub not_zero : (n : ℕ) → not (eqb n 0) ≡ level n
not_zero zero = refl
not_zero (suc n) = ap not (ne_eqb (suc n) 0 (λ e. omega arith))

pub lowest_bit : (x : ℕ) → x % 2 ≡ bit (eqb (x % 2) 1)
lowest_bit x = sym (bit_eqb (x % 2) (mod-lt x (lit< tt)))

-- a byte among others
pub getD_bytes : (v : List Bool) (i : ℕ) → get_or (bytes v) i 0 ≡ bit (bit_at v i)
getD_bytes [] i = refl
getD_bytes (b ∷ v) zero = refl
getD_bytes (b ∷ v) (suc i) = getD_bytes v i

pub bit_at_levels : (w : List ℕ) (a : ℕ) → bit_at (levels w) a ≡ level (get_or w a 0)
bit_at_levels [] a = refl
bit_at_levels (x ∷ w) zero = refl
bit_at_levels (x ∷ w) (suc a) = bit_at_levels w a

-- bytes that are all 0 or 1
pub clean_of : (xs : List ℕ) (v : List Bool) → xs ≡ bytes v → Clean xs
clean_of xs v e = e ∙ ap bytes (sym (levels_of xs v e))

pub clean_at : (w : List ℕ) (a : ℕ) → Clean w → get_or w a 0 ≡ bit (bit_at (levels w) a)
clean_at w a h = ap (λ (t : List ℕ). get_or t a 0) h ∙ getD_bytes (levels w) a

pub clean_front : (w : List ℕ) (n a : ℕ) → Clean (take n w) → a < n → get_or w a 0 ≡ bit (bit_at (levels (take n w)) a)
clean_front w n a h l = sym (get_or-take n w a 0 l) ∙ clean_at (take n w) a h

pub bytes_low : (v : List Bool) → All (λ x. x < 2) (bytes v)
bytes_low [] = tt
bytes_low (b ∷ v) = (bit_low b, bytes_low v)

-- one byte more at the end
pub levels_push : (xs : List ℕ) (b : Bool) → levels (xs ++ (bit b ∷ [])) ≡ levels xs ++ (b ∷ [])
levels_push xs b = levels_append xs (bit b ∷ []) ∙ ap (λ (t : Bool). levels xs ++ (t ∷ [])) (level_bit b)

pub clean_push : (xs : List ℕ) (b : Bool) → Clean xs → Clean (xs ++ (bit b ∷ []))
clean_push xs b h =
    ap (λ (t : List ℕ). t ++ (bit b ∷ [])) h ∙ (sym (bytes_append (levels xs) (b ∷ [])) ∙ ap bytes (sym (levels_push xs b)))
