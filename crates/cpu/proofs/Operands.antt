-- Numbers that the second cycle works with: a level and a constant, a word's front, a 9-bit number with its sign carried
-- on, the carry of a difference, the target of a branch.
use Rattle.std.proofs.Common.{◌≡◌, ℕ, zero, suc, ◌+◌, ◌-◌, ◌*◌, ◌%◌, ◌<◌, Bool, true, false, cond, ◌&&◌, ltb, List, [], ◌∷◌, map, take, replicate, sym, refl, ap, ◌∙◌, arith}
use Rattle.std.proofs.lemmas.Bool.{lt-ltb, le-ltb, ltb-true, ltb-false}
use Rattle.words.specs.Words.{add16, bit, value}
use Rattle.machine.specs.Machine.{target}

pub and_false : (x : Bool) → x && false ≡ false
and_false true = refl
and_false false = refl

pub and_true : (x : Bool) → x && true ≡ x
and_true true = refl
and_true false = refl

pub add_none : (x : ℕ) → x + 0 ≡ x
add_none x = omega arith

pub map_take : (f : ℕ → Bool) (k : ℕ) (xs : List ℕ) → map f (take k xs) ≡ take k (map f xs)
map_take f zero xs = refl
map_take f (suc k) [] = refl
map_take f (suc k) (x ∷ xs) = ap {B = List Bool} (λ r. f x ∷ r) (map_take f k xs)

-- a 9-bit number with its sign carried on: itself, or itself less 512 in 16 bits
abbrev pub signed_number : ℕ → ℕ
signed_number n = cond (ltb n 256) n (n + 65024)

pub sign_carried : (w : ℕ) (c : Bool) (x : ℕ) → x < 256 → w % 512 ≡ x + 256 * bit c → x + 256 * value (replicate 8 c) ≡ signed_number (w % 512)
sign_carried w true x h e = let k = le-ltb (w % 512) 256 (omega arith) in rw k (omega arith)
sign_carried w false x h e = let k = lt-ltb (w % 512) 256 (omega arith) in rw k (omega arith)

-- the carry of a difference
pub compare_shifted : (t x : ℕ) → t < 65536 → x < 65536 → ltb (t + 65536 - x) 65536 ≡ ltb t x
compare_shifted t x ht hx = go (ltb t x) refl
  where
    go : (b : Bool) → ltb t x ≡ b → ltb (t + 65536 - x) 65536 ≡ ltb t x
    go true e = let k = ltb-true t x e in lt-ltb (t + 65536 - x) 65536 (omega arith) ∙ sym e
    go false e = let k = ltb-false t x e in le-ltb (t + 65536 - x) 65536 (omega arith) ∙ sym e

pub target_is : (pc x : ℕ) → pc < 65536 → x < 512 → (add16 pc 1 + signed_number x) % 65536 ≡ target pc x
target_is pc x hp hx = go (ltb x 256)
  where
    go : (b : Bool) → (add16 pc 1 + cond b x (x + 65024)) % 65536 ≡ (pc + 1 + x + 65536 - cond b 0 512) % 65536
    go true = omega arith
    go false = omega arith
