-- The lowest bits of a number: their value is a remainder, at any width and at those that instructions have; halving
-- several times; a word less another, by the other's inverse.
use Rattle.std.proofs.Common.{◌≡◌, ℕ, ◌+◌, ◌-◌, ◌/◌, ◌%◌, ◌<◌, not, map, length, refl, ap, ◌∙◌, arith}
use Rattle.words.specs.Words.{bits, value, shifted}
use Rattle.words.proofs.Bits.{value_low, value_not, value_bits_16}

-- x is r below the n-th power of 2, and k times that power
pub low_bits : (n x r k : ℕ) → x ≡ r + shifted n k → r < shifted n 1 → value (bits n x) ≡ r
low_bits n x r k e h = ap (λ y. value (bits n y)) e ∙ value_low n r k h

pub low_3 : (x : ℕ) → value (bits 3 x) ≡ x % 8
low_3 x = low_bits 3 x (x % 8) (x / 8) (omega arith) (omega arith)

pub low_4 : (x : ℕ) → value (bits 4 x) ≡ x % 16
low_4 x = low_bits 4 x (x % 16) (x / 16) (omega arith) (omega arith)

pub low_6 : (x : ℕ) → value (bits 6 x) ≡ x % 64
low_6 x = low_bits 6 x (x % 64) (x / 64) (omega arith) (omega arith)

pub low_8 : (x : ℕ) → value (bits 8 x) ≡ x % 256
low_8 x = low_bits 8 x (x % 256) (x / 256) (omega arith) (omega arith)

pub low_9 : (x : ℕ) → value (bits 9 x) ≡ x % 512
low_9 x = low_bits 9 x (x % 512) (x / 512) (omega arith) (omega arith)

pub low_16 : (x : ℕ) → value (bits 16 x) ≡ x % 65536
low_16 x = low_bits 16 x (x % 65536) (x / 65536) (omega arith) (omega arith)

-- halved three, six, nine and twelve times
pub halved_3 : (w : ℕ) → w / 2 / 2 / 2 ≡ w / 8
halved_3 w = omega arith

pub halved_6 : (w : ℕ) → w / 2 / 2 / 2 / 2 / 2 / 2 ≡ w / 64
halved_6 w = omega arith

pub halved_9 : (w : ℕ) → w / 2 / 2 / 2 / 2 / 2 / 2 / 2 / 2 / 2 ≡ w / 512
halved_9 w = rw (halved_6 w, halved_3 (w / 64)) (omega arith)

pub halved_12 : (w : ℕ) → w / 2 / 2 / 2 / 2 / 2 / 2 / 2 / 2 / 2 / 2 / 2 / 2 ≡ w / 4096
halved_12 w = rw (halved_6 w, halved_6 (w / 64)) (omega arith)

-- t less y: t, the inverse of y, and 1
pub less_by_inverse : (t y : ℕ) → t < 65536 → y < 65536 → t + value (map not (bits 16 y)) + 1 ≡ t + 65536 - y
less_by_inverse t y ht hy =
    let n = value_not (bits 16 y) in
    let l : shifted (length (bits 16 y)) 1 ≡ 65536 = refl in
    let v = value_bits_16 y hy in
    go (value (map not (bits 16 y))) (value (bits 16 y)) (shifted (length (bits 16 y)) 1) n l v
  where
    go : (a b c : ℕ) → a + b + 1 ≡ c → c ≡ 65536 → b ≡ y → t + a + 1 ≡ t + 65536 - y
    go a b c n l v = omega arith
