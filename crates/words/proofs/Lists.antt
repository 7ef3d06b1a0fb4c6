-- Lists of words: what is read, written, taken from the front, and left stays a list of words.
use Rattle.std.proofs.Common.{◌≡◌, ℕ, zero, suc, ◌+◌, ◌<◌, List, [], ◌∷◌, length, get_or, drop, ap, arith}
use Rattle.std.proofs.lemmas.List.{drop_more}
use Rattle.words.specs.Words.{word, put, front, rest, IsTape}

pub word_below : (ws : List ℕ) (i : ℕ) → IsTape ws → word ws i < 65536
word_below [] i h = omega arith
word_below (x ∷ ws) zero h = h.0
word_below (x ∷ ws) (suc i) h = word_below ws i h.1

pub put_below : (ws : List ℕ) (i v : ℕ) → IsTape ws → v < 65536 → IsTape (put ws i v)
put_below [] i v h k = tt
put_below (x ∷ ws) zero v h k = (k, h.1)
put_below (x ∷ ws) (suc i) v h k = (h.0, put_below ws i v h.1 k)

pub front_below : (ws : List ℕ) → IsTape ws → front ws < 65536
front_below [] h = omega arith
front_below (x ∷ ws) h = h.0

pub rest_below : (ws : List ℕ) → IsTape ws → IsTape (rest ws)
rest_below [] h = tt
rest_below (x ∷ ws) h = h.1

-- a tape of which n words are taken: its next word, and the tape with one word more taken
pub front_drop : (ws : List ℕ) (n : ℕ) → n < length ws → front (drop n ws) ≡ get_or ws n 0
front_drop ws n h = ap front (drop_more ws n 0 h)

pub rest_drop : (ws : List ℕ) (n : ℕ) → n < length ws → rest (drop n ws) ≡ drop (n + 1) ws
rest_drop ws n h = ap rest (drop_more ws n 0 h)
