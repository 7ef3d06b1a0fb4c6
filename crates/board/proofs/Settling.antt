-- A pass over the gates in bytes: each gate's byte is the NAND of two bytes before it, and with all gates passed the
-- bytes are the settled levels.
use Rattle.std.proofs.Common.{◌≡◌, ℕ, ◌+◌, ◌*◌, ◌<◌, Bool, true, false, List, [], ◌∷◌, ◌++◌, length, get_or, take, drop, set, sym, refl, ap, ◌∙◌, subst, arith}
use lib.Bits.{bit_and, bit_xor}
use Rattle.std.proofs.lemmas.List.{take_more_set}
use Rattle.words.specs.Words.{bit, nand, bit_at}
use Rattle.circuit.specs.Circuit.{settle, SoundGates}
use Rattle.circuit.specs.Sheet.{pairs, levels}
use Rattle.board.specs.Slices.{bytes, Clean}
use Rattle.board.proofs.Bytes.{clean_front, clean_push, levels_push, levels_of}
use Rattle.board.proofs.Wiring.{Gate, two_off, sound_at}

nand_byte : (x y : Bool) → bit_xor (bit_and (bit x) (bit y)) 1 ≡ bit (nand x y)
nand_byte true true = refl
nand_byte true false = refl
nand_byte false true = refl
nand_byte false false = refl

-- a gate's byte, from bytes before it that are 0 or 1
pub gate_is : (w : List ℕ) (n x y : ℕ) → Clean (take n w) → x < n → y < n
    → bit_xor (bit_and (get_or w x 0) (get_or w y 0)) 1 ≡ bit (nand (bit_at (levels (take n w)) x) (bit_at (levels (take n w)) y))
gate_is w n x y h a b =
    let v = levels (take n w) in
    ap (λ (t : ℕ). bit_xor (bit_and t (get_or w y 0)) 1) (clean_front w n x h a)
    ∙ (ap (λ (t : ℕ). bit_xor (bit_and (bit (bit_at v x)) t) 1) (clean_front w n y h b) ∙ nand_byte (bit_at v x) (bit_at v y))

-- a pass that has come to gate i, the first of which goes to the byte at base, and that leads to the levels all
pub record Pass (wires : List ℕ) (base i : ℕ) (work : List ℕ) (all : List Bool) : Type 0 where
  pub clean : Clean (take (base + i) work)
  pub same : settle (pairs (drop (2 * i) wires)) (levels (take (base + i) work)) ≡ all

-- gate i settled
pub pass_more : (xs : List ℕ) (gates : List (List ℕ)) (w : List ℕ) (base i : ℕ) (all : List Bool) → SoundGates (pairs xs) base → Gate xs gates i → base + i < length w → Pass xs base i w all
    → Pass xs base (i + 1) (set w (base + i) (bit_xor (bit_and (get_or w (get_or (get_or gates i []) 0 0) 0) (get_or w (get_or (get_or gates i []) 1 0) 0)) 1)) all
pass_more xs gates w base i all sound gate l s =
    let n = base + i in
    let p = 2 * i in
    let x = get_or xs p 0 in
    let y = get_or xs (p + 1) 0 in
    let v = levels (take n w) in
    let g = sound_at xs base i sound gate.there in
    let b = nand (bit_at v x) (bit_at v y) in
    let byte : bit_xor (bit_and (get_or w (get_or (get_or gates i []) 0 0) 0) (get_or w (get_or (get_or gates i []) 1 0) 0)) 1 ≡ bit b = rw (gate.one, gate.other) (gate_is w n x y s.clean g.0 g.1) in
    let w' = set w n (bit_xor (bit_and (get_or w (get_or (get_or gates i []) 0 0) 0) (get_or w (get_or (get_or gates i []) 1 0) 0)) 1) in
    let more : take (n + 1) w' ≡ take n w ++ (bit b ∷ []) = take_more_set w n _ l ∙ ap (λ (t : ℕ). take n w ++ (t ∷ [])) byte in
    let en : n + 1 ≡ base + (i + 1) = omega arith in
    let ep : p + 2 ≡ 2 * (i + 1) = omega arith in
    let new : take (base + (i + 1)) w' ≡ take n w ++ (bit b ∷ []) = ap (λ (m : ℕ). take m w') (sym en) ∙ more in
    record {
      clean = subst Clean (sym new) (clean_push (take n w) b s.clean);
      same = ap (λ (t : List ℕ). settle (pairs (drop (2 * (i + 1)) xs)) (levels t)) new
          ∙ (ap (λ (q : ℕ). settle (pairs (drop q xs)) (levels (take n w ++ (bit b ∷ [])))) (sym ep)
          ∙ (ap (settle (pairs (drop (p + 2) xs))) (levels_push (take n w) b)
          ∙ (ap (λ (t : List ℕ). settle (pairs t) v) (sym (two_off xs p gate.there)) ∙ s.same)));
    }

-- the bytes after a pass, by the levels that it started from
pub settled : (xs w w' : List ℕ) (n : ℕ) (v : List Bool) → take n w ≡ bytes v → w' ≡ bytes (settle (pairs xs) (levels (take n w))) → w' ≡ bytes (settle (pairs xs) v)
settled xs w w' n v e h = h ∙ ap (λ (t : List Bool). bytes (settle (pairs xs) t)) (levels_of (take n w) v e)
