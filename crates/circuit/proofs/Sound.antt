-- Each part's gates are fed by signals before them, if the signals that the part is given are there. In order: more
-- signals, words and sums, the read port, the write port.
use Rattle.std.proofs.Common.{◌≡◌, ℕ, suc, ◌<◌, ◌≤◌, List, [], ◌∷◌, ◌++◌, arith}
use Rattle.circuit.specs.Circuit.{SoundGates, AllBelow}
use Rattle.circuit.specs.Parts.{Gates, after, plus2, plus3, plus4, inverter_gates, inverter_results, nand_gates, mux_gates, mux_results, invert_if_gates, zero_gates}
use Rattle.circuit.specs.PartsAdder.{plus8, plus9, adder_gates, adder_carry, subtract_gates}
use Rattle.circuit.specs.PartsRegisters.{level_gates, level_results, read_gates, split_gates, split_results, decoder, keep_gates, write_gates}
use Rattle.circuit.proofs.Settling.{after_length, after_both}

-- signals that are there stay there when more come
pub below_more : (xs : List ℕ) (n m : ℕ) → n ≤ m → AllBelow xs n → AllBelow xs m
below_more [] n m h b = tt
below_more (x ∷ xs) n m h b = (let q = b.0 in omega arith, below_more xs n m h b.1)

pub after_more : (n : ℕ) (gs : Gates) → n ≤ after n gs
after_more n gs = let e = after_length n gs in omega arith

pub sound_both : (n : ℕ) (gs hs : Gates) → SoundGates gs n → SoundGates hs (after n gs) → SoundGates (gs ++ hs) n
sound_both n [] hs a b = b
sound_both n (g ∷ gs) hs a b = (a.0, a.1, sound_both (suc n) gs hs a.2 b)

-- words, and the zero test
pub inverter_sound : (n m : ℕ) (xs : List ℕ) → n ≤ m → AllBelow xs n → SoundGates (inverter_gates m xs) m
unfolding inverter_gates
inverter_sound n m [] h a = tt
inverter_sound n m (x ∷ xs) h a = let p = a.0 in (omega arith, omega arith, inverter_sound n (suc m) xs (omega arith) a.1)

pub nand_sound : (n m : ℕ) (xs ys : List ℕ) → n ≤ m → AllBelow xs n → AllBelow ys n → SoundGates (nand_gates m xs ys) m
unfolding nand_gates
nand_sound n m [] ys h a b = tt
nand_sound n m (x ∷ xs) [] h a b = tt
nand_sound n m (x ∷ xs) (y ∷ ys) h a b = let p = a.0 in let q = b.0 in (omega arith, omega arith, nand_sound n (suc m) xs ys (omega arith) a.1 b.1)

pub mux_sound : (n m s t : ℕ) (xs ys : List ℕ) → n ≤ m → s < n → t < n → AllBelow xs n → AllBelow ys n → SoundGates (mux_gates m s t xs ys) m
unfolding mux_gates
mux_sound n m s t [] ys h hs ht a b = tt
mux_sound n m s t (x ∷ xs) [] h hs ht a b = tt
mux_sound n m s t (x ∷ xs) (y ∷ ys) h hs ht a b =
    let p = a.0 in
    let q = b.0 in
    (omega arith, omega arith, (omega arith, omega arith, (omega arith, omega arith, mux_sound n (plus3 m) s t xs ys (omega arith) hs ht a.1 b.1)))

pub mux_below : (n m s t : ℕ) (xs ys : List ℕ) → AllBelow (mux_results m xs ys) (after m (mux_gates m s t xs ys))
unfolding mux_gates mux_results
mux_below n m s t [] ys = tt
mux_below n m s t (x ∷ xs) [] = tt
mux_below n m s t (x ∷ xs) (y ∷ ys) = (let e = after_more (plus3 m) (mux_gates (plus3 m) s t xs ys) in omega arith, mux_below n (plus3 m) s t xs ys)

pub invert_if_sound : (n m s : ℕ) (xs : List ℕ) → n ≤ m → s < n → AllBelow xs n → SoundGates (invert_if_gates m s xs) m
unfolding invert_if_gates
invert_if_sound n m s [] h hs a = tt
invert_if_sound n m s (x ∷ xs) h hs a =
    let p = a.0 in
    (omega arith, omega arith, (omega arith, omega arith, (omega arith, omega arith, (omega arith, omega arith, invert_if_sound n (plus4 m) s xs (omega arith) hs a.1))))

pub zero_sound : (n m z : ℕ) (xs : List ℕ) → n ≤ m → z < m → AllBelow xs n → SoundGates (zero_gates m z xs) m
unfolding zero_gates
zero_sound n m z [] h hz a = tt
zero_sound n m z (x ∷ xs) h hz a =
    let p = a.0 in
    (omega arith, omega arith, (omega arith, omega arith, (omega arith, omega arith, zero_sound n (plus3 m) (plus2 m) xs (omega arith) (omega arith) a.1)))

-- sums
pub adder_sound : (n m : ℕ) (xs ys : List ℕ) (c : ℕ) → n ≤ m → AllBelow xs n → AllBelow ys n → c < m → SoundGates (adder_gates m xs ys c) m
unfolding adder_gates
adder_sound n m [] ys c h a b k = tt
adder_sound n m (x ∷ xs) [] c h a b k = tt
adder_sound n m (x ∷ xs) (y ∷ ys) c h a b k =
    let p = a.0 in
    let q = b.0 in (
      omega arith,
      omega arith,
      (
        omega arith,
        omega arith,
        (
          omega arith,
          omega arith,
          (
            omega arith,
            omega arith,
            (
              omega arith,
              omega arith,
              (
                omega arith,
                omega arith,
                (
                  omega arith,
                  omega arith,
                  (
                    omega arith,
                    omega arith,
                    (
                      omega arith,
                      omega arith,
                      adder_sound n (plus9 m) xs ys (plus8 m) (omega arith) a.1 b.1 (omega arith),
                    ),
                  ),
                ),
              ),
            ),
          ),
        ),
      ),
    )

carry_below : (m : ℕ) (xs ys : List ℕ) (c : ℕ) → c < m → adder_carry m xs ys c < after m (adder_gates m xs ys c)
unfolding adder_gates adder_carry
carry_below m [] ys c h = h
carry_below m (x ∷ xs) [] c h = h
carry_below m (x ∷ xs) (y ∷ ys) c h = carry_below (plus9 m) xs ys (plus8 m) (omega arith)

inverter_below : (m : ℕ) (xs : List ℕ) → AllBelow (inverter_results m xs) (after m (inverter_gates m xs))
unfolding inverter_gates inverter_results
inverter_below m [] = tt
inverter_below m (x ∷ xs) = (let e = after_more (suc m) (inverter_gates (suc m) xs) in omega arith, inverter_below (suc m) xs)

pub subtract_sound : (n : ℕ) (xs ys : List ℕ) (c : ℕ) → AllBelow xs n → AllBelow ys n → c < n → SoundGates (subtract_gates n xs ys c) n
unfolding subtract_gates
subtract_sound n xs ys c a b h =
    let m = after n (inverter_gates n ys) in
    let nm : n ≤ m = after_more n (inverter_gates n ys) in
    let adder = adder_gates m xs (inverter_results n ys) c in
    let cm : c < m = omega arith in
    let k : adder_carry m xs (inverter_results n ys) c < after m adder = carry_below m xs (inverter_results n ys) c cm in
    let last : Gates = (adder_carry m xs (inverter_results n ys) c, adder_carry m xs (inverter_results n ys) c) ∷ [] in
    sound_both n (inverter_gates n ys) (adder ++ last) (inverter_sound n n ys (omega arith) b)
    (sound_both m adder last (adder_sound m m xs (inverter_results n ys) c (omega arith) (below_more xs n m nm a) (inverter_below n ys) cm) (k, k, tt))

-- the read port
abbrev pub FileBelow : List (List ℕ) → ℕ → Type 0
FileBelow [] n = Unit {0}
FileBelow (x ∷ ws) n = AllBelow x n × FileBelow ws n

abbrev pub LinesBelow : List (ℕ × ℕ) → ℕ → Type 0
LinesBelow [] n = Unit {0}
LinesBelow (p ∷ ps) n = ((p.0 < n) × (p.1 < n)) × LinesBelow ps n

file_more : (ws : List (List ℕ)) (n m : ℕ) → n ≤ m → FileBelow ws n → FileBelow ws m
file_more [] n m h b = tt
file_more (x ∷ ws) n m h b = (below_more x n m h b.0, file_more ws n m h b.1)

lines_more : (ps : List (ℕ × ℕ)) (n m : ℕ) → n ≤ m → LinesBelow ps n → LinesBelow ps m
lines_more [] n m h b = tt
lines_more (p ∷ ps) n m h b = let a = b.0.0 in let c = b.0.1 in ((omega arith, omega arith), lines_more ps n m h b.1)

level_sound : (n m s t : ℕ) (ws : List (List ℕ)) → n ≤ m → s < n → t < n → FileBelow ws n →
    SoundGates (level_gates m s t ws) m × FileBelow (level_results m s t ws) (after m (level_gates m s t ws))
unfolding level_gates level_results
level_sound n m s t [] h hs ht a = (tt, tt)
level_sound n m s t (x ∷ []) h hs ht a = (tt, tt)
level_sound n m s t (x ∷ (y ∷ ws)) h hs ht a =
    let g = mux_gates m s t y x in
    let k = after_more m g in
    let r = level_sound n (after m g) s t ws (omega arith) hs ht a.1.1 in
    let l = level_gates (after m g) s t ws in
    let e : after m (g ++ l) ≡ after (after m g) l = after_both m g l in (
      sound_both m g l (mux_sound n m s t y x h hs ht a.1.0 a.0) r.0,
      (rw e (below_more (mux_results m y x) (after m g) (after (after m g) l) (after_more (after m g) l) (mux_below n m s t y x)), rw e r.1),
    )

pub read_sound : (n : ℕ) (ps : List (ℕ × ℕ)) (ws : List (List ℕ)) → LinesBelow ps n → FileBelow ws n → SoundGates (read_gates n ps ws) n
unfolding read_gates
read_sound n [] ws p a = tt
read_sound n (p ∷ ps) ws b a =
    let g = level_gates n p.0 p.1 ws in
    let r = level_sound n n p.0 p.1 ws (omega arith) b.0.0 b.0.1 a in
    sound_both n g (read_gates (after n g) ps (level_results n p.0 p.1 ws)) r.0
    (read_sound (after n g) ps (level_results n p.0 p.1 ws) (lines_more ps n (after n g) (after_more n g) b.1) r.1)

-- the write port
split_sound : (n m s t : ℕ) (ls : List (ℕ × ℕ)) → n ≤ m → s < n → t < n → LinesBelow ls n →
    SoundGates (split_gates m s t ls) m × LinesBelow (split_results m ls) (after m (split_gates m s t ls))
unfolding split_gates split_results
split_sound n m s t [] h hs ht a = (tt, tt)
split_sound n m s t (l ∷ ls) h hs ht a =
    let p = a.0.0 in
    let r = split_sound n (plus4 m) s t ls (omega arith) hs ht a.1 in
    let e = after_more (plus4 m) (split_gates (plus4 m) s t ls) in (
      (omega arith, omega arith, (omega arith, omega arith, (omega arith, omega arith, (omega arith, omega arith, r.0)))),
      ((omega arith, omega arith), ((omega arith, omega arith), r.1)),
    )

decoder_sound : (n : ℕ) (ps : List (ℕ × ℕ)) (e : ℕ × ℕ) → LinesBelow ps n → LinesBelow (e ∷ []) n →
    SoundGates (decoder n ps e).0 n × LinesBelow (decoder n ps e).1 (after n (decoder n ps e).0)
unfolding decoder
decoder_sound n [] e a b = (tt, b)
decoder_sound n (p ∷ ps) e a b =
    let r = decoder_sound n ps e a.1 b in
    let g = (decoder n ps e).0 in
    let m = after n g in
    let k : n ≤ m = after_more n g in
    let s : p.0 < m = let q = a.0.0 in omega arith in
    let t : p.1 < m = let q = a.0.1 in omega arith in
    let d = split_sound m m p.0 p.1 (decoder n ps e).1 (omega arith) s t r.1 in
    let h = split_gates m p.0 p.1 (decoder n ps e).1 in
    (sound_both n g h r.0 d.0, rw (after_both n g h) d.1)

keep_sound : (n m : ℕ) (ls : List (ℕ × ℕ)) (d : List ℕ) (ws : List (List ℕ)) → n ≤ m → LinesBelow ls n → AllBelow d n → FileBelow ws n → SoundGates (keep_gates m ls d ws) m
unfolding keep_gates
keep_sound n m [] d ws h a b c = tt
keep_sound n m (l ∷ ls) d [] h a b c = tt
keep_sound n m (l ∷ ls) d (x ∷ ws) h a b c =
    let g = mux_gates m l.0 l.1 d x in
    let k = after_more m g in
    sound_both m g (keep_gates (after m g) ls d ws) (mux_sound n m l.0 l.1 d x h a.0.0 a.0.1 b c.0)
    (keep_sound n (after m g) ls d ws (omega arith) a.1 b c.1)

pub write_sound : (n : ℕ) (ps : List (ℕ × ℕ)) (e : ℕ × ℕ) (d : List ℕ) (ws : List (List ℕ)) → LinesBelow ps n → LinesBelow (e ∷ []) n → AllBelow d n → FileBelow ws n → SoundGates (write_gates n ps e d ws) n
unfolding write_gates
write_sound n ps e d ws a b c h =
    let g = (decoder n ps e).0 in
    let r = decoder_sound n ps e a b in
    let m = after n g in
    let k = after_more n g in
    sound_both n g (keep_gates m (decoder n ps e).1 d ws) r.0
    (keep_sound m m (decoder n ps e).1 d ws (omega arith) r.1 (below_more d n m k c) (file_more ws n m k h))
