-- The loops over words of sixteen bits, each turn of which draws a choice of two words: what one turn adds, for any gates
-- then for a level of the read port and for the registers.
use Rattle.std.proofs.Common.{◌≡◌, ℕ, ◌+◌, ◌-◌, ◌*◌, ◌<◌, ◌≤◌, List, [], ◌∷◌, ◌++◌, ◌⊎◌, inl, inr, length, get_or, take, drop, map, sym, refl, ap, ◌∙◌, arith}
use borrow.Rule.Slice.PartMut.{put_mid}
use Rattle.std.proofs.lemmas.List.{length-append}
use Rattle.circuit.specs.Parts.{Gates, after, mux_gates}
use Rattle.circuit.specs.PartsRegisters.{level_gates, keep_gates}
use Rattle.circuit.proofs.Settling.{after_length}
use Rattle.cpu.specs.declared.signals.Line.{Line}
use Rattle.cpu.specs.Lines.{both}
use Rattle.cpu.specs.Ink.{ink, Drew}
use Rattle.cpu.proofs.BitByBit.{bits_size, mux_bit, mux_bits}
use Rattle.cpu.proofs.Inking.{Begun, begun_more, begun_all, drew_part, ink_append, ink_length}

mux_length : (n s t : ℕ) (xs ys : List ℕ) → length xs ≡ 16 → length ys ≡ 16 → length (mux_gates n s t xs ys) ≡ 48
mux_length n s t xs ys l k =
    let e = ap length (mux_bits s t n 0 xs ys) in
    let m = bits_size (mux_bit s t) 3 (λ _ _ _ _. refl) n 0 xs ys (l ∙ sym k) in
    omega arith

after_mux : (n n' s t : ℕ) (xs ys : List ℕ) → n + 48 ≡ n' → length xs ≡ 16 → length ys ≡ 16 → after n (mux_gates n s t xs ys) ≡ n'
after_mux n n' s t xs ys e l k = omega (arith, after_length n (mux_gates n s t xs ys), mux_length n s t xs ys l k)

-- k choices are drawn, and rest is left
pub record Chosen (w0 all w : List ℕ) (k : ℕ) (rest : Gates) : Type 0 where
  pub begun : Begun w0 0 all w (96 * k) (ink rest)
  pub sized : 96 * k + length (ink rest) ≡ length all

pub chosen_more : (n s t : ℕ) (xs ys : List ℕ) {w0 all w new : List ℕ} {i k k' : ℕ} {us rest : Gates} → i ≡ k → k' ≡ k + 1 → length xs ≡ 16 → length ys ≡ 16 →
    us ≡ mux_gates n s t xs ys ++ rest → 96 * i ≤ length w → Drew (take (length w - 96 * i) (drop (96 * i) w)) 0 (ink (mux_gates n s t xs ys)) new →
    Chosen w0 all w k us → Chosen w0 all (put_mid (96 * i) (length w - 96 * i) w new) k' rest
chosen_more n s t xs ys {w0} {all} {w} {new} {i} {k} {k'} {us} {rest} ei ek lx ly e room d p =
    let g = mux_gates n s t xs ys in
    let l = mux_length n s t xs ys lx ly in
    let i-size = ink_length g in
    let u : ink us ≡ ink g ++ ink rest = ap ink e ∙ ink_append g rest in
    let m : 96 * i + length (ink g) ≡ 96 * k' = omega arith in
    let b : Begun w0 0 all w (96 * i) (ink us) = rw ei p.begun in
    record {
      begun = begun_more b u (drew_part w (96 * i) (ink g) new room d) m;
      sized = omega (arith, p.sized, ap length u, length-append (ink g) (ink rest));
    }

pub chosen_all : {w0 all w : List ℕ} {k : ℕ} {rest : Gates} → Chosen w0 all w k rest → rest ≡ [] → Drew w0 0 all w
chosen_all {w0} {all} {w} {k} {rest} p e =
    let l = ap length (ap ink e) in
    begun_all p.begun (ap ink e) (omega (arith, p.sized))

-- a level of the read port
pub level_next : (n n' s t : ℕ) (p ws us : List (List ℕ)) → n + 48 ≡ n' → us ≡ p ++ ws → length p ≡ 2 → length (get_or p 1 []) ≡ 16 → length (get_or p 0 []) ≡ 16 →
    level_gates n s t us ≡ mux_gates n s t (get_or p 1 []) (get_or p 0 []) ++ level_gates n' s t ws
unfolding level_gates
level_next n n' s t [] ws us en e l ly lx = absurd (omega arith)
level_next n n' s t (x ∷ []) ws us en e l ly lx = absurd (omega arith)
level_next n n' s t (x ∷ (y ∷ [])) ws us en e l ly lx = rw e (ap (λ k. mux_gates n s t y x ++ level_gates k s t ws) (after_mux n n' s t y x en ly lx))
level_next n n' s t (x ∷ (y ∷ (z ∷ p))) ws us en e l ly lx = absurd (omega arith)

pub level_none : (n s t : ℕ) (ws : List (List ℕ)) → length ws < 2 → level_gates n s t ws ≡ []
unfolding level_gates
level_none n s t [] h = refl
level_none n s t (x ∷ []) h = refl
level_none n s t (x ∷ (y ∷ ws)) h = absurd (omega arith)

-- registers that keep or take
pub keep_next : (n n' : ℕ) (d : List ℕ) {l : Line} {ls us : List Line} {x : List ℕ} {ws vs : List (List ℕ)} → n + 48 ≡ n' → us ≡ l ∷ ls → vs ≡ x ∷ ws → length d ≡ 16 → length x ≡ 16 →
    keep_gates n (map both us) d vs ≡ mux_gates n l.0 l.1 d x ++ keep_gates n' (map both ls) d ws
unfolding keep_gates
keep_next n n' d {l} {ls} {us} {x} {ws} {vs} en eu ev ld lx = rw (eu, ev) (ap (λ k. mux_gates n l.0 l.1 d x ++ keep_gates k (map both ls) d ws) (after_mux n n' l.0 l.1 d x en ld lx))

pub keep_none : (n : ℕ) (us : List Line) (d : List ℕ) (vs : List (List ℕ)) → (us ≡ []) ⊎ (vs ≡ []) → keep_gates n (map both us) d vs ≡ []
unfolding keep_gates
keep_none n us d vs (inl e) = rw e refl
keep_none n [] d vs (inr e) = refl
keep_none n (u ∷ us) d vs (inr e) = rw e refl
