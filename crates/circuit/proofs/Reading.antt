-- The read port reads, of levels f that obey its gates. In order: lines with their inverses and files of words, one
-- level of choices, the whole tree.
use Rattle.std.proofs.Common.{◌≡◌, ℕ, zero, suc, ◌+◌, ◌*◌, Bool, true, false, cond, not, List, [], ◌∷◌, ◌++◌, map, length, get_or, sym, refl, ap, ◌∙◌, ap₂, arith}
use Rattle.words.specs.Words.{bit, value, shifted}
use Rattle.circuit.specs.Parts.{after, paired, inverter_gates, inverter_results, mux_gates}
use Rattle.circuit.specs.PartsRegisters.{level_gates, level_results, read_gates, read_results}
use Rattle.circuit.proofs.Settling.{Obeys, obeys_both}
use Rattle.circuit.proofs.Words.{inverts_one, chooses, mux_length}

-- words all of one width; lines with their inverses; the levels of lines and of words
abbrev pub Wide : ℕ → List (List ℕ) → Type 0
Wide w [] = Unit {0}
Wide w (x ∷ xs) = (length x ≡ w) × Wide w xs

abbrev pub Inverses : (ℕ → Bool) → List (ℕ × ℕ) → Type 0
Inverses f [] = Unit {0}
Inverses f (p ∷ ps) = (f p.1 ≡ not (f p.0)) × Inverses f ps

abbrev pub line_levels : (ℕ → Bool) → List (ℕ × ℕ) → List Bool
line_levels f [] = []
line_levels f (p ∷ ps) = f p.0 ∷ line_levels f ps

abbrev pub file_levels : (ℕ → Bool) → List (List ℕ) → List (List Bool)
file_levels f [] = []
file_levels f (x ∷ xs) = map f x ∷ file_levels f xs

pub file_length : (f : ℕ → Bool) (ws : List (List ℕ)) → length (file_levels f ws) ≡ length ws
file_length f [] = refl
file_length f (x ∷ ws) = ap suc (file_length f ws)

-- lines with the inverters that are fed by them
pub paired_inverses : (f : ℕ → Bool) (n : ℕ) (xs ys : List ℕ) → Obeys f n (inverter_gates n (xs ++ ys)) → Inverses f (paired xs (inverter_results n (xs ++ ys)))
unfolding inverter_gates inverter_results
paired_inverses f n [] ys q = tt
paired_inverses f n (x ∷ xs) ys q = (inverts_one f n x q.0, paired_inverses f (suc n) xs ys q.1)

-- a level leaves one of each two words
abbrev halved : Bool → List (List Bool) → List (List Bool)
halved b [] = []
halved b (x ∷ []) = []
halved b (x ∷ (y ∷ ws)) = cond b y x ∷ halved b ws

level_is : (f : ℕ → Bool) (n s t w : ℕ) (ws : List (List ℕ)) → Wide w ws → f t ≡ not (f s) → Obeys f n (level_gates n s t ws) → file_levels f (level_results n s t ws) ≡ halved (f s) (file_levels f ws)
unfolding level_gates level_results
level_is f n s t w [] h e q = refl
level_is f n s t w (x ∷ []) h e q = refl
level_is f n s t w (x ∷ (y ∷ ws)) h e q =
    let r = obeys_both f n (mux_gates n s t y x) (level_gates (after n (mux_gates n s t y x)) s t ws) q in
    ap₂ {C = List (List Bool)} (λ a b. a ∷ b) (chooses f n s t y x (h.1.0 ∙ sym h.0) e r.0) (level_is f (after n (mux_gates n s t y x)) s t w ws h.1.1 e r.1)

pub level_wide : (n s t w : ℕ) (ws : List (List ℕ)) → Wide w ws → Wide w (level_results n s t ws)
unfolding level_results
level_wide n s t w [] h = tt
level_wide n s t w (x ∷ []) h = tt
level_wide n s t w (x ∷ (y ∷ ws)) h = (mux_length n y x (h.1.0 ∙ sym h.0) ∙ h.1.0, level_wide (after n (mux_gates n s t y x)) s t w ws h.1.1)

pub level_length : (n s t k : ℕ) (ws : List (List ℕ)) → length ws ≡ 2 * k → length (level_results n s t ws) ≡ k
unfolding level_results
level_length n s t k [] l = omega arith
level_length n s t k (x ∷ []) l = absurd (omega arith)
level_length n s t zero (x ∷ (y ∷ ws)) l = absurd (omega arith)
level_length n s t (suc k) (x ∷ (y ∷ ws)) l = ap suc (level_length (after n (mux_gates n s t y x)) s t k ws (omega arith))

at_halved : (b : Bool) (k : ℕ) (ws : List (List Bool)) (i : ℕ) → length ws ≡ 2 * k → get_or (halved b ws) i [] ≡ get_or ws (bit b + 2 * i) []
at_halved b k [] i l = refl
at_halved b k (x ∷ []) i l = absurd (omega arith)
at_halved true k (x ∷ (y ∷ ws)) zero l = refl
at_halved false k (x ∷ (y ∷ ws)) zero l = refl
at_halved b zero (x ∷ (y ∷ ws)) (suc i) l = absurd (omega arith)
at_halved b (suc k) (x ∷ (y ∷ ws)) (suc i) l =
    let e : bit b + 2 * suc i ≡ suc (suc (bit b + 2 * i)) = omega arith in
    rw e (at_halved b k ws i (omega arith))

-- the tree, by induction over the select lines
pub reads : (f : ℕ → Bool) (n w : ℕ) (ps : List (ℕ × ℕ)) (ws : List (List ℕ)) → length ws ≡ shifted (length ps) 1 → Wide w ws → Inverses f ps → Obeys f n (read_gates n ps ws) →
    map f (read_results n ps ws) ≡ get_or (file_levels f ws) (value (line_levels f ps)) []
unfolding read_gates read_results
reads f n w [] [] l h p q = refl
reads f n w [] (x ∷ ws) l h p q = refl
reads f n w (p ∷ ps) ws l h i q =
    let m = after n (level_gates n p.0 p.1 ws) in
    let r = obeys_both f n (level_gates n p.0 p.1 ws) (read_gates m ps (level_results n p.0 p.1 ws)) q in
    let k = shifted (length ps) 1 in
    reads f m w ps (level_results n p.0 p.1 ws) (level_length n p.0 p.1 k ws l) (level_wide n p.0 p.1 w ws h) i.1 r.1
    ∙ (ap (λ u. get_or u (value (line_levels f ps)) []) (level_is f n p.0 p.1 w ws h i.0 r.0)
    ∙ at_halved (f p.0) k (file_levels f ws) (value (line_levels f ps)) (file_length f ws ∙ l))
