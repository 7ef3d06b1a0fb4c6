-- The two ports of a register file, for every width and every number of select lines. A line comes with its inverse.
use Rattle.std.specs.Prelude.{ℕ, suc, List, [], ◌∷◌, ◌++◌}
use Rattle.circuit.specs.Parts.{Gates, after, plus2, plus3, plus4, mux_gates, mux_results}

-- Of each two words that stand side by side, the second where the line s is high, else the first.
unfoldable pub level_gates : ℕ → ℕ → ℕ → List (List ℕ) → Gates
level_gates n s t [] = []
level_gates n s t (x ∷ []) = []
level_gates n s t (x ∷ (y ∷ ws)) = mux_gates n s t y x ++ level_gates (after n (mux_gates n s t y x)) s t ws

unfoldable pub level_results : ℕ → ℕ → ℕ → List (List ℕ) → List (List ℕ)
level_results n s t [] = []
level_results n s t (x ∷ []) = []
level_results n s t (x ∷ (y ∷ ws)) = mux_results n y x ∷ level_results (after n (mux_gates n s t y x)) s t ws

-- Read port: a tree of choices, a level for each select line from the lowest, which halves the words that are left.
unfoldable pub read_gates : ℕ → List (ℕ × ℕ) → List (List ℕ) → Gates
read_gates n [] ws = []
read_gates n (p ∷ ps) ws =
    level_gates n p.0 p.1 ws ++ read_gates (after n (level_gates n p.0 p.1 ws)) ps (level_results n p.0 p.1 ws)

abbrev pub first_word : List (List ℕ) → List ℕ
first_word [] = []
first_word (x ∷ xs) = x

unfoldable pub read_results : ℕ → List (ℕ × ℕ) → List (List ℕ) → List ℕ
read_results n [] ws = first_word ws
read_results n (p ∷ ps) ws = read_results (after n (level_gates n p.0 p.1 ws)) ps (level_results n p.0 p.1 ws)

-- Each line led on to two, with their inverses: the line and not s, the line and s.
unfoldable pub split_gates : ℕ → ℕ → ℕ → List (ℕ × ℕ) → Gates
split_gates n s t [] = []
split_gates n s t (l ∷ ls) = (l.0, t) ∷ (n, n) ∷ (l.0, s) ∷ (plus2 n, plus2 n) ∷ split_gates (plus4 n) s t ls

unfoldable pub split_results : ℕ → List (ℕ × ℕ) → List (ℕ × ℕ)
split_results n [] = []
split_results n (l ∷ ls) = (suc n, n) ∷ (plus3 n, plus2 n) ∷ split_results (plus4 n) ls

-- Decoder: from one line e, a line for each number that the select lines can say; the one they say carries e.
unfoldable pub decoder : ℕ → List (ℕ × ℕ) → ℕ × ℕ → Gates × List (ℕ × ℕ)
decoder n [] e = ([], e ∷ [])
decoder n (p ∷ ps) e = (
  (decoder n ps e).0 ++ split_gates (after n (decoder n ps e).0) p.0 p.1 (decoder n ps e).1,
  split_results (after n (decoder n ps e).0) (decoder n ps e).1,
)

-- Each register takes the word d where its line is high, else it keeps its own.
unfoldable pub keep_gates : ℕ → List (ℕ × ℕ) → List ℕ → List (List ℕ) → Gates
keep_gates n [] d ws = []
keep_gates n (l ∷ ls) d [] = []
keep_gates n (l ∷ ls) d (x ∷ ws) = mux_gates n l.0 l.1 d x ++ keep_gates (after n (mux_gates n l.0 l.1 d x)) ls d ws

unfoldable pub keep_results : ℕ → List (ℕ × ℕ) → List ℕ → List (List ℕ) → List (List ℕ)
keep_results n [] d ws = []
keep_results n (l ∷ ls) d [] = []
keep_results n (l ∷ ls) d (x ∷ ws) = mux_results n d x ∷ keep_results (after n (mux_gates n l.0 l.1 d x)) ls d ws

-- Write port: a decoder, then a choice for each register. e is the line that says whether to write.
unfoldable pub write_gates : ℕ → List (ℕ × ℕ) → ℕ × ℕ → List ℕ → List (List ℕ) → Gates
write_gates n ps e d ws = (decoder n ps e).0 ++ keep_gates (after n (decoder n ps e).0) (decoder n ps e).1 d ws

unfoldable pub write_results : ℕ → List (ℕ × ℕ) → ℕ × ℕ → List ℕ → List (List ℕ) → List (List ℕ)
write_results n ps e d ws = keep_results (after n (decoder n ps e).0) (decoder n ps e).1 d ws
