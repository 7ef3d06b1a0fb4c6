-- Cycles of any circuit, one after the other: cycles add up, what is shown stays shown, a board that has halted stays;
-- so a board's run only grows.
use Rattle.std.proofs.Common.{◌≡◌, ℕ, zero, suc, ◌+◌, ◌-◌, ◌<◌, ◌≤◌, Bool, true, false, cond, List, [], ◌∷◌, ◌++◌, refl, ap, ◌∙◌, arith}
use Rattle.words.specs.Words.{bit_at}
use Rattle.words.specs.Runs.{Prefix}
use Rattle.words.proofs.Runs.{prefix_refl, prefix_trans, Grows}
use Rattle.circuit.specs.Circuit.{Circuit, Board, tick, ticks, cycle, unless_halted, pin_levels, datum, emit_pin, power_on, board_run, seen_board}

pub ticks_add : (c : Circuit) (j k : ℕ) (b : Board) → ticks (j + k) c b ≡ ticks k c (ticks j c b)
ticks_add c zero k b = let e : 0 + k ≡ k = omega arith in rw e refl
ticks_add c (suc j) k b = let e : suc j + k ≡ suc (j + k) = omega arith in rw e (ticks_add c j k (tick c b))

-- what is shown stays shown
shown_once : (c : Circuit) (b : Board) → Prefix b.out (tick c b).out
shown_once c b = go b.halted
  where
    more : (e : Bool) (v : ℕ) → Prefix b.out (cond e (b.out ++ (v ∷ [])) b.out)
    more true v = (v ∷ [], refl)
    more false v = prefix_refl b.out

    go : (h : ℕ) → Prefix b.out (unless_halted h b (cycle c b (pin_levels c b))).out
    go zero = more (bit_at (pin_levels c b) emit_pin) (datum (pin_levels c b))
    go (suc h) = prefix_refl b.out

pub shown_stays : (c : Circuit) (k : ℕ) (b : Board) → Prefix b.out (ticks k c b).out
shown_stays c zero b = prefix_refl b.out
shown_stays c (suc k) b = prefix_trans b.out (tick c b).out (ticks k c (tick c b)).out (shown_once c b) (shown_stays c k (tick c b))

-- a board that has halted stays
pub halted_once : (c : Circuit) (b : Board) → 0 < b.halted → tick c b ≡ b
halted_once c b h = go b.halted refl
  where
    go : (n : ℕ) → b.halted ≡ n → tick c b ≡ b
    go zero e = absurd (omega arith)
    go (suc n) e = ap (λ x. unless_halted x b (cycle c b (pin_levels c b))) e

pub halted_stays : (c : Circuit) (k : ℕ) (b : Board) → 0 < b.halted → ticks k c b ≡ b
halted_stays c zero b h = refl
halted_stays c (suc k) b h = ap (ticks k c) (halted_once c b h) ∙ halted_stays c k b h

-- a run from power on, at two times
from_there : (c : Circuit) (b : Board) (j k : ℕ) → j ≤ k → ticks k c b ≡ ticks (k - j) c (ticks j c b)
from_there c b j k h = let e : k ≡ j + (k - j) = omega arith in ap (λ n. ticks n c b) e ∙ ticks_add c j (k - j) b

pub board_grows : (c : Circuit) (mem tape : List ℕ) → Grows (board_run c mem tape)
board_grows c mem tape = record {
  more = λ j k h. (let b = ticks j c (power_on c mem tape) in
      rw (from_there c (power_on c mem tape) j k h) (shown_stays c (k - j) b));
  stays = λ j k h e. ap seen_board (from_there c (power_on c mem tape) j k h ∙ halted_stays c (k - j) (ticks j c (power_on c mem tape)) e);
}
