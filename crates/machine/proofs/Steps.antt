-- Steps in a row: some and then some more; a halted machine stays; a step puts out at most one word and takes nothing
-- back; so a run of the machine only grows.
use Rattle.std.proofs.Common.{◌≡◌, ℕ, zero, suc, ◌+◌, ◌-◌, ◌<◌, ◌≤◌, List, sym, refl, ap, ◌∙◌, subst, suc-add, zero-add, arith}
use Rattle.words.specs.Runs.{Prefix}
use Rattle.words.proofs.Runs.{prefix_refl, prefix_trans, Grows}
use Rattle.machine.specs.Machine.{Machine, Fields, Op, Add, Sub, Nand, Less, Half, Low, High, Load, Store, Zero, Jump, In, Out, Done, Index, Full, act, execute, unless_halted, step, steps, begin, seen_machine, machine_run}

pub steps_add : (j k : ℕ) (s : Machine) → steps (j + k) s ≡ steps k (steps j s)
steps_add zero k s = rw zero-add refl
steps_add (suc j) k s = rw suc-add (steps_add j k (step s))

-- the last step of a row
pub steps_last : (k : ℕ) (s : Machine) → steps (suc k) s ≡ step (steps k s)
steps_last zero s = refl
steps_last (suc k) s = steps_last k (step s)

-- a machine that has halted stays as it is
pub step_halted : (s : Machine) → 0 < s.halted → step s ≡ s
step_halted s h = go s.halted h
  where
    go : (how : ℕ) → 0 < how → unless_halted how s (execute s) ≡ s
    go zero k = absurd (omega arith)
    go (suc how) k = refl

pub steps_halted : (k : ℕ) (s : Machine) → 0 < s.halted → steps k s ≡ s
steps_halted zero s h = refl
steps_halted (suc k) s h = ap (steps k) (step_halted s h) ∙ steps_halted k s h

-- what some steps come to, seen from a place on the way
pub steps_from : (j k : ℕ) (s : Machine) → j ≤ k → steps k s ≡ steps (k - j) (steps j s)
steps_from j k s h = let e : k ≡ j + (k - j) = omega arith in ap (λ (n : ℕ). steps n s) e ∙ steps_add j (k - j) s

-- no instruction takes back what was put out
act_more : (o : Op) (i : Fields) (s : Machine) → Prefix s.out (act o i s).out
act_more Add i s = prefix_refl s.out
act_more Sub i s = prefix_refl s.out
act_more Nand i s = prefix_refl s.out
act_more Less i s = prefix_refl s.out
act_more Half i s = prefix_refl s.out
act_more Low i s = prefix_refl s.out
act_more High i s = prefix_refl s.out
act_more Load i s = prefix_refl s.out
act_more Store i s = prefix_refl s.out
act_more Zero i s = prefix_refl s.out
act_more Jump i s = prefix_refl s.out
act_more In i s = prefix_refl s.out
act_more Out i s = (_, refl)
act_more Done i s = prefix_refl s.out
act_more Index i s = prefix_refl s.out
act_more Full i s = prefix_refl s.out

pub steps_more : (k : ℕ) (s : Machine) → Prefix s.out (steps k s).out
steps_more zero s = prefix_refl s.out
steps_more (suc k) s = prefix_trans s.out (step s).out (steps k (step s)).out (go s.halted) (steps_more k (step s))
  where
    go : (how : ℕ) → Prefix s.out (unless_halted how s (execute s)).out
    go zero = act_more _ _ s
    go (suc how) = prefix_refl s.out

pub machine_grows : (mem tape : List ℕ) → Grows (machine_run mem tape)
machine_grows mem tape = record {
  more = λ j k h. subst (λ (s : Machine). Prefix (steps j (begin mem tape)).out s.out) (sym (steps_from j k (begin mem tape) h)) (steps_more (k - j) (steps j (begin mem tape)));
  stays = λ j k h e. ap seen_machine (steps_from j k (begin mem tape) h ∙ steps_halted (k - j) (steps j (begin mem tape)) e);
}
