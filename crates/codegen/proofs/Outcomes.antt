-- How the machine's steps follow the parts of a run of the program: steps that lead from one machine to another, the same by
-- a row of instructions, and 'Does' after some steps, after a part of the run, and with less asked for.
use Rattle.std.proofs.Common.{◌≡◌, ℕ, zero, suc, ◌+◌, ◌<◌, ◌≤◌, ◌&&◌, T, ltb, List, length, sym, refl, ap, ◌∙◌, subst, arith, ltb→lt}
use Rattle.words.specs.Runs.{running}
use Rattle.machine.specs.Machine.{Machine, steps, seen_machine}
use Rattle.machine.proofs.Steps.{steps_add}
use Rattle.language.specs.Language.{State, Outcome, fine, ends, spent, bind, seen_outcome}
use Rattle.codegen.specs.Instructions.{Instruction, Stands}
use Rattle.codegen.specs.Top.{LeavesTopFor}
use Rattle.codegen.specs.Heart.{HasCode, ComesTo, Does}
use Rattle.codegen.proofs.Rows.{both, no_steps, more_steps, is_row, effects, AllAllowed, row}

-- what is to hold of the value, the state and the machine at the end of a part
abbrev pub Good : Type 1
Good = ℕ → State → Machine → Type 0

-- some steps, at least one, which leave memory's top alone, lead from one machine to the other
pub record Reaches (m m' : Machine) : Type 0 where
  pub count : ℕ
  pub some : 0 < count
  pub top : LeavesTopFor count m
  pub arrives : steps count m ≡ m'

pub reaches_then : {m m' m'' : Machine} → Reaches m m' → Reaches m' m'' → Reaches m m''
reaches_then {m} {m'} {m''} a b = record {
  count = a.count + b.count;
  some = omega arith;
  top = more_steps a.count b.count m a.top (subst (LeavesTopFor b.count) (sym a.arrives) b.top);
  arrives = steps_add a.count b.count m ∙ ap (steps b.count) a.arrives ∙ b.arrives;
}

-- by a row of instructions that is not empty
pub by_row : (img : List ℕ) (is : List Instruction) {m m' : Machine} → HasCode img m.mem → m.halted ≡ running → T (ltb 0 (length is) && is_row is) →
    Stands img m.pc is → AllAllowed is m → effects is m ≡ m' → Reaches m m'
by_row img is {m} {m'} c r t st h e =
    let two = both (ltb 0 (length is)) (is_row is) t in
    let done = row img is m c r two.1 st h in
    record { count = length is; some = ltb→lt 0 (length is) two.0; top = done.top; arrives = done.arrives ∙ e }

-- Does after some steps: what holds of a count and a machine holds of more steps.
comes_after : (P Q : ℕ → Machine → Type 0) {m m' : Machine} (r : Reaches m m') → ((k : ℕ) (x : Machine) → P k x → Q (r.count + k) x) → ComesTo P m' → ComesTo Q m
comes_after P Q {m} {m'} r pq c = record {
  count = r.count + c.count;
  top = more_steps r.count c.count m r.top (subst (LeavesTopFor c.count) (sym r.arrives) c.top);
  good = subst (Q (r.count + c.count)) (ap (steps c.count) (sym r.arrives) ∙ sym (steps_add r.count c.count m)) (pq c.count (steps c.count m') c.good);
}

does_after : (n n' : ℕ) (Q : Good) (o : Outcome) {m m' : Machine} (r : Reaches m m') → n' ≤ r.count + n → Does n Q o m' → Does n' Q o m
does_after n n' Q (fine v t) r h d = comes_after (λ k x. Q v t x) (λ k x. Q v t x) r (λ k x p. p) d
does_after n n' Q (ends how t) r h d = comes_after (λ k x. (seen_machine x ≡ seen_outcome (ends how t)) × (0 < how)) (λ k x. (seen_machine x ≡ seen_outcome (ends how t)) × (0 < how)) r (λ k x p. p) d
does_after n n' Q (spent t) r h d = comes_after (λ k x. (seen_machine x ≡ seen_outcome (spent t)) × (n ≤ k)) (λ k x. (seen_machine x ≡ seen_outcome (spent t)) × (n' ≤ k)) r (λ k x p. (p.0, omega arith)) d

pub along : (n : ℕ) (Q : Good) (o : Outcome) {m m' : Machine} → Reaches m m' → Does n Q o m' → Does n Q o m
along n Q o r d = does_after n n Q o r (omega arith) d

-- at least one step is taken, so one more fuel may be spent
pub along_more : (n : ℕ) (Q : Good) (o : Outcome) {m m' : Machine} → Reaches m m' → Does n Q o m' → Does (suc n) Q o m
along_more n Q o r d = let s = r.some in does_after n (suc n) Q o r (omega arith) d

-- the machine is there
pub arrived : (n : ℕ) (Q : Good) (v : ℕ) (t : State) (m : Machine) → Q v t m → Does n Q (fine v t) m
arrived n Q v t m q = record { count = 0; top = no_steps m; good = q }

pub has_ended : (n : ℕ) (Q : Good) (how : ℕ) (t : State) (m : Machine) → seen_machine m ≡ seen_outcome (ends how t) → 0 < how → Does n Q (ends how t) m
has_ended n Q how t m e h = record { count = 0; top = no_steps m; good = (e, h) }

-- with no fuel no step is asked for
pub is_spent : (t : State) (m : Machine) → seen_machine m ≡ seen_outcome (spent t) → ComesTo (λ k x. (seen_machine x ≡ seen_outcome (spent t)) × (0 ≤ k)) m
is_spent t m e = record { count = 0; top = no_steps m; good = (e, omega arith) }

-- a part of a run and then another
pub does_bind : (n : ℕ) (P Q : Good) (o : Outcome) (next : ℕ → State → Outcome) (m : Machine) →
    Does n P o m → ((v : ℕ) (t : State) (m' : Machine) → P v t m' → Does n Q (next v t) m') → Does n Q (bind o next) m
does_bind n P Q (fine v t) next m d go = first d.count refl
  where
    first : (k : ℕ) → d.count ≡ k → Does n Q (next v t) m
    first zero e = go v t m (subst (λ (j : ℕ). P v t (steps j m)) e d.good)
    first (suc k) e = along n Q (next v t) (record { count = d.count; some = omega arith; top = d.top; arrives = refl }) (go v t (steps d.count m) d.good)
does_bind n P Q (ends how t) next m d go = d
does_bind n P Q (spent t) next m d go = d

-- less is asked for
pub weaken : (n : ℕ) (P Q : Good) (o : Outcome) (m : Machine) → Does n P o m → ((v : ℕ) (t : State) (m' : Machine) → P v t m' → Q v t m') → Does n Q o m
weaken n P Q (fine v t) m d f = record { count = d.count; top = d.top; good = f v t (steps d.count m) d.good }
weaken n P Q (ends how t) m d f = d
weaken n P Q (spent t) m d f = d
