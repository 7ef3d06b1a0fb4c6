-- A run in steps, as the code goes through it: one step more, a step without room, and a
-- halt before the last.
use Rattle.std.proofs.Common.{◌≡◌, ℕ, suc, ◌+◌, ◌-◌, ◌<◌, ◌≤◌, List, length, drop, Option, Some, None, sym, refl, ap, ◌∙◌, subst, arith}
use Rattle.std.proofs.lemmas.List.{drop-drop}
use Rattle.machine.specs.Machine.{Machine, step, steps}
use Rattle.machine.specs.Processor.{machine_of, Reached, NoRoom}
use Rattle.machine.specs.declared.processor.Processor.{Processor}
use Rattle.words.specs.Endings.{halt_code}
use Rattle.words.specs.declared.ending.Ending.{Ending}
use Rattle.words.specs.declared.ending.Ending.TheVariants.{Done, Index, Full}
use Rattle.machine.proofs.Steps.{steps_last, steps_from, steps_halted}

-- words past a place that are the same are the same past a later place
drop_further : (j k : ℕ) (xs ys : List ℕ) → j ≤ k → drop j xs ≡ drop j ys → drop k xs ≡ drop k ys
drop_further j k xs ys h e =
    let s : k ≡ j + (k - j) = omega arith in
    ap (λ (n : ℕ). drop n xs) s ∙ (sym (drop-drop (k - j) j xs) ∙ (ap (drop (k - j)) e ∙ (drop-drop (k - j) j ys ∙ ap (λ (n : ℕ). drop n ys) (sym s))))

-- one step after k of them
pub reached_more : (s : Machine) (k : ℕ) (p q r : Processor) (mem mem' tape out out' out'' : List ℕ) → length out' ≡ length out
    → Reached (steps k s) p q mem tape out out' → Reached (step (machine_of q mem tape out')) q r mem' tape out' out''
    → Reached (steps (suc k) s) p r mem' tape out out''
reached_more s k p q r mem mem' tape out out' out'' l a b = record {
  machine = b.machine ∙ (ap step a.machine ∙ sym (steps_last k s));
  unsent = b.unsent ∙ drop_further q.sent r.sent out' out b.sent_grows a.unsent;
  sent_grows = (let x = a.sent_grows in let y = b.sent_grows in omega arith);
  sent_within = λ h. (let x = a.sent_within h in let y = b.sent_within (omega arith) in omega arith);
  taken_within = λ h. b.taken_within (a.taken_within h);
}

-- a step after k of them for which there is no room is not done
pub reached_stuck : (s : Machine) (k : ℕ) (p q : Processor) (mem mem' tape out out' out'' : List ℕ) → length out' ≡ length out
    → Reached (steps k s) p q mem tape out out' → NoRoom (step (machine_of q mem tape out')) mem mem' out' out''
    → Reached (steps k s) p q mem' tape out out'' × (length out < length (steps (suc k) s).out)
reached_stuck s k p q mem mem' tape out out' out'' l a stuck =
    let next : step (machine_of q mem tape out') ≡ steps (suc k) s = ap step a.machine ∙ sym (steps_last k s) in (
      subst (λ (m : List ℕ). Reached (steps k s) p q m tape out out'') (sym stuck.memory_kept)
          (subst (λ (o : List ℕ). Reached (steps k s) p q mem tape out o) (sym stuck.out_kept) a),
      subst (λ (m : Machine). length out < length m.out) next (omega (arith, stuck.too_few, l)),
    )

not_running : (how : Option Ending) → (how ≡ None → ⊥) → 0 < halt_code how
not_running None h = absurd (h refl)
not_running (Some Done) h = omega arith
not_running (Some Index) h = omega arith
not_running (Some Full) h = omega arith

-- a machine that has halted on the way has come to the end
pub reached_halted : (s : Machine) (k n : ℕ) (p q : Processor) (mem tape out out' : List ℕ) → k ≤ n → (q.halted ≡ None → ⊥)
    → Reached (steps k s) p q mem tape out out' → Reached (steps n s) p q mem tape out out'
reached_halted s k n p q mem tape out out' le halted a =
    let stopped : 0 < (steps k s).halted = subst (λ (m : Machine). 0 < m.halted) a.machine (not_running q.halted halted) in
    let same : steps n s ≡ steps k s = steps_from k n s le ∙ steps_halted (n - k) (steps k s) stopped in
    subst (λ (m : Machine). Reached m p q mem tape out out') (sym same) a
