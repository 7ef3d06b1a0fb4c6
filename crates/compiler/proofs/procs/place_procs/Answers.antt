use Rattle.std.proofs.Common.{◌≡◌, ℕ, List, length, suc, ◌+◌, ◌<◌, ◌≢◌, set, sym, ap, ◌∙◌, arith, get_or-set_other, get_or-set_same, below_more, rules}
use Rattle.std.proofs.lemmas.List.{length-set}
use Rattle.words.specs.Words.{word}
use Rattle.codegen.specs.Codegen.{entry, first_proc}
use Rattle.compiler.proofs.Placed.{proc_place_first, entry_low}
use Rattle.compiler.proofs.procs.place_procs.Goals as goal

-- one place more
written : (items : List ℕ) (f at : ℕ) (is : ℕ → ℕ) → ((k : ℕ) → k < f → word items k ≡ is k) → at ≡ is f → f < length items → (k : ℕ) → k < f + 1 → word (set items f at) k ≡ is k
written items f at is below here long =
    below_more (λ (k : ℕ). word (set items f at) k ≡ is k) f
    (λ k b. let ne : k ≢ f = omega arith in rw get_or-set_other (below k b))
    (rw get_or-set_same here)

pub loop-f-init : goal.loop-f-init
loop-f-init c = record { long = search rules; placed = λ g h. (sym (proc_place_first g.procs first_proc), λ k b. absurd (omega arith)) }

pub overflow_cast-place : goal.overflow_cast-place
overflow_cast-place c =
    let p = c.requires in
    omega (arith, entry_low c.args.parsed.now p.0 p.1 c.loop-f.f, (c.loop-f.invariant.placed p.0 p.1).0)

pub loop-f-preserved : goal.loop-f-preserved
loop-f-preserved c =
    let f = c.loop-f.f in let items = c.loop-f.place-items in let long = c.loop-f.invariant.long in
    let next : suc f ≡ f + 1 = omega arith in
    record {
      long = length-set items f _ ∙ long;
      placed = λ g h. let i = c.loop-f.invariant.placed g h in (c.next_place-at.ensures g h i.0 ∙ ap (entry g) next, written items f _ (entry g) i.1 i.0 (omega arith));
    }
