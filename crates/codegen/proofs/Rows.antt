-- Instructions in a row: what stands in memory of a row and of what comes after it; steps that leave memory's top alone, one
-- after the other; a row of instructions is carried out.
use Rattle.std.proofs.Common.{◌≡◌, ℕ, zero, suc, ◌+◌, ◌-◌, ◌<◌, ◌≤◌, Bool, true, false, ◌&&◌, T, List, [], ◌∷◌, ◌++◌, length, sym, refl, ap, ◌∙◌, subst, arith}
use native.Mathlib.Decide.{dec_le}
use Rattle.std.proofs.lemmas.List.{get_or-set_other}
use Rattle.words.specs.Words.{add16, word, All}
use Rattle.words.specs.Runs.{running}
use Rattle.machine.specs.Machine.{Machine, register, step, steps}
use Rattle.machine.proofs.Steps.{steps_add}
use Rattle.codegen.specs.Layout.{stack_top, code_limit}
use Rattle.codegen.specs.Instructions.{Instruction, ADD, SUB, NAND, LESS, HALF, LOW, HIGH, LOAD, STORE, ZERO, JUMP, IN, OUT, DONE, INDEX, FULL, encode, WithinWidths, past, Stands}
use Rattle.codegen.specs.Top.{LeavesTop, LeavesTopFor}
use Rattle.codegen.specs.Heart.{HasCode}
use Rattle.codegen.proofs.Stepping.{effect, used, step_is, uses_is}

pub both : (a b : Bool) → T (a && b) → T a × T b
both true b t = (tt, t)
both false b t = absurd t

-- of two rows one after the other, each stands
pub stands_front : (img : List ℕ) (is rest : List Instruction) (at : ℕ) → Stands img at (is ++ rest) → Stands img at is
stands_front img [] rest at st = tt
stands_front img (i ∷ is) rest at st = (st.0, st.1, st.2, stands_front img is rest (suc at) st.3)

pub stands_past : (img : List ℕ) (is rest : List Instruction) (at : ℕ) → Stands img at (is ++ rest) → Stands img (past is at) rest
stands_past img [] rest at st = st
stands_past img (i ∷ is) rest at st = stands_past img is rest (suc at) st.3

-- no steps, and some steps and then some more, leave the top alone
pub no_steps : (m : Machine) → LeavesTopFor 0 m
no_steps m j h = absurd (omega arith)

pub more_steps : (a b : ℕ) (m : Machine) → LeavesTopFor a m → LeavesTopFor b (steps a m) → LeavesTopFor (a + b) m
more_steps a b m first then j h = elim (dec_le (suc j) a) [
  | yes k ↦ first j k
  | no k ↦ (let e : a + (j - a) ≡ j = omega arith in
      subst (λ (n : ℕ). LeavesTop (steps n m)) e (subst LeavesTop (sym (steps_add a (j - a) m)) (then (j - a) (omega arith))))
]

first_step : (b : ℕ) (m : Machine) → LeavesTop m → LeavesTopFor b (step m) → LeavesTopFor (suc b) m
first_step b m one then zero h = one
first_step b m one then (suc j) h = then j (omega arith)

-- What an instruction may use: it reads nothing of memory's top, and writes only between the code and the top.
abbrev pub Allowed : Instruction → Machine → Type 0
Allowed (ADD d a b) s = Unit {0}
Allowed (SUB d a b) s = Unit {0}
Allowed (NAND d a b) s = Unit {0}
Allowed (LESS d a b) s = Unit {0}
Allowed (HALF d a) s = Unit {0}
Allowed (LOW d n) s = Unit {0}
Allowed (HIGH d n) s = Unit {0}
Allowed (LOAD d a m) s = add16 (register s a) m < stack_top
Allowed (STORE d a m) s = (code_limit ≤ add16 (register s a) m) × (add16 (register s a) m < stack_top)
Allowed (ZERO d n) s = Unit {0}
Allowed (JUMP d a) s = Unit {0}
Allowed (IN d) s = Unit {0}
Allowed (OUT d) s = Unit {0}
Allowed DONE s = Unit {0}
Allowed INDEX s = Unit {0}
Allowed FULL s = Unit {0}

allowed_used : (i : Instruction) (s : Machine) → Allowed i s → All (λ p. p < stack_top) (used i s)
allowed_used (ADD d a b) s h = tt
allowed_used (SUB d a b) s h = tt
allowed_used (NAND d a b) s h = tt
allowed_used (LESS d a b) s h = tt
allowed_used (HALF d a) s h = tt
allowed_used (LOW d n) s h = tt
allowed_used (HIGH d n) s h = tt
allowed_used (LOAD d a m) s h = (h, tt)
allowed_used (STORE d a m) s h = (h.1, tt)
allowed_used (ZERO d n) s h = tt
allowed_used (JUMP d a) s h = tt
allowed_used (IN d) s h = tt
allowed_used (OUT d) s h = tt
allowed_used DONE s h = tt
allowed_used INDEX s h = tt
allowed_used FULL s h = tt

-- the instruction goes on to the next word, always
abbrev pub goes_on : Instruction → Bool
goes_on (ADD d a b) = true
goes_on (SUB d a b) = true
goes_on (NAND d a b) = true
goes_on (LESS d a b) = true
goes_on (HALF d a) = true
goes_on (LOW d n) = true
goes_on (HIGH d n) = true
goes_on (LOAD d a m) = true
goes_on (STORE d a m) = true
goes_on (ZERO d n) = false
goes_on (JUMP d a) = false
goes_on (IN d) = true
goes_on (OUT d) = true
goes_on DONE = false
goes_on INDEX = false
goes_on FULL = false

-- such an instruction keeps the code, does not halt, and comes to the next word
pub record WentOn (img : List ℕ) (s s' : Machine) : Type 0 where
  pub code : HasCode img s'.mem
  pub runs : s'.halted ≡ running
  pub next : s'.pc ≡ suc s.pc

went_on : (img : List ℕ) (i : Instruction) (s : Machine) → T (goes_on i) → Allowed i s → HasCode img s.mem → s.halted ≡ running → WentOn img s (effect i s)
went_on img (ADD d a b) s t h c r = record { code = c; runs = r; next = refl }
went_on img (SUB d a b) s t h c r = record { code = c; runs = r; next = refl }
went_on img (NAND d a b) s t h c r = record { code = c; runs = r; next = refl }
went_on img (LESS d a b) s t h c r = record { code = c; runs = r; next = refl }
went_on img (HALF d a) s t h c r = record { code = c; runs = r; next = refl }
went_on img (LOW d n) s t h c r = record { code = c; runs = r; next = refl }
went_on img (HIGH d n) s t h c r = record { code = c; runs = r; next = refl }
went_on img (LOAD d a m) s t h c r = record { code = c; runs = r; next = refl }
went_on img (STORE d a m) s t h c r = record {
  code = λ j b. get_or-set_other s.mem (add16 (register s a) m) j (register s d) 0 (omega arith) ∙ c j b;
  runs = refl;
  next = refl;
}
went_on img (ZERO d n) s t h c r = absurd t
went_on img (JUMP d a) s t h c r = absurd t
went_on img (IN d) s t h c r = record { code = c; runs = refl; next = refl }
went_on img (OUT d) s t h c r = record { code = c; runs = refl; next = refl }
went_on img DONE s t h c r = absurd t
went_on img INDEX s t h c r = absurd t
went_on img FULL s t h c r = absurd t

-- A row: all but the last instruction go on to the next word. What it does, and what each of it may use.
abbrev pub is_row : List Instruction → Bool
is_row [] = true
is_row (i ∷ []) = true
is_row (i ∷ (j ∷ is)) = goes_on i && is_row (j ∷ is)

abbrev pub effects : List Instruction → Machine → Machine
effects [] s = s
effects (i ∷ is) s = effects is (effect i s)

abbrev pub AllAllowed : List Instruction → Machine → Type 0
AllAllowed [] s = Unit {0}
AllAllowed (i ∷ is) s = Allowed i s × AllAllowed is (effect i s)

module _ (img : List ℕ) where
  leaves_top : (i : Instruction) (s : Machine) → HasCode img s.mem → s.pc < code_limit → WithinWidths i → word img s.pc ≡ encode i → Allowed i s → LeavesTop s
  leaves_top i s c p w e h = (omega arith, subst (All (λ x. x < stack_top)) (sym (uses_is s i w (c s.pc p ∙ e))) (allowed_used i s h))

  pub record RowDone (is : List Instruction) (s : Machine) : Type 0 where
    pub arrives : steps (length is) s ≡ effects is s
    pub top : LeavesTopFor (length is) s

  pub row : (is : List Instruction) (s : Machine) → HasCode img s.mem → s.halted ≡ running → T (is_row is) → Stands img s.pc is → AllAllowed is s → RowDone is s
  row [] s c r t st h = record { arrives = refl; top = no_steps s }
  row (i ∷ []) s c r t st h = record {
    arrives = step_is s r st.0 i st.1 (c s.pc st.0 ∙ st.2);
    top = first_step 0 s (leaves_top i s c st.0 st.1 st.2 h.0) (no_steps (step s));
  }
  row (i ∷ (j ∷ is)) s c r t st h =
      let goes = both (goes_on i) (is_row (j ∷ is)) t in
      let w = went_on img i s goes.0 h.0 c r in
      let one = step_is s r st.0 i st.1 (c s.pc st.0 ∙ st.2) in
      let more = row (j ∷ is) (effect i s) w.code w.runs goes.1 (subst (λ (p : ℕ). Stands img p (j ∷ is)) (sym w.next) st.3) h.1 in
      record {
        arrives = ap (λ (x : Machine). steps (length (j ∷ is)) x) one ∙ more.arrives;
        top = first_step (length (j ∷ is)) s (leaves_top i s c st.0 st.1 st.2 h.0) (subst (LeavesTopFor (length (j ∷ is))) (sym one) more.top);
      }
