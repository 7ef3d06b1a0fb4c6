-- A run that is under way: with the cycles that are left, the board in the slices comes to the board b. One cycle on, no
-- room for a word, and the end.
use Rattle.std.proofs.Common.{◌≡◌, ℕ, suc, ◌+◌, ◌-◌, ◌<◌, ◌≤◌, ◌⊎◌, true, Some, None, Option, List, length, take, drop, sym, ap, ◌∙◌, subst, inl, inr, arith}
use Rattle.std.proofs.lemmas.List.{length-take-le, drop-drop}
use Rattle.std.specs.Option.{is_some}
use Rattle.words.specs.Endings.{halt_code}
use Rattle.words.specs.declared.ending.Ending.{Ending}
use Rattle.words.specs.declared.ending.Ending.TheVariants.{Done, Index, Full}
use Rattle.circuit.specs.Circuit.{Circuit, Board, tick, ticks}
use Rattle.board.specs.Slices.{Clean, standing, Placed}
use Rattle.board.specs.declared.cycle.Port.{Port}
use Rattle.circuit.proofs.Ticking.{halted_stays}
use Rattle.board.proofs.Ticking.{tick_grows, ticks_grow}

pub record Along (c : Circuit) (b : Board) (left : ℕ) (state mem tape out out' : List ℕ) (p : Port) : Type 0 where
  pub same : ticks left c (standing state mem tape out' p) ≡ b
  pub clean : Clean state
  pub placed : Placed tape out out' p

drop_further : (m n : ℕ) (xs ys : List ℕ) → m ≤ n → drop m xs ≡ drop m ys → drop n xs ≡ drop n ys
drop_further m n xs ys l e =
    let k : m + (n - m) ≡ n = omega arith in
    subst (λ (t : ℕ). drop t xs ≡ drop t ys) k (sym (drop-drop (n - m) m xs) ∙ (ap (drop (n - m)) e ∙ drop-drop (n - m) m ys))

-- one cycle on
pub along_more : (c : Circuit) (b : Board) (left after : ℕ) (state mem state2 mem2 tape out out1 out2 : List ℕ) (p q : Port)
    → Along c b left state mem tape out out1 p → left ≡ suc after → length out1 ≡ length out → length out2 ≡ length out
    → standing state2 mem2 tape out2 q ≡ tick c (standing state mem tape out1 p) → Clean state2 → Placed tape out1 out2 q
    → Along c b after state2 mem2 tape out out2 q
along_more c b left after state mem state2 mem2 tape out out1 out2 p q a z l1 l2 e cl pl =
    let s = standing state mem tape out1 p in
    let o : length (take q.sent out2) ≡ length (tick c s).out = ap (λ (t : Board). length t.out) e in
    let h1 : p.sent ≤ length out1 = omega (arith, a.placed.sent) in
    let h2 : q.sent ≤ length out2 = omega (arith, pl.sent) in
    let le : p.sent ≤ q.sent = omega (arith, o, tick_grows c s, length-take-le p.sent out1 h1, length-take-le q.sent out2 h2) in
    record {
      same = ap (ticks after c) e ∙ (ap (λ (n : ℕ). ticks n c s) (sym z) ∙ a.same);
      clean = cl;
      placed = record {
        taken = pl.taken;
        sent = omega (arith, pl.sent);
        left = pl.left ∙ drop_further p.sent q.sent out1 out le a.placed.left;
      };
    }

-- the next cycle puts out more words than there is room for, and so does the whole run
pub along_none : (c : Circuit) (b : Board) (left after : ℕ) (state mem tape out out' : List ℕ) (p : Port)
    → Along c b left state mem tape out out' p → left ≡ suc after → length out' ≡ length out
    → length out' < length (tick c (standing state mem tape out' p)).out → length out < length b.out
along_none c b left after state mem tape out out' p a z l h =
    let s = standing state mem tape out' p in
    let e : (ticks after c (tick c s)).out ≡ b.out = ap (λ (t : Board). t.out) (ap (λ (n : ℕ). ticks n c s) (sym z) ∙ a.same) in
    omega (arith, ticks_grow after c (tick c s), ap length e)

-- a board that has an ending has halted
pub halts : (o : Option Ending) → is_some o ≡ true → 0 < halt_code o
halts None e = absurd (let z : ◌≡◌ {A = ℕ} 0 1 = cc in omega arith)
halts (Some Done) e = omega arith
halts (Some Index) e = omega arith
halts (Some Full) e = omega arith

-- no cycle is left, or the board has halted
pub along_all : (c : Circuit) (b : Board) (left : ℕ) (state mem tape out out' : List ℕ) (p : Port)
    → Along c b left state mem tape out out' p → (left ≡ 0) ⊎ (0 < halt_code p.halted)
    → (standing state mem tape out' p ≡ b) × Clean state × Placed tape out out' p
along_all c b left state mem tape out out' p a w =
    let s = standing state mem tape out' p in
    let e : s ≡ b = elim w [ inl z ↦ ap (λ (n : ℕ). ticks n c s) (sym z) ∙ a.same | inr h ↦ sym (halted_stays c left s h) ∙ a.same ] in
    (e, a.clean, a.placed)
