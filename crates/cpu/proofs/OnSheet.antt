-- A sheet that holds the flip-flops' values, the gates, the next signals and the pins, one behind the other, holds the
-- circuit; so what draw writes is the drawing.
use Rattle.std.proofs.Common.{◌≡◌, ℕ, ◌+◌, ◌*◌, ◌≤◌, List, [], ◌∷◌, ◌++◌, length, take, drop, sym, refl, ap, ◌∙◌, subst, ap₂, arith, take-append-drop}
use Rattle.std.proofs.lemmas.List.{take_at, drop_at, drop-drop, append_assoc}
use Rattle.circuit.specs.Circuit.{pin_count}
use Rattle.circuit.specs.Sheet.{drawn, levels, pairs, sheet_size}
use Rattle.circuit.specs.Parts.{Gates}
use Rattle.cpu.specs.Signals.{flop_count, gate_count}
use Rattle.cpu.specs.Cpu.{cpu, cpu_flops, cpu_gates, cpu_next, cpu_pins}
use Rattle.cpu.specs.Ink.{ink, Drew}
use Rattle.cpu.specs.Promise.{Draws, sheet_room}
use Rattle.cpu.proofs.Drawing.{drawing, gates_counted}
use Rattle.cpu.proofs.Inking.{ink_length}
use Rattle.cpu.proofs.IsMachine.{cpu_is_machine}

pairs_ink : (gs : Gates) → pairs (ink gs) ≡ gs
pairs_ink [] = refl
pairs_ink (g ∷ gs) = ap {B = Gates} (λ r. g ∷ r) (pairs_ink gs)

on_sheet : (gs : Gates) (f k : ℕ) (flops next pins more sheet : List ℕ) → length flops ≡ f → length gs ≡ k → length next ≡ f → length pins ≡ pin_count →
    sheet ≡ flops ++ (ink gs ++ (next ++ (pins ++ more))) → drawn f k sheet ≡ record { flops = levels flops; gates = gs; next = next; pins = pins }
on_sheet gs f k flops next pins more sheet lf lg ln lp e =
    let behind : List ℕ = ink gs ++ (next ++ (pins ++ more)) in
    let li : length (ink gs) ≡ 2 * k = ink_length gs ∙ ap (λ x. 2 * x) lg in
    let t0 : take f sheet ≡ flops = rw e (take_at flops behind f lf) in
    let d0 : drop f sheet ≡ behind = rw e (drop_at flops behind f lf) in
    let t1 : take (2 * k) (drop f sheet) ≡ ink gs = rw d0 (take_at (ink gs) (next ++ (pins ++ more)) (2 * k) li) in
    let d1 : drop (f + 2 * k) sheet ≡ next ++ (pins ++ more) = sym (drop-drop (2 * k) f sheet) ∙ rw d0 (drop_at (ink gs) (next ++ (pins ++ more)) (2 * k) li) in
    let t2 : take f (drop (f + 2 * k) sheet) ≡ next = rw d1 (take_at next (pins ++ more) f ln) in
    let z : 2 * f + 2 * k ≡ (f + 2 * k) + f = omega arith in
    let d2 : drop (2 * f + 2 * k) sheet ≡ pins ++ more = ap (λ j. drop j sheet) z ∙ (sym (drop-drop f (f + 2 * k) sheet) ∙ rw d1 (drop_at next (pins ++ more) f ln)) in
    let t3 : take pin_count (drop (2 * f + 2 * k) sheet) ≡ pins = rw d2 (take_at pins more pin_count lp) in
    rw (t0, t1, t2, t3, pairs_ink gs) refl

flops_all : length cpu_flops ≡ flop_count
unfolding drawing
flops_all = refl

next_all : length cpu_next ≡ flop_count
unfolding drawing
next_all = refl

pins_all : length cpu_pins ≡ pin_count
unfolding drawing
pins_all = refl

-- all numbers of the drawing
abbrev pub cpu_numbers : List ℕ
cpu_numbers = cpu_flops ++ (ink cpu_gates ++ (cpu_next ++ cpu_pins))

numbers_all : length cpu_numbers ≡ sheet_size flop_count gate_count
unfolding drawing
numbers_all = refl

cpu_is : record { flops = levels cpu_flops; gates = cpu_gates; next = cpu_next; pins = cpu_pins } ≡ cpu
unfolding cpu
cpu_is = refl

pub draws_machine : (before after : List ℕ) → sheet_room ≤ length before → Drew before 0 cpu_numbers after → Draws before after flop_count gate_count
draws_machine before after room d =
    let n = length cpu_numbers in
    let more = drop (0 + n) before in
    let all : after ≡ cpu_numbers ++ more = sym (take-append-drop (0 + n) after) ∙ ap₂ {C = List ℕ} (λ x y. x ++ y) d.put d.kept in
    let apart : cpu_numbers ++ more ≡ cpu_flops ++ (ink cpu_gates ++ (cpu_next ++ (cpu_pins ++ more))) =
    append_assoc cpu_flops (ink cpu_gates ++ (cpu_next ++ cpu_pins)) more
    ∙ ap {B = List ℕ} (λ r. cpu_flops ++ r) (append_assoc (ink cpu_gates) (cpu_next ++ cpu_pins) more
    ∙ ap {B = List ℕ} (λ r. ink cpu_gates ++ r) (append_assoc cpu_next cpu_pins more)) in
    let held : drawn flop_count gate_count after ≡ cpu = on_sheet cpu_gates flop_count gate_count cpu_flops cpu_next cpu_pins more after flops_all gates_counted next_all pins_all (all ∙ apart) ∙ cpu_is in
    let past : 0 + n ≡ sheet_size flop_count gate_count = let e = numbers_all in omega arith in
    record {
      is_machine = rw held cpu_is_machine;
      past_kept = subst (λ j. drop j after ≡ drop j before) past d.kept;
      flops = refl;
      gates = refl;
      few_gates = omega arith;
      had_room = room;
    }
