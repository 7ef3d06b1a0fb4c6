-- The drawing is the instruction machine: from power on, at every instruction, and so as the statement about drawings
-- asks. Three cycles an instruction and one at the start.
use Rattle.std.proofs.Common.{◌≡◌, ℕ, zero, suc, ◌+◌, ◌*◌, ◌<◌, false, List, replicate, sym, refl, ap, ◌∙◌, subst, inl, inr, arith}
use Rattle.words.specs.Words.{IsMemory, IsTape}
use Rattle.words.specs.Runs.{Prefix, Follows}
use Rattle.words.proofs.Runs.{Tracks, tracks_follows}
use Rattle.circuit.specs.Circuit.{Board, tick, ticks, power_on, board_run}
use Rattle.circuit.proofs.Ticking.{ticks_add, shown_stays, halted_stays, board_grows}
use Rattle.machine.specs.Machine.{Machine, step, steps, begin, machine_run}
use Rattle.drawing.specs.Drawing.{HaltedAlike, IsMachine, course_cycles}
use Rattle.cpu.specs.Cpu.{cpu_flops, cpu}
use Rattle.cpu.proofs.Drawing.{whole}
use Rattle.cpu.proofs.Board.{held}
use Rattle.cpu.proofs.States.{Stands}
use Rattle.cpu.proofs.Phases.{ends_at}
use Rattle.cpu.proofs.Simulation.{instruction}

-- at power on the board is in the third cycle of an instruction that wrote nothing
stands_first : (mem tape : List ℕ) → IsMemory mem → IsTape tape → Stands (begin mem tape) (tick cpu (power_on cpu mem tape))
unfolding cpu cpu_flops held
stands_first mem tape hm ht =
    ends_at (begin mem tape) (replicate 8 0) 0 0 0 false false 0 (power_on cpu mem tape)
    (record { pc_below = omega arith; eight = refl; registers_below = (omega arith, (omega arith, (omega arith, (omega arith, (omega arith, (omega arith, (omega arith, (omega arith, tt)))))))); mem_below = hm.1; tape_below = ht; mem_long = hm.0 })
    refl (omega arith) refl refl refl

goes_along : (t : ℕ) (s : Machine) (b : Board) → Stands s b → Stands (steps t s) (ticks (3 * t) cpu b)
goes_along zero s b k = k
goes_along (suc t) s b k = let e : 3 * suc t ≡ suc (suc (suc (3 * t))) = omega arith in rw e (goes_along t (step s) (ticks 3 cpu b) (instruction s b k))

alike : (s : Machine) (b : Board) → Stands s b → HaltedAlike s b
alike s b (inl a) = record { same_ending = ap (λ x. x.halted) a.is ∙ sym a.runs; same_words = ap (λ x. x.out) a.is; same_memory = ap (λ x. x.mem) a.is; same_tape = ap (λ x. x.tape) a.is }
alike s b (inr a) = a.alike

-- the cycles that the first t instructions take
abbrev pub cycles_of : ℕ → ℕ
cycles_of t = suc (3 * t)

module _ (mem tape : List ℕ) (hm : IsMemory mem) (ht : IsTape tape) where
  pub stands_at : (t : ℕ) → Stands (steps t (begin mem tape)) (ticks (cycles_of t) cpu (power_on cpu mem tape))
  stands_at t = goes_along t (begin mem tape) (tick cpu (power_on cpu mem tape)) (stands_first mem tape hm ht)

  alike_at : (t : ℕ) → HaltedAlike (steps t (begin mem tape)) (ticks (cycles_of t) cpu (power_on cpu mem tape))
  alike_at t = alike (steps t (begin mem tape)) (ticks (cycles_of t) cpu (power_on cpu mem tape)) (stands_at t)

  pub seen_at : (t : ℕ) → board_run cpu mem tape (cycles_of t) ≡ machine_run mem tape t
  seen_at t = let a = alike_at t in rw (a.same_words, a.same_tape, a.same_ending) refl

  tracks : Tracks (machine_run mem tape) (board_run cpu mem tape)
  tracks t = (cycles_of t, seen_at t, λ _. omega arith)

  follows : Follows (machine_run mem tape) (board_run cpu mem tape)
  follows = tracks_follows (machine_run mem tape) (board_run cpu mem tape) (board_grows cpu mem tape) tracks

  -- four cycles an instruction and eight are as many and some more
  later : (t : ℕ) → ticks (4 * t + 8) cpu (power_on cpu mem tape) ≡ ticks (t + 7) cpu (ticks (cycles_of t) cpu (power_on cpu mem tape))
  later t = let e : 4 * t + 8 ≡ cycles_of t + (t + 7) = omega arith in ap (λ n. ticks n cpu (power_on cpu mem tape)) e ∙ ticks_add cpu (cycles_of t) (t + 7) (power_on cpu mem tape)

  shown_soon : (t : ℕ) → Prefix (machine_run mem tape t).shown (board_run cpu mem tape (4 * t + 8)).shown
  shown_soon t = rw (later t, ← (alike_at t).same_words) (shown_stays cpu (t + 7) (ticks (cycles_of t) cpu (power_on cpu mem tape)))

  halted_soon : (t : ℕ) → 0 < (steps t (begin mem tape)).halted → HaltedAlike (steps t (begin mem tape)) (ticks (4 * t + 8) cpu (power_on cpu mem tape))
  halted_soon t h =
      let a = alike_at t in
      let halted : 0 < (ticks (cycles_of t) cpu (power_on cpu mem tape)).halted = subst (λ n. 0 < n) (sym a.same_ending) h in
      let same : ticks (4 * t + 8) cpu (power_on cpu mem tape) ≡ ticks (cycles_of t) cpu (power_on cpu mem tape) = later t ∙ halted_stays cpu (t + 7) (ticks (cycles_of t) cpu (power_on cpu mem tape)) halted in
      subst (λ (b : Board). HaltedAlike (steps t (begin mem tape)) b) (sym same) a

pub cpu_is_machine : IsMachine course_cycles cpu
cpu_is_machine = record {
  whole = whole;
  does = λ mem tape hm ht. follows mem tape hm ht;
  soon = λ mem tape hm ht t. shown_soon mem tape hm ht t;
  halts_soon = λ mem tape hm ht t h. halted_soon mem tape hm ht t h;
}
