-- An instruction puts out at most one word, so the words shown are no more than the instructions done.
use Rattle.std.proofs.Common.{◌≡◌, ℕ, zero, suc, ◌+◌, ◌/◌, ◌≤◌, List, [], ◌∷◌, ◌++◌, length, sym, ap, subst, arith}
use Rattle.std.proofs.lemmas.List.{length-append}
use Rattle.words.specs.Runs.{Seen, Prefix}
use Rattle.circuit.specs.Circuit.{board_run}
use Rattle.circuit.proofs.Ticking.{board_grows}
use Rattle.machine.specs.Machine.{Machine, Fields, Op, Add, Sub, Nand, Less, Half, Low, High, Load, Store, Zero, Jump, In, Out, Done, Index, Full, act, execute, unless_halted, register, step, steps, begin}
use Rattle.cpu.specs.Cpu.{cpu}
use Rattle.cpu.specs.Shown.{OneWordInThree}
use Rattle.cpu.proofs.IsMachine.{cycles_of, seen_at}

act_one : (o : Op) (i : Fields) (s : Machine) → length (act o i s).out ≤ length s.out + 1
act_one Add i s = omega arith
act_one Sub i s = omega arith
act_one Nand i s = omega arith
act_one Less i s = omega arith
act_one Half i s = omega arith
act_one Low i s = omega arith
act_one High i s = omega arith
act_one Load i s = omega arith
act_one Store i s = omega arith
act_one Zero i s = omega arith
act_one Jump i s = omega arith
act_one In i s = omega arith
act_one Out i s = omega (arith, length-append s.out (register s i.d ∷ []))
act_one Done i s = omega arith
act_one Index i s = omega arith
act_one Full i s = omega arith

step_one : (s : Machine) → length (step s).out ≤ length s.out + 1
step_one s = go s.halted
  where
    go : (how : ℕ) → length (unless_halted how s (execute s)).out ≤ length s.out + 1
    go zero = act_one _ _ s
    go (suc how) = omega arith

steps_words : (t : ℕ) (s : Machine) → length (steps t s).out ≤ length s.out + t
steps_words zero s = omega arith
steps_words (suc t) s = omega (arith, step_one s, steps_words t (step s))

prefix_shorter : (xs ys : List ℕ) → Prefix xs ys → length xs ≤ length ys
prefix_shorter xs ys p = let l = length-append xs p.0 in let e : length (xs ++ p.0) ≡ length ys = ap length p.1 in omega arith

pub one_word_in_three : OneWordInThree
one_word_in_three mem tape hm ht n =
    let t = (n + 1) / 3 in
    let enough : n ≤ cycles_of t = omega arith in
    let few : length (steps t (begin mem tape)).out ≤ t = omega (arith, steps_words t (begin mem tape)) in
    let done : length (board_run cpu mem tape (cycles_of t)).shown ≤ t = subst (λ (s : Seen). length s.shown ≤ t) (sym (seen_at mem tape hm ht t)) few in
    let sooner = prefix_shorter (board_run cpu mem tape n).shown (board_run cpu mem tape (cycles_of t)).shown ((board_grows cpu mem tape).more n (cycles_of t) enough) in
    omega arith
