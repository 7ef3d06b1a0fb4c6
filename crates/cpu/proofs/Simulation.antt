-- The board with the drawing goes along with the instruction machine: three cycles an instruction. In order: the second
-- cycle by its words; a register that takes a word; each operation; the instruction whole.
use Rattle.std.proofs.Common.{◌≡◌, ℕ, suc, ◌+◌, ◌*◌, ◌/◌, ◌%◌, ◌<◌, Bool, true, false, cond, not, ◌&&◌, eqb, ltb, [], ◌∷◌, map, sym, refl, ap, ◌∙◌, subst, inl, inr, arith}
use Rattle.std.proofs.lemmas.List.{length-set}
use Rattle.words.specs.Words.{add16, sub16, less16, nand16, half16, bits, value, nand, nands, word, front}
use Rattle.words.specs.Runs.{running}
use Rattle.words.proofs.Bits.{value_below}
use Rattle.words.proofs.Lists.{word_below, put_below, front_below, rest_below}
use Rattle.words.proofs.Low.{low_4}
use Rattle.circuit.specs.Circuit.{Board, tick, ticks, cycle, pin_levels}
use Rattle.machine.specs.Machine.{Machine, Op, Add, Sub, Nand, Less, Half, Low, High, Load, Store, Zero, Jump, In, Out, Done, Index, Full, act, operation, fetched, register, following, place, target, set_register, execute, step}
use Rattle.cpu.specs.Signals.{OP_0, OP_1, OP_2, OP_3}
use Rattle.cpu.specs.Control.{FROM_4}
use Rattle.cpu.specs.Stages.{PORT, NEXT_RESULT, NEXT_COUNTER, ADDRESS}
use Rattle.cpu.specs.Cpu.{cpu}
use Rattle.cpu.proofs.ControlLines.{Control}
use Rattle.cpu.proofs.Board.{held, after_cycle, moved, ticked}
use Rattle.cpu.proofs.States.{WordsIn, second, Stands}
use Rattle.cpu.proofs.Phases.{ends_by, d_is, field_op, first_tick, ends_at}
use Rattle.cpu.proofs.Execute

bit_below : (c : Bool) → cond c 1 0 < 65536
bit_below true = omega arith
bit_below false = omega arith

either_below : (c : Bool) (a b : ℕ) → a < 65536 → b < 65536 → cond c a b < 65536
either_below true a b h k = h
either_below false a b h k = k

-- whether an operation writes a register, and whether from memory, by its bits
abbrev writes_register : Bool → Bool → Bool → Bool
writes_register o1 o2 o3 = nand o3 (nand (o3 && not o2) o1)

abbrev loads_word : Bool → Bool → Bool → Bool → Bool
loads_word o0 o1 o2 o3 = (not o3 && o2) && (o1 && o0)

module _ (s : Machine) (g : WordsIn s) (z : s.halted ≡ running) (r d : ℕ) (ld : Bool) (hd : d < 8) where
  abbrev W : ℕ
  W = word s.mem s.pc

  abbrev Ra : ℕ
  Ra = register s (fetched s).a

  abbrev RB : ℕ
  RB = register s (fetched s).b

  abbrev RD : ℕ
  RD = register s (fetched s).d

  F : ℕ → Bool
  F = Execute.f s g r d ld

  -- the board before the second cycle
  abbrev here : Board
  here = second (following s) s.registers Ra r d ld s.mem W s.tape s.out

  ra_below : Ra < 65536
  ra_below = word_below s.registers (fetched s).a g.registers_below

  pc_next : following s < 65536
  pc_next = omega arith

  by_lines : (o0 o1 o2 o3 : Bool) → F OP_0 ≡ o0 → F OP_1 ≡ o1 → F OP_2 ≡ o2 → F OP_3 ≡ o3 → Control F o0 o1 o2 o3 false true
  unfolding F
  by_lines = Execute.lines s g r d ld

  -- the second cycle, by what it gives: the port y, the next place p, the result v, the address a
  second_tick : (o0 o1 o2 o3 : Bool) (y p v a : ℕ) → Control F o0 o1 o2 o3 false true → value (map F PORT) ≡ y → value (map F NEXT_COUNTER) ≡ p → value (map F NEXT_RESULT) ≡ v → value (map F ADDRESS) ≡ a →
      tick cpu here ≡ moved here (held p s.registers y v (fetched s).d false false true (writes_register o1 o2 o3) (loads_word o0 o1 o2 o3)) a y
      ((o3 && not o2) && (not o1 && not o0)) ((o3 && o2) && (not o1 && not o0)) ((o3 && not o2) && (o1 && o0)) (value (((o3 && o2) && o0) ∷ ((o3 && o2) && o1) ∷ []))
  unfolding F
  second_tick o0 o1 o2 o3 y p v a k ey ep ev ea =
      let n = Execute.now_settled s g r d ld in
      ticked (following s) s.registers Ra r d false true false false ld here g.eight hd refl refl
      ∙ (ap (λ (x : ℕ → Bool). after_cycle here x s.registers) (sym (Execute.f_is s g r d ld))
      ∙ ends_by F here s.registers p y v (fetched s).d a false false true (writes_register o1 o2 o3) (loads_word o0 o1 o2 o3)
      ((o3 && not o2) && (not o1 && not o0)) ((o3 && o2) && (not o1 && not o0)) ((o3 && not o2) && (o1 && o0)) (value (((o3 && o2) && o0) ∷ ((o3 && o2) && o1) ∷ []))
      ep ey ev (d_is F W n.instruction) ea n.phase_3 n.phase_1 n.phase_2 k.write k.load k.store k.emit k.take (rw (k.halt_0, k.halt_1) refl))

  port_b : F FROM_4 ≡ false → value (map F PORT) ≡ RB
  unfolding F
  port_b = Execute.port_b s g r d ld

  port_d : F FROM_4 ≡ true → value (map F PORT) ≡ RD
  unfolding F
  port_d = Execute.port_d s g r d ld

  stays : {o0 o1 o2 o3 : Bool} → (k : Control F o0 o1 o2 o3 false true) → (o3 && not o2) && (not o1 && o0) ≡ false → (o3 && not o2) && (o1 && not o0) ≡ false → value (map F NEXT_COUNTER) ≡ following s
  unfolding F
  stays k e1 e2 = Execute.counter_stays s g r d ld (k.op_zero ∙ e1) (k.jump ∙ e2)

  -- the words stay words
  words_set : (v : ℕ) → v < 65536 → WordsIn (set_register s (fetched s).d v)
  words_set v h = record { pc_below = pc_next; eight = length-set s.registers (fetched s).d v ∙ g.eight; registers_below = put_below s.registers (fetched s).d v g.registers_below h; mem_below = g.mem_below; tape_below = g.tape_below; mem_long = g.mem_long }

  -- operations 0 to 6: register d takes the result v
  sets : (o0 o1 o2 : Bool) (y v : ℕ) → v < 65536 → loads_word o0 o1 o2 false ≡ false → Control F o0 o1 o2 false false true → value (map F PORT) ≡ y → value (map F NEXT_RESULT) ≡ v → Stands (set_register s (fetched s).d v) (tick cpu (tick cpu here))
  sets o0 o1 o2 y v h no-load k ey ev =
      ends_at (set_register s (fetched s).d v) s.registers y v (fetched s).d true false (word s.mem (value (map F ADDRESS))) (tick cpu here) (words_set v h) z (omega arith) g.eight
      (second_tick o0 o1 o2 false y (following s) v (value (map F ADDRESS)) k ey (stays k refl refl) ev refl ∙ rw no-load refl) refl

  adds : F OP_0 ≡ false → F OP_1 ≡ false → F OP_2 ≡ false → F OP_3 ≡ false → Stands (act Add (fetched s) s) (tick cpu (tick cpu here))
  unfolding F
  adds e0 e1 e2 e3 =
      let k = by_lines false false false false e0 e1 e2 e3 in
      sets false false false RB (add16 Ra RB) (omega arith) refl k (port_b k.from_4) (Execute.result_add s g r d ld k e0 e1 e2 e3)

  subtracts : F OP_0 ≡ true → F OP_1 ≡ false → F OP_2 ≡ false → F OP_3 ≡ false → Stands (act Sub (fetched s) s) (tick cpu (tick cpu here))
  unfolding F
  subtracts e0 e1 e2 e3 =
      let k = by_lines true false false false e0 e1 e2 e3 in
      sets true false false RB (sub16 Ra RB) (omega arith) refl k (port_b k.from_4) (Execute.result_sub s g r d ld k e0 e1 e2 e3)

  nands_words : F OP_0 ≡ false → F OP_1 ≡ true → F OP_2 ≡ false → F OP_3 ≡ false → Stands (act Nand (fetched s) s) (tick cpu (tick cpu here))
  unfolding F
  nands_words e0 e1 e2 e3 =
      let k = by_lines false true false false e0 e1 e2 e3 in
      sets false true false RB (nand16 Ra RB) (value_below (nands (bits 16 Ra) (bits 16 RB))) refl k (port_b k.from_4) (Execute.result_nand s g r d ld k e0 e1 e2 e3)

  compares : F OP_0 ≡ true → F OP_1 ≡ true → F OP_2 ≡ false → F OP_3 ≡ false → Stands (act Less (fetched s) s) (tick cpu (tick cpu here))
  unfolding F
  compares e0 e1 e2 e3 =
      let k = by_lines true true false false e0 e1 e2 e3 in
      sets true true false RB (less16 Ra RB) (bit_below (ltb Ra RB)) refl k (port_b k.from_4) (Execute.result_less s g r d ld k e0 e1 e2 e3)

  halves : F OP_0 ≡ false → F OP_1 ≡ false → F OP_2 ≡ true → F OP_3 ≡ false → Stands (act Half (fetched s) s) (tick cpu (tick cpu here))
  unfolding F
  halves e0 e1 e2 e3 =
      let k = by_lines false false true false e0 e1 e2 e3 in
      let h = ra_below in
      sets false false true RD (half16 Ra) (omega arith) refl k (port_d k.from_4) (Execute.result_half s g r d ld e0 e1 e2 e3)

  sets_low : F OP_0 ≡ true → F OP_1 ≡ false → F OP_2 ≡ true → F OP_3 ≡ false → Stands (act Low (fetched s) s) (tick cpu (tick cpu here))
  unfolding F
  sets_low e0 e1 e2 e3 =
      let k = by_lines true false true false e0 e1 e2 e3 in
      sets true false true RD (fetched s).n (omega arith) refl k (port_d k.from_4) (Execute.result_low s g r d ld e0 e1 e2 e3)

  sets_high : F OP_0 ≡ false → F OP_1 ≡ true → F OP_2 ≡ true → F OP_3 ≡ false → Stands (act High (fetched s) s) (tick cpu (tick cpu here))
  unfolding F
  sets_high e0 e1 e2 e3 =
      let k = by_lines false true true false e0 e1 e2 e3 in
      sets false true true RD (RD % 256 + 256 * ((fetched s).n % 256)) (omega arith) refl k (port_d k.from_4) (Execute.result_high s g r d ld k e0 e1 e2 e3)

  -- load and store: the address is a + m
  address_of : {o0 o1 o2 o3 : Bool} → (k : Control F o0 o1 o2 o3 false true) → (o3 && not o2) && (not o1 && o0) ≡ false → nand (not o3) (not o2) ≡ true → value (map F ADDRESS) ≡ place (fetched s) s
  unfolding F
  address_of k not_zero from_4 =
      Execute.address_of s g r d ld (k.first_is_counter ∙ rw not_zero refl) (k.second_is_number ∙ rw from_4 refl) (k.second_is_port ∙ rw from_4 refl)
      (k.subtract ∙ rw from_4 refl) (k.op_zero ∙ not_zero) (k.carry_in ∙ rw from_4 refl)

  loads : F OP_0 ≡ true → F OP_1 ≡ true → F OP_2 ≡ true → F OP_3 ≡ false → Stands (act Load (fetched s) s) (tick cpu (tick cpu here))
  loads e0 e1 e2 e3 =
      let k = by_lines true true true false e0 e1 e2 e3 in
      let a = place (fetched s) s in
      let v = word s.mem a in
      ends_at (set_register s (fetched s).d v) s.registers RD (value (map F NEXT_RESULT)) (fetched s).d true true v (tick cpu here) (words_set v (word_below s.mem a g.mem_below)) z (omega arith) g.eight
      (second_tick true true true false RD (following s) (value (map F NEXT_RESULT)) a k (port_d k.from_4) (stays k refl refl) refl (address_of k refl refl)) refl

  stores : F OP_0 ≡ false → F OP_1 ≡ false → F OP_2 ≡ false → F OP_3 ≡ true → Stands (act Store (fetched s) s) (tick cpu (tick cpu here))
  stores e0 e1 e2 e3 =
      let k = by_lines false false false true e0 e1 e2 e3 in
      let a = place (fetched s) s in
      ends_at (act Store (fetched s) s) s.registers RD (value (map F NEXT_RESULT)) (fetched s).d false false (word s.mem a) (tick cpu here)
      (record { pc_below = pc_next; eight = g.eight; registers_below = g.registers_below; mem_below = put_below s.mem a RD g.mem_below (word_below s.registers (fetched s).d g.registers_below); tape_below = g.tape_below; mem_long = length-set s.mem a RD ∙ g.mem_long }) refl (omega arith) g.eight
      (second_tick false false false true RD (following s) (value (map F NEXT_RESULT)) a k (port_d k.from_4) (stays k refl refl) refl (address_of k refl refl)) refl

  -- branch and jump
  branches : F OP_0 ≡ true → F OP_1 ≡ false → F OP_2 ≡ false → F OP_3 ≡ true → Stands (act Zero (fetched s) s) (tick cpu (tick cpu here))
  unfolding F
  branches e0 e1 e2 e3 =
      let k = by_lines true false false true e0 e1 e2 e3 in
      let after = act Zero (fetched s) s in
      ends_at after s.registers RD (value (map F NEXT_RESULT)) (fetched s).d false false (word s.mem (value (map F ADDRESS))) (tick cpu here)
      (record { pc_below = either_below (eqb RD 0) (target s.pc (fetched s).n) (following s) (omega arith) pc_next; eight = g.eight; registers_below = g.registers_below; mem_below = g.mem_below; tape_below = g.tape_below; mem_long = g.mem_long }) refl (omega arith) g.eight
      (second_tick true false false true RD after.pc (value (map F NEXT_RESULT)) (value (map F ADDRESS)) k (port_d k.from_4) (Execute.counter_branches s g r d ld k) refl refl) refl

  jumps : F OP_0 ≡ false → F OP_1 ≡ true → F OP_2 ≡ false → F OP_3 ≡ true → Stands (act Jump (fetched s) s) (tick cpu (tick cpu here))
  unfolding F
  jumps e0 e1 e2 e3 =
      let k = by_lines false true false true e0 e1 e2 e3 in
      ends_at (act Jump (fetched s) s) s.registers RD (following s) (fetched s).d true false (word s.mem (value (map F ADDRESS))) (tick cpu here)
      (record { pc_below = ra_below; eight = length-set s.registers (fetched s).d (following s) ∙ g.eight; registers_below = put_below s.registers (fetched s).d (following s) g.registers_below pc_next; mem_below = g.mem_below; tape_below = g.tape_below; mem_long = g.mem_long }) refl (omega arith) g.eight
      (second_tick false true false true RD Ra (following s) (value (map F ADDRESS)) k (port_d k.from_4) (Execute.counter_jumps s g r d ld k.op_zero k.jump) (Execute.result_jump s g r d ld e0 e3) refl) refl

  -- in and out
  takes_in : F OP_0 ≡ true → F OP_1 ≡ true → F OP_2 ≡ false → F OP_3 ≡ true → Stands (act In (fetched s) s) (tick cpu (tick cpu here))
  unfolding F
  takes_in e0 e1 e2 e3 =
      let k = by_lines true true false true e0 e1 e2 e3 in
      let v = front s.tape in
      ends_at (act In (fetched s) s) s.registers RD v (fetched s).d true false (word s.mem (value (map F ADDRESS))) (tick cpu here)
      (record { pc_below = pc_next; eight = length-set s.registers (fetched s).d v ∙ g.eight; registers_below = put_below s.registers (fetched s).d v g.registers_below (front_below s.tape g.tape_below); mem_below = g.mem_below; tape_below = rest_below s.tape g.tape_below; mem_long = g.mem_long }) refl (omega arith) g.eight
      (second_tick true true false true RD (following s) v (value (map F ADDRESS)) k (port_d k.from_4) (stays k refl refl) (Execute.result_in s g r d ld e0 e3) refl) refl

  shows : F OP_0 ≡ false → F OP_1 ≡ false → F OP_2 ≡ true → F OP_3 ≡ true → Stands (act Out (fetched s) s) (tick cpu (tick cpu here))
  shows e0 e1 e2 e3 =
      let k = by_lines false false true true e0 e1 e2 e3 in
      ends_at (act Out (fetched s) s) s.registers RD (value (map F NEXT_RESULT)) (fetched s).d false false (word s.mem (value (map F ADDRESS))) (tick cpu here)
      (record { pc_below = pc_next; eight = g.eight; registers_below = g.registers_below; mem_below = g.mem_below; tape_below = g.tape_below; mem_long = g.mem_long }) refl (omega arith) g.eight
      (second_tick false false true true RD (following s) (value (map F NEXT_RESULT)) (value (map F ADDRESS)) k (port_d k.from_4) (stays k refl refl) refl refl) refl

  -- the halting operations: nothing but the ending changes, and a halted board stays
  halts : (o0 o1 : Bool) (how : ℕ) (after : Machine) → value (o0 ∷ o1 ∷ []) ≡ suc how → (not o1 && not o0) ≡ false → after ≡ record { pc = s.pc; registers = s.registers; mem = s.mem; tape = s.tape; out = s.out; halted = suc how } →
      Control F o0 o1 true true false true → Stands after (tick cpu (tick cpu here))
  halts o0 o1 how after e shown ea k =
      let board = moved here (held (value (map F NEXT_COUNTER)) s.registers RD (value (map F NEXT_RESULT)) (fetched s).d false false true (writes_register o1 true true) (loads_word o0 o1 true true)) (value (map F ADDRESS)) RD false false false (suc how) in
      let t : tick cpu here ≡ board = second_tick o0 o1 true true RD (value (map F NEXT_COUNTER)) (value (map F NEXT_RESULT)) (value (map F ADDRESS)) k (port_d k.from_4) refl refl refl ∙ rw (e, shown) refl in
      let again : tick cpu (tick cpu here) ≡ board = ap (tick cpu) t in
      let stopped : Machine = record { pc = s.pc; registers = s.registers; mem = s.mem; tape = s.tape; out = s.out; halted = suc how } in
      let both : Stands stopped board = inr (record { how = how; has_halted = refl; alike = record { same_ending = refl; same_words = refl; same_memory = refl; same_tape = refl } }) in
      subst (λ (x : Machine). Stands x (tick cpu (tick cpu here))) (sym ea) (subst (λ (x : Board). Stands stopped x) (sym again) both)

  by_operation : (o0 o1 o2 o3 : Bool) → F OP_0 ≡ o0 → F OP_1 ≡ o1 → F OP_2 ≡ o2 → F OP_3 ≡ o3 → Stands (act (operation (value (o0 ∷ o1 ∷ o2 ∷ o3 ∷ []))) (fetched s) s) (tick cpu (tick cpu here))
  by_operation false false false false = adds
  by_operation true false false false = subtracts
  by_operation false true false false = nands_words
  by_operation true true false false = compares
  by_operation false false true false = halves
  by_operation true false true false = sets_low
  by_operation false true true false = sets_high
  by_operation true true true false = loads
  by_operation false false false true = stores
  by_operation true false false true = branches
  by_operation false true false true = jumps
  by_operation true true false true = takes_in
  by_operation false false true true = shows
  by_operation true false true true = λ e0 e1 e2 e3. halts true false 0 (act Done (fetched s) s) refl refl refl (by_lines true false true true e0 e1 e2 e3)
  by_operation false true true true = λ e0 e1 e2 e3. halts false true 1 (act Index (fetched s) s) refl refl refl (by_lines false true true true e0 e1 e2 e3)
  by_operation true true true true = λ e0 e1 e2 e3. halts true true 2 (act Full (fetched s) s) refl refl refl (by_lines true true true true e0 e1 e2 e3)

  second_and_third : Stands (execute s) (tick cpu (tick cpu here))
  unfolding F
  second_and_third =
      let n = Execute.now_settled s g r d ld in
      let h = word_below s.mem s.pc g.mem_below in
      let small : W / 4096 % 16 ≡ W / 4096 = omega arith in
      let e : value (F OP_0 ∷ F OP_1 ∷ F OP_2 ∷ F OP_3 ∷ []) ≡ W / 4096 = ap value (field_op F W n.instruction) ∙ (low_4 (W / 4096) ∙ small) in
      subst (λ j. Stands (act (operation j) (fetched s) s) (tick cpu (tick cpu here))) e (by_operation (F OP_0) (F OP_1) (F OP_2) (F OP_3) refl refl refl refl)

-- a halted board stays
pub halted_stays : (b : Board) (how : ℕ) → b.halted ≡ suc how → tick cpu b ≡ b
halted_stays b how e = ap (λ h. Rattle.circuit.specs.Circuit.unless_halted h b (cycle cpu b (pin_levels cpu b))) e

-- an instruction is three cycles
pub instruction : (s : Machine) (b : Board) → Stands s b → Stands (step s) (ticks 3 cpu b)
instruction s b (inl a) =
    let g = a.words_in in
    let k = first_tick s.pc s.registers a.t a.r a.d a.ld s.mem s.tape s.out a.d_below g.eight g.pc_below g.registers_below in
    let e : ticks 3 cpu b ≡ tick cpu (tick cpu (second (following s) s.registers (register s (fetched s).a) k.0 (fetched s).d k.1 s.mem (word s.mem s.pc) s.tape s.out)) = ap (λ x. tick cpu (tick cpu x)) (ap (tick cpu) a.is ∙ k.2) in
    let runs : step s ≡ execute s = ap (λ h. Rattle.machine.specs.Machine.unless_halted h s (execute s)) a.runs in
    rw (e, runs) (second_and_third s g a.runs k.0 (fetched s).d k.1 (omega arith))
instruction s b (inr a) =
    let same = halted_stays b a.how (a.alike.same_ending ∙ a.has_halted) in
    let e : ticks 3 cpu b ≡ b = ap (λ x. tick cpu (tick cpu x)) same ∙ (ap (tick cpu) same ∙ same) in
    let k : step s ≡ s = ap (λ h. Rattle.machine.specs.Machine.unless_halted h s (execute s)) a.has_halted in
    rw (e, k) (inr a)
