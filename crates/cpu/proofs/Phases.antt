-- The first and the third cycle of an instruction. In order: a cycle's end by its words, the fields of the instruction in
-- hand, the register that is read, the first cycle, the third cycle, and that it ends at the machine's next state.
use Rattle.std.proofs.Common.{◌≡◌, ℕ, zero, suc, ◌+◌, ◌/◌, ◌%◌, ◌<◌, Bool, true, false, cond, List, [], ◌∷◌, map, length, get_or, take, drop, refl, ap, ◌∙◌, ap₂, inl, arith}
use Rattle.words.specs.Words.{add16, bit, bits, value, word, put, front, IsTape}
use Rattle.words.specs.Runs.{running}
use Rattle.words.proofs.Bits.{value_bits_16}
use Rattle.words.proofs.Lists.{word_below}
use Rattle.words.proofs.Low.{low_3, low_16, halved_3, halved_6, halved_9, halved_12}
use Rattle.circuit.specs.Circuit.{Board, tick}
use Rattle.circuit.proofs.Words.{lows}
use Rattle.circuit.proofs.Reading.{line_levels}
use Rattle.cpu.specs.Signals.{INSTRUCTION, FIELD_B, FIELD_A, FIELD_D, FIELD_M, FIELD_N, OP_0, OP_1, OP_2, OP_3, PHASE_1, PHASE_2, PHASE_3}
use Rattle.cpu.specs.Control.{STORE, EMIT, TAKE, HALT_0, HALT_1, LOAD, WRITE, CARRY_IN}
use Rattle.cpu.specs.Stages.{READ_SELECT, PORT, FIRST, NUMBER, SECOND, ADDEND, SUM, NEXT_RESULT, NEXT_COUNTER, ADDRESS}
use Rattle.cpu.specs.Cpu.{cpu}
use Rattle.cpu.proofs.ControlLines.{Control, control}
use Rattle.cpu.proofs.DataPath.{index_is, port_is, first_is, second_is, addend_is, sum_is, counter_is, address_is}
use Rattle.cpu.proofs.Board.{held, Settled, settled, each_bits, all_levels, after_cycle, moved, ticked}
use Rattle.machine.specs.Machine.{Machine}
use Rattle.cpu.proofs.States.{WordsIn, ready, second, third, Stands}

-- a cycle's end, by its words
pub ends_by : (f : ℕ → Bool) (b : Board) (regs : List ℕ) (pc p r d a : ℕ) (p1 p2 p3 wr ld st em tk : Bool) (h : ℕ) → value (map f NEXT_COUNTER) ≡ pc → value (map f PORT) ≡ p → value (map f NEXT_RESULT) ≡ r → value (map f FIELD_D) ≡ d → value (map f ADDRESS) ≡ a →
    f PHASE_3 ≡ p1 → f PHASE_1 ≡ p2 → f PHASE_2 ≡ p3 → f WRITE ≡ wr → f LOAD ≡ ld → f STORE ≡ st → f EMIT ≡ em → f TAKE ≡ tk → value (f HALT_0 ∷ f HALT_1 ∷ []) ≡ h → after_cycle b f regs ≡ moved b (held pc regs p r d p1 p2 p3 wr ld) a p st em tk h
ends_by f b regs pc p r d a p1 p2 p3 wr ld st em tk h e1 e2 e3 e4 e5 e6 e7 e8 e9 e10 e11 e12 e13 e14 = rw (e1, e2, e3, e4, e5, e6, e7, e8, e9, e10, e11, e12, e13, e14) refl

at_each : (xs : List ℕ) (i : ℕ) → i < length xs → get_or (each_bits xs) i [] ≡ bits 16 (word xs i)
at_each [] i h = absurd (omega arith)
at_each (x ∷ xs) zero h = refl
at_each (x ∷ xs) (suc i) h = at_each xs i (omega arith)

value_lows : (bs : List Bool) → value (lows bs) ≡ 0
value_lows [] = refl
value_lows (b ∷ bs) = let ih = value_lows bs in omega arith

-- the fields of the instruction w in hand
module _ (f : ℕ → Bool) (w : ℕ) (e : map f INSTRUCTION ≡ bits 16 w) where
  pub field_b : map f FIELD_B ≡ bits 3 (w / 8)
  unfolding INSTRUCTION
  field_b = let k : map f FIELD_B ≡ bits 3 (w / 2 / 2 / 2) = ap {B = List Bool} (λ x. take 3 (drop 3 x)) e in k ∙ ap (bits 3) (halved_3 w)

  pub field_a : map f FIELD_A ≡ bits 3 (w / 64)
  unfolding INSTRUCTION
  field_a = let k : map f FIELD_A ≡ bits 3 (w / 2 / 2 / 2 / 2 / 2 / 2) = ap {B = List Bool} (λ x. take 3 (drop 6 x)) e in k ∙ ap (bits 3) (halved_6 w)

  pub field_d : map f FIELD_D ≡ bits 3 (w / 512)
  unfolding INSTRUCTION
  field_d = let k : map f FIELD_D ≡ bits 3 (w / 2 / 2 / 2 / 2 / 2 / 2 / 2 / 2 / 2) = ap {B = List Bool} (λ x. take 3 (drop 9 x)) e in k ∙ ap (bits 3) (halved_9 w)

  pub field_op : f OP_0 ∷ f OP_1 ∷ f OP_2 ∷ f OP_3 ∷ [] ≡ bits 4 (w / 4096)
  unfolding INSTRUCTION
  field_op = let k : f OP_0 ∷ f OP_1 ∷ f OP_2 ∷ f OP_3 ∷ [] ≡ bits 4 (w / 2 / 2 / 2 / 2 / 2 / 2 / 2 / 2 / 2 / 2 / 2 / 2) = ap {B = List Bool} (λ x. take 4 (drop 12 x)) e in k ∙ ap (bits 4) (halved_12 w)

  pub field_m : map f FIELD_M ≡ bits 6 w
  unfolding INSTRUCTION
  field_m = ap {B = List Bool} (λ x. take 6 x) e

  pub field_n : map f FIELD_N ≡ bits 9 w
  unfolding INSTRUCTION
  field_n = ap {B = List Bool} (λ x. take 9 x) e

  pub d_is : value (map f FIELD_D) ≡ w / 512 % 8
  d_is = ap value field_d ∙ low_3 (w / 512)

module _ (f : ℕ → Bool) (w tp pc : ℕ) (regs : List ℕ) (t r d : ℕ) (p1 p2 p3 wr ld : Bool) (n : Settled f w tp pc regs t r d p1 p2 p3 wr ld) where
  -- the register whose number is on the select lines
  pub read_is : length regs ≡ 8 → (i : ℕ) → line_levels f READ_SELECT ≡ bits 3 i → map f PORT ≡ bits 16 (word regs (i % 8))
  read_is l i e =
      let v : value (line_levels f READ_SELECT) ≡ i % 8 = ap value e ∙ low_3 i in
      port_is f n.stages ∙ (ap₂ (λ x y. get_or x y []) n.registers v ∙ at_each regs (i % 8) (omega arith))

  -- the adder
  pub sum_of : (x y : ℕ) (c : Bool) → map f FIRST ≡ bits 16 x → value (map f ADDEND) ≡ y → f CARRY_IN ≡ c → x < 65536 → map f SUM ≡ bits 16 (x + y + bit c)
  sum_of x y c ea eb ec h =
      let va : value (map f FIRST) ≡ x = ap value ea ∙ value_bits_16 x h in
      (sum_is f n.stages).0 ∙ rw (va, eb, ec) refl

-- First cycle: the operand takes register a, the program counter goes on by one, the instruction is asked for again.
module _ (f : ℕ → Bool) (w tp pc : ℕ) (regs : List ℕ) (t r d : ℕ) (ld : Bool) (n : Settled f w tp pc regs t r d true false false false ld) (l : length regs ≡ 8) (hpc : pc < 65536) (hr : IsTape regs) where
  lines_1 : Control f (f OP_0) (f OP_1) (f OP_2) (f OP_3) true false
  lines_1 = control f n.stages.control (f OP_0) (f OP_1) (f OP_2) (f OP_3) true false refl refl refl refl n.phase_1 n.phase_2

  port_1 : map f PORT ≡ bits 16 (word regs (w / 64 % 8))
  port_1 = read_is f w tp pc regs t r d true false false false ld n l (w / 64) (index_is f n.stages ∙ rw n.phase_1 (field_a f w n.instruction))

  addend_1 : value (map f ADDEND) ≡ 0
  addend_1 =
      let z : map f SECOND ≡ lows (map f NUMBER) = second_is f n.stages (rw lines_1.second_is_number refl) ∙ rw (lines_1.second_is_number, lines_1.second_is_port) refl in
      let e : map f ADDEND ≡ lows (map f NUMBER) = addend_is f n.stages ∙ rw lines_1.subtract z in
      ap value e ∙ value_lows (map f NUMBER)

  first_1 : map f FIRST ≡ bits 16 pc
  first_1 = first_is f n.stages ∙ rw lines_1.first_is_counter n.program_counter

  sum_1 : map f SUM ≡ bits 16 (pc + 0 + 1)
  sum_1 = sum_of f w tp pc regs t r d true false false false ld n pc 0 true first_1 addend_1 lines_1.carry_in hpc

  counter_1 : value (map f NEXT_COUNTER) ≡ add16 pc 1
  counter_1 =
      let e : map f NEXT_COUNTER ≡ bits 16 (pc + 0 + 1) = counter_is f n.stages ∙ rw n.phase_1 sum_1 in
      ap value e ∙ (low_16 (pc + 0 + 1) ∙ omega arith)

  address_1 : value (map f ADDRESS) ≡ pc
  address_1 = let e : map f ADDRESS ≡ bits 16 pc = address_is f n.stages ∙ rw n.phase_2 n.program_counter in ap value e ∙ value_bits_16 pc hpc

  first_cycle : (b : Board) → after_cycle b f regs ≡ moved b (held (add16 pc 1) regs (word regs (w / 64 % 8)) (value (map f NEXT_RESULT)) (w / 512 % 8) false true false false (f LOAD)) pc (word regs (w / 64 % 8)) false false false 0
  first_cycle b = ends_by f b regs (add16 pc 1) (word regs (w / 64 % 8)) (value (map f NEXT_RESULT)) (w / 512 % 8) pc false true false false (f LOAD) false false false 0
      counter_1 (ap value port_1 ∙ value_bits_16 (word regs (w / 64 % 8)) (word_below regs (w / 64 % 8) hr)) refl (d_is f w n.instruction) address_1
      n.phase_3 n.phase_1 n.phase_2 lines_1.write refl lines_1.store lines_1.emit lines_1.take (rw (lines_1.halt_0, lines_1.halt_1) refl)

pub first_tick : (pc : ℕ) (regs : List ℕ) (t r d : ℕ) (ld : Bool) (mem tape out : List ℕ) → d < 8 → length regs ≡ 8 → pc < 65536 → IsTape regs →
    (r' : ℕ) × (ld' : Bool) × (tick cpu (ready pc regs t r d ld mem tape out) ≡ second (add16 pc 1) regs (word regs (word mem pc / 64 % 8)) r' (word mem pc / 512 % 8) ld' mem (word mem pc) tape out)
first_tick pc regs t r d ld mem tape out hd l hpc hr =
    let b = ready pc regs t r d ld mem tape out in
    let w = word mem pc in
    let f = all_levels w (front tape) (held pc regs t r d true false false false ld) in
    let n = settled w (front tape) pc regs t r d true false false false ld l in
    (value (map f NEXT_RESULT), f LOAD, ticked pc regs t r d true false false false ld b l hd refl refl ∙ first_cycle f w (front tape) pc regs t r d ld n l hpc hr b)

-- Third cycle: a register is written, and the next instruction is asked for.
module _ (f : ℕ → Bool) (w tp pc : ℕ) (regs : List ℕ) (t r d : ℕ) (wr ld : Bool) (n : Settled f w tp pc regs t r d false false true wr ld) (hpc : pc < 65536) where
  lines_3 : Control f (f OP_0) (f OP_1) (f OP_2) (f OP_3) false false
  lines_3 = control f n.stages.control (f OP_0) (f OP_1) (f OP_2) (f OP_3) false false refl refl refl refl n.phase_1 n.phase_2

  counter_3 : value (map f NEXT_COUNTER) ≡ pc
  counter_3 = let e : map f NEXT_COUNTER ≡ bits 16 pc = counter_is f n.stages ∙ rw (n.phase_1, n.phase_2, lines_3.jump) n.program_counter in ap value e ∙ value_bits_16 pc hpc

  address_3 : value (map f ADDRESS) ≡ pc
  address_3 = let e : map f ADDRESS ≡ bits 16 pc = address_is f n.stages ∙ rw n.phase_2 n.program_counter in ap value e ∙ value_bits_16 pc hpc

  third_cycle : (b : Board) (regs' : List ℕ) → after_cycle b f regs' ≡ moved b (held pc regs' (value (map f PORT)) (value (map f NEXT_RESULT)) (w / 512 % 8) true false false false (f LOAD)) pc (value (map f PORT)) false false false 0
  third_cycle b regs' = ends_by f b regs' pc (value (map f PORT)) (value (map f NEXT_RESULT)) (w / 512 % 8) pc true false false false (f LOAD) false false false 0
      counter_3 refl refl (d_is f w n.instruction) address_3
      n.phase_3 n.phase_1 n.phase_2 lines_3.write refl lines_3.store lines_3.emit lines_3.take (rw (lines_3.halt_0, lines_3.halt_1) refl)

pub third_tick : (pc : ℕ) (regs : List ℕ) (t r d : ℕ) (wr ld : Bool) (mem : List ℕ) (w : ℕ) (tape out : List ℕ) → d < 8 → length regs ≡ 8 → pc < 65536 →
    (t' : ℕ) × (r' : ℕ) × (ld' : Bool) × (tick cpu (third pc regs t r d wr ld mem w tape out) ≡ ready pc (cond wr (put regs d (cond ld w r)) regs) t' r' (w / 512 % 8) ld' mem tape out)
third_tick pc regs t r d wr ld mem w tape out hd l hpc =
    let b = third pc regs t r d wr ld mem w tape out in
    let f = all_levels w (front tape) (held pc regs t r d false false true wr ld) in
    let n = settled w (front tape) pc regs t r d false false true wr ld l in
    (value (map f PORT), value (map f NEXT_RESULT), f LOAD, ticked pc regs t r d false false true wr ld b l hd refl refl ∙ third_cycle f w (front tape) pc regs t r d wr ld n hpc b (cond wr (put regs d (cond ld w r)) regs))

-- the third cycle ends at the machine's next state
pub ends_at : (s : Machine) (regs : List ℕ) (t r d : ℕ) (wr ld : Bool) (w : ℕ) (b : Board) → WordsIn s → s.halted ≡ running → d < 8 → length regs ≡ 8 →
    b ≡ third s.pc regs t r d wr ld s.mem w s.tape s.out → s.registers ≡ cond wr (put regs d (cond ld w r)) regs → Stands s (tick cpu b)
ends_at s regs t r d wr ld w b g z hd l e er =
    let k = third_tick s.pc regs t r d wr ld s.mem w s.tape s.out hd l g.pc_below in
    inl (record { t = k.0; r = k.1; d = w / 512 % 8; ld = k.2; d_below = omega arith; words_in = g; runs = z; is = ap (tick cpu) e ∙ (k.3 ∙ rw er refl) })
