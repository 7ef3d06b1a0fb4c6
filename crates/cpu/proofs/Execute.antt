-- The second cycle of an instruction, in which its work is done: what the drawing's words are, by the machine's words. In
-- order: the levels of this cycle, the port, the instruction's number, the adder's words, where the machine goes on, the
-- address of load and store, and the result of each operation.
use Rattle.std.proofs.Common.{◌≡◌, ℕ, ◌+◌, ◌-◌, ◌*◌, ◌/◌, ◌%◌, ◌<◌, Bool, true, false, cond, not, eqb, ltb, List, [], ◌∷◌, ◌++◌, map, take, drop, replicate, sym, refl, ap, ◌∙◌, ap₂, arith}
use Rattle.words.specs.Words.{add16, sub16, less16, nand16, half16, bit, bits, value, shifted, nand, nands, word, front}
use Rattle.words.proofs.Bits.{value_bits, value_bits_16, value_++, all_low_is}
use Rattle.words.proofs.Lists.{word_below, front_below}
use Rattle.words.proofs.Low.{low_6, low_8, low_9, low_16, less_by_inverse}
use Rattle.circuit.proofs.Words.{not_not}
use Rattle.circuit.proofs.Reading.{line_levels}
use Rattle.machine.specs.Machine.{Machine, fetched, register, following, place, target}
use Rattle.cpu.specs.Signals.{LOW, INSTRUCTION, LOW_BYTE, FIELD_M, FIELD_N, NUMBER_6, NUMBER_7, NUMBER_8, OP_0, OP_1, OP_2, OP_3, OPERAND, PROGRAM_COUNTER}
use Rattle.cpu.specs.Control.{FROM_4, OP_ZERO, FIRST_IS_COUNTER, SUBTRACT, CARRY_IN, SECOND_IS_PORT, SECOND_IS_NUMBER, JUMP}
use Rattle.cpu.specs.Stages.{READ_SELECT, PORT, FIRST, NUMBER, SECOND, ADDEND, SUM, CARRY, IS_LESS, IS_ZERO, LESS_WORD, HALF_WORD, LOW_WORD, HIGH_WORD, NEXT_RESULT, NEXT_COUNTER, ADDRESS}
use Rattle.cpu.proofs.ControlLines.{Control, control}
use Rattle.cpu.proofs.DataPath.{index_is, first_is, number_is, second_is, addend_is, sum_is, nanded_is, less_is, zero_is, result_is, counter_is, address_is}
use Rattle.cpu.proofs.Board.{held, Settled, settled, all_levels, map_++}
use Rattle.cpu.proofs.States.{WordsIn}
use Rattle.cpu.proofs.Operands.{and_false, and_true, add_none, map_take, signed_number, sign_carried, compare_shifted, target_is}
use Rattle.cpu.proofs.Phases.{field_b, field_d, field_m, field_n, read_is, sum_of}

module _ (s : Machine) (g : WordsIn s) (r d : ℕ) (ld : Bool) where
  -- the instruction, and the registers that its fields name
  abbrev pub INSTR : ℕ
  INSTR = word s.mem s.pc

  abbrev pub Ra : ℕ
  Ra = register s (fetched s).a

  abbrev pub RB : ℕ
  RB = register s (fetched s).b

  abbrev pub RD : ℕ
  RD = register s (fetched s).d

  -- the levels of this cycle: the operand holds register a, and the program counter has gone on
  pub f : ℕ → Bool
  f = all_levels INSTR (front s.tape) (held (following s) s.registers Ra r d false true false false ld)

  pub now_settled : Settled f INSTR (front s.tape) (following s) s.registers Ra r d false true false false ld
  unfolding f
  now_settled = settled INSTR (front s.tape) (following s) s.registers Ra r d false true false false ld g.eight

  -- the same with the levels written out, for the board's cycle
  pub f_is : f ≡ all_levels INSTR (front s.tape) (held (following s) s.registers Ra r d false true false false ld)
  unfolding f
  f_is = refl

  next_below : following s < 65536
  next_below = omega arith

  pub ra_below : Ra < 65536
  ra_below = word_below s.registers (fetched s).a g.registers_below

  rb_below : RB < 65536
  rb_below = word_below s.registers (fetched s).b g.registers_below

  rd_below : RD < 65536
  rd_below = word_below s.registers (fetched s).d g.registers_below

  pub lines : (o0 o1 o2 o3 : Bool) → f OP_0 ≡ o0 → f OP_1 ≡ o1 → f OP_2 ≡ o2 → f OP_3 ≡ o3 → Control f o0 o1 o2 o3 false true
  lines o0 o1 o2 o3 e0 e1 e2 e3 = control f now_settled.stages.control o0 o1 o2 o3 false true e0 e1 e2 e3 now_settled.phase_1 now_settled.phase_2

  -- the port reads register b for operations below 4, else register d
  port_bits : (i : ℕ) → line_levels f READ_SELECT ≡ bits 3 i → map f PORT ≡ bits 16 (word s.registers (i % 8))
  port_bits = read_is f INSTR (front s.tape) (following s) s.registers Ra r d false true false false ld now_settled g.eight

  port_b_bits : f FROM_4 ≡ false → map f PORT ≡ bits 16 RB
  port_b_bits e = port_bits (INSTR / 8) (index_is f now_settled.stages ∙ rw (now_settled.phase_1, e) (field_b f INSTR now_settled.instruction))

  port_d_bits : f FROM_4 ≡ true → map f PORT ≡ bits 16 RD
  port_d_bits e = port_bits (INSTR / 512) (index_is f now_settled.stages ∙ rw (now_settled.phase_1, e) (field_d f INSTR now_settled.instruction))

  pub port_b : f FROM_4 ≡ false → value (map f PORT) ≡ RB
  port_b e = ap value (port_b_bits e) ∙ value_bits_16 RB rb_below

  pub port_d : f FROM_4 ≡ true → value (map f PORT) ≡ RD
  port_d e = ap value (port_d_bits e) ∙ value_bits_16 RD rd_below

  -- the instruction's number: six bits, or nine with the sign carried on for zero
  number_m : f OP_ZERO ≡ false → value (map f NUMBER) ≡ (fetched s).m
  number_m e =
      let x : map f NUMBER ≡ map f FIELD_M ++ replicate 10 false = number_is f now_settled.stages ∙ rw (e, and_false (f NUMBER_6), and_false (f NUMBER_7), and_false (f NUMBER_8)) refl in
      let y : map f NUMBER ≡ bits 6 INSTR ++ replicate 10 false = x ∙ ap {B = List Bool} (λ u. u ++ replicate 10 false) (field_m f INSTR now_settled.instruction) in
      ap value y ∙ (value_++ (bits 6 INSTR) (replicate 10 false) ∙ rw (low_6 INSTR) (omega arith))

  number_n : f OP_ZERO ≡ true → value (map f NUMBER) ≡ signed_number (fetched s).n
  unfolding INSTRUCTION
  number_n e =
      let x : map f NUMBER ≡ map f LOW_BYTE ++ replicate 8 (f NUMBER_8) = number_is f now_settled.stages ∙ rw (e, and_true (f NUMBER_6), and_true (f NUMBER_7), and_true (f NUMBER_8)) refl in
      let y : map f LOW_BYTE ≡ bits 8 INSTR = ap {B = List Bool} (λ u. take 8 u) now_settled.instruction in
      let all : map f FIELD_N ≡ bits 9 INSTR = field_n f INSTR now_settled.instruction in
      let nine : value (map f LOW_BYTE ++ (f NUMBER_8 ∷ [])) ≡ INSTR % 512 = ap value all ∙ low_9 INSTR in
      let by-eight : value (bits 8 INSTR ++ (f NUMBER_8 ∷ [])) ≡ INSTR % 512 = sym (ap (λ (u : List Bool). value (u ++ (f NUMBER_8 ∷ []))) y) ∙ nine in
      let low = low_8 INSTR in
      let u : INSTR % 512 ≡ INSTR % 256 + 256 * bit (f NUMBER_8) = join (value (bits 8 INSTR)) (bit (f NUMBER_8)) (sym by-eight ∙ value_++ (bits 8 INSTR) (f NUMBER_8 ∷ [])) low in
      ap value (x ∙ ap {B = List Bool} (λ v. v ++ replicate 8 (f NUMBER_8)) y) ∙ (value_++ (bits 8 INSTR) (replicate 8 (f NUMBER_8)) ∙ (rw low (wide (value (replicate 8 (f NUMBER_8)))) ∙ sign_carried INSTR (f NUMBER_8) (INSTR % 256) (omega arith) u))
    where
      join : (a b : ℕ) → INSTR % 512 ≡ a + shifted 8 (b + 2 * 0) → a ≡ INSTR % 256 → INSTR % 512 ≡ INSTR % 256 + 256 * b
      join a b e1 e2 = omega arith

      wide : (v : ℕ) → INSTR % 256 + shifted 8 v ≡ INSTR % 256 + 256 * v
      wide v = omega arith

  -- the adder's words
  first_operand : f FIRST_IS_COUNTER ≡ false → map f FIRST ≡ bits 16 Ra
  first_operand e = first_is f now_settled.stages ∙ rw e now_settled.operand

  addend_port : f SECOND_IS_NUMBER ≡ false → f SECOND_IS_PORT ≡ true → (inverted : Bool) → f SUBTRACT ≡ inverted → (y : ℕ) → map f PORT ≡ bits 16 y → map f ADDEND ≡ cond inverted (map not (bits 16 y)) (bits 16 y)
  addend_port e1 e2 inverted e3 y ep =
      let z : map f SECOND ≡ bits 16 y = second_is f now_settled.stages (rw e1 refl) ∙ rw (e1, e2) ep in
      addend_is f now_settled.stages ∙ rw (e3, z) refl

  addend_number : f SECOND_IS_NUMBER ≡ true → f SECOND_IS_PORT ≡ false → f SUBTRACT ≡ false → map f ADDEND ≡ map f NUMBER
  addend_number e1 e2 e3 =
      let z : map f SECOND ≡ map f NUMBER = second_is f now_settled.stages (rw (e1, e2) refl) ∙ rw e1 refl in
      addend_is f now_settled.stages ∙ rw (e3, z) refl

  sum : (x y : ℕ) (c : Bool) → map f FIRST ≡ bits 16 x → value (map f ADDEND) ≡ y → f CARRY_IN ≡ c → x < 65536 → map f SUM ≡ bits 16 (x + y + bit c)
  sum = sum_of f INSTR (front s.tape) (following s) s.registers Ra r d false true false false ld now_settled

  -- where the machine goes on: it stays at the next place but for a branch or a jump
  pub counter_stays : f OP_ZERO ≡ false → f JUMP ≡ false → value (map f NEXT_COUNTER) ≡ following s
  counter_stays e1 e2 =
      let e : map f NEXT_COUNTER ≡ bits 16 (following s) = counter_is f now_settled.stages ∙ rw (now_settled.phase_1, now_settled.phase_2, e1, e2) now_settled.program_counter in
      ap value e ∙ value_bits_16 (following s) next_below

  pub counter_jumps : f OP_ZERO ≡ false → f JUMP ≡ true → value (map f NEXT_COUNTER) ≡ Ra
  counter_jumps e1 e2 =
      let e : map f NEXT_COUNTER ≡ bits 16 Ra = counter_is f now_settled.stages ∙ rw (now_settled.phase_1, now_settled.phase_2, e1, e2) now_settled.operand in
      ap value e ∙ value_bits_16 Ra ra_below

  pub counter_branches : Control f true false false true false true → value (map f NEXT_COUNTER) ≡ cond (eqb RD 0) (target s.pc (fetched s).n) (following s)
  counter_branches k =
      let n = signed_number (fetched s).n in
      let b : value (map f ADDEND) ≡ n = ap value (addend_number k.second_is_number k.second_is_port k.subtract) ∙ number_n k.op_zero in
      let first : map f FIRST ≡ bits 16 (following s) = first_is f now_settled.stages ∙ rw k.first_is_counter now_settled.program_counter in
      let total = sum (following s) n false first b k.carry_in next_below in
      let z : f IS_ZERO ≡ eqb RD 0 = zero_is f now_settled.stages ∙ rw (now_settled.high, port_d_bits k.from_4) (all_low_is (bits 16 RD) ∙ ap (λ x. eqb x 0) (value_bits_16 RD rd_below)) in
      let e : map f NEXT_COUNTER ≡ cond (nand true (nand true (eqb RD 0))) (map f SUM) (map f PROGRAM_COUNTER) = counter_is f now_settled.stages ∙ rw (now_settled.phase_1, now_settled.phase_2, k.op_zero, k.jump, z) refl in
      go (eqb RD 0) (map f NEXT_COUNTER) (map f SUM) (map f PROGRAM_COUNTER) n total now_settled.program_counter e
      ∙ ap (λ x. cond (eqb RD 0) x (following s)) (target_is s.pc (fetched s).n g.pc_below (omega arith))
    where
      go : (z : Bool) (q s1 p : List Bool) (x : ℕ) → s1 ≡ bits 16 (following s + x + 0) → p ≡ bits 16 (following s) → q ≡ cond (nand true (nand true z)) s1 p → value q ≡ cond z ((following s + x) % 65536) (following s)
      go true q s1 p x es ep eq = ap value (eq ∙ es) ∙ (low_16 (following s + x + 0) ∙ ap (λ v. v % 65536) (add_none (following s + x)))
      go false q s1 p x es ep eq = ap value (eq ∙ ep) ∙ value_bits_16 (following s) next_below

  -- the address that load and store mean
  pub address_of : f FIRST_IS_COUNTER ≡ false → f SECOND_IS_NUMBER ≡ true → f SECOND_IS_PORT ≡ false → f SUBTRACT ≡ false → f OP_ZERO ≡ false → f CARRY_IN ≡ false → value (map f ADDRESS) ≡ place (fetched s) s
  address_of e1 e2 e3 e4 e5 e6 =
      let b : value (map f ADDEND) ≡ (fetched s).m = ap value (addend_number e2 e3 e4) ∙ number_m e5 in
      let total = sum Ra (fetched s).m false (first_operand e1) b e6 ra_below in
      let a : map f ADDRESS ≡ map f SUM = address_is f now_settled.stages ∙ rw now_settled.phase_2 refl in
      ap value (a ∙ total) ∙ (low_16 (Ra + (fetched s).m + 0) ∙ ap (λ x. x % 65536) (add_none (Ra + (fetched s).m)))

  -- the results: sum and difference
  pub result_add : Control f false false false false false true → f OP_0 ≡ false → f OP_1 ≡ false → f OP_2 ≡ false → f OP_3 ≡ false → value (map f NEXT_RESULT) ≡ add16 Ra RB
  result_add k e0 e1 e2 e3 =
      let b : map f ADDEND ≡ bits 16 RB = addend_port k.second_is_number k.second_is_port false k.subtract RB (port_b_bits k.from_4) in
      let total = sum Ra RB false (first_operand k.first_is_counter) (ap value b ∙ value_bits_16 RB rb_below) k.carry_in ra_below in
      let e : map f NEXT_RESULT ≡ bits 16 (Ra + RB + 0) = result_is f now_settled.stages ∙ rw (e0, e1, e2, e3) total in
      ap value e ∙ (low_16 (Ra + RB + 0) ∙ ap (λ x. x % 65536) (add_none (Ra + RB)))

  inverse_b : {o1 : Bool} → Control f true o1 false false false true → map f ADDEND ≡ map not (bits 16 RB)
  inverse_b k = addend_port k.second_is_number k.second_is_port true k.subtract RB (port_b_bits k.from_4)

  pub result_sub : Control f true false false false false true → f OP_0 ≡ true → f OP_1 ≡ false → f OP_2 ≡ false → f OP_3 ≡ false → value (map f NEXT_RESULT) ≡ sub16 Ra RB
  result_sub k e0 e1 e2 e3 =
      let y = value (map not (bits 16 RB)) in
      let total = sum Ra y true (first_operand k.first_is_counter) (ap value (inverse_b k)) k.carry_in ra_below in
      let e : map f NEXT_RESULT ≡ bits 16 (Ra + y + 1) = result_is f now_settled.stages ∙ rw (e0, e1, e2, e3) total in
      ap value e ∙ (low_16 (Ra + y + 1) ∙ ap (λ x. x % 65536) (less_by_inverse Ra RB ra_below rb_below))

  pub result_nand : Control f false true false false false true → f OP_0 ≡ false → f OP_1 ≡ true → f OP_2 ≡ false → f OP_3 ≡ false → value (map f NEXT_RESULT) ≡ nand16 Ra RB
  result_nand k e0 e1 e2 e3 =
      let e : map f NEXT_RESULT ≡ nands (bits 16 Ra) (bits 16 RB) = result_is f now_settled.stages ∙ rw (e0, e1, e2, e3) (nanded_is f now_settled.stages ∙ ap₂ nands now_settled.operand (port_b_bits k.from_4)) in
      ap value e

  -- less is the inverse of the carry of the difference
  pub result_less : Control f true true false false false true → f OP_0 ≡ true → f OP_1 ≡ true → f OP_2 ≡ false → f OP_3 ≡ false → value (map f NEXT_RESULT) ≡ less16 Ra RB
  unfolding LESS_WORD
  result_less k e0 e1 e2 e3 =
      let a : value (map f FIRST) ≡ Ra = ap value (first_operand k.first_is_counter) ∙ value_bits_16 Ra ra_below in
      let total : value (map f FIRST) + value (map f ADDEND) + bit (f CARRY_IN) ≡ Ra + 65536 - RB = rw (a, ap value (inverse_b k), k.carry_in) (less_by_inverse Ra RB ra_below rb_below) in
      let c : f CARRY ≡ not (ltb Ra RB) = (sum_is f now_settled.stages).1 ∙ ap not (ap (λ x. ltb x 65536) total ∙ compare_shifted Ra RB ra_below rb_below) in
      let l : f IS_LESS ≡ ltb Ra RB = less_is f now_settled.stages ∙ (ap not c ∙ not_not (ltb Ra RB)) in
      let e : map f NEXT_RESULT ≡ ltb Ra RB ∷ replicate 15 false = result_is f now_settled.stages ∙ rw (e0, e1, e2, e3) (rw (l, now_settled.low) refl) in
      ap value e ∙ one (ltb Ra RB)
    where
      one : (c : Bool) → value (c ∷ replicate 15 false) ≡ cond c 1 0
      one true = refl
      one false = refl

  -- half, low and high move bits
  pub result_half : f OP_0 ≡ false → f OP_1 ≡ false → f OP_2 ≡ true → f OP_3 ≡ false → value (map f NEXT_RESULT) ≡ half16 Ra
  unfolding HALF_WORD OPERAND
  result_half e0 e1 e2 e3 =
      let h : map f (drop 1 OPERAND) ≡ bits 15 (Ra / 2) = ap {B = List Bool} (λ x. drop 1 x) now_settled.operand in
      let e : map f NEXT_RESULT ≡ map f (drop 1 OPERAND ++ (LOW ∷ [])) = result_is f now_settled.stages ∙ rw (e0, e1, e2, e3) refl in
      let all : map f NEXT_RESULT ≡ bits 15 (Ra / 2) ++ (false ∷ []) = e ∙ (map_++ f (drop 1 OPERAND) (LOW ∷ []) ∙ ap₂ {C = List Bool} (λ x y. x ++ y) h (ap {B = List Bool} (λ x. x ∷ []) now_settled.low)) in
      let small : Ra / 2 < 32768 = let k = ra_below in omega arith in
      ap value all ∙ (value_++ (bits 15 (Ra / 2)) (false ∷ []) ∙ number (value (bits 15 (Ra / 2))) (value_bits 15 (Ra / 2) small))
    where
      number : (a : ℕ) → a ≡ Ra / 2 → a + shifted 15 0 ≡ Ra / 2
      number a e = omega arith

  pub result_low : f OP_0 ≡ true → f OP_1 ≡ false → f OP_2 ≡ true → f OP_3 ≡ false → value (map f NEXT_RESULT) ≡ (fetched s).n
  unfolding LOW_WORD
  result_low e0 e1 e2 e3 =
      let e : map f NEXT_RESULT ≡ map f (FIELD_N ++ replicate 7 LOW) = result_is f now_settled.stages ∙ rw (e0, e1, e2, e3) refl in
      let z : map f (replicate 7 LOW) ≡ replicate 7 false = rw now_settled.low refl in
      let all : map f NEXT_RESULT ≡ bits 9 INSTR ++ replicate 7 false = e ∙ (map_++ f FIELD_N (replicate 7 LOW) ∙ ap₂ {C = List Bool} (λ x y. x ++ y) (field_n f INSTR now_settled.instruction) z) in
      ap value all ∙ (value_++ (bits 9 INSTR) (replicate 7 false) ∙ number (value (bits 9 INSTR)) (low_9 INSTR))
    where
      number : (a : ℕ) → a ≡ INSTR % 512 → a + shifted 9 0 ≡ INSTR % 512
      number a e = omega arith

  pub result_high : Control f false true true false false true → f OP_0 ≡ false → f OP_1 ≡ true → f OP_2 ≡ true → f OP_3 ≡ false → value (map f NEXT_RESULT) ≡ RD % 256 + 256 * ((fetched s).n % 256)
  unfolding HIGH_WORD INSTRUCTION
  result_high k e0 e1 e2 e3 =
      let e : map f NEXT_RESULT ≡ map f (take 8 PORT ++ LOW_BYTE) = result_is f now_settled.stages ∙ rw (e0, e1, e2, e3) refl in
      let upper : map f LOW_BYTE ≡ bits 8 INSTR = ap {B = List Bool} (λ u. take 8 u) now_settled.instruction in
      let lower : map f (take 8 PORT) ≡ bits 8 RD = map_take f 8 PORT ∙ ap (take 8) (port_d_bits k.from_4) in
      let all : map f NEXT_RESULT ≡ bits 8 RD ++ bits 8 INSTR = e ∙ (map_++ f (take 8 PORT) LOW_BYTE ∙ ap₂ {C = List Bool} (λ x y. x ++ y) lower upper) in
      ap value all ∙ (value_++ (bits 8 RD) (bits 8 INSTR) ∙ number (value (bits 8 RD)) (value (bits 8 INSTR)) RD (low_8 RD) (low_8 INSTR))
    where
      number : (a b y : ℕ) → a ≡ y % 256 → b ≡ INSTR % 256 → a + shifted 8 b ≡ y % 256 + 256 * (INSTR % 512 % 256)
      number a b y e1 e2 = omega arith

  -- a jump keeps the next place, in keeps the tape's word
  pub result_jump : f OP_0 ≡ false → f OP_3 ≡ true → value (map f NEXT_RESULT) ≡ following s
  result_jump e0 e3 =
      let e : map f NEXT_RESULT ≡ bits 16 (following s) = result_is f now_settled.stages ∙ rw (e0, e3) now_settled.program_counter in
      ap value e ∙ value_bits_16 (following s) next_below

  pub result_in : f OP_0 ≡ true → f OP_3 ≡ true → value (map f NEXT_RESULT) ≡ front s.tape
  result_in e0 e3 =
      let e : map f NEXT_RESULT ≡ bits 16 (front s.tape) = result_is f now_settled.stages ∙ rw (e0, e3) now_settled.tape in
      ap value e ∙ value_bits_16 (front s.tape) (front_below s.tape g.tape_below)
