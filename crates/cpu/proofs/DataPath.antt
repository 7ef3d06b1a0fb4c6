-- What the drawing's words are, each from the words before it: one fact a stage, all of one assignment of levels. In
-- order: the port, the adder and its words, NAND, less and zero, the result, the registers, the program counter, the
-- address.
use Rattle.std.proofs.Common.{◌≡◌, ℕ, ◌+◌, Bool, false, cond, not, ◌&&◌, ltb, [], ◌∷◌, ◌++◌, map, get_or, set, replicate, refl, ap, ◌∙◌, ap₂}
use Rattle.words.specs.Words.{bit, bits, value, nand, nands}
use Rattle.words.proofs.Bits.{word_of_sum, all_low}
use Rattle.circuit.proofs.Words.{inverts_one, and_two, nands_are, chooses, chooses_either, lows, inverts_if, tests_zero}
use Rattle.circuit.proofs.Adding.{adds}
use Rattle.circuit.proofs.Reading.{Inverses, line_levels, file_levels, paired_inverses, reads}
use Rattle.circuit.proofs.Writing.{writes}
use Rattle.cpu.specs.Signals.{HIGH, INSTRUCTION, TAPE, FIELD_M, FIELD_B, FIELD_A, FIELD_D, NUMBER_6, NUMBER_7, NUMBER_8, OP_0, OP_1, OP_2, OP_3, PROGRAM_COUNTER, REGISTERS, OPERAND, RESULT, TARGET, PHASE_1, PHASE_2, WRITES, LOADS, late_index_start, index_start, select_start, read_start, first_start, second_start, addend_start, adder_start, nand_start, less_start, zero_start, nand_or_less_start, half_or_low_start, below_4_start, from_4_start, below_8_start, from_8_start, result_start, written_start, write_select_start, write_start, jump_start, counter_start, address_start}
use Rattle.cpu.specs.Control.{NOT_OP_0, NOT_OP_1, NOT_OP_2, NOT_OP_3, FROM_4, BELOW_4, NOT_PHASE_1, NOT_PHASE_2, NOT_LOADS, OP_ZERO, FIRST_IS_COUNTER, FIRST_IS_OPERAND, SUBTRACT, CARRY_IN, SECOND_IS_PORT, SECOND_IS_NUMBER, NOT_JUMP, JUMP}
use Rattle.cpu.specs.Stages.{LATE_INDEX, INDEX, READ_SELECT, PORT, FIRST, NUMBER, SECOND, ADDEND, SUM, CARRY, NANDED, IS_LESS, IS_ZERO, LESS_WORD, HALF_WORD, LOW_WORD, HIGH_WORD, NAND_OR_LESS, HALF_OR_LOW, RESULT_BELOW_4, RESULT_FROM_4, RESULT_BELOW_8, RESULT_FROM_8, NEXT_RESULT, WRITTEN, NOT_WRITES, WRITE_SELECT, NEXT_REGISTERS, NOT_BRANCH, BRANCH, TO_SUM, NOT_TO_SUM, STAY_OR_JUMP, NEXT_COUNTER, ADDRESS}
use Rattle.cpu.proofs.Drawing.{drawing, Staged}
use Rattle.cpu.proofs.ControlLines.{not_op_0, not_op_1, not_op_2, not_op_3, not_from_4, not_phase_1, not_phase_2, not_loads, not_first_is_counter, not_jump, sign_6, sign_7, sign_8}

module _ (f : ℕ → Bool) (q : Staged f) where
  -- the number of the register that is read, and that register
  pub index_is : line_levels f READ_SELECT ≡ cond (f PHASE_1) (map f FIELD_A) (cond (f FROM_4) (map f FIELD_D) (map f FIELD_B))
  unfolding drawing
  index_is =
      chooses f index_start PHASE_1 NOT_PHASE_1 FIELD_A LATE_INDEX refl (not_phase_1 f q.control) q.index
      ∙ ap (cond (f PHASE_1) (map f FIELD_A)) (chooses f late_index_start FROM_4 BELOW_4 FIELD_D FIELD_B refl (not_from_4 f q.control) q.late_index)

  select_inverses : Inverses f READ_SELECT
  unfolding drawing
  select_inverses = paired_inverses f select_start INDEX [] q.select

  pub port_is : map f PORT ≡ get_or (file_levels f REGISTERS) (value (line_levels f READ_SELECT)) []
  unfolding drawing
  port_is = reads f read_start 16 READ_SELECT REGISTERS refl (refl, (refl, (refl, (refl, (refl, (refl, (refl, (refl, tt)))))))) select_inverses q.read

  -- the adder's words
  pub first_is : map f FIRST ≡ cond (f FIRST_IS_COUNTER) (map f PROGRAM_COUNTER) (map f OPERAND)
  unfolding drawing
  first_is = chooses f first_start FIRST_IS_COUNTER FIRST_IS_OPERAND PROGRAM_COUNTER OPERAND refl (not_first_is_counter f q.control) q.first

  pub number_is : map f NUMBER ≡ map f FIELD_M ++ ((f NUMBER_6 && f OP_ZERO) ∷ (f NUMBER_7 && f OP_ZERO) ∷ replicate 8 (f NUMBER_8 && f OP_ZERO))
  unfolding NUMBER
  number_is = rw (sign_6 f q.control, sign_7 f q.control, sign_8 f q.control) refl

  pub second_is : f SECOND_IS_NUMBER && f SECOND_IS_PORT ≡ false → map f SECOND ≡ cond (f SECOND_IS_NUMBER) (map f NUMBER) (cond (f SECOND_IS_PORT) (map f PORT) (lows (map f NUMBER)))
  unfolding drawing
  second_is e = chooses_either f second_start SECOND_IS_NUMBER SECOND_IS_PORT NUMBER PORT refl e q.second

  pub addend_is : map f ADDEND ≡ cond (f SUBTRACT) (map not (map f SECOND)) (map f SECOND)
  unfolding drawing
  addend_is = inverts_if f addend_start SUBTRACT SECOND q.addend

  pub sum_is : (map f SUM ≡ bits 16 (value (map f FIRST) + value (map f ADDEND) + bit (f CARRY_IN))) × (f CARRY ≡ not (ltb (value (map f FIRST) + value (map f ADDEND) + bit (f CARRY_IN)) 65536))
  unfolding drawing
  sum_is = word_of_sum (map f SUM) 16 (value (map f FIRST) + value (map f ADDEND) + bit (f CARRY_IN)) (f CARRY) refl (adds f adder_start FIRST ADDEND CARRY_IN refl q.adder)

  -- NAND, less, zero
  pub nanded_is : map f NANDED ≡ nands (map f OPERAND) (map f PORT)
  unfolding drawing
  nanded_is = nands_are f nand_start OPERAND PORT q.nands

  pub less_is : f IS_LESS ≡ not (f CARRY)
  unfolding drawing
  less_is = inverts_one f less_start CARRY q.less.0

  pub zero_is : f IS_ZERO ≡ f HIGH && all_low (map f PORT)
  unfolding drawing
  zero_is = tests_zero f zero_start HIGH PORT q.zero_test

  -- the result, by the operation's bits
  pub result_is : map f NEXT_RESULT ≡ cond (f OP_3) (cond (f OP_0) (map f TAPE) (map f PROGRAM_COUNTER))
      (cond (f OP_2) (cond (f OP_1) (map f HIGH_WORD) (cond (f OP_0) (map f LOW_WORD) (map f HALF_WORD)))
      (cond (f OP_1) (cond (f OP_0) (map f LESS_WORD) (map f NANDED)) (map f SUM)))
  unfolding drawing
  result_is =
      let by-0 = not_op_0 f q.control in
      let by-1 = not_op_1 f q.control in
      rw (
        ← chooses f nand_or_less_start OP_0 NOT_OP_0 LESS_WORD NANDED refl by-0 q.nand_or_less,
        ← chooses f half_or_low_start OP_0 NOT_OP_0 LOW_WORD HALF_WORD refl by-0 q.half_or_low,
        ← chooses f below_4_start OP_1 NOT_OP_1 NAND_OR_LESS SUM refl by-1 q.below_4,
        ← chooses f from_4_start OP_1 NOT_OP_1 HIGH_WORD HALF_OR_LOW refl by-1 q.from_4,
        ← chooses f below_8_start OP_2 NOT_OP_2 RESULT_FROM_4 RESULT_BELOW_4 refl (not_op_2 f q.control) q.below_8,
        ← chooses f from_8_start OP_0 NOT_OP_0 TAPE PROGRAM_COUNTER refl by-0 q.from_8,
      )
      (chooses f result_start OP_3 NOT_OP_3 RESULT_FROM_8 RESULT_BELOW_8 refl (not_op_3 f q.control) q.result)

  -- what is written, and the registers after it
  pub written_is : map f WRITTEN ≡ cond (f LOADS) (map f INSTRUCTION) (map f RESULT)
  unfolding drawing
  written_is = chooses f written_start LOADS NOT_LOADS INSTRUCTION RESULT refl (not_loads f q.control) q.written

  pub registers_are : file_levels f NEXT_REGISTERS ≡ cond (f WRITES) (set (file_levels f REGISTERS) (value (line_levels f WRITE_SELECT)) (map f WRITTEN)) (file_levels f REGISTERS)
  unfolding drawing
  registers_are = writes f write_start 16 WRITE_SELECT (WRITES, NOT_WRITES) WRITTEN REGISTERS refl refl (refl, (refl, (refl, (refl, (refl, (refl, (refl, (refl, tt))))))))
      (paired_inverses f write_select_start TARGET (WRITES ∷ []) q.write_select)
      (inverts_one f NOT_WRITES WRITES q.write_select.1.1.1.0) q.write

  -- where to go on
  pub counter_is : map f NEXT_COUNTER ≡ cond (nand (not (f PHASE_1)) (nand (f PHASE_2 && f OP_ZERO) (f IS_ZERO))) (map f SUM) (cond (f JUMP) (map f OPERAND) (map f PROGRAM_COUNTER))
  unfolding drawing
  counter_is =
      let branch = and_two f NOT_BRANCH BRANCH (f PHASE_2) (f OP_ZERO) q.branch.0 q.branch.1.0 in
      let to-sum : f TO_SUM ≡ nand (not (f PHASE_1)) (nand (f PHASE_2 && f OP_ZERO) (f IS_ZERO)) =
      q.branch.1.1.1.0 ∙ ap₂ nand (not_phase_1 f q.control) (q.branch.1.1.0 ∙ ap (λ x. nand x (f IS_ZERO)) branch) in
      let not-to-sum : f NOT_TO_SUM ≡ not (f TO_SUM) = inverts_one f NOT_TO_SUM TO_SUM q.branch.1.1.1.1.0 in
      rw (← to-sum, ← chooses f jump_start JUMP NOT_JUMP OPERAND PROGRAM_COUNTER refl (not_jump f q.control) q.jump)
      (chooses f counter_start TO_SUM NOT_TO_SUM SUM STAY_OR_JUMP refl not-to-sum q.counter)

  pub address_is : map f ADDRESS ≡ cond (f PHASE_2) (map f SUM) (map f PROGRAM_COUNTER)
  unfolding drawing
  address_is = chooses f address_start PHASE_2 NOT_PHASE_2 SUM PROGRAM_COUNTER refl (not_phase_2 f q.control) q.address
