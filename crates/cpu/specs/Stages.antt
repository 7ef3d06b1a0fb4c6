-- The drawing, stage by stage: each stage is one part of the library at the place where the last one ended, and the words
-- that it gives have names. One instruction takes three cycles, in which one line of the phase is high:
-- 1. the instruction is in hand; the operand takes register a; the program counter goes on by one through the adder;
-- 2. the instruction is handed over once more; the port reads register b or d; the adder adds, subtracts, compares or
--    makes an address; the pins speak; the result and the number of its register are kept; a branch or jump is taken;
-- 3. the register takes the result or the word from memory, while the next instruction is asked for.
use Rattle.std.specs.Prelude.{ℕ, List, [], ◌∷◌, ◌++◌, take, drop, replicate}
use Rattle.circuit.specs.Parts.{Gates, paired, inverter_gates, inverter_results, nand_gates, nand_results, mux_gates, mux_results, invert_if_gates, invert_if_results, zero_gates, zero_result}
use Rattle.circuit.specs.PartsAdder.{adder_gates, adder_results, adder_carry}
use Rattle.circuit.specs.PartsRegisters.{read_gates, read_results, write_gates, write_results}
use Rattle.cpu.specs.Signals.{LOW, HIGH, INSTRUCTION, TAPE, FIELD_N, FIELD_M, LOW_BYTE, FIELD_B, FIELD_A, FIELD_D, OP_0, OP_1, OP_2, OP_3, PROGRAM_COUNTER, REGISTERS, OPERAND, RESULT, TARGET, PHASE_1, PHASE_2, WRITES, LOADS, late_index_start, index_start, select_start, read_start, first_start, second_start, addend_start, adder_start, nand_start, less_start, zero_start, nand_or_less_start, half_or_low_start, below_4_start, from_4_start, below_8_start, from_8_start, result_start, written_start, write_select_start, write_start, jump_start, counter_start, address_start}
use Rattle.cpu.specs.Control.{NOT_OP_0, NOT_OP_1, NOT_OP_2, NOT_OP_3, FROM_4, BELOW_4, NOT_PHASE_1, NOT_PHASE_2, NOT_LOADS, OP_ZERO, FIRST_IS_COUNTER, FIRST_IS_OPERAND, SUBTRACT, CARRY_IN, SECOND_IS_PORT, SECOND_IS_NUMBER, SIGN_6, SIGN_7, SIGN_8, NOT_JUMP, JUMP}

-- Which register is read: a in phase 1, then b, or d where the operation is 4 or more.
unfoldable pub late_index_stage : Gates
late_index_stage = mux_gates late_index_start FROM_4 BELOW_4 FIELD_D FIELD_B

unfoldable pub LATE_INDEX : List ℕ
LATE_INDEX = mux_results late_index_start FIELD_D FIELD_B

unfoldable pub index_stage : Gates
index_stage = mux_gates index_start PHASE_1 NOT_PHASE_1 FIELD_A LATE_INDEX

unfoldable pub INDEX : List ℕ
INDEX = mux_results index_start FIELD_A LATE_INDEX

unfoldable pub select_stage : Gates
select_stage = inverter_gates select_start INDEX

-- the select lines with their inverses
unfoldable pub READ_SELECT : List (ℕ × ℕ)
READ_SELECT = paired INDEX (inverter_results select_start INDEX)

-- The one read port; its word is also the datum on the pins.
unfoldable pub read_stage : Gates
read_stage = read_gates read_start READ_SELECT REGISTERS

unfoldable pub PORT : List ℕ
PORT = read_results read_start READ_SELECT REGISTERS

-- The adder's words: the program counter or the operand; the instruction's number or the port, inverted to subtract.
unfoldable pub first_stage : Gates
first_stage = mux_gates first_start FIRST_IS_COUNTER FIRST_IS_OPERAND PROGRAM_COUNTER OPERAND

unfoldable pub FIRST : List ℕ
FIRST = mux_results first_start PROGRAM_COUNTER OPERAND

unfoldable pub NUMBER : List ℕ
NUMBER = FIELD_M ++ (SIGN_6 ∷ SIGN_7 ∷ replicate 8 SIGN_8)

unfoldable pub second_stage : Gates
second_stage = mux_gates second_start SECOND_IS_NUMBER SECOND_IS_PORT NUMBER PORT

unfoldable pub SECOND : List ℕ
SECOND = mux_results second_start NUMBER PORT

unfoldable pub addend_stage : Gates
addend_stage = invert_if_gates addend_start SUBTRACT SECOND

unfoldable pub ADDEND : List ℕ
ADDEND = invert_if_results addend_start SECOND

unfoldable pub adder_stage : Gates
adder_stage = adder_gates adder_start FIRST ADDEND CARRY_IN

unfoldable pub SUM : List ℕ
SUM = adder_results adder_start FIRST ADDEND

unfoldable pub CARRY : ℕ
CARRY = adder_carry adder_start FIRST ADDEND CARRY_IN

-- NAND; less, which is the inverse of the carry; the zero test.
unfoldable pub nand_stage : Gates
nand_stage = nand_gates nand_start OPERAND PORT

unfoldable pub NANDED : List ℕ
NANDED = nand_results nand_start OPERAND PORT

unfoldable pub less_stage : Gates
less_stage = inverter_gates less_start (CARRY ∷ [])

abbrev pub IS_LESS : ℕ
IS_LESS = less_start

unfoldable pub zero_stage : Gates
zero_stage = zero_gates zero_start HIGH PORT

unfoldable pub IS_ZERO : ℕ
IS_ZERO = zero_result zero_start HIGH PORT

-- The result, chosen by the operation's bits: nand or less, half or low, high or these, the sum or nand and less, ...
unfoldable pub LESS_WORD : List ℕ
LESS_WORD = IS_LESS ∷ replicate 15 LOW

unfoldable pub HALF_WORD : List ℕ
HALF_WORD = drop 1 OPERAND ++ (LOW ∷ [])

unfoldable pub LOW_WORD : List ℕ
LOW_WORD = FIELD_N ++ replicate 7 LOW

unfoldable pub HIGH_WORD : List ℕ
HIGH_WORD = take 8 PORT ++ LOW_BYTE

unfoldable pub nand_or_less_stage : Gates
nand_or_less_stage = mux_gates nand_or_less_start OP_0 NOT_OP_0 LESS_WORD NANDED

unfoldable pub NAND_OR_LESS : List ℕ
NAND_OR_LESS = mux_results nand_or_less_start LESS_WORD NANDED

unfoldable pub half_or_low_stage : Gates
half_or_low_stage = mux_gates half_or_low_start OP_0 NOT_OP_0 LOW_WORD HALF_WORD

unfoldable pub HALF_OR_LOW : List ℕ
HALF_OR_LOW = mux_results half_or_low_start LOW_WORD HALF_WORD

unfoldable pub below_4_stage : Gates
below_4_stage = mux_gates below_4_start OP_1 NOT_OP_1 NAND_OR_LESS SUM

unfoldable pub RESULT_BELOW_4 : List ℕ
RESULT_BELOW_4 = mux_results below_4_start NAND_OR_LESS SUM

unfoldable pub from_4_stage : Gates
from_4_stage = mux_gates from_4_start OP_1 NOT_OP_1 HIGH_WORD HALF_OR_LOW

unfoldable pub RESULT_FROM_4 : List ℕ
RESULT_FROM_4 = mux_results from_4_start HIGH_WORD HALF_OR_LOW

unfoldable pub below_8_stage : Gates
below_8_stage = mux_gates below_8_start OP_2 NOT_OP_2 RESULT_FROM_4 RESULT_BELOW_4

unfoldable pub RESULT_BELOW_8 : List ℕ
RESULT_BELOW_8 = mux_results below_8_start RESULT_FROM_4 RESULT_BELOW_4

unfoldable pub from_8_stage : Gates
from_8_stage = mux_gates from_8_start OP_0 NOT_OP_0 TAPE PROGRAM_COUNTER

unfoldable pub RESULT_FROM_8 : List ℕ
RESULT_FROM_8 = mux_results from_8_start TAPE PROGRAM_COUNTER

unfoldable pub result_stage : Gates
result_stage = mux_gates result_start OP_3 NOT_OP_3 RESULT_FROM_8 RESULT_BELOW_8

unfoldable pub NEXT_RESULT : List ℕ
NEXT_RESULT = mux_results result_start RESULT_FROM_8 RESULT_BELOW_8

-- The write port: the word from memory or the result, into the register that was kept.
unfoldable pub written_stage : Gates
written_stage = mux_gates written_start LOADS NOT_LOADS INSTRUCTION RESULT

unfoldable pub WRITTEN : List ℕ
WRITTEN = mux_results written_start INSTRUCTION RESULT

unfoldable pub write_select_stage : Gates
write_select_stage = inverter_gates write_select_start (TARGET ++ (WRITES ∷ []))

abbrev pub NOT_WRITES : ℕ
NOT_WRITES = 1403

unfoldable pub WRITE_SELECT : List (ℕ × ℕ)
WRITE_SELECT = paired TARGET (inverter_results write_select_start (TARGET ++ (WRITES ∷ [])))

unfoldable pub write_stage : Gates
write_stage = write_gates write_start WRITE_SELECT (WRITES, NOT_WRITES) WRITTEN REGISTERS

unfoldable pub NEXT_REGISTERS : List (List ℕ)
NEXT_REGISTERS = write_results write_start WRITE_SELECT (WRITES, NOT_WRITES) WRITTEN REGISTERS

-- Where to go on: to the sum in phase 1 and where a branch is taken; to the operand at a jump; else no change.
abbrev pub NOT_BRANCH : ℕ
NOT_BRANCH = 1816

abbrev pub BRANCH : ℕ
BRANCH = 1817

abbrev pub NOT_TAKEN : ℕ
NOT_TAKEN = 1818

abbrev pub TO_SUM : ℕ
TO_SUM = 1819

abbrev pub NOT_TO_SUM : ℕ
NOT_TO_SUM = 1820

unfoldable pub branch_stage : Gates
branch_stage =
    (PHASE_2, OP_ZERO) ∷ (NOT_BRANCH, NOT_BRANCH) ∷ (BRANCH, IS_ZERO) ∷ (NOT_PHASE_1, NOT_TAKEN) ∷ (TO_SUM, TO_SUM) ∷ []

unfoldable pub jump_stage : Gates
jump_stage = mux_gates jump_start JUMP NOT_JUMP OPERAND PROGRAM_COUNTER

unfoldable pub STAY_OR_JUMP : List ℕ
STAY_OR_JUMP = mux_results jump_start OPERAND PROGRAM_COUNTER

unfoldable pub counter_stage : Gates
counter_stage = mux_gates counter_start TO_SUM NOT_TO_SUM SUM STAY_OR_JUMP

unfoldable pub NEXT_COUNTER : List ℕ
NEXT_COUNTER = mux_results counter_start SUM STAY_OR_JUMP

-- The address: the sum in phase 2, else the program counter.
unfoldable pub address_stage : Gates
address_stage = mux_gates address_start PHASE_2 NOT_PHASE_2 SUM PROGRAM_COUNTER

unfoldable pub ADDRESS : List ℕ
ADDRESS = mux_results address_start SUM PROGRAM_COUNTER
