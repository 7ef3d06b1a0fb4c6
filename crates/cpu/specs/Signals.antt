-- The signals of the drawing by name: what comes in, the flip-flops, the control lines, and where each stage begins.
use Rattle.std.specs.Prelude.{ℕ, zero, suc, List, [], ◌∷◌}

-- k signals from n on
abbrev pub from : ℕ → ℕ → List ℕ
from n zero = []
from n (suc k) = n ∷ from (suc n) k

-- Signals in: always low, always high, the word that memory hands over, the tape's next word.
abbrev pub LOW : ℕ
LOW = 0

abbrev pub HIGH : ℕ
HIGH = 1

unfoldable pub INSTRUCTION : List ℕ
INSTRUCTION = from 2 16

unfoldable pub TAPE : List ℕ
TAPE = from 18 16

-- the fields of an instruction: n and m begin at its lowest bit
abbrev pub FIELD_N : List ℕ
FIELD_N = from 2 9

abbrev pub FIELD_M : List ℕ
FIELD_M = from 2 6

abbrev pub LOW_BYTE : List ℕ
LOW_BYTE = from 2 8

abbrev pub NUMBER_6 : ℕ
NUMBER_6 = 8

abbrev pub NUMBER_7 : ℕ
NUMBER_7 = 9

abbrev pub NUMBER_8 : ℕ
NUMBER_8 = 10

abbrev pub FIELD_B : List ℕ
FIELD_B = 5 ∷ 6 ∷ 7 ∷ []

abbrev pub FIELD_A : List ℕ
FIELD_A = 8 ∷ 9 ∷ 10 ∷ []

abbrev pub FIELD_D : List ℕ
FIELD_D = 11 ∷ 12 ∷ 13 ∷ []

-- the operation's bits, lowest first
abbrev pub OP_0 : ℕ
OP_0 = 14

abbrev pub OP_1 : ℕ
OP_1 = 15

abbrev pub OP_2 : ℕ
OP_2 = 16

abbrev pub OP_3 : ℕ
OP_3 = 17

-- Flip-flops: the program counter; eight registers; the operand, which is register a; the result, and the number of the
-- register that takes it; the phase, of which one line is high; whether a register is written, and whether from memory.
unfoldable pub PROGRAM_COUNTER : List ℕ
PROGRAM_COUNTER = from 34 16

unfoldable pub REGISTERS : List (List ℕ)
REGISTERS = from 50 16 ∷ from 66 16 ∷ from 82 16 ∷ from 98 16 ∷ from 114 16 ∷ from 130 16 ∷ from 146 16 ∷ from 162 16 ∷ []

unfoldable pub OPERAND : List ℕ
OPERAND = from 178 16

unfoldable pub RESULT : List ℕ
RESULT = from 194 16

abbrev pub TARGET : List ℕ
TARGET = 210 ∷ 211 ∷ 212 ∷ []

abbrev pub PHASE_1 : ℕ
PHASE_1 = 213

abbrev pub PHASE_2 : ℕ
PHASE_2 = 214

abbrev pub PHASE_3 : ℕ
PHASE_3 = 215

abbrev pub WRITES : ℕ
WRITES = 216

abbrev pub LOADS : ℕ
LOADS = 217

-- how many flip-flops and gates there are; the gates come after the signals in and the flip-flops
abbrev pub flop_count : ℕ
flop_count = 184

abbrev pub gate_count : ℕ
gate_count = 1747

abbrev pub signal_count : ℕ
signal_count = 1965

-- Where each stage begins.
abbrev pub control_start : ℕ
control_start = 218

abbrev pub late_index_start : ℕ
late_index_start = 290

abbrev pub index_start : ℕ
index_start = 299

abbrev pub select_start : ℕ
select_start = 308

abbrev pub read_start : ℕ
read_start = 311

abbrev pub first_start : ℕ
first_start = 647

abbrev pub second_start : ℕ
second_start = 695

abbrev pub addend_start : ℕ
addend_start = 743

abbrev pub adder_start : ℕ
adder_start = 807

abbrev pub nand_start : ℕ
nand_start = 951

abbrev pub less_start : ℕ
less_start = 967

abbrev pub zero_start : ℕ
zero_start = 968

abbrev pub nand_or_less_start : ℕ
nand_or_less_start = 1016

abbrev pub half_or_low_start : ℕ
half_or_low_start = 1064

abbrev pub below_4_start : ℕ
below_4_start = 1112

abbrev pub from_4_start : ℕ
from_4_start = 1160

abbrev pub below_8_start : ℕ
below_8_start = 1208

abbrev pub from_8_start : ℕ
from_8_start = 1256

abbrev pub result_start : ℕ
result_start = 1304

abbrev pub written_start : ℕ
written_start = 1352

abbrev pub write_select_start : ℕ
write_select_start = 1400

abbrev pub write_start : ℕ
write_start = 1404

abbrev pub branch_start : ℕ
branch_start = 1816

abbrev pub jump_start : ℕ
jump_start = 1821

abbrev pub counter_start : ℕ
counter_start = 1869

abbrev pub address_start : ℕ
address_start = 1917
