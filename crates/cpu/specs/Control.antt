-- The control lines by name, and the gates that make them. A line that begins with NOT is the inverse of the one after
-- it, or a step on the way to it: an AND is a NAND and an inverter.
use Rattle.std.specs.Prelude.{ℕ, [], ◌∷◌}
use Rattle.circuit.specs.Parts.{Gates}
use Rattle.cpu.specs.Signals.{OP_0, OP_1, OP_2, OP_3, PHASE_1, PHASE_2, LOADS, NUMBER_6, NUMBER_7, NUMBER_8}

abbrev pub NOT_OP_0 : ℕ
NOT_OP_0 = 218

abbrev pub NOT_OP_1 : ℕ
NOT_OP_1 = 219

abbrev pub NOT_OP_2 : ℕ
NOT_OP_2 = 220

abbrev pub NOT_OP_3 : ℕ
NOT_OP_3 = 221

-- operations from 4 on, and below 4
abbrev pub FROM_4 : ℕ
FROM_4 = 222

abbrev pub BELOW_4 : ℕ
BELOW_4 = 223

abbrev pub NOT_PHASE_1 : ℕ
NOT_PHASE_1 = 224

abbrev pub NOT_PHASE_2 : ℕ
NOT_PHASE_2 = 225

abbrev pub NOT_LOADS : ℕ
NOT_LOADS = 226

-- operations 8 to 11
abbrev pub NOT_8_TO_11 : ℕ
NOT_8_TO_11 = 227

abbrev pub OPS_8_TO_11 : ℕ
OPS_8_TO_11 = 228

-- the two low bits are 01
abbrev pub NOT_ENDS_01 : ℕ
NOT_ENDS_01 = 229

abbrev pub ENDS_01 : ℕ
ENDS_01 = 230

-- operation 9, zero
abbrev pub NOT_ZERO : ℕ
NOT_ZERO = 231

abbrev pub OP_ZERO : ℕ
OP_ZERO = 232

-- the adder's first word: the program counter in phase 1 and for zero, else the operand
abbrev pub FIRST_IS_COUNTER : ℕ
FIRST_IS_COUNTER = 233

abbrev pub FIRST_IS_OPERAND : ℕ
FIRST_IS_OPERAND = 234

-- sub and less
abbrev pub NOT_ODD_BELOW_4 : ℕ
NOT_ODD_BELOW_4 = 235

abbrev pub ODD_BELOW_4 : ℕ
ODD_BELOW_4 = 236

-- the second word is inverted
abbrev pub NOT_SUBTRACT : ℕ
NOT_SUBTRACT = 237

abbrev pub SUBTRACT : ℕ
SUBTRACT = 238

-- high in phase 1, for the next place, and to subtract
abbrev pub CARRY_IN : ℕ
CARRY_IN = 239

-- the adder's second word: register b for operations below 4, else the instruction's number; nothing in phase 1
abbrev pub NOT_SECOND_IS_PORT : ℕ
NOT_SECOND_IS_PORT = 240

abbrev pub SECOND_IS_PORT : ℕ
SECOND_IS_PORT = 241

abbrev pub NOT_SECOND_IS_NUMBER : ℕ
NOT_SECOND_IS_NUMBER = 242

abbrev pub SECOND_IS_NUMBER : ℕ
SECOND_IS_NUMBER = 243

-- bits 6, 7 and 8 of the number count only for zero
abbrev pub NOT_SIGN_6 : ℕ
NOT_SIGN_6 = 244

abbrev pub SIGN_6 : ℕ
SIGN_6 = 245

abbrev pub NOT_SIGN_7 : ℕ
NOT_SIGN_7 = 246

abbrev pub SIGN_7 : ℕ
SIGN_7 = 247

abbrev pub NOT_SIGN_8 : ℕ
NOT_SIGN_8 = 248

abbrev pub SIGN_8 : ℕ
SIGN_8 = 249

-- the two low bits are 00
abbrev pub NOT_ENDS_00 : ℕ
NOT_ENDS_00 = 250

abbrev pub ENDS_00 : ℕ
ENDS_00 = 251

-- operation 8, store, in phase 2
abbrev pub NOT_OP_STORE : ℕ
NOT_OP_STORE = 252

abbrev pub OP_STORE : ℕ
OP_STORE = 253

abbrev pub NOT_STORE : ℕ
NOT_STORE = 254

abbrev pub STORE : ℕ
STORE = 255

-- operations 12 to 15
abbrev pub NOT_12_TO_15 : ℕ
NOT_12_TO_15 = 256

abbrev pub OPS_12_TO_15 : ℕ
OPS_12_TO_15 = 257

-- operation 12, out, in phase 2
abbrev pub NOT_OP_OUT : ℕ
NOT_OP_OUT = 258

abbrev pub OP_OUT : ℕ
OP_OUT = 259

abbrev pub NOT_EMIT : ℕ
NOT_EMIT = 260

abbrev pub EMIT : ℕ
EMIT = 261

-- the two low bits are 11
abbrev pub NOT_ENDS_11 : ℕ
NOT_ENDS_11 = 262

abbrev pub ENDS_11 : ℕ
ENDS_11 = 263

-- operation 11, in, in phase 2
abbrev pub NOT_OP_IN : ℕ
NOT_OP_IN = 264

abbrev pub OP_IN : ℕ
OP_IN = 265

abbrev pub NOT_TAKE : ℕ
NOT_TAKE = 266

abbrev pub TAKE : ℕ
TAKE = 267

-- the two low bits are 10
abbrev pub NOT_ENDS_10 : ℕ
NOT_ENDS_10 = 268

abbrev pub ENDS_10 : ℕ
ENDS_10 = 269

-- operation 10, jump, in phase 2
abbrev pub NOT_OP_JUMP : ℕ
NOT_OP_JUMP = 270

abbrev pub OP_JUMP : ℕ
OP_JUMP = 271

abbrev pub NOT_JUMP : ℕ
NOT_JUMP = 272

abbrev pub JUMP : ℕ
JUMP = 273

-- how it halts: the two low bits of operations 12 to 15, in phase 2
abbrev pub NOT_ODD_12_TO_15 : ℕ
NOT_ODD_12_TO_15 = 274

abbrev pub ODD_12_TO_15 : ℕ
ODD_12_TO_15 = 275

abbrev pub NOT_HALT_0 : ℕ
NOT_HALT_0 = 276

abbrev pub HALT_0 : ℕ
HALT_0 = 277

abbrev pub NOT_HIGH_12_TO_15 : ℕ
NOT_HIGH_12_TO_15 = 278

abbrev pub HIGH_12_TO_15 : ℕ
HIGH_12_TO_15 = 279

abbrev pub NOT_HALT_1 : ℕ
NOT_HALT_1 = 280

abbrev pub HALT_1 : ℕ
HALT_1 = 281

-- operations 4 to 7
abbrev pub NOT_4_TO_7 : ℕ
NOT_4_TO_7 = 282

abbrev pub OPS_4_TO_7 : ℕ
OPS_4_TO_7 = 283

-- operation 7, load
abbrev pub NOT_OP_LOAD : ℕ
NOT_OP_LOAD = 284

abbrev pub LOAD : ℕ
LOAD = 285

-- operations that write a register: those below 8, jump and in; in phase 2
abbrev pub NOT_JUMP_OR_IN : ℕ
NOT_JUMP_OR_IN = 286

abbrev pub OP_WRITES : ℕ
OP_WRITES = 287

abbrev pub NOT_WRITE : ℕ
NOT_WRITE = 288

abbrev pub WRITE : ℕ
WRITE = 289

-- The gates, in the order of the names above; behind each the line that it makes.
unfoldable pub control_stage : Gates
control_stage =
    (OP_0, OP_0) ∷  -- NOT_OP_0
    (OP_1, OP_1) ∷  -- NOT_OP_1
    (OP_2, OP_2) ∷  -- NOT_OP_2
    (OP_3, OP_3) ∷  -- NOT_OP_3
    (NOT_OP_3, NOT_OP_2) ∷  -- FROM_4
    (FROM_4, FROM_4) ∷  -- BELOW_4
    (PHASE_1, PHASE_1) ∷  -- NOT_PHASE_1
    (PHASE_2, PHASE_2) ∷  -- NOT_PHASE_2
    (LOADS, LOADS) ∷  -- NOT_LOADS
    (OP_3, NOT_OP_2) ∷  -- NOT_8_TO_11
    (NOT_8_TO_11, NOT_8_TO_11) ∷  -- OPS_8_TO_11
    (NOT_OP_1, OP_0) ∷  -- NOT_ENDS_01
    (NOT_ENDS_01, NOT_ENDS_01) ∷  -- ENDS_01
    (OPS_8_TO_11, ENDS_01) ∷  -- NOT_ZERO
    (NOT_ZERO, NOT_ZERO) ∷  -- OP_ZERO
    (NOT_PHASE_1, NOT_ZERO) ∷  -- FIRST_IS_COUNTER
    (FIRST_IS_COUNTER, FIRST_IS_COUNTER) ∷  -- FIRST_IS_OPERAND
    (BELOW_4, OP_0) ∷  -- NOT_ODD_BELOW_4
    (NOT_ODD_BELOW_4, NOT_ODD_BELOW_4) ∷  -- ODD_BELOW_4
    (PHASE_2, ODD_BELOW_4) ∷  -- NOT_SUBTRACT
    (NOT_SUBTRACT, NOT_SUBTRACT) ∷  -- SUBTRACT
    (NOT_PHASE_1, NOT_SUBTRACT) ∷  -- CARRY_IN
    (PHASE_2, BELOW_4) ∷  -- NOT_SECOND_IS_PORT
    (NOT_SECOND_IS_PORT, NOT_SECOND_IS_PORT) ∷  -- SECOND_IS_PORT
    (PHASE_2, FROM_4) ∷  -- NOT_SECOND_IS_NUMBER
    (NOT_SECOND_IS_NUMBER, NOT_SECOND_IS_NUMBER) ∷  -- SECOND_IS_NUMBER
    (NUMBER_6, OP_ZERO) ∷  -- NOT_SIGN_6
    (NOT_SIGN_6, NOT_SIGN_6) ∷  -- SIGN_6
    (NUMBER_7, OP_ZERO) ∷  -- NOT_SIGN_7
    (NOT_SIGN_7, NOT_SIGN_7) ∷  -- SIGN_7
    (NUMBER_8, OP_ZERO) ∷  -- NOT_SIGN_8
    (NOT_SIGN_8, NOT_SIGN_8) ∷  -- SIGN_8
    (NOT_OP_1, NOT_OP_0) ∷  -- NOT_ENDS_00
    (NOT_ENDS_00, NOT_ENDS_00) ∷  -- ENDS_00
    (OPS_8_TO_11, ENDS_00) ∷  -- NOT_OP_STORE
    (NOT_OP_STORE, NOT_OP_STORE) ∷  -- OP_STORE
    (PHASE_2, OP_STORE) ∷  -- NOT_STORE
    (NOT_STORE, NOT_STORE) ∷  -- STORE
    (OP_3, OP_2) ∷  -- NOT_12_TO_15
    (NOT_12_TO_15, NOT_12_TO_15) ∷  -- OPS_12_TO_15
    (OPS_12_TO_15, ENDS_00) ∷  -- NOT_OP_OUT
    (NOT_OP_OUT, NOT_OP_OUT) ∷  -- OP_OUT
    (PHASE_2, OP_OUT) ∷  -- NOT_EMIT
    (NOT_EMIT, NOT_EMIT) ∷  -- EMIT
    (OP_1, OP_0) ∷  -- NOT_ENDS_11
    (NOT_ENDS_11, NOT_ENDS_11) ∷  -- ENDS_11
    (OPS_8_TO_11, ENDS_11) ∷  -- NOT_OP_IN
    (NOT_OP_IN, NOT_OP_IN) ∷  -- OP_IN
    (PHASE_2, OP_IN) ∷  -- NOT_TAKE
    (NOT_TAKE, NOT_TAKE) ∷  -- TAKE
    (OP_1, NOT_OP_0) ∷  -- NOT_ENDS_10
    (NOT_ENDS_10, NOT_ENDS_10) ∷  -- ENDS_10
    (OPS_8_TO_11, ENDS_10) ∷  -- NOT_OP_JUMP
    (NOT_OP_JUMP, NOT_OP_JUMP) ∷  -- OP_JUMP
    (PHASE_2, OP_JUMP) ∷  -- NOT_JUMP
    (NOT_JUMP, NOT_JUMP) ∷  -- JUMP
    (OPS_12_TO_15, OP_0) ∷  -- NOT_ODD_12_TO_15
    (NOT_ODD_12_TO_15, NOT_ODD_12_TO_15) ∷  -- ODD_12_TO_15
    (PHASE_2, ODD_12_TO_15) ∷  -- NOT_HALT_0
    (NOT_HALT_0, NOT_HALT_0) ∷  -- HALT_0
    (OPS_12_TO_15, OP_1) ∷  -- NOT_HIGH_12_TO_15
    (NOT_HIGH_12_TO_15, NOT_HIGH_12_TO_15) ∷  -- HIGH_12_TO_15
    (PHASE_2, HIGH_12_TO_15) ∷  -- NOT_HALT_1
    (NOT_HALT_1, NOT_HALT_1) ∷  -- HALT_1
    (NOT_OP_3, OP_2) ∷  -- NOT_4_TO_7
    (NOT_4_TO_7, NOT_4_TO_7) ∷  -- OPS_4_TO_7
    (OPS_4_TO_7, ENDS_11) ∷  -- NOT_OP_LOAD
    (NOT_OP_LOAD, NOT_OP_LOAD) ∷  -- LOAD
    (OPS_8_TO_11, OP_1) ∷  -- NOT_JUMP_OR_IN
    (OP_3, NOT_JUMP_OR_IN) ∷  -- OP_WRITES
    (PHASE_2, OP_WRITES) ∷  -- NOT_WRITE
    (NOT_WRITE, NOT_WRITE) ∷ []  -- WRITE
