-- The code of a small program, instruction by instruction.
use Rattle.std.specs.Prelude.{◌≡◌, ◌+◌, List, [], ◌∷◌}
use Rattle.language.specs.Language.{num, loc, add, sub, less, call, skip, then, setloc, if, out, take, Program, frame_words}
use Rattle.codegen.specs.Layout.{value, work, back, spare, stack, frame, room, one}
use Rattle.codegen.specs.Instructions.{Instruction, ADD, SUB, LESS, LOW, HIGH, LOAD, STORE, ZERO, JUMP, IN, OUT, DONE, FULL}
use Rattle.codegen.specs.Codegen.{code}

-- puts out the sum of the numbers up to the tape's first word, by a procedure that calls itself
abbrev pub sum : Program
sum = record {
  globals = 0;
  cells = 0;
  procs =
      record { locals = 1; body = then (take 1) (out (call 1 (loc 1))) }
      ∷ record { locals = 0; body = if (less (num 0) (loc 0)) (setloc 0 (add (loc 0) (call 1 (sub (loc 0) (num 1))))) skip } ∷ [];
}

-- each part under the place where it begins
abbrev pub sum_code : List Instruction
sum_code =
    -- 0: the start
    LOW stack 216 ∷ HIGH stack 255 ∷ LOW frame 216 ∷ HIGH frame 255 ∷ LOW room 0 ∷ HIGH room 32 ∷ LOW one 1 ∷
    LOW work 11 ∷ HIGH work 0 ∷ JUMP back work ∷ DONE ∷
    -- 11: procedure 0: the test for room
    LOW work (frame_words + 2) ∷ HIGH work 0 ∷ LESS spare room work ∷ ZERO spare 1 ∷ FULL ∷
    -- 16: its frame
    SUB room room work ∷ SUB stack stack one ∷ STORE back stack 0 ∷ SUB stack stack one ∷ STORE frame stack 0 ∷
    LOW work 2 ∷ SUB stack stack work ∷ ADD frame stack spare ∷ STORE value frame 0 ∷ ADD work frame one ∷
    -- 26: local 1 is 0 at first
    STORE spare work 0 ∷
    -- 27: take 1
    IN value ∷ LOW work 1 ∷ ADD work frame work ∷ STORE value work 0 ∷
    -- 31: loc 1
    LOW work 1 ∷ ADD work frame work ∷ LOAD value work 0 ∷
    -- 34: call 1
    LOW work 49 ∷ HIGH work 0 ∷ JUMP back work ∷
    -- 37: out
    OUT value ∷
    -- 38: the way back
    LOAD value frame 0 ∷ LOW work 2 ∷ ADD stack stack work ∷ LOAD frame stack 0 ∷ LOAD back stack 1 ∷
    ADD stack stack one ∷ ADD stack stack one ∷ LOW work (frame_words + 2) ∷ HIGH work 0 ∷ ADD room room work ∷
    JUMP spare back ∷
    -- 49: procedure 1: the test for room
    LOW work (frame_words + 3) ∷ HIGH work 0 ∷ LESS spare room work ∷ ZERO spare 1 ∷ FULL ∷
    -- 54: its frame
    SUB room room work ∷ SUB stack stack one ∷ STORE back stack 0 ∷ SUB stack stack one ∷ STORE frame stack 0 ∷
    LOW work 1 ∷ SUB stack stack work ∷ ADD frame stack spare ∷ STORE value frame 0 ∷ ADD work frame one ∷
    -- 64: num 0, pushed
    LOW value 0 ∷ HIGH value 0 ∷ SUB stack stack one ∷ STORE value stack 0 ∷
    -- 68: loc 0, then less
    LOW work 0 ∷ ADD work frame work ∷ LOAD value work 0 ∷ LOAD work stack 0 ∷ ADD stack stack one ∷
    LESS value work value ∷
    -- 74: to 81 unless it is 0
    LOW work 81 ∷ HIGH work 0 ∷ ZERO value 1 ∷ JUMP back work ∷
    -- 78: skip, then to the end of the if
    LOW work 105 ∷ HIGH work 0 ∷ JUMP back work ∷
    -- 81: loc 0, pushed
    LOW work 0 ∷ ADD work frame work ∷ LOAD value work 0 ∷ SUB stack stack one ∷ STORE value stack 0 ∷
    -- 86: loc 0, pushed
    LOW work 0 ∷ ADD work frame work ∷ LOAD value work 0 ∷ SUB stack stack one ∷ STORE value stack 0 ∷
    -- 91: num 1, then sub
    LOW value 1 ∷ HIGH value 0 ∷ LOAD work stack 0 ∷ ADD stack stack one ∷ SUB value work value ∷
    -- 96: call 1
    LOW work 49 ∷ HIGH work 0 ∷ JUMP back work ∷
    -- 99: add
    LOAD work stack 0 ∷ ADD stack stack one ∷ ADD value work value ∷
    -- 102: setloc 0
    LOW work 0 ∷ ADD work frame work ∷ STORE value work 0 ∷
    -- 105: the way back
    LOAD value frame 0 ∷ LOW work 1 ∷ ADD stack stack work ∷ LOAD frame stack 0 ∷ LOAD back stack 1 ∷
    ADD stack stack one ∷ ADD stack stack one ∷ LOW work (frame_words + 3) ∷ HIGH work 0 ∷ ADD room room work ∷
    JUMP spare back ∷ []

abbrev pub SumCodeIs : Type 0
SumCodeIs = code sum ≡ sum_code
