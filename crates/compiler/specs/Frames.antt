-- The code around a procedure's body, by the size of its frame and the number of its further locals.
use Rattle.std.specs.Prelude.{ℕ, ◌+◌, List, [], ◌∷◌, ◌++◌}
use Rattle.codegen.specs.Codegen.{constant}
use Rattle.codegen.specs.Instructions.{Instruction, ADD, SUB, LESS, LOW, LOAD, STORE, ZERO, JUMP, FULL}
use Rattle.codegen.specs.Layout.{value, work, back, spare, stack, frame, room, one}

abbrev pub room_test : ℕ → List Instruction
room_test size = constant work size ++ (LESS spare room work ∷ ZERO spare 1 ∷ FULL ∷ [])

abbrev pub frame_made : ℕ → List Instruction
frame_made locals = SUB room room work ∷ SUB stack stack one ∷ STORE back stack 0 ∷ SUB stack stack one ∷ STORE frame stack 0
    ∷ LOW work (1 + locals) ∷ SUB stack stack work ∷ ADD frame stack spare ∷ STORE value frame 0 ∷ ADD work frame one ∷ []

abbrev pub frame_left : ℕ → ℕ → List Instruction
frame_left locals size = LOAD value frame 0 ∷ LOW work (1 + locals) ∷ ADD stack stack work ∷ LOAD frame stack 0 ∷ LOAD back stack 1
    ∷ ADD stack stack one ∷ ADD stack stack one ∷ (constant work size ++ (ADD room room work ∷ JUMP spare back ∷ []))
