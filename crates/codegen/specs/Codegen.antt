-- The code of a program. Code is written with what comes after it: 'code_expr g e rest' is the code of e and then rest.
-- A part's code is written for the place where it stands if it names places of its own; 'end_of_..' is the place after it.
use Rattle.std.specs.Prelude.{ℕ, zero, suc, ◌+◌, ◌-◌, ◌/◌, ◌%◌, List, [], ◌∷◌, ◌++◌, map, length, replicate}
use Rattle.words.specs.Words.{memory_size}
use Rattle.language.specs.Language.{Expr, num, loc, glob, cell, add, sub, nand, less, half, call, Stmt, skip, then, setloc, setglob, setcell, if, while, out, take, Proc, Program, frame_size, frame_room}
use Rattle.codegen.specs.Instructions.{Instruction, ADD, SUB, NAND, LESS, HALF, LOW, HIGH, LOAD, STORE, ZERO, JUMP, IN, OUT, DONE, INDEX, FULL, encode, past}
use Rattle.codegen.specs.Layout.{stack_top, cells_base, globals_base, value, work, back, spare, stack, frame, room, one}

-- Blocks of a few words.

-- register d takes a number, byte by byte
abbrev pub constant : ℕ → ℕ → List Instruction
constant d n = LOW d (n % 256) ∷ HIGH d (n / 256) ∷ []

-- 'work' takes the place of a local, of a global
abbrev pub local_place : ℕ → List Instruction
local_place i = LOW work i ∷ ADD work frame work ∷ []

abbrev pub global_place : ℕ → List Instruction
global_place i = constant work (globals_base + i)

-- the value goes onto the stack; the stack's lowest word comes off it, to 'work'
abbrev pub push : List Instruction
push = SUB stack stack one ∷ STORE value stack 0 ∷ []

abbrev pub pop : List Instruction
pop = LOAD work stack 0 ∷ ADD stack stack one ∷ []

-- goes over the next word if register x is below n; two more registers are used for it
abbrev pub cell_test : ℕ → ℕ → ℕ → ℕ → List Instruction
cell_test x limit flag n = constant limit n ++ (LESS flag x limit ∷ SUB flag one flag ∷ ZERO flag 1 ∷ [])

-- ends the run with 'index' unless register x is below n, the number of cells: a place is tested before it is added to the
-- cells' base, so that it can't wrap
abbrev pub check_cell : ℕ → ℕ → ℕ → ℕ → List Instruction
check_cell x limit flag n = cell_test x limit flag n ++ (INDEX ∷ [])

-- register d takes the place of the cell whose number is in register x
abbrev pub cell_place : ℕ → ℕ → List Instruction
cell_place d x = constant d cells_base ++ (ADD d d x ∷ [])

-- to the place q; 'back' takes the place of the word behind it
abbrev pub go_to : ℕ → List Instruction
go_to q = constant work q ++ (JUMP back work ∷ [])

-- goes over the next word if the value is 0; 'work' takes the place q
abbrev pub zero_test : ℕ → List Instruction
zero_test q = constant work q ++ (ZERO value 1 ∷ [])

-- to the place q unless the value is 0
abbrev pub go_unless_zero : ℕ → List Instruction
go_unless_zero q = zero_test q ++ (JUMP back work ∷ [])

-- Operations on two values: the first in 'work', the second in 'value'; the result comes to 'value'.
abbrev pub add_code : List Instruction
add_code = ADD value work value ∷ []

abbrev pub sub_code : List Instruction
sub_code = SUB value work value ∷ []

abbrev pub nand_code : List Instruction
nand_code = NAND value work value ∷ []

abbrev pub less_code : List Instruction
less_code = LESS value work value ∷ []

-- Blocks of expressions and statements that stand after the code of their parts.
abbrev pub load_local : ℕ → List Instruction
load_local i = local_place i ++ (LOAD value work 0 ∷ [])

abbrev pub load_global : ℕ → List Instruction
load_global i = global_place i ++ (LOAD value work 0 ∷ [])

-- the cell whose number is the value, of so many cells
abbrev pub fetch_cell : List Instruction
fetch_cell = cell_place work value ++ (LOAD value work 0 ∷ [])

abbrev pub load_cell : ℕ → List Instruction
load_cell cells = check_cell value work back cells ++ fetch_cell

abbrev pub halve : List Instruction
halve = HALF value value ∷ []

abbrev pub store_local : ℕ → List Instruction
store_local i = local_place i ++ (STORE value work 0 ∷ [])

abbrev pub store_global : ℕ → List Instruction
store_global i = global_place i ++ (STORE value work 0 ∷ [])

-- the cell's number is on the stack, and is tested after the value is worked out
abbrev pub keep_cell : List Instruction
keep_cell = cell_place back work ++ (STORE value back 0 ∷ [])

abbrev pub store_cell : ℕ → List Instruction
store_cell cells = pop ++ (check_cell work back spare cells ++ keep_cell)

abbrev pub put_out : List Instruction
put_out = OUT value ∷ []

abbrev pub take_to_local : ℕ → List Instruction
take_to_local i = IN value ∷ store_local i

-- Places: where the code of a part ends that begins at a place.
abbrev pub end_of_two : List Instruction → ℕ → ℕ
end_of_two operation at = past operation (past pop at)

abbrev pub end_of_expr : Expr → ℕ → ℕ
end_of_expr (num n) at = past (constant value n) at
end_of_expr (loc i) at = past (load_local i) at
end_of_expr (glob i) at = past (load_global i) at
end_of_expr (cell e) at = past (load_cell 0) (end_of_expr e at)
end_of_expr (add a b) at = end_of_two add_code (end_of_expr b (past push (end_of_expr a at)))
end_of_expr (sub a b) at = end_of_two sub_code (end_of_expr b (past push (end_of_expr a at)))
end_of_expr (nand a b) at = end_of_two nand_code (end_of_expr b (past push (end_of_expr a at)))
end_of_expr (less a b) at = end_of_two less_code (end_of_expr b (past push (end_of_expr a at)))
end_of_expr (half a) at = past halve (end_of_expr a at)
end_of_expr (call f a) at = past (go_to 0) (end_of_expr a at)

-- of 'if': the code of the test, the second statement, the first
abbrev pub else_place : Expr → ℕ → ℕ
else_place e at = past (go_unless_zero 0) (end_of_expr e at)

-- of 'while': the code of the test, a way out, the statement, a way back
abbrev pub loop_place : Expr → ℕ → ℕ
loop_place e at = past (go_to 0) (past (go_unless_zero 0) (end_of_expr e at))

abbrev pub end_of_stmt : Stmt → ℕ → ℕ
end_of_stmt skip at = at
end_of_stmt (then s t) at = end_of_stmt t (end_of_stmt s at)
end_of_stmt (setloc i e) at = past (store_local i) (end_of_expr e at)
end_of_stmt (setglob i e) at = past (store_global i) (end_of_expr e at)
end_of_stmt (setcell e f) at = past (store_cell 0) (end_of_expr f (past push (end_of_expr e at)))
end_of_stmt (if e s t) at = end_of_stmt s (past (go_to 0) (end_of_stmt t (else_place e at)))
end_of_stmt (while e s) at = past (go_to 0) (end_of_stmt s (loop_place e at))
end_of_stmt (out e) at = past put_out (end_of_expr e at)
end_of_stmt (take i) at = past (take_to_local i) at

abbrev pub then_place : Expr → Stmt → ℕ → ℕ
then_place e t at = past (go_to 0) (end_of_stmt t (else_place e at))

-- A procedure: a test for room, the making of the frame, the body, the way back. The frame has, from the frame pointer
-- upwards: the argument, the further locals, the caller's frame pointer, the place to go back to.

-- goes over the next word if there is room for the frame
abbrev pub room_test : Proc → List Instruction
room_test p = constant work (frame_size p) ++ (LESS spare room work ∷ ZERO spare 1 ∷ [])

-- ends the run with 'full' unless there is room for the frame
abbrev pub check_room : Proc → List Instruction
check_room p = room_test p ++ (FULL ∷ [])

-- 'spare' is 0 here, and 'work' has the frame's size
abbrev pub make_frame : Proc → List Instruction
make_frame p = SUB room room work ∷ SUB stack stack one ∷ STORE back stack 0 ∷ SUB stack stack one ∷ STORE frame stack 0
    ∷ LOW work (1 + p.locals) ∷ SUB stack stack work ∷ ADD frame stack spare ∷ STORE value frame 0 ∷ ADD work frame one ∷ []

-- the n words from 'work' + i on take 0
abbrev pub clear_words : ℕ → ℕ → List Instruction
clear_words i zero = []
clear_words i (suc n) = STORE spare work i ∷ clear_words (suc i) n

-- the value is local 0; then the caller's frame pointer, stack pointer and room are back
abbrev pub leave_frame : Proc → List Instruction
leave_frame p = LOAD value frame 0 ∷ LOW work (1 + p.locals) ∷ ADD stack stack work ∷ LOAD frame stack 0 ∷ LOAD back stack 1
    ∷ ADD stack stack one ∷ ADD stack stack one ∷ (constant work (frame_size p) ++ (ADD room room work ∷ JUMP spare back ∷ []))

abbrev pub body_place : Proc → ℕ → ℕ
body_place p at = past (clear_words 0 p.locals) (past (make_frame p) (past (check_room p) at))

abbrev pub end_of_proc : Proc → ℕ → ℕ
end_of_proc p at = past (leave_frame p) (end_of_stmt p.body (body_place p at))

abbrev pub end_of_procs : List Proc → ℕ → ℕ
end_of_procs [] at = at
end_of_procs (p ∷ ps) at = end_of_procs ps (end_of_proc p at)

-- where procedure f begins, of those from a place on
abbrev pub proc_place : List Proc → ℕ → ℕ → ℕ
proc_place [] at f = at
proc_place (p ∷ ps) at zero = at
proc_place (p ∷ ps) at (suc f) = proc_place ps (end_of_proc p at) f

-- The start, at place 0: an empty stack, all room, and a call with 0 of the procedure at the place q; after it, done.
abbrev pub first_call : ℕ → List Instruction
first_call q = constant stack stack_top ++ (constant frame stack_top ++ (constant room frame_room ++ (LOW one 1 ∷ go_to q)))

abbrev pub start_code : ℕ → List Instruction
start_code q = first_call q ++ (DONE ∷ [])

-- the procedures stand behind the start, in their order
abbrev pub first_proc : ℕ
first_proc = past (start_code 0) 0

abbrev pub entry : Program → ℕ → ℕ
entry g f = proc_place g.procs first_proc f

-- The code of an expression of the program g, and then the rest.
abbrev pub code_expr : Program → Expr → List Instruction → List Instruction
code_expr g (num n) rest = constant value n ++ rest
code_expr g (loc i) rest = load_local i ++ rest
code_expr g (glob i) rest = load_global i ++ rest
code_expr g (cell e) rest = code_expr g e (load_cell g.cells ++ rest)
code_expr g (add a b) rest = code_expr g a (push ++ code_expr g b (pop ++ (add_code ++ rest)))
code_expr g (sub a b) rest = code_expr g a (push ++ code_expr g b (pop ++ (sub_code ++ rest)))
code_expr g (nand a b) rest = code_expr g a (push ++ code_expr g b (pop ++ (nand_code ++ rest)))
code_expr g (less a b) rest = code_expr g a (push ++ code_expr g b (pop ++ (less_code ++ rest)))
code_expr g (half a) rest = code_expr g a (halve ++ rest)
code_expr g (call f a) rest = code_expr g a (go_to (entry g f) ++ rest)

-- The code of a statement that stands at a place, and then the rest.
abbrev pub code_stmt : Program → Stmt → ℕ → List Instruction → List Instruction
code_stmt g skip at rest = rest
code_stmt g (then s t) at rest = code_stmt g s at (code_stmt g t (end_of_stmt s at) rest)
code_stmt g (setloc i e) at rest = code_expr g e (store_local i ++ rest)
code_stmt g (setglob i e) at rest = code_expr g e (store_global i ++ rest)
code_stmt g (setcell e f) at rest = code_expr g e (push ++ code_expr g f (store_cell g.cells ++ rest))
code_stmt g (if e s t) at rest = code_expr g e (go_unless_zero (then_place e t at)
    ++ code_stmt g t (else_place e at) (go_to (end_of_stmt (if e s t) at) ++ code_stmt g s (then_place e t at) rest))
code_stmt g (while e s) at rest = code_expr g e (go_unless_zero (loop_place e at)
    ++ (go_to (end_of_stmt (while e s) at) ++ code_stmt g s (loop_place e at) (go_to at ++ rest)))
code_stmt g (out e) at rest = code_expr g e (put_out ++ rest)
code_stmt g (take i) at rest = take_to_local i ++ rest

abbrev pub code_proc : Program → Proc → ℕ → List Instruction → List Instruction
code_proc g p at rest = check_room p ++ (make_frame p ++ (clear_words 0 p.locals
    ++ code_stmt g p.body (body_place p at) (leave_frame p ++ rest)))

abbrev pub code_procs : Program → List Proc → ℕ → List Instruction
code_procs g [] at = []
code_procs g (p ∷ ps) at = code_proc g p at (code_procs g ps (end_of_proc p at))

abbrev pub code : Program → List Instruction
code g = start_code (entry g 0) ++ code_procs g g.procs first_proc

-- The image: the words of the code, and 0 from there on.
abbrev pub image : Program → List ℕ
image g = map encode (code g) ++ replicate (memory_size - length (code g)) 0
