-- The instruction machine: 65,536 words of memory, eight registers, a program counter; one instruction a step.
use Rattle.std.specs.Prelude.{ℕ, zero, suc, ◌+◌, ◌-◌, ◌*◌, ◌/◌, ◌%◌, cond, List, [], ◌∷◌, ◌++◌, replicate, ◌==◌, nat_lt, slice_index_or}
use Rattle.words.specs.Words.{add16, sub16, less16, nand16, half16, word, put, front, rest}
use Rattle.words.specs.Runs.{Seen, running, ended_done, ended_index, ended_full}

pub record Machine : Type 0 where
  pub pc : ℕ
  pub registers : List ℕ
  pub mem : List ℕ
  pub tape : List ℕ
  pub out : List ℕ
  pub halted : ℕ

-- An instruction word: operation (4 bits, highest), d, a, b (3 bits each), 3 bits unused;
-- or, after d, a 9-bit number n; or, after a, a 6-bit number m.
pub record Fields : Type 0 where
  pub op : ℕ
  pub d : ℕ
  pub a : ℕ
  pub b : ℕ
  pub n : ℕ
  pub m : ℕ

abbrev pub decode : ℕ → Fields
decode w = record { op = w / 4096; d = w / 512 % 8; a = w / 64 % 8; b = w / 8 % 8; n = w % 512; m = w % 64 }

pub data Op : Type 0 where
  Add : Op
  Sub : Op
  Nand : Op
  Less : Op
  Half : Op
  Low : Op
  High : Op
  Load : Op
  Store : Op
  Zero : Op
  Jump : Op
  In : Op
  Out : Op
  Done : Op
  Index : Op
  Full : Op

-- the operations by their numbers, from 0 to 15
abbrev pub operations : List Op
operations = Add ∷ Sub ∷ Nand ∷ Less ∷ Half ∷ Low ∷ High ∷ Load ∷ Store ∷ Zero ∷ Jump ∷ In ∷ Out ∷ Done ∷ Index ∷ Full ∷ []

abbrev pub operation : ℕ → Op
operation n = slice_index_or operations n Full

abbrev pub register : Machine → ℕ → ℕ
register s k = word s.registers k

-- the place of the next instruction
abbrev pub following : Machine → ℕ
following s = add16 s.pc 1

-- where a branch goes: n on from the next instruction, with n taken as -256 to 255
abbrev pub target : ℕ → ℕ → ℕ
target pc n = (pc + 1 + n + 65536 - cond (nat_lt n 256) 0 512) % 65536

-- the place that load and store mean
abbrev pub place : Fields → Machine → ℕ
place i s = add16 (register s i.a) i.m

-- register d takes v, and the machine goes on to the next instruction
abbrev pub set_register : Machine → ℕ → ℕ → Machine
set_register s d v = record { pc = following s; registers = put s.registers d v; mem = s.mem; tape = s.tape; out = s.out; halted = s.halted }

abbrev pub halt : Machine → ℕ → Machine
halt s how = record { pc = s.pc; registers = s.registers; mem = s.mem; tape = s.tape; out = s.out; halted = how }

-- What an instruction does on a machine that has not halted.
abbrev pub act : Op → Fields → Machine → Machine
act Add i s = set_register s i.d (add16 (register s i.a) (register s i.b))
act Sub i s = set_register s i.d (sub16 (register s i.a) (register s i.b))
act Nand i s = set_register s i.d (nand16 (register s i.a) (register s i.b))
act Less i s = set_register s i.d (less16 (register s i.a) (register s i.b))
act Half i s = set_register s i.d (half16 (register s i.a))
act Low i s = set_register s i.d i.n
act High i s = set_register s i.d (register s i.d % 256 + 256 * (i.n % 256))
act Load i s = set_register s i.d (word s.mem (place i s))
act Store i s = record { pc = following s; registers = s.registers; mem = put s.mem (place i s) (register s i.d); tape = s.tape; out = s.out; halted = running }
act Zero i s = record { pc = cond (register s i.d == 0) (target s.pc i.n) (following s); registers = s.registers; mem = s.mem; tape = s.tape; out = s.out; halted = running }
-- a is read before d is written
act Jump i s = record { pc = register s i.a; registers = put s.registers i.d (following s); mem = s.mem; tape = s.tape; out = s.out; halted = running }
act In i s = record { pc = following s; registers = put s.registers i.d (front s.tape); mem = s.mem; tape = rest s.tape; out = s.out; halted = running }
act Out i s = record { pc = following s; registers = s.registers; mem = s.mem; tape = s.tape; out = s.out ++ (register s i.d ∷ []); halted = running }
act Done i s = halt s ended_done
act Index i s = halt s ended_index
act Full i s = halt s ended_full

-- the instruction at the program counter
abbrev pub fetched : Machine → Fields
fetched s = decode (word s.mem s.pc)

abbrev pub execute : Machine → Machine
execute s = act (operation (fetched s).op) (fetched s) s

-- a machine that has halted stays as it is
abbrev pub unless_halted : ℕ → Machine → Machine → Machine
unless_halted zero s after = after
unless_halted (suc h) s after = s

abbrev pub step : Machine → Machine
step s = unless_halted s.halted s (execute s)

abbrev pub steps : ℕ → Machine → Machine
steps zero s = s
steps (suc t) s = steps t (step s)

-- at the start everything is 0 but the memory
abbrev pub begin : List ℕ → List ℕ → Machine
begin mem tape = record { pc = 0; registers = replicate 8 0; mem = mem; tape = tape; out = []; halted = running }

-- what is seen of a machine
abbrev pub seen_machine : Machine → Seen
seen_machine s = record { shown = s.out; tape_left = s.tape; ending = s.halted }

-- what is seen of a machine after so many instructions from the start
abbrev pub machine_run : List ℕ → List ℕ → ℕ → Seen
machine_run mem tape t = seen_machine (steps t (begin mem tape))
