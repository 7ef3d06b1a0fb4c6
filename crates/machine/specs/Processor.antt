-- The machine that stands in a processor and lent memory, tape and out words, and what 'run' promises of it.
use Rattle.std.specs.Prelude.{◌≡◌, ℕ, suc, ◌<◌, ◌≤◌, List, length, take, drop, Some, None, Option, Ok, Err, Result, ◌≢◌}
use Rattle.words.specs.Words.{add16, put, memory_size}
use Rattle.words.specs.Endings.{halt_code}
use Rattle.machine.specs.Machine.{Machine, Fields, steps}
use Rattle.machine.specs.declared.instruction.Instruction.{Instruction}
use Rattle.machine.specs.declared.processor.Processor.{Processor}
use Rattle.machine.specs.declared.RunError.{RunError}
use Rattle.machine.specs.declared.RunError.TheVariants.{NoOut, BadMemory}

-- an instruction of the code as the definition has it
abbrev pub fields : Instruction → Fields
fields i = record { op = i.op; d = i.d; a = i.a; b = i.b; n = i.n; m = i.m }

-- the machine: so many words of the tape are taken, and so many out words are put out
abbrev pub machine_of : Processor → List ℕ → List ℕ → List ℕ → Machine
machine_of p mem tape out = record { pc = p.pc; registers = p.registers; mem = mem; tape = drop p.taken tape; out = take p.sent out; halted = halt_code p.halted }

-- the processor with v in register d, at the next instruction
abbrev pub with_register : Processor → ℕ → ℕ → Processor
with_register p d v = record { pc = add16 p.pc 1; registers = put p.registers d v; taken = p.taken; sent = p.sent; halted = p.halted }

-- nothing is taken and nothing put out
pub record SameCounts (p p' : Processor) : Type 0 where
  pub taken : p'.taken ≡ p.taken
  pub sent : p'.sent ≡ p.sent

-- The processor p has come to p', which stands for the machine s': the out words past those put out are as they were,
-- and the counts stay within the tape and the out words.
pub record Reached (s' : Machine) (p p' : Processor) (mem' tape out out' : List ℕ) : Type 0 where
  pub machine : machine_of p' mem' tape out' ≡ s'
  pub unsent : drop p'.sent out' ≡ drop p'.sent out
  pub sent_grows : p.sent ≤ p'.sent
  pub sent_within : p.sent ≤ length out → p'.sent ≤ length out
  pub taken_within : p.taken ≤ length tape → p'.taken ≤ length tape

-- no room: nothing has changed, and on the way to s' more words are put out than there are out words
pub record NoRoom (s' : Machine) (mem mem' out out' : List ℕ) : Type 0 where
  pub memory_kept : mem' ≡ mem
  pub out_kept : out' ≡ out
  pub too_few : length out < length s'.out

-- one instruction on the way to s'
abbrev pub Executed : Machine → Processor → List ℕ → List ℕ → List ℕ → List ℕ → List ℕ → Option Processor → Type 0
Executed s' p mem mem' tape out out' (Some p') = Reached s' p p' mem' tape out out'
Executed s' p mem mem' tape out out' None = NoRoom s' mem mem' out out'

-- What a run of n instructions promises: the machine after n steps; or it stands after the first k of them, and the next
-- one puts out a word for which there is no room; or the memory has another size, and everything is as it was.
abbrev pub Runs : ℕ → Processor → List ℕ → List ℕ → List ℕ → List ℕ → List ℕ → Result Processor RunError → Type 0
Runs n p mem mem' tape out out' (Ok p') = (length mem ≡ memory_size) × Reached (steps n (machine_of p mem tape out)) p p' mem' tape out out'
Runs n p mem mem' tape out out' (Err (NoOut p' k)) = (length mem ≡ memory_size) × (k < n) × Reached (steps k (machine_of p mem tape out)) p p' mem' tape out out'
    × (length out < length (steps (suc k) (machine_of p mem tape out)).out)
Runs n p mem mem' tape out out' (Err BadMemory) = (length mem ≢ memory_size) × (mem' ≡ mem) × (out' ≡ out)
