-- The drawing as one circuit: its stages in order, what the flip-flops hold at power on and next, and the pins.
use Rattle.std.specs.Prelude.{ℕ, List, [], ◌∷◌, ◌++◌, length, replicate}
use Rattle.circuit.specs.Circuit.{Circuit}
use Rattle.circuit.specs.Sheet.{levels}
use Rattle.circuit.specs.Parts.{Gates, after, join}
use Rattle.cpu.specs.Signals.{FIELD_D, PHASE_1, PHASE_2, PHASE_3}
use Rattle.cpu.specs.Control.{control_stage, STORE, EMIT, TAKE, HALT_0, HALT_1, LOAD, WRITE}
use Rattle.cpu.specs.Stages.{late_index_stage, index_stage, select_stage, read_stage, PORT, first_stage, second_stage, addend_stage, adder_stage, nand_stage, less_stage, zero_stage, nand_or_less_stage, half_or_low_stage, below_4_stage, from_4_stage, below_8_stage, from_8_stage, result_stage, NEXT_RESULT, written_stage, write_select_stage, write_stage, NEXT_REGISTERS, branch_stage, jump_stage, counter_stage, NEXT_COUNTER, address_stage, ADDRESS}

unfoldable pub stages : List Gates
stages =
    control_stage ∷ late_index_stage ∷ index_stage ∷ select_stage ∷ read_stage ∷
    first_stage ∷ second_stage ∷ addend_stage ∷ adder_stage ∷ nand_stage ∷ less_stage ∷ zero_stage ∷
    nand_or_less_stage ∷ half_or_low_stage ∷ below_4_stage ∷ from_4_stage ∷ below_8_stage ∷ from_8_stage ∷ result_stage ∷
    written_stage ∷ write_select_stage ∷ write_stage ∷
    branch_stage ∷ jump_stage ∷ counter_stage ∷ address_stage ∷ []

unfoldable pub cpu_gates : Gates
cpu_gates = join stages

-- the first signal of each stage and the number of its gates, where the first stage begins at n
abbrev pub stage_places : ℕ → List Gates → List (ℕ × ℕ)
stage_places n [] = []
stage_places n (g ∷ gs) = (n, length g) ∷ stage_places (after n g) gs

abbrev pub flat : List (List ℕ) → List ℕ
flat [] = []
flat (x ∷ xs) = x ++ flat xs

-- At power on only phase 3 is high, so that the first cycle asks for the word at place 0. The phases follow one another
-- in a ring.
unfoldable pub cpu_flops : List ℕ
cpu_flops = replicate 181 0 ++ (1 ∷ 0 ∷ 0 ∷ [])

unfoldable pub cpu_next : List ℕ
cpu_next = NEXT_COUNTER ++ (flat NEXT_REGISTERS ++ (PORT ++ (NEXT_RESULT ++ (FIELD_D ++ (PHASE_3 ∷ PHASE_1 ∷ PHASE_2 ∷ WRITE ∷ LOAD ∷ [])))))

unfoldable pub cpu_pins : List ℕ
cpu_pins = ADDRESS ++ (PORT ++ (STORE ∷ EMIT ∷ TAKE ∷ HALT_0 ∷ HALT_1 ∷ []))

unfoldable pub cpu : Circuit
cpu = record { flops = levels cpu_flops; gates = cpu_gates; next = cpu_next; pins = cpu_pins }
