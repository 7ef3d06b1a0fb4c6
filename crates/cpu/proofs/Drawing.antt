-- The drawing opened where it has to be computed: its size and soundness, and that settled levels obey each stage at the
-- place where the drawing says that it stands.
use Rattle.std.proofs.Common.{◌≡◌, ℕ, Bool, length, refl}
use Rattle.circuit.specs.Circuit.{Whole, SoundGates}
use Rattle.circuit.specs.Parts.{inverter_gates, inverter_results, nand_gates, nand_results, mux_gates, mux_results, invert_if_gates, invert_if_results, zero_gates, zero_result}
use Rattle.circuit.specs.PartsAdder.{adder_gates, adder_results, adder_carry}
use Rattle.circuit.specs.PartsRegisters.{level_gates, level_results, read_gates, read_results, split_gates, split_results, decoder, keep_gates, keep_results, write_gates, write_results}
use Rattle.circuit.proofs.Settling.{Obeys, ObeysEach, obeys_each, sound_by_test, below_by_test}
use Rattle.cpu.specs.Signals.{INSTRUCTION, TAPE, PROGRAM_COUNTER, REGISTERS, OPERAND, RESULT, gate_count, signal_count, control_start, late_index_start, index_start, select_start, read_start, first_start, second_start, addend_start, adder_start, nand_start, less_start, zero_start, nand_or_less_start, half_or_low_start, below_4_start, from_4_start, below_8_start, from_8_start, result_start, written_start, write_select_start, write_start, branch_start, jump_start, counter_start, address_start}
use Rattle.cpu.specs.Control.{control_stage}
use Rattle.cpu.specs.Stages.{late_index_stage, LATE_INDEX, index_stage, INDEX, select_stage, READ_SELECT, read_stage, PORT, first_stage, FIRST, NUMBER, second_stage, SECOND, addend_stage, ADDEND, adder_stage, SUM, CARRY, nand_stage, NANDED, less_stage, zero_stage, IS_ZERO, LESS_WORD, HALF_WORD, LOW_WORD, HIGH_WORD, nand_or_less_stage, NAND_OR_LESS, half_or_low_stage, HALF_OR_LOW, below_4_stage, RESULT_BELOW_4, from_4_stage, RESULT_FROM_4, below_8_stage, RESULT_BELOW_8, from_8_stage, RESULT_FROM_8, result_stage, NEXT_RESULT, written_stage, WRITTEN, write_select_stage, WRITE_SELECT, write_stage, NEXT_REGISTERS, branch_stage, jump_stage, STAY_OR_JUMP, counter_stage, NEXT_COUNTER, address_stage, ADDRESS}
use Rattle.cpu.specs.Cpu.{stages, cpu_gates, cpu_flops, cpu_next, cpu_pins, cpu}

-- every name of the drawing, to be unfolded together
unfoldable pub drawing : Unit {0}
unfolding cpu cpu_flops cpu_next cpu_pins cpu_gates stages control_stage late_index_stage LATE_INDEX index_stage INDEX select_stage READ_SELECT read_stage PORT first_stage FIRST NUMBER second_stage SECOND addend_stage ADDEND adder_stage SUM CARRY nand_stage NANDED less_stage zero_stage IS_ZERO LESS_WORD HALF_WORD LOW_WORD HIGH_WORD nand_or_less_stage NAND_OR_LESS half_or_low_stage HALF_OR_LOW below_4_stage RESULT_BELOW_4 from_4_stage RESULT_FROM_4 below_8_stage RESULT_BELOW_8 from_8_stage RESULT_FROM_8 result_stage NEXT_RESULT written_stage WRITTEN write_select_stage WRITE_SELECT write_stage NEXT_REGISTERS branch_stage jump_stage STAY_OR_JUMP counter_stage NEXT_COUNTER address_stage ADDRESS INSTRUCTION TAPE PROGRAM_COUNTER REGISTERS OPERAND RESULT inverter_gates inverter_results nand_gates nand_results mux_gates mux_results invert_if_gates invert_if_results zero_gates zero_result adder_gates adder_results adder_carry level_gates level_results read_gates read_results split_gates split_results decoder keep_gates keep_results write_gates write_results
drawing = tt

pub gates_counted : length cpu_gates ≡ gate_count
unfolding drawing
gates_counted = refl

pub sound : SoundGates cpu_gates control_start
unfolding drawing
sound = sound_by_test cpu_gates control_start refl

pub whole : Whole cpu
unfolding drawing
whole = record {
  gates_sound = sound_by_test cpu_gates control_start refl;
  next_sound = below_by_test cpu.next signal_count refl;
  pins_sound = below_by_test cpu.pins signal_count refl;
  next_all = refl;
  pins_all = refl;
}

pub address_wide : length ADDRESS ≡ 16
unfolding drawing
address_wide = refl

pub port_wide : length PORT ≡ 16
unfolding drawing
port_wide = refl

pub result_wide : length NEXT_RESULT ≡ 16
unfolding drawing
result_wide = refl

pub counter_wide : length NEXT_COUNTER ≡ 16
unfolding drawing
counter_wide = refl

-- the levels f obey each stage at its place
pub record Staged (f : ℕ → Bool) : Type 0 where
  pub control : Obeys f control_start control_stage
  pub late_index : Obeys f late_index_start late_index_stage
  pub index : Obeys f index_start index_stage
  pub select : Obeys f select_start select_stage
  pub read : Obeys f read_start read_stage
  pub first : Obeys f first_start first_stage
  pub second : Obeys f second_start second_stage
  pub addend : Obeys f addend_start addend_stage
  pub adder : Obeys f adder_start adder_stage
  pub nands : Obeys f nand_start nand_stage
  pub less : Obeys f less_start less_stage
  pub zero_test : Obeys f zero_start zero_stage
  pub nand_or_less : Obeys f nand_or_less_start nand_or_less_stage
  pub half_or_low : Obeys f half_or_low_start half_or_low_stage
  pub below_4 : Obeys f below_4_start below_4_stage
  pub from_4 : Obeys f from_4_start from_4_stage
  pub below_8 : Obeys f below_8_start below_8_stage
  pub from_8 : Obeys f from_8_start from_8_stage
  pub result : Obeys f result_start result_stage
  pub written : Obeys f written_start written_stage
  pub write_select : Obeys f write_select_start write_select_stage
  pub write : Obeys f write_start write_stage
  pub branch : Obeys f branch_start branch_stage
  pub jump : Obeys f jump_start jump_stage
  pub counter : Obeys f counter_start counter_stage
  pub address : Obeys f address_start address_stage

each_stage : (f : ℕ → Bool) → ObeysEach f control_start stages → Staged f
unfolding drawing
each_stage f q = record {
  control = q.0;
  late_index = q.1.0;
  index = q.1.1.0;
  select = q.1.1.1.0;
  read = q.1.1.1.1.0;
  first = q.1.1.1.1.1.0;
  second = q.1.1.1.1.1.1.0;
  addend = q.1.1.1.1.1.1.1.0;
  adder = q.1.1.1.1.1.1.1.1.0;
  nands = q.1.1.1.1.1.1.1.1.1.0;
  less = q.1.1.1.1.1.1.1.1.1.1.0;
  zero_test = q.1.1.1.1.1.1.1.1.1.1.1.0;
  nand_or_less = q.1.1.1.1.1.1.1.1.1.1.1.1.0;
  half_or_low = q.1.1.1.1.1.1.1.1.1.1.1.1.1.0;
  below_4 = q.1.1.1.1.1.1.1.1.1.1.1.1.1.1.0;
  from_4 = q.1.1.1.1.1.1.1.1.1.1.1.1.1.1.1.0;
  below_8 = q.1.1.1.1.1.1.1.1.1.1.1.1.1.1.1.1.0;
  from_8 = q.1.1.1.1.1.1.1.1.1.1.1.1.1.1.1.1.1.0;
  result = q.1.1.1.1.1.1.1.1.1.1.1.1.1.1.1.1.1.1.0;
  written = q.1.1.1.1.1.1.1.1.1.1.1.1.1.1.1.1.1.1.1.0;
  write_select = q.1.1.1.1.1.1.1.1.1.1.1.1.1.1.1.1.1.1.1.1.0;
  write = q.1.1.1.1.1.1.1.1.1.1.1.1.1.1.1.1.1.1.1.1.1.0;
  branch = q.1.1.1.1.1.1.1.1.1.1.1.1.1.1.1.1.1.1.1.1.1.1.0;
  jump = q.1.1.1.1.1.1.1.1.1.1.1.1.1.1.1.1.1.1.1.1.1.1.1.0;
  counter = q.1.1.1.1.1.1.1.1.1.1.1.1.1.1.1.1.1.1.1.1.1.1.1.1.0;
  address = q.1.1.1.1.1.1.1.1.1.1.1.1.1.1.1.1.1.1.1.1.1.1.1.1.1.0;
}

pub staged : (f : ℕ → Bool) → Obeys f control_start cpu_gates → Staged f
unfolding cpu_gates
staged f q = each_stage f (obeys_each f control_start stages q)
