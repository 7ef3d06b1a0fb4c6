-- After k instructions the processor stands for the machine after k steps.
use Rattle.machine.specs.Machine.{steps}
use Rattle.machine.specs.Processor.{machine_of, Reached}
use Rattle.machine.proofs.run_whole.Given as goal

abbrev pub invariant-loop-k : goal.invariant-loop-k
invariant-loop-k l =
    Reached (steps l.k (machine_of l.initial.p l.initial.mem l.tape l.initial.out)) l.initial.p l.p l.mem l.tape l.initial.out l.out
