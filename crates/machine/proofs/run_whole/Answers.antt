-- Nothing done at first; a step more each turn; a halt or the last turn is the end; without room the last step is not done.
use Rattle.std.proofs.Common.{◌≡◌, None, add-one, arith, rules}
use Rattle.machine.specs.Processor.{machine_of}
use Rattle.machine.proofs.Running.{reached_more, reached_stuck, reached_halted}
use Rattle.machine.proofs.run_whole.Goals as goal

pub returns-then-is_some : goal.returns-then-is_some
returns-then-is_some c =
    let halted : c.loop-k.p.halted ≡ None → ⊥ = search rules in (
      search rules,
      reached_halted (machine_of c.args.from c.args.mem.now c.args.tape.now c.args.out.now) c.loop-k.k c.args.instructions c.args.from c.loop-k.p
          c.loop-k.mem c.args.tape.now c.args.out.now c.loop-k.out (omega arith) halted c.loop-k.invariant,
    )

pub loop-k-preserved : goal.loop-k-preserved
loop-k-preserved c =
    let s = machine_of c.args.from c.args.mem.now c.args.tape.now c.args.out.now in
    let r = reached_more s c.loop-k.k c.args.from c.loop-k.p c.in-Some.after c.loop-k.mem c.step_once.new.mem c.args.tape.now c.args.out.now c.loop-k.out c.step_once.new.out
    c.loop-k.auto.out c.loop-k.invariant c.in-Some.ensures in
    rw add-one r

pub returns-in-None : goal.returns-in-None
returns-in-None c =
    let s = machine_of c.args.from c.args.mem.now c.args.tape.now c.args.out.now in
    let r = reached_stuck s c.loop-k.k c.args.from c.loop-k.p c.loop-k.mem c.step_once.new.mem c.args.tape.now c.args.out.now c.loop-k.out c.step_once.new.out
    c.loop-k.auto.out c.loop-k.invariant c.in-None.ensures in
    (search rules, c.loop-k-test.true, r.0, r.1)
