-- The arm of 'out': its contract, at operation 12.
use Rattle.std.proofs.Common.{◌≡◌, ℕ, sym, subst}
use Rattle.machine.specs.Machine.{operation, act}
use Rattle.machine.specs.Processor.{fields, machine_of, Executed}
use Rattle.machine.proofs.execute.execute.Goals as goal

pub returns-in-12 : goal.returns-in-12
returns-in-12 c =
    let mem = c.args.mem.now in
    let tape = c.args.tape.now in
    let out = c.args.out.now in
    let is : c.args.i.op ≡ 12 = c.in-12.is in
    subst (λ (o : ℕ). Executed (act (operation o) (fields c.args.i) (machine_of c.args.p mem tape out)) c.args.p mem mem tape out c.put_out.new.out c.put_out.result)
    (sym is) (c.put_out.ensures mem tape)
