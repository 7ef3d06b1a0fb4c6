-- Routines made from a table: a body where no statement stands is of no program; and the routines, of
-- which a call gets as many as there are procedures, are the program's.
use Rattle.std.proofs.Common.{◌≡◌, ℕ, ◌<◌, ◌≤◌, List, length, take, sym, ap, ◌∙◌, subst, arith}
use Rattle.std.proofs.lemmas.List.{get_or-take, length-take-le}
use Rattle.language.specs.Language.{Stmt, Proc, Program}
use Rattle.language.specs.Nodes.{StmtAt, Holds, entry_at}
use Rattle.language.specs.declared.nodes.Node.{Node}
use Rattle.language.specs.declared.nodes.Procedure.{Procedure}
use Rattle.interpreter.specs.declared.state.Routine.{Routine}
use Rattle.interpreter.specs.Routines.{routine_at, Measured, Ready, AllReady}
use Rattle.interpreter.specs.Running.{Held}
use Rattle.interpreter.proofs.Calling.{proc_some, proc_inside}

abbrev no_routine : Routine
no_routine = record { locals = 0; body = 0; height = 0 }

pub no_program : (nodes : List Node) (table : List Procedure) (f : ℕ) → f < length table → ((s : Stmt) → StmtAt nodes (entry_at table f).body s → ⊥) → (ps : List Proc) → length table ≡ length ps → Holds nodes table ps → ⊥
no_program nodes table f inside none ps e holds =
    let p = proc_some ps f (omega arith) in
    none p.0.body (holds f p.0 p.1).1

module _ (nodes : List Node) (table : List Procedure) (procs part : List Routine) (all : AllReady nodes table procs (length table)) (long : length table ≤ length procs) (is : part ≡ take (length table) procs) where
  part_long : length part ≡ length table
  part_long = ap length is ∙ length-take-le (length table) procs long

  part_at : (f : ℕ) → f < length table → routine_at part f ≡ routine_at procs f
  part_at f h = ap (λ (l : List Routine). routine_at l f) is ∙ get_or-take (length table) procs f no_routine h

  part_ready : AllReady nodes table part (length table)
  part_ready f h = subst (λ (r : Routine). Ready nodes (entry_at table f) r) (sym (part_at f h)) (all f h)

  pub part_measured : Measured nodes part (length part)
  part_measured f h = let r = part_ready f (omega (arith, part_long)) in (r.stmt, r.at, r.height, r.small)

  pub part_held : (g : Program) → Holds nodes table g.procs → length table ≡ length g.procs → Held nodes part g
  part_held g holds e = record {
    holds = λ f p q. (let inside : f < length table = omega (arith, e, proc_inside g.procs f p q) in
        let r = part_ready f inside in let h = holds f p q in
        (r.locals ∙ h.0, subst (λ (b : ℕ). StmtAt nodes b p.body) (sym r.body) h.1));
    all = part_long ∙ e;
  }
