use Rattle.std.proofs.Common.{◌≡◌, drop}
use Rattle.language.specs.Held.{HeldProgram}
use Rattle.language.specs.Language.{Program}
use Rattle.codegen.specs.Codegen.{entry, code_procs}
use Rattle.compiler.specs.Writing.{put_all}
use Rattle.compiler.proofs.procs.emit_program.Given as goal

-- what is written and what is left is the whole
abbrev pub invariant-loop-procedure : goal.invariant-loop-procedure
invariant-loop-procedure l = record {
  same_image : l.writer.image.ghost_name ≡ l.initial.writer.image.ghost_name;
  whole : (g : Program) → HeldProgram l.parsed g → (l.writer.at ≡ entry g l.procedure-index)
      × (put_all l.initial.writer.image.now l.initial.writer.at (code_procs g g.procs l.initial.writer.at) ≡ put_all l.writer.image.now l.writer.at (code_procs g (drop l.procedure-index g.procs) l.writer.at));
}
