use Rattle.std.proofs.Common.{◌≡◌, ◌+◌, ◌-◌, List, ◌++◌}
use Rattle.codegen.specs.Codegen.{clear_words}
use Rattle.codegen.specs.Instructions.{Instruction}
use Rattle.compiler.specs.Writing.{put_all}
use Rattle.compiler.proofs.writer.Writer.clear_locals.Given as goal

-- what is written and what is left is the whole
abbrev pub invariant-loop-i : goal.invariant-loop-i
invariant-loop-i l = record {
  same_image : l.self.image.ghost_name ≡ l.initial.self.image.ghost_name;
  place : l.self.at ≡ l.initial.self.at + l.i;
  whole : (rest : List Instruction) → put_all l.initial.self.image.now l.initial.self.at (clear_words 0 l.locals ++ rest) ≡ put_all l.self.image.now l.self.at (clear_words l.i (l.locals - l.i) ++ rest);
}
