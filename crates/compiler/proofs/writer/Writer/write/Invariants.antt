use Rattle.std.proofs.Common.{◌≡◌, ◌+◌, List, ◌++◌, map, drop}
use Rattle.codegen.specs.Instructions.{Instruction}
use Rattle.compiler.specs.Writing.{meaning, put_all}
use Rattle.compiler.proofs.writer.Writer.write.Given as goal

-- what is written and what is left is the whole
abbrev pub invariant-loop-instruction : goal.invariant-loop-instruction
invariant-loop-instruction l = record {
  same_image : l.self.image.ghost_name ≡ l.initial.self.image.ghost_name;
  place : l.self.at ≡ l.initial.self.at + l.instruction-index;
  whole : (rest : List Instruction) → put_all l.initial.self.image.now l.initial.self.at (map meaning l.code ++ rest) ≡ put_all l.self.image.now l.self.at (map meaning (drop l.instruction-index l.code) ++ rest);
}
