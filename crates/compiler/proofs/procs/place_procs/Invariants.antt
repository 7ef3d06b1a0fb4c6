use Rattle.std.proofs.Common.{◌≡◌, ℕ, ◌<◌, length}
use Rattle.words.specs.Words.{word}
use Rattle.language.specs.Held.{HeldProgram}
use Rattle.language.specs.Language.{Program}
use Rattle.language.specs.Limits.{most_procs}
use Rattle.codegen.specs.Codegen.{entry}
use Rattle.compiler.proofs.procs.place_procs.Given as goal

abbrev pub invariant-loop-f : goal.invariant-loop-f
invariant-loop-f l = record {
  long : length l.place-items ≡ most_procs;
  placed : (g : Program) → HeldProgram l.parsed g → (l.at ≡ entry g l.f) × ((k : ℕ) → k < l.f → word l.place-items k ≡ entry g k);
}
