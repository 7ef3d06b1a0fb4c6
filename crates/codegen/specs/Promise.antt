-- What is promised of the image of a program within the limits.
use Rattle.std.specs.Prelude.{◌≡◌, ℕ, ◌≤◌, T, List}
use Rattle.words.specs.Words.{word, IsMemory, IsTape}
use Rattle.words.specs.Runs.{running}
use Rattle.machine.specs.Machine.{steps, begin}
use Rattle.language.specs.Language.{Program}
use Rattle.language.specs.Limits.{fits}
use Rattle.image.specs.Image.{ImageOf}
use Rattle.codegen.specs.Layout.{stack_top}
use Rattle.codegen.specs.Codegen.{image}
use Rattle.codegen.specs.Top.{LeavesTop}

pub record RightImage (g : Program) : Type 0 where
  -- it is a memory: 65,536 words
  pub is_memory : IsMemory (image g)
  -- on every tape the machine does with it what the program does
  pub does_the_same : ImageOf g (image g)
  -- the loader's words are 0
  pub top_blank : (j : ℕ) → stack_top ≤ j → word (image g) j ≡ 0
  -- on every tape, no instruction that is carried out is fetched from the loader's words, reads or writes one of them
  pub top_alone : (tape : List ℕ) → IsTape tape → (k : ℕ) → (steps k (begin (image g) tape)).halted ≡ running → LeavesTop (steps k (begin (image g) tape))

abbrev pub ImagesRight : Type 0
ImagesRight = (g : Program) → T (fits g) → RightImage g
