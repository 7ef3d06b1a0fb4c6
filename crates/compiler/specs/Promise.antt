-- What 'build' promises of a text and an image.
use Rattle.std.specs.Prelude.{◌≡◌, ℕ, ◌≤◌, false, T, List, length, Ok, Err, Result, codes}
use Rattle.words.specs.Words.{word, memory_size, IsMemory, IsTape}
use Rattle.words.specs.Runs.{running}
use Rattle.machine.specs.Machine.{steps, begin}
use Rattle.language.specs.Language.{Program, FuelKeeps}
use Rattle.language.specs.Limits.{fits}
use Rattle.text.specs.Text.{Reads, OneProgram}
use Rattle.image.specs.Image.{ImageOf}
use Rattle.codegen.specs.Codegen.{image}
use Rattle.codegen.specs.Layout.{stack_top}
use Rattle.codegen.specs.Top.{LeavesTop}
use Rattle.text.specs.declared.judge.Refused.{Refused}
use Rattle.text.specs.declared.judge.Refused.TheVariants as R
use Rattle.compiler.specs.declared.BuildError.{BuildError}
use Rattle.compiler.specs.declared.BuildError.TheVariants as B

-- The words m are an image of the program that the text s is the writing of.
pub record ImageMade (s m : List ℕ) : Type 0 where
  pub program : Program
  -- the text reads the program, and it is within the limits
  pub reads : Reads s program
  pub within : T (fits program)
  -- the words are the program's code, and 0 from there on
  pub is : m ≡ image program
  pub is_memory : IsMemory m
  -- on every tape the machine does with them what the program does
  pub does_the_same : ImageOf program m
  -- the loader's words are 0, and no run fetches, reads or writes one of them
  pub top_blank : (j : ℕ) → stack_top ≤ j → word m j ≡ 0
  pub top_alone : (tape : List ℕ) → IsTape tape → (k : ℕ) → (steps k (begin m tape)).halted ≡ running → LeavesTop (steps k (begin m tape))

-- what a refusal of a text is called here
abbrev pub why : Refused → BuildError
why R.NoProgram = B.NoProgram
why R.Limits = B.Limits

-- how it is printed why there is no image
abbrev pub message : BuildError → List ℕ
message B.NoProgram = codes "no program: the text is not the writing of one"
message B.Limits = codes "limits: the program is larger than it may be, or names what is not there"
message B.Short = codes "the image has not 65536 words"

-- an image, or why there is none
abbrev pub Answer : Type 0
Answer = Result (Unit {0}) BuildError

-- When each answer is right, for the text s and the words m that were there before.
abbrev pub Case : List ℕ → List ℕ → Answer → Type 0
Case s m (Err B.Short) = length m ≡ memory_size → ⊥
Case s m (Err B.NoProgram) = (length m ≡ memory_size) × ((g : Program) → Reads s g → ⊥)
Case s m (Err B.Limits) = (length m ≡ memory_size) × ((g : Program) × Reads s g × (fits g ≡ false))
Case s m (Ok u) = (length m ≡ memory_size) × ((g : Program) × Reads s g × T (fits g))

-- What the words are after each answer: a refusal leaves them as they were.
abbrev pub Leaves : List ℕ → List ℕ → List ℕ → Answer → Type 0
Leaves s m m' (Err e) = m' ≡ m
Leaves s m m' (Ok u) = ImageMade s m'

-- The promise: the answer r is right and no other is; the words after it; one text is the writing of at most one program;
-- and what a run of it has come to with some fuel stands with more.
pub record Built (s m m' : List ℕ) (r : Answer) : Type 0 where
  pub right : Case s m r
  pub only : (other : Answer) → Case s m other → other ≡ r
  pub leaves : Leaves s m m' r
  pub one_program : OneProgram
  pub fuel_keeps : FuelKeeps
