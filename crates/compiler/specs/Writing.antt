-- Instructions that are written into an image.
use Rattle.std.specs.Prelude.{◌≡◌, ℕ, suc, List, [], ◌∷◌, ◌++◌}
use Rattle.words.specs.Words.{put}
use Rattle.codegen.specs.Instructions.{Instruction, ADD, SUB, NAND, LESS, HALF, LOW, HIGH, LOAD, STORE, ZERO, JUMP, IN, OUT, DONE, INDEX, FULL, encode, WithinWidths, past}
use Rattle.compiler.specs.declared.instructions.Instruction.{Instruction as Written}
use Rattle.compiler.specs.declared.instructions.Instruction.TheVariants as I
use Rattle.compiler.specs.declared.writer.Writer.{Writer}

-- the instruction that a value of the code stands for
abbrev pub meaning : Written → Instruction
meaning (I.Add d a b) = ADD d a b
meaning (I.Sub d a b) = SUB d a b
meaning (I.Nand d a b) = NAND d a b
meaning (I.Less d a b) = LESS d a b
meaning (I.Half d a) = HALF d a
meaning (I.Low d n) = LOW d n
meaning (I.High d n) = HIGH d n
meaning (I.Load d a m) = LOAD d a m
meaning (I.Store d a m) = STORE d a m
meaning (I.Zero d n) = ZERO d n
meaning (I.Jump d a) = JUMP d a
meaning (I.In d) = IN d
meaning (I.Out d) = OUT d
meaning I.Done = DONE
meaning I.Index = INDEX
meaning I.Full = FULL

abbrev pub AllWithin : List Instruction → Type 0
AllWithin [] = Unit {0}
AllWithin (i ∷ is) = WithinWidths i × AllWithin is

-- the image with the words of instructions from a place on
abbrev pub put_all : List ℕ → ℕ → List Instruction → List ℕ
put_all m at [] = m
put_all m at (i ∷ is) = put_all (put m at (encode i)) (suc at) is

-- From image m at the place 'at', code was written, up to the place r of the image m': whatever is to follow, all of it
-- is left to write where before the code and then it was.
pub record Emits (code : List Instruction → List Instruction) (end at : ℕ) (m : List ℕ) (r : ℕ) (m' : List ℕ) : Type 0 where
  pub ends : r ≡ end
  pub words : (rest : List Instruction) → put_all m at (code rest) ≡ put_all m' r rest

abbrev pub Writes : List Instruction → ℕ → List ℕ → ℕ → List ℕ → Type 0
Writes is at m r m' = Emits (λ rest. is ++ rest) (past is at) at m r m'

-- A writer, which was w and is w', wrote code into its image: it is still the same one.
pub record Wrote (code : List Instruction) (w w' : Writer) : Type 0 where
  pub same_image : w'.image.ghost_name ≡ w.image.ghost_name
  pub words : Writes code w.at w.image.now w'.at w'.image.now
