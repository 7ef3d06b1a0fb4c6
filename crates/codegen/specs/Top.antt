-- The loader's words at memory's top are left alone.
use Rattle.std.specs.Prelude.{ℕ, ◌<◌, List, [], ◌∷◌}
use Rattle.words.specs.Words.{All}
use Rattle.machine.specs.Machine.{Machine, Fields, Op, Add, Sub, Nand, Less, Half, Low, High, Load, Store, Zero, Jump, In, Out, Done, Index, Full, operation, place, fetched, steps}
use Rattle.codegen.specs.Layout.{stack_top}

-- the places in memory that an instruction reads or writes
abbrev pub uses : Op → Fields → Machine → List ℕ
uses Add i s = []
uses Sub i s = []
uses Nand i s = []
uses Less i s = []
uses Half i s = []
uses Low i s = []
uses High i s = []
uses Load i s = place i s ∷ []
uses Store i s = place i s ∷ []
uses Zero i s = []
uses Jump i s = []
uses In i s = []
uses Out i s = []
uses Done i s = []
uses Index i s = []
uses Full i s = []

-- the machine's next instruction is not fetched from the loader's words, and neither reads nor writes one of them
abbrev pub LeavesTop : Machine → Type 0
LeavesTop s = (s.pc < stack_top) × All (λ p. p < stack_top) (uses (operation (fetched s).op) (fetched s) s)

-- nor does any of the next k instructions
abbrev pub LeavesTopFor : ℕ → Machine → Type 0
LeavesTopFor k s = (j : ℕ) → j < k → LeavesTop (steps j s)
