-- A whole program, held as nodes, a table of procedures and sizes.
use Rattle.std.specs.Prelude.{◌≡◌, T, length}
use Rattle.language.specs.Language.{Program}
use Rattle.language.specs.Limits.{fits, signs}
use Rattle.language.specs.Nodes.{Holds}
use Rattle.language.specs.declared.nodes.Sizes.{Sizes}
use Rattle.language.specs.declared.parsed.Parsed.{Parsed}

-- the sizes are those of the program
pub record Sized (z : Sizes) (g : Program) : Type 0 where
  pub globals : z.globals ≡ g.globals
  pub cells : z.cells ≡ g.cells
  pub procs : z.procs ≡ length g.procs
  pub signs : z.signs ≡ signs g.procs

-- the program g is within the limits; nodes and table hold its procedures, and the sizes are its own
pub record HeldProgram (p : Parsed) (g : Program) : Type 0 where
  pub within : T (fits g)
  pub sized : Sized p.sizes g
  pub holds : Holds p.nodes p.table g.procs

-- some program is held
abbrev pub SomeProgram : Parsed → Type 0
SomeProgram p = (g : Program) × HeldProgram p g
