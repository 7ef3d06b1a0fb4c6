-- What 'interpret' promises: for every program that is held, its run is the definition's.
use Rattle.std.specs.Prelude.{◌≡◌, ℕ, ◌<◌, ◌≤◌, T, List, length, take, drop, Ok, Err, Result}
use Rattle.words.specs.Endings.{halt_code}
use Rattle.words.specs.Runs.{Seen}
use Rattle.language.specs.Language.{Program, program_run, frame_room}
use Rattle.language.specs.Limits.{fits}
use Rattle.language.specs.Nodes.{Holds}
use Rattle.language.specs.declared.nodes.Node.{Node}
use Rattle.language.specs.declared.nodes.Procedure.{Procedure}
use Rattle.interpreter.specs.declared.Run.{Run}
use Rattle.interpreter.specs.declared.InterpretError.{InterpretError}
use Rattle.interpreter.specs.declared.InterpretError.TheVariants.{NoOut, NoProgram, Short}
use Rattle.interpreter.specs.Running.{Memory}

-- The program g is lent: the nodes and the table hold its procedures, the table no more than those, and there are as many
-- globals and cells as it has.
pub record Lent (nodes : List Node) (table : List Procedure) (m : Memory) (g : Program) : Type 0 where
  pub holds : Holds nodes table g.procs
  pub procs : length table ≡ length g.procs
  pub globals : length m.globals ≡ g.globals
  pub cells : length m.cells ≡ g.cells

-- What is seen of a run: the words put out stand first in the out words, whose others stay; so many words are taken; and
-- it ended so, or its fuel is spent.
pub record Shows (seen : Seen) (r : Run) (tape out out' : List ℕ) : Type 0 where
  pub is : seen ≡ record { shown = take r.counts.sent out'; tape_left = drop r.counts.taken tape; ending = halt_code r.ending }
  pub taken_within : r.counts.taken ≤ length tape
  pub sent_within : r.counts.sent ≤ length out
  pub unsent : drop r.counts.sent out' ≡ drop r.counts.sent out

-- With so much fuel, memory before and after. A run; or more words are put out than there are out words; or no program
-- within the limits is lent; or there are too few words for frames.
abbrev pub Interprets : List Node → List Procedure → List ℕ → ℕ → Memory → Memory → Result Run InterpretError → Type 0
Interprets nodes table tape fuel m m' (Ok r) = (g : Program) → Lent nodes table m g → Shows (program_run g tape fuel) r tape m.out m'.out
Interprets nodes table tape fuel m m' (Err NoOut) = (g : Program) → Lent nodes table m g → length m.out < length (program_run g tape fuel).shown
Interprets nodes table tape fuel m m' (Err NoProgram) = ((g : Program) → Lent nodes table m g → T (fits g) → ⊥) × (m' ≡ m)
Interprets nodes table tape fuel m m' (Err Short) = (length m.frames < frame_room) × (m' ≡ m)
