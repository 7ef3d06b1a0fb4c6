-- What a text that is loaded gives: its program, held as nodes, a table of procedures and sizes; or why it is refused.
use Rattle.std.specs.Prelude.{ℕ, List, Ok, Err, Result, replicate}
use Rattle.language.specs.Language.{Program}
use Rattle.language.specs.Held.{HeldProgram}
use Rattle.language.specs.Limits.{most_procs}
use Rattle.language.specs.Nodes.{most_nodes}
use Rattle.language.specs.declared.nodes.Node.{Node}
use Rattle.language.specs.declared.nodes.Node.TheVariants as N
use Rattle.language.specs.declared.nodes.Procedure.{Procedure}
use Rattle.language.specs.declared.parsed.Parsed.{Parsed}
use Rattle.text.specs.declared.judge.Refused.{Refused}
use Rattle.text.specs.Filling.{SameFrom}
use Rattle.text.specs.Table.{SameEntries}
use Rattle.text.specs.Text.{Reads}
use Rattle.text.specs.Verdicts.{Judged}

-- nodes and a table into which nothing has been read
abbrev pub blank_nodes : List Node
blank_nodes = replicate most_nodes N.Skip

abbrev pub blank_table : List Procedure
blank_table = replicate most_procs (record { locals = 0; body = 0 })

-- the text is a program within the limits, and p holds it; nodes and entries past it are blank
pub record Loaded (s : List ℕ) (p : Parsed) : Type 0 where
  pub program : Program
  pub reads : Reads s program
  pub held : HeldProgram p program
  pub nodes_past : SameFrom p.sizes.signs blank_nodes p.nodes
  pub entries_past : SameEntries p.sizes.procs blank_table p.table

-- what comes of a text
abbrev pub Loads : List ℕ → Result Parsed Refused → Type 0
Loads s (Ok p) = Loaded s p
Loads s (Err r) = Judged s (Err r)
