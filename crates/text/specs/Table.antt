-- The nodes of procedures that stand one after the other, as the table of procedures is made from them.
use Rattle.std.specs.Prelude.{◌≡◌, ℕ, ◌+◌, ◌≤◌, List, [], ◌∷◌}
use Rattle.language.specs.Language.{Proc}
use Rattle.language.specs.Nodes.{node_at, StmtAt, entry_at}
use Rattle.language.specs.declared.nodes.Node.{Node}
use Rattle.language.specs.declared.nodes.Node.TheVariants as N
use Rattle.language.specs.declared.nodes.Procedure.{Procedure}
use Rattle.text.specs.Text.{signs_stmt}

-- the procedures stand from node i on, each right after the body of the one before
abbrev pub ProcsAt : List Node → ℕ → List Proc → Type 0
ProcsAt nodes i [] = Unit {0}
ProcsAt nodes i (p ∷ ps) = (node_at nodes i ≡ N.Proc p.locals (i + 1) (i + 1 + signs_stmt p.body)) × StmtAt nodes (i + 1) p.body × ProcsAt nodes (i + 1 + signs_stmt p.body) ps

-- the entries from f on are as they were
abbrev pub SameEntries : ℕ → List Procedure → List Procedure → Type 0
SameEntries f before after = (j : ℕ) → f ≤ j → entry_at after j ≡ entry_at before j
