use Rattle.std.proofs.Common.{◌≡◌, ◌≤◌, ◌++◌, length, drop}
use Rattle.language.specs.Held.{HeldProgram}
use Rattle.language.specs.Language.{Program}
use Rattle.language.specs.Nodes.{most_nodes}
use Rattle.codegen.specs.Codegen.{entry}
use Rattle.text.specs.Signs.{room}
use Rattle.signs.specs.Places.{sign_places, places_procs}
use Rattle.compiler.proofs.places.place_signs.Given as goal

-- what is noted and what is left is the whole
abbrev pub invariant-loop-procedure : goal.invariant-loop-procedure
invariant-loop-procedure l = (g : Program) → HeldProgram l.parsed g →
    (l.at ≡ entry g l.procedure-index) × (length l.places.items ≤ most_nodes) × (room (sign_places g) ≡ room (l.places.items ++ places_procs (drop l.procedure-index g.procs) l.at))
