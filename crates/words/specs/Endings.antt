-- The endings of the code and the numbers that the definitions have for them.
use Rattle.std.specs.Prelude.{◌≡◌, ◌≢◌, ℕ, List, codes, Option, Some, None, Result, MatchResult}
use Rattle.words.specs.Runs.{running, ended_done, ended_index, ended_full}
use Rattle.words.specs.declared.ending.Ending.{Ending}
use Rattle.words.specs.declared.ending.Ending.TheVariants.{Done, Index, Full}
use Rattle.words.specs.declared.ending.NoEnding.{NoEnding}

abbrev pub code_of : Ending → ℕ
code_of Done = ended_done
code_of Index = ended_index
code_of Full = ended_full

-- .. where a run may also go on
abbrev pub halt_code : Option Ending → ℕ
halt_code None = running
halt_code (Some e) = code_of e

-- the name that is printed for an ending
abbrev pub ending_name : Ending → List ℕ
ending_name Done = codes "done"
ending_name Index = codes "index"
ending_name Full = codes "full"

-- a number as an ending, if it is the code of one
abbrev pub Decodes : ℕ → Result Ending NoEnding → Type 0
Decodes n r = MatchResult r (λ e. n ≡ code_of e) (λ none. (none.0 ≡ n) × ((e : Ending) → n ≢ code_of e))
