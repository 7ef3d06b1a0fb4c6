-- The bare nodes of a whole text, and what stands in the array when it has been read.
use Rattle.std.specs.Prelude.{◌≡◌, ℕ, ◌+◌, ◌%◌, ◌≤◌, Bool, true, false, List, [], ◌∷◌, ◌++◌, take, Some, None, Option}
use Rattle.language.specs.Nodes.{node_at}
use Rattle.language.specs.declared.nodes.Node.{Node}
use Rattle.text.specs.declared.kinds.Kind.{Kind}
use Rattle.text.specs.declared.reader.Role.{Role}
use Rattle.text.specs.declared.reader.Role.TheVariants as R
use Rattle.text.specs.declared.reader.Need.{Need}
use Rattle.text.specs.declared.reader.Need.TheVariants.{Start, Number, Owed}
use Rattle.text.specs.declared.reader.Reader.{Reader}
use Rattle.text.specs.Text.{most_signs}
use Rattle.text.specs.Kinds.{kind}
use Rattle.text.specs.Numbers.{digits_value}
use Rattle.text.specs.Shapes.{shape}
use Rattle.text.specs.Bare.{bare, numbered, has_node}

-- a node in front of others, unless it stands for the whole program
abbrev pub in_front : Role → Node → List Node → List Node
in_front R.Expression d ds = d ∷ ds
in_front R.Statement d ds = d ∷ ds
in_front R.Procedure d ds = d ∷ ds
in_front R.Program d ds = ds

-- The number that words begin with, and their bare nodes: one word before others, and all words.
abbrev pub before_nodes : Option Kind → List ℕ → ℕ × List Node → ℕ × List Node
before_nodes None w x = (digits_value 0 w % 65536, x.1)
before_nodes (Some k) w x = (0, in_front (shape k).role (numbered (bare k) x.0) x.1)

abbrev pub bare_nodes : List (List ℕ) → ℕ × List Node
bare_nodes [] = (0, [])
bare_nodes (w ∷ ws) = before_nodes (kind w) w (bare_nodes ws)

-- Where c signs have been read and the words ws are to come: the nodes written so far and those to come are all of them.
-- A reader that waits for a node's number has that node still without it.
abbrev pub WrittenPlain : ℕ → List Node → List (List ℕ) → List Node → Type 0
WrittenPlain c nodes ws all = take c nodes ++ (bare_nodes ws).1 ≡ all

abbrev pub WrittenWaiting : ℕ → List Node → List (List ℕ) → List Node → Type 0
WrittenWaiting c nodes ws all = (d : ℕ) × (c ≡ d + 1) × (take d nodes ++ (numbered (node_at nodes d) (bare_nodes ws).0 ∷ (bare_nodes ws).1) ≡ all)

abbrev pub WrittenNumber : Bool → ℕ → List Node → List (List ℕ) → List Node → Type 0
WrittenNumber true = WrittenWaiting
WrittenNumber false = WrittenPlain

abbrev pub WrittenAt : Need → ℕ → List Node → List (List ℕ) → List Node → Type 0
WrittenAt Start = WrittenPlain
WrittenAt (Number u) = WrittenNumber (has_node u)
WrittenAt Owed = WrittenPlain

abbrev pub WrittenSoFar : Reader → List Node → List (List ℕ) → List Node → Type 0
WrittenSoFar a = WrittenAt a.need a.signs

-- the nodes at i and after are as they were
abbrev pub SameFrom : ℕ → List Node → List Node → Type 0
SameFrom i before after = (j : ℕ) → i ≤ j → node_at after j ≡ node_at before j

-- what stands in the array when the words have been read: within the limits, their bare nodes; the others as before
abbrev pub Filled : List (List ℕ) → List Node → List Node → Option Reader → Type 0
Filled ws before after None = Unit {0}
Filled ws before after (Some a) = (a.fits ≡ true → a.signs ≤ most_signs → WrittenSoFar a after [] (bare_nodes ws).1) × SameFrom a.signs before after
