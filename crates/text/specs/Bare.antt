-- Bare nodes: what each word of a text writes when it is read, before the nodes have the numbers of their parts.
use Rattle.std.specs.Prelude.{◌≡◌, ℕ, ◌-◌, ◌%◌, ◌<◌, ◌≤◌, Bool, true, false, cond, List, Some, None, Option, slice_set}
use Rattle.language.specs.Nodes.{node_at, most_nodes}
use Rattle.language.specs.declared.nodes.Node.{Node}
use Rattle.language.specs.declared.nodes.Node.TheVariants as N
use Rattle.text.specs.declared.kinds.Kind.{Kind}
use Rattle.text.specs.declared.kinds.Kind.TheVariants as K
use Rattle.text.specs.declared.reader.Use.{Use}
use Rattle.text.specs.declared.reader.Use.TheVariants.{Globals, Cells, Procs, Locals, Value, Local, Global, Callee}
use Rattle.text.specs.declared.reader.Need.{Need}
use Rattle.text.specs.declared.reader.Need.TheVariants.{Start, Number, Owed}
use Rattle.text.specs.declared.reader.Reader.{Reader}
use Rattle.text.specs.Kinds.{kind}
use Rattle.text.specs.Numbers.{number_of}

-- a node of a kind, with no numbers
abbrev pub bare : Kind → Node
bare K.Num = N.Num 0
bare K.Loc = N.Loc 0
bare K.Glob = N.Glob 0
bare K.Cell = N.Cell 0
bare K.Add = N.Add 0 0
bare K.Sub = N.Sub 0 0
bare K.Nand = N.Nand 0 0
bare K.Less = N.Less 0 0
bare K.Half = N.Half 0
bare K.Call = N.Call 0 0
bare K.Skip = N.Skip
bare K.Then = N.Then 0 0
bare K.SetLoc = N.SetLoc 0 0
bare K.SetGlob = N.SetGlob 0 0
bare K.SetCell = N.SetCell 0 0
bare K.If = N.If 0 0 0
bare K.While = N.While 0 0
bare K.Out = N.Out 0
bare K.Take = N.Take 0
bare K.Program = N.Skip
bare K.Proc = N.Proc 0 0 0

-- a node with the number that its words give it
abbrev pub numbered : Node → ℕ → Node
numbered (N.Num x) n = N.Num n
numbered (N.Loc x) n = N.Loc n
numbered (N.Glob x) n = N.Glob n
numbered (N.Cell x) n = N.Cell x
numbered (N.Add x y) n = N.Add x y
numbered (N.Sub x y) n = N.Sub x y
numbered (N.Nand x y) n = N.Nand x y
numbered (N.Less x y) n = N.Less x y
numbered (N.Half x) n = N.Half x
numbered (N.Call x y) n = N.Call n y
numbered N.Skip n = N.Skip
numbered (N.Then x y) n = N.Then x y
numbered (N.SetLoc x y) n = N.SetLoc n y
numbered (N.SetGlob x y) n = N.SetGlob n y
numbered (N.SetCell x y) n = N.SetCell x y
numbered (N.If x y z) n = N.If x y z
numbered (N.While x y) n = N.While x y
numbered (N.Out x) n = N.Out x
numbered (N.Take x) n = N.Take n
numbered (N.Proc x y z) n = N.Proc n y z

-- a number belongs to a node, and not to the program as a whole
abbrev pub has_node : Use → Bool
has_node Globals = false
has_node Cells = false
has_node Procs = false
has_node Locals = true
has_node Value = true
has_node Local = true
has_node Global = true
has_node Callee = true

-- What a word writes where c signs have been read: a number goes into the last node, a kind makes the next.
abbrev pub noted_number : Option ℕ → ℕ → List Node → List Node
noted_number None c nodes = nodes
noted_number (Some n) c nodes = slice_set nodes (c - 1) (numbered (node_at nodes (c - 1)) (n % 65536))

abbrev pub noted_kind : Option Kind → ℕ → List Node → List Node
noted_kind None c nodes = nodes
noted_kind (Some k) c nodes = slice_set nodes c (bare k)

abbrev pub noted_at : Need → ℕ → List ℕ → List Node → List Node
noted_at Start c w nodes = nodes
noted_at (Number u) c w nodes = cond (has_node u) (noted_number (number_of w) c nodes) nodes
noted_at Owed c w nodes = noted_kind (kind w) c nodes

-- what a word writes that a reader reads
abbrev pub noted : Reader → List ℕ → List Node → List Node
noted a w nodes = noted_at a.need a.signs w nodes

-- the places that a word can write to are there
pub record Placed (a : Reader) : Type 0 where
  pub within : a.signs ≤ most_nodes
  pub owed : a.need ≡ Owed → a.signs < most_nodes
  pub some : (u : Use) → a.need ≡ Number u → has_node u ≡ true → 0 < a.signs
