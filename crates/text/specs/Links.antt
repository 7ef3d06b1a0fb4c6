-- The numbers of a node's parts: the first part stands right after its node, every other where the part before it ends.
use Rattle.std.specs.Prelude.{◌≡◌, ℕ, zero, suc, ◌+◌, ◌<◌, ◌≤◌, List, length, slice_index}
use Rattle.language.specs.Nodes.{node_at, most_nodes}
use Rattle.language.specs.declared.nodes.Node.{Node}
use Rattle.language.specs.declared.nodes.Node.TheVariants as N
use Rattle.text.specs.Filling.{SameFrom}

-- where node i ends, by a list of ends
abbrev pub end_of : List ℕ → ℕ → ℕ
end_of ends i = slice_index ends i

-- a node with the numbers a, b, c for its parts, as far as it has any
abbrev pub with_parts : Node → ℕ → ℕ → ℕ → Node
with_parts (N.Num n) a b c = N.Num n
with_parts (N.Loc n) a b c = N.Loc n
with_parts (N.Glob n) a b c = N.Glob n
with_parts (N.Cell j) a b c = N.Cell a
with_parts (N.Add j k) a b c = N.Add a b
with_parts (N.Sub j k) a b c = N.Sub a b
with_parts (N.Nand j k) a b c = N.Nand a b
with_parts (N.Less j k) a b c = N.Less a b
with_parts (N.Half j) a b c = N.Half a
with_parts (N.Call f j) a b c = N.Call f a
with_parts N.Skip a b c = N.Skip
with_parts (N.Then j k) a b c = N.Then a b
with_parts (N.SetLoc n j) a b c = N.SetLoc n a
with_parts (N.SetGlob n j) a b c = N.SetGlob n a
with_parts (N.SetCell j k) a b c = N.SetCell a b
with_parts (N.If j k l) a b c = N.If a b c
with_parts (N.While j k) a b c = N.While a b
with_parts (N.Out j) a b c = N.Out a
with_parts (N.Take n) a b c = N.Take n
with_parts (N.Proc n j k) a b c = N.Proc n a b

-- node i with the numbers of its parts
abbrev pub linked_node : Node → ℕ → List ℕ → Node
linked_node d i ends = with_parts d (i + 1) (end_of ends (i + 1)) (end_of ends (end_of ends (i + 1)))

-- how many parts a node has
abbrev pub parts : Node → ℕ
parts (N.Num n) = 0
parts (N.Loc n) = 0
parts (N.Glob n) = 0
parts (N.Cell j) = 1
parts (N.Add j k) = 2
parts (N.Sub j k) = 2
parts (N.Nand j k) = 2
parts (N.Less j k) = 2
parts (N.Half j) = 1
parts (N.Call f j) = 1
parts N.Skip = 0
parts (N.Then j k) = 2
parts (N.SetLoc n j) = 1
parts (N.SetGlob n j) = 1
parts (N.SetCell j k) = 2
parts (N.If j k l) = 3
parts (N.While j k) = 2
parts (N.Out j) = 1
parts (N.Take n) = 0
parts (N.Proc n j k) = 1

-- the number after p parts, the first of which stands at i
abbrev pub past : ℕ → ℕ → List ℕ → ℕ
past zero i ends = i
past (suc p) i ends = past p (end_of ends i) ends

-- the number after the last part of node i
abbrev pub node_end : Node → ℕ → List ℕ → ℕ
node_end d i ends = past (parts d) (i + 1) ends

-- every node ends past itself, and within the array
pub record Ends (ends : List ℕ) : Type 0 where
  pub size : length ends ≡ most_nodes + 1
  pub last : end_of ends most_nodes ≡ most_nodes
  pub after : (k : ℕ) → k < most_nodes → k < end_of ends k
  pub within : (k : ℕ) → end_of ends k ≤ most_nodes

-- node i has the numbers of its parts, and ends says where it ends
abbrev pub LinkedAt : List Node → List Node → List ℕ → ℕ → Type 0
LinkedAt bare nodes ends i = (node_at nodes i ≡ linked_node (node_at bare i) i ends) × (end_of ends i ≡ node_end (node_at bare i) i ends)

-- each of the first n nodes does; the others are as they were
pub record Linked (bare nodes : List Node) (ends : List ℕ) (n : ℕ) : Type 0 where
  pub size : length nodes ≡ length bare
  pub first : (i : ℕ) → i < n → LinkedAt bare nodes ends i
  pub others : SameFrom n bare nodes
