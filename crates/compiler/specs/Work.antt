-- Nodes whose parts are expressions: their code is that of the parts, the values pushed between them, and a last block.
-- So it is of every expression, and of every statement but 'then', 'if' and 'while'.
use Rattle.std.specs.Prelude.{◌≡◌, ℕ, ◌<◌, ◌≤◌, T, List, [], ◌∷◌, ◌++◌, length}
use Rattle.words.specs.Words.{word}
use Rattle.language.specs.Language.{Expr, Stmt, Program}
use Rattle.language.specs.Limits.{most_globals, most_procs, fits_expr, fits_stmt}
use Rattle.language.specs.Nodes.{node_at, ExprAt, StmtAt}
use Rattle.language.specs.declared.nodes.Node.{Node}
use Rattle.language.specs.declared.nodes.Node.TheVariants as N
use Rattle.codegen.specs.Codegen.{constant, add_code, go_to, halve, less_code, load_cell, load_global, load_local, nand_code, pop, push, put_out, store_cell, store_global, store_local, sub_code, take_to_local, end_of_expr, code_expr, end_of_stmt, entry}
use Rattle.codegen.specs.Instructions.{Instruction, past}
use Rattle.codegen.specs.Layout.{value, code_limit}
use Rattle.compiler.specs.declared.parts.Parts.{Parts}
use Rattle.compiler.specs.declared.parts.Parts.TheVariants as P
use Rattle.compiler.specs.declared.source.Source.{Source}
use Rattle.compiler.specs.declared.writer.Writer.{Writer}
use Rattle.compiler.specs.Writing.{Emits, Wrote}

-- the expressions that a node has as parts
abbrev pub parts_of : Node → Parts
parts_of (N.Num n) = P.Nothing
parts_of (N.Loc n) = P.Nothing
parts_of (N.Glob n) = P.Nothing
parts_of (N.Cell j) = P.One j
parts_of (N.Add j k) = P.Two j k
parts_of (N.Sub j k) = P.Two j k
parts_of (N.Nand j k) = P.Two j k
parts_of (N.Less j k) = P.Two j k
parts_of (N.Half j) = P.One j
parts_of (N.Call f j) = P.One j
parts_of N.Skip = P.Nothing
parts_of (N.Then j k) = P.Nothing
parts_of (N.SetLoc n j) = P.One j
parts_of (N.SetGlob n j) = P.One j
parts_of (N.SetCell j k) = P.Two j k
parts_of (N.If j k l) = P.Nothing
parts_of (N.While j k) = P.Nothing
parts_of (N.Out j) = P.One j
parts_of (N.Take n) = P.Nothing
parts_of (N.Proc n j k) = P.Nothing

-- the block after the code of a node's parts, by the number of cells and the places of the procedures
abbrev pub last_block : ℕ → (ℕ → ℕ) → Node → List Instruction
last_block cells place (N.Num n) = constant value n
last_block cells place (N.Loc i) = load_local i
last_block cells place (N.Glob i) = load_global i
last_block cells place (N.Cell j) = load_cell cells
last_block cells place (N.Add j k) = pop ++ add_code
last_block cells place (N.Sub j k) = pop ++ sub_code
last_block cells place (N.Nand j k) = pop ++ nand_code
last_block cells place (N.Less j k) = pop ++ less_code
last_block cells place (N.Half j) = halve
last_block cells place (N.Call f j) = go_to (place f)
last_block cells place N.Skip = []
last_block cells place (N.Then j k) = []
last_block cells place (N.SetLoc i j) = store_local i
last_block cells place (N.SetGlob i j) = store_global i
last_block cells place (N.SetCell j k) = store_cell cells
last_block cells place (N.If j k l) = []
last_block cells place (N.While j k) = []
last_block cells place (N.Out j) = put_out
last_block cells place (N.Take i) = take_to_local i
last_block cells place (N.Proc n j k) = []

-- the place after a node's last block that begins at a place
abbrev pub past_last : Node → ℕ → ℕ
past_last d at = past (last_block 0 (λ f. 0) d) at

-- the numbers of a node that stand in its last block are within the widths of instructions and of tables
abbrev pub NodeFits : Node → Type 0
NodeFits (N.Num n) = Unit {0}
NodeFits (N.Loc i) = i < 512
NodeFits (N.Glob i) = i < most_globals
NodeFits (N.Cell j) = Unit {0}
NodeFits (N.Add j k) = Unit {0}
NodeFits (N.Sub j k) = Unit {0}
NodeFits (N.Nand j k) = Unit {0}
NodeFits (N.Less j k) = Unit {0}
NodeFits (N.Half j) = Unit {0}
NodeFits (N.Call f j) = f < most_procs
NodeFits N.Skip = Unit {0}
NodeFits (N.Then j k) = Unit {0}
NodeFits (N.SetLoc i j) = i < 512
NodeFits (N.SetGlob i j) = i < most_globals
NodeFits (N.SetCell j k) = Unit {0}
NodeFits (N.If j k l) = Unit {0}
NodeFits (N.While j k) = Unit {0}
NodeFits (N.Out j) = Unit {0}
NodeFits (N.Take i) = i < 512
NodeFits (N.Proc n j k) = Unit {0}

-- the limits are those of some number of locals, globals and procedures
pub record ExprFits (e : Expr) : Type 0 where
  pub locals : ℕ
  pub globals : ℕ
  pub procs : ℕ
  pub few_locals : locals ≤ 512
  pub few_globals : globals ≤ most_globals
  pub few_procs : procs ≤ most_procs
  pub fits : T (fits_expr locals globals procs e)

pub record StmtFits (s : Stmt) : Type 0 where
  pub locals : ℕ
  pub globals : ℕ
  pub procs : ℕ
  pub few_locals : locals ≤ 512
  pub few_globals : globals ≤ most_globals
  pub few_procs : procs ≤ most_procs
  pub fits : T (fits_stmt locals globals procs s)

-- the expressions es stand at the parts of node i, which are at later nodes
abbrev pub PartsAt : List Node → ℕ → Parts → List Expr → Type 0
PartsAt nodes i P.Nothing es = es ≡ []
PartsAt nodes i (P.One j) es = (a : Expr) × (es ≡ a ∷ []) × (i < j) × ExprAt nodes j a
PartsAt nodes i (P.Two j k) es = (a : Expr) × (b : Expr) × (es ≡ a ∷ b ∷ []) × (i < j) × (i < k) × ExprAt nodes j a × ExprAt nodes k b

abbrev pub AllFit : List Expr → Type 0
AllFit [] = Unit {0}
AllFit (e ∷ es) = ExprFits e × AllFit es

-- the code of parts, with a push between two; and where it ends
abbrev pub code_more : Program → List Expr → List Instruction → List Instruction
code_more g [] rest = rest
code_more g (e ∷ es) rest = push ++ code_expr g e (code_more g es rest)

abbrev pub code_parts : Program → List Expr → List Instruction → List Instruction
code_parts g [] rest = rest
code_parts g (e ∷ es) rest = code_expr g e (code_more g es rest)

abbrev pub end_of_more : List Expr → ℕ → ℕ
end_of_more [] at = at
end_of_more (e ∷ es) at = end_of_more es (end_of_expr e (past push at))

abbrev pub end_of_parts : List Expr → ℕ → ℕ
end_of_parts [] at = at
end_of_parts (e ∷ es) at = end_of_more es (end_of_expr e at)

-- of a node with the parts es
abbrev pub work_code : Program → Node → List Expr → List Instruction → List Instruction
work_code g d es rest = code_parts g es (last_block g.cells (entry g) d ++ rest)

abbrev pub work_end : Node → List Expr → ℕ → ℕ
work_end d es at = past_last d (end_of_parts es at)

-- at node i stands work whose code, from a place on, is within the words for code
pub record Works (nodes : List Node) (i at : ℕ) : Type 0 where
  pub inside : i < length nodes
  pub exprs : List Expr
  pub parts_at : PartsAt nodes i (parts_of (node_at nodes i)) exprs
  pub node_fits : NodeFits (node_at nodes i)
  pub parts_fit : AllFit exprs
  pub room : work_end (node_at nodes i) exprs at ≤ code_limit

-- at node i stands a statement whose code, from a place on, is within the words for code
pub record StmtWorks (nodes : List Node) (i at : ℕ) : Type 0 where
  pub inside : i < length nodes
  pub stmt : Stmt
  pub stands : StmtAt nodes i stmt
  pub fits : StmtFits stmt
  pub room : end_of_stmt stmt at ≤ code_limit

-- the number of cells and the table of places are those of the program g
pub record Target (g : Program) (cells : ℕ) (places : List ℕ) : Type 0 where
  pub cells_is : cells ≡ g.cells
  pub places_are : (f : ℕ) → f < most_procs → word places f ≡ entry g f

-- the code of node i ends at the place r
abbrev pub EndsWork : List Node → ℕ → ℕ → ℕ → Type 0
EndsWork nodes i at r = (es : List Expr) → PartsAt nodes i (parts_of (node_at nodes i)) es → r ≡ work_end (node_at nodes i) es at

-- the code of node i was written
abbrev pub EmitsWork : List Node → ℕ → ℕ → List ℕ → ℕ → List ℕ → ℕ → List ℕ → Type 0
EmitsWork nodes i cells places at m r m' = (g : Program) → Target g cells places → (es : List Expr) → PartsAt nodes i (parts_of (node_at nodes i)) es → Emits (work_code g (node_at nodes i) es) (work_end (node_at nodes i) es at) at m r m'

-- a writer wrote the last block of the node d, from what the source c has
abbrev pub Finished : Source → Node → Writer → Writer → Type 0
Finished c d w w' = Wrote (last_block c.cells (λ f. word c.places.now f) d) w w'

-- a writer wrote the code of node i, from what the source c has
pub record WroteWork (c : Source) (i : ℕ) (w w' : Writer) : Type 0 where
  pub same_image : w'.image.ghost_name ≡ w.image.ghost_name
  pub ends : EndsWork c.nodes.now i w.at w'.at
  pub words : EmitsWork c.nodes.now i c.cells c.places.now w.at w.image.now w'.at w'.image.now
