-- What a word of each kind begins, what follows it, and how many expressions and statements it holds.
use Rattle.std.specs.Prelude.{ℕ}
use Rattle.text.specs.declared.kinds.Kind.{Kind}
use Rattle.text.specs.declared.kinds.Kind.TheVariants as K
use Rattle.text.specs.declared.reader.Role.{Role}
use Rattle.text.specs.declared.reader.Role.TheVariants as R
use Rattle.text.specs.declared.reader.Use.TheVariants.{Globals, Locals, Value, Local, Global, Callee}
use Rattle.text.specs.declared.reader.Need.{Need}
use Rattle.text.specs.declared.reader.Need.TheVariants.{Number, Owed}
use Rattle.text.specs.declared.reader.Shape.{Shape}

-- a shape, from its parts
abbrev pub begins : Role → Need → ℕ → ℕ → Shape
begins role next exprs stmts = record { role = role; next = next; exprs = exprs; stmts = stmts }

-- the table of the language's words
abbrev pub shape : Kind → Shape
shape K.Num = begins R.Expression (Number Value) 0 0
shape K.Loc = begins R.Expression (Number Local) 0 0
shape K.Glob = begins R.Expression (Number Global) 0 0
shape K.Cell = begins R.Expression Owed 1 0
shape K.Add = begins R.Expression Owed 2 0
shape K.Sub = begins R.Expression Owed 2 0
shape K.Nand = begins R.Expression Owed 2 0
shape K.Less = begins R.Expression Owed 2 0
shape K.Half = begins R.Expression Owed 1 0
shape K.Call = begins R.Expression (Number Callee) 1 0
shape K.Skip = begins R.Statement Owed 0 0
shape K.Then = begins R.Statement Owed 0 2
shape K.SetLoc = begins R.Statement (Number Local) 1 0
shape K.SetGlob = begins R.Statement (Number Global) 1 0
shape K.SetCell = begins R.Statement Owed 2 0
shape K.If = begins R.Statement Owed 1 2
shape K.While = begins R.Statement Owed 1 1
shape K.Out = begins R.Statement Owed 1 0
shape K.Take = begins R.Statement (Number Local) 0 0
shape K.Program = begins R.Program (Number Globals) 0 0
shape K.Proc = begins R.Procedure (Number Locals) 0 1
