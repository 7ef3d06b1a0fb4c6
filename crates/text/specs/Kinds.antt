-- The words of the language by kind.
use Rattle.std.specs.Prelude.{ℕ, Bool, false, cond, List, [], ◌∷◌, None, Option, nat_lt, find}
use Rattle.std.specs.Str.{bytes_eq}
use Rattle.text.specs.declared.kinds.Kind.{Kind}
use Rattle.text.specs.declared.kinds.Kind.TheVariants as K
use Rattle.text.specs.Text.{w_num, w_loc, w_glob, w_cell, w_add, w_sub, w_nand, w_less, w_half, w_call, w_skip, w_then, w_setloc, w_setglob, w_setcell, w_if, w_while, w_out, w_take, w_program, w_proc}

-- how a word of a kind is written
abbrev pub spelled : Kind → List ℕ
spelled K.Num = w_num
spelled K.Loc = w_loc
spelled K.Glob = w_glob
spelled K.Cell = w_cell
spelled K.Add = w_add
spelled K.Sub = w_sub
spelled K.Nand = w_nand
spelled K.Less = w_less
spelled K.Half = w_half
spelled K.Call = w_call
spelled K.Skip = w_skip
spelled K.Then = w_then
spelled K.SetLoc = w_setloc
spelled K.SetGlob = w_setglob
spelled K.SetCell = w_setcell
spelled K.If = w_if
spelled K.While = w_while
spelled K.Out = w_out
spelled K.Take = w_take
spelled K.Program = w_program
spelled K.Proc = w_proc

-- all kinds
abbrev pub kinds : List Kind
kinds = K.Num ∷ K.Loc ∷ K.Glob ∷ K.Cell ∷ K.Add ∷ K.Sub ∷ K.Nand ∷ K.Less ∷ K.Half ∷ K.Call ∷ K.Skip ∷ K.Then ∷ K.SetLoc ∷ K.SetGlob ∷ K.SetCell ∷ K.If ∷ K.While ∷ K.Out ∷ K.Take ∷ K.Program ∷ K.Proc ∷ []

-- the first of some kinds that is written so
abbrev pub lookup : List ℕ → List Kind → Option Kind
lookup w ks = find (λ k. bytes_eq w (spelled k)) ks

-- a word that begins below 'a' has no kind, which is told at once
abbrev pub lettered : List ℕ → Bool
lettered [] = false
lettered (c ∷ cs) = nat_lt 96 c

-- the kind of a word, if it is a word of the language
unfoldable pub kind : List ℕ → Option Kind
kind w = cond (lettered w) (lookup w kinds) None
