-- Numbers, one for each sign of a program, in the order of the text; the words of a text that begin a sign.
use Rattle.std.specs.Prelude.{ℕ, suc, Bool, true, false, cond, List, [], ◌∷◌, take, Some, None, Option}
use Rattle.language.specs.Nodes.{most_nodes}
use Rattle.text.specs.declared.kinds.Kind.{Kind}
use Rattle.text.specs.declared.reader.Role.{Role}
use Rattle.text.specs.declared.reader.Role.TheVariants as R
use Rattle.text.specs.Kinds.{kind}
use Rattle.text.specs.Shapes.{shape}

-- the first of some numbers, as many as there is a place for
abbrev pub room : List ℕ → List ℕ
room numbers = take most_nodes numbers

-- a word of the language begins a sign, unless it begins the program as a whole
abbrev pub of_sign : Role → Bool
of_sign R.Expression = true
of_sign R.Statement = true
of_sign R.Procedure = true
of_sign R.Program = false

abbrev pub kind_of_sign : Option Kind → Bool
kind_of_sign None = false
kind_of_sign (Some k) = of_sign (shape k).role

-- the numbers of the words that begin a sign, where n words stand before them
abbrev pub sign_words : ℕ → List (List ℕ) → List ℕ
sign_words n [] = []
sign_words n (w ∷ ws) = cond (kind_of_sign (kind w)) (n ∷ sign_words (suc n) ws) (sign_words (suc n) ws)
