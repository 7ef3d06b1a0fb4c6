-- What an argument is, and what it does to what was asked for.
use Rattle.std.specs.Prelude.{◌≡◌, ◌≢◌, ℕ, ◌<◌, Bool, true, false, List, [], ◌∷◌, ◌++◌, codes, slice_index, Option, Some, Result, Ok, Err, IfSome, IsSomeAnd}
use Rattle.std.specs.Borrow.{Bor}
use Rattle.decimal.specs.Decimal.{Writes}
use Rattle.console.specs.declared.request.Argument.{Argument}
use Rattle.console.specs.declared.request.Argument.TheVariants as A
use Rattle.console.specs.declared.request.Request.{Request}
use Rattle.console.specs.declared.request.RequestError.{RequestError}
use Rattle.console.specs.declared.request.RequestError.TheVariants.{UnknownOption, NoNumber, NoWord, OutOfMemory}

-- a number is written, and it is below a bound
abbrev pub NumberIn : List ℕ → ℕ → ℕ → Type 0
NumberIn text bound n = (n < bound) × Writes text n

-- the bounds of an option's number and of a word
abbrev pub number_bound : ℕ
number_bound = 4294967295

abbrev pub word_bound : ℕ
word_bound = 65536

-- What an argument is, where an option's number is due or not, and a number follows the option, if there is one.
abbrev pub Reads : Bool → Option (Bor (List ℕ)) → List ℕ → Result Argument RequestError → Type 0
Reads due option text (Ok (A.Number n)) = (due ≡ true) × NumberIn text number_bound n
Reads due option text (Ok A.Help) = (due ≡ false) × (text ≡ codes "--help")
Reads due option text (Ok A.NumberOption) = (due ≡ false) × IsSomeAnd option (λ name. name.now ≡ text)
Reads due option text (Ok (A.Word w)) = (due ≡ false) × NumberIn text word_bound w
Reads due option text (Err NoNumber) = (due ≡ true) × ((n : ℕ) → NumberIn text number_bound n → ⊥)
Reads due option text (Err UnknownOption) = (due ≡ false) × (text ≢ codes "--help") × IfSome option (λ name. name.now ≢ text) × (slice_index text 0 ≡ 45)
Reads due option text (Err NoWord) = (due ≡ false) × ((n : ℕ) → NumberIn text word_bound n → ⊥)
Reads due option text (Err OutOfMemory) = ⊥

-- what was asked for, and an argument more
abbrev pub Adds : Argument → Request → Request → Type 0
Adds (A.Number n) old new = (new.help ≡ old.help) × (new.number ≡ Some n) × (new.number_next ≡ false) × (new.tape.items ≡ old.tape.items)
Adds A.Help old new = (new.help ≡ true) × (new.number ≡ old.number) × (new.number_next ≡ false) × (new.tape.items ≡ old.tape.items)
Adds A.NumberOption old new = (new.help ≡ old.help) × (new.number ≡ old.number) × (new.number_next ≡ true) × (new.tape.items ≡ old.tape.items)
Adds (A.Word w) old new = (new.help ≡ old.help) × (new.number ≡ old.number) × (new.number_next ≡ false) × (new.tape.items ≡ old.tape.items ++ (w ∷ []))

-- nothing that was asked for has changed
abbrev pub Same : Request → Request → Type 0
Same old new = (new.help ≡ old.help) × (new.number ≡ old.number) × (new.number_next ≡ old.number_next) × (new.tape.items ≡ old.tape.items)

-- The argument is taken; or it is refused for what it is, or for want of memory, and nothing has changed.
abbrev pub Takes : Option (Bor (List ℕ)) → List ℕ → Request → Request → Result Unit RequestError → Type 0
Takes option text old new (Ok _) = (a : Argument) × Reads old.number_next option text (Ok a) × Adds a old new
Takes option text old new (Err OutOfMemory) = Same old new
Takes option text old new (Err UnknownOption) = Same old new × Reads old.number_next option text (Err UnknownOption)
Takes option text old new (Err NoNumber) = Same old new × Reads old.number_next option text (Err NoNumber)
Takes option text old new (Err NoWord) = Same old new × Reads old.number_next option text (Err NoWord)
