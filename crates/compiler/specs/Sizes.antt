-- How many words each block of code has that places are worked out from.
use Rattle.std.specs.Prelude.{ℕ, ◌+◌, length}
use Rattle.codegen.specs.Codegen.{push, go_to, go_unless_zero}
use Rattle.compiler.specs.Frames.{room_test, frame_made, frame_left}

abbrev pub push_words : ℕ
push_words = length push

-- a way that is always gone, and one that is gone unless the value is 0; both stand between a loop's test and its body
abbrev pub go_words : ℕ
go_words = length (go_to 0)

abbrev pub go_unless_words : ℕ
go_unless_words = length (go_unless_zero 0)

abbrev pub loop_words : ℕ
loop_words = go_unless_words + go_words

-- before a procedure's code that clears the locals, and after its body
abbrev pub head_words : ℕ
head_words = length (room_test 0) + length (frame_made 0)

abbrev pub return_words : ℕ
return_words = length (frame_left 0 0)
