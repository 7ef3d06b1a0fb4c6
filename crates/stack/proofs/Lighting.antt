-- From the slices that a run of the board leaves to what is seen of it, and from there to the program.
use Rattle.std.proofs.Common.{◌≡◌, ℕ, suc, ◌<◌, List, [], ◌∷◌, take, drop, sym, subst}
use Rattle.words.specs.Words.{word, IsTape}
use Rattle.words.specs.Runs.{Seen}
use Rattle.circuit.specs.Circuit.{Circuit, Board, seen_board, board_run}
use Rattle.board.specs.Board.{Left, Stands}
use Rattle.drawing.specs.Drawing.{IsMachine, course_cycles}
use Rattle.compiler.specs.Promise.{ImageMade}
use Rattle.stack.specs.Lamps.{RightLamps}
use Rattle.stack.proofs.Joining.{lamps_right}

-- what stands in the slices is what is seen of the board
pub stands_seen : (b : Board) (tape : List ℕ) (l : Left) → Stands b tape l → ◌≡◌ {A = Seen} (record { shown = take l.sent l.out; tape_left = drop l.taken tape; ending = l.halted }) (seen_board b)
stands_seen b tape l s =
    let words = s.out_is in
    let left = s.tape_is in
    let how = s.halt_is in
    cc

-- lent words are words
pub words_are : (ws : List ℕ) → ((i : ℕ) → word ws i < 65536) → IsTape ws
words_are [] h = tt
words_are (x ∷ ws) h = (h 0, words_are ws (λ i. h (suc i)))

-- an image that was built, on a drawing that is the machine
pub built_right : (text m tape : List ℕ) (c : Circuit) (cycles : ℕ) (made : ImageMade text m) → IsMachine course_cycles c → IsTape tape → RightLamps made.program tape cycles (board_run c m tape cycles)
built_right text m tape c cycles made machine words =
    subst (λ (i : List ℕ). RightLamps made.program tape cycles (board_run c i tape cycles)) (sym made.is) (lamps_right made.program made.within c machine tape words cycles)
