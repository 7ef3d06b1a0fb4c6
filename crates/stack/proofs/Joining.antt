-- The layers joined: the program's run, the machine's and the board's, one after the other; and from this what the lamps
-- show after so many cycles.
use Rattle.std.proofs.Common.{◌≡◌, refl, ◌∙◌}
use Rattle.words.proofs.Runs.{joined, prefix_trans}
use Rattle.circuit.specs.Circuit.{board_run}
use Rattle.circuit.proofs.Ticking.{board_grows}
use Rattle.machine.specs.Machine.{begin, machine_run}
use Rattle.language.specs.Language.{program_run}
use Rattle.drawing.specs.Drawing.{course_cycles}
use Rattle.codegen.specs.Codegen.{image}
use Rattle.codegen.proofs.Images.{images_right}
use Rattle.stack.specs.Stack.{LayersJoin}
use Rattle.stack.specs.Lamps.{LampsRight}

pub layers_join : LayersJoin
layers_join g mem allowed c memory image-of drawing tape words =
    joined (program_run g tape) (machine_run mem tape) (board_run c mem tape) (image-of tape words) (drawing.does mem tape memory words)

pub lamps_right : LampsRight
lamps_right g within c drawing tape words cycles =
    let right = images_right g within in
    let mem = image g in
    let grows = board_grows c mem tape in
    let follows = layers_join g mem course_cycles c right.is_memory right.does_the_same drawing tape words in
    record {
      nothing_else = follows.no_more cycles;
      ends_right = follows.no_end cycles;
      image_keeps_up = (right.does_the_same tape words).reaches;
      image_ends = (right.does_the_same tape words).finishes;
      nothing_missing = λ t enough. prefix_trans (machine_run mem tape t).shown (board_run c mem tape (course_cycles (begin mem tape) t)).shown (board_run c mem tape cycles).shown
          (drawing.soon mem tape right.is_memory words t) (grows.more (course_cycles (begin mem tape) t) cycles enough);
      halts_in_time = λ t enough halts.
          (let alike = drawing.halts_soon mem tape right.is_memory words t halts in
          let there = board_run c mem tape (course_cycles (begin mem tape) t) in
          let same : there ≡ machine_run mem tape t = rw (alike.same_words, alike.same_tape, alike.same_ending) refl in
          grows.stays (course_cycles (begin mem tape) t) cycles enough (rw alike.same_ending halts) ∙ same);
    }
