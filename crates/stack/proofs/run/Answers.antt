-- The image was built, the drawing is the machine, and the lamps are those of the board: so they are right.
use Rattle.std.proofs.Common.{sym, subst, rules}
use Rattle.words.specs.Words.{IsTape}
use Rattle.words.specs.Runs.{Seen}
use Rattle.circuit.specs.Circuit.{board_run}
use Rattle.circuit.specs.Sheet.{drawn}
use Rattle.stack.specs.Lamps.{RightLamps}
use Rattle.stack.proofs.Lighting.{words_are, built_right}
use Rattle.stack.proofs.run.Goals as goal

pub returns-in-Some : goal.returns-in-Some
returns-in-Some c =
    let tape = c.args.tape.now in
    let made = c.in_ok-build.ensures.leaves in
    let circuit = drawn c.in_ok-size.size.flops c.in_ok-size.size.gates c.draw.new.sheet in
    let words : IsTape tape = words_are tape (λ i. (c.type_inv.tape i).fits) in
    let right = built_right c.args.text.now c.build.new.image tape circuit c.args.cycles made c.in_ok-size.ensures.is_machine words in
    let shown = c.in-Some.ensures in (
      record { image_room = search rules; sheet_long = search rules; state_room = search rules; work_room = search rules },
      record {
        program = made.program;
        reads = made.reads;
        within = made.within;
        right = subst (λ (s : Seen). RightLamps made.program tape c.args.cycles s) (sym shown.0) right;
        placed = shown.1;
      },
    )

pub returns-in-None : goal.returns-in-None
returns-in-None c =
    let tape = c.args.tape.now in
    let made = c.in_ok-build.ensures.leaves in
    let circuit = drawn c.in_ok-size.size.flops c.in_ok-size.size.gates c.draw.new.sheet in
    let words : IsTape tape = words_are tape (λ i. (c.type_inv.tape i).fits) in
    let right = built_right c.args.text.now c.build.new.image tape circuit c.args.cycles made c.in_ok-size.ensures.is_machine words in
    let seen = board_run circuit c.build.new.image tape c.args.cycles in (
      record { image_room = search rules; sheet_long = search rules; state_room = search rules; work_room = search rules },
      (made.program, made.reads, made.within, (seen, right, c.in-None.ensures)),
    )
