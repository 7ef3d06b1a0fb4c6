use Rattle.std.proofs.Common.{◌≡◌, ◌+◌, ◌-◌, ◌≤◌, length, ap, subst, arith, rules}
use Rattle.std.proofs.lemmas.List.{length-take-le}
use Rattle.words.specs.Words.{memory_size}
use Rattle.circuit.specs.Circuit.{input_signals}
use Rattle.circuit.specs.Sheet.{levels, sheet_size}
use Rattle.board.specs.Board.{asked, lent}
use Rattle.board.specs.Slices.{Counted, SoundSheet}
use Rattle.board.proofs.Bytes.{clean_of}
use Rattle.board.proofs.Cuts.{next_length}
use Rattle.board.proofs.Spinning.{not_sound, went}
use Rattle.board.proofs.spin.Goals as goal

pub returns-in_err-parts : goal.returns-in_err-parts
returns-in_err-parts c =
    let all : c.in_ok-signals.signals ≡ input_signals + (c.args.flops + c.args.gates) = subst (Counted _) c.in_ok-signals.ensures.ok_part c.signal_count.ensures in
    let bad : SoundSheet c.args.sheet.now c.args.flops c.args.gates → ⊥ = rw c.in_err-parts.ensures.ok_part at c.cut.ensures in
    let post = not_sound (asked c.args.sheet.now c.args.flops c.args.gates c.args.read c.args.tape.now c.args.cycles) (lent c.args.state.now c.args.mem.now c.args.out.now c.args.work.now) bad (omega arith) in
    search rules

pub run-requires : goal.run-requires
run-requires c =
    let all : c.in_ok-signals.signals ≡ input_signals + (c.args.flops + c.args.gates) = subst (Counted _) c.in_ok-signals.ensures.ok_part c.signal_count.ensures in
    let cut = rw c.in_ok-parts.ensures.ok_part at c.cut.ensures in
    let n = c.in_ok-signals.signals - 0 in
    let there : n ≤ length c.args.work.now = omega arith in
    let long : sheet_size c.args.flops c.args.gates ≤ length c.args.sheet.now = cut.sound.long in
    record {
      flops = omega (arith, ap length cut.next_is, next_length c.args.sheet.now c.args.flops c.args.gates long);
      signals = omega (arith, length-take-le n c.args.work.now there, cut.signals_is);
      memory = omega arith;
      clean = clean_of c.make_levels.new.state (levels c.args.state.now) c.make_levels.ensures;
    }

pub returns : goal.returns
returns c =
    let f = c.args.flops in
    let k = c.args.gates in
    let counted : c.in_ok-signals.signals ≡ input_signals + (f + k) = subst (Counted _) c.in_ok-signals.ensures.ok_part c.signal_count.ensures in
    let enough : input_signals + (f + k) ≤ length c.args.work.now = omega arith in
    let flops : length c.args.state.now ≡ f = omega arith in
    let memory : length c.args.mem.now ≡ memory_size = omega arith in
    let after = lent c.run.new.state c.run.new.mem c.run.new.out _ in
    let cut = rw c.in_ok-parts.ensures.ok_part at c.cut.ensures in
    rw c.ok_or-3.ensures.value
    (went _ _ flops memory enough _ _ _ _ cut _ c.make_levels.ensures after c.run.result c.run.ensures)
