use Rattle.std.proofs.Common.{◌≡◌, ℕ, ◌-◌, ◌<◌, take, sym, refl, ap, ◌∙◌, subst, arith}
use Rattle.words.specs.Words.{All}
use Rattle.circuit.specs.Sheet.{levels}
use Rattle.board.specs.Slices.{bytes}
use Rattle.board.proofs.Bytes.{levels_of, bytes_low}
use Rattle.board.proofs.Ticking.{same_board}
use Rattle.board.proofs.start.power_on.Goals as goal

pub returns : goal.returns
returns c =
    let f = c.args.flops in
    let sheet = c.args.sheet.now in
    let e : f - 0 ≡ f = omega arith in
    let laid-is : c.lay_values.new.state ≡ bytes (levels (take f sheet)) = c.lay_values.ensures ∙ ap (λ (n : ℕ). bytes (levels (take n sheet))) e in (
      (omega arith, omega arith),
      subst (All (λ x. x < 2)) (sym laid-is) (bytes_low (levels (take f sheet))),
      λ k mem tape. same_board (levels_of _ (levels (take f sheet)) laid-is) refl refl refl refl refl,
    )
