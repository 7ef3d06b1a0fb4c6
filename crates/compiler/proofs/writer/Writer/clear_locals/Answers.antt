use Rattle.std.proofs.Common.{◌≡◌, ℕ, suc, ◌+◌, ◌-◌, ◌++◌, ap, ◌∙◌, arith}
use Rattle.codegen.specs.Codegen.{clear_words}
use Rattle.codegen.proofs.Sizes.{length_clear}
use Rattle.compiler.specs.Writing.{put_all}
use Rattle.compiler.proofs.Writings.{past_length}
use Rattle.compiler.proofs.writer.Writer.clear_locals.Goals as goal

pub loop-i-preserved : goal.loop-i-preserved
loop-i-preserved c =
    let i = c.loop-i.i in let n = c.args.locals in let before = c.loop-i.self in let after = c.write.new.self in
    let left : n - i ≡ suc (n - (i + 1)) = omega arith in
    let next : suc i ≡ i + 1 = omega arith in
    record {
      same_image = cc;
      place = omega (arith, c.loop-i.invariant.place, c.write.ensures.words.ends);
      whole = λ rest. c.loop-i.invariant.whole rest ∙ ap (λ (k : ℕ). put_all before.image.now before.at (clear_words i k ++ rest)) left
          ∙ c.write.ensures.words.words (clear_words (suc i) (n - (i + 1)) ++ rest)
          ∙ ap (λ (k : ℕ). put_all after.image.now after.at (clear_words k (n - (i + 1)) ++ rest)) next;
    }

pub returns : goal.returns
returns c =
    let n = c.args.locals in let self = c.loop-i.self in
    let none : n - c.loop-i.i ≡ 0 = omega arith in
    record {
      same_image = cc;
      words = record {
        ends = omega (arith, c.loop-i.invariant.place, past_length (clear_words 0 n) c.args.self.now.at, length_clear 0 n);
        words = λ rest. c.loop-i.invariant.whole rest ∙ ap (λ (k : ℕ). put_all self.image.now self.at (clear_words c.loop-i.i k ++ rest)) none;
      };
    }
