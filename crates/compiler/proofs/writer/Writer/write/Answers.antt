use Rattle.std.proofs.Common.{◌≡◌, ℕ, List, ◌++◌, map, length, drop, ap, ◌∙◌, arith}
use lib.ListN.{length-map}
use lib.Seq.{drop-length}
use Rattle.compiler.specs.Writing.{meaning, put_all}
use Rattle.compiler.proofs.Writings.{within_at, write_more, past_length}
use Rattle.compiler.proofs.writer.Writer.write.Goals as goal

pub word_of-requires : goal.word_of-requires
word_of-requires c = within_at c.args.code.now c.loop-instruction.instruction-index _ c.requires.widths c.loop-instruction-test.true

pub loop-instruction-preserved : goal.loop-instruction-preserved
loop-instruction-preserved c =
    let self = c.loop-instruction.self in
    record {
      same_image = cc;
      place = omega (arith, c.loop-instruction.invariant.place);
      whole = λ rest. c.loop-instruction.invariant.whole rest ∙ write_more c.args.code.now c.loop-instruction.instruction-index _ self.image.now self.at c.word_of.result rest c.loop-instruction-test.true c.word_of.ensures;
    }

pub returns : goal.returns
returns c =
    let code = c.args.code.now in let self = c.loop-instruction.self in
    let all : c.loop-instruction.instruction-index ≡ length code = omega arith in
    record {
      same_image = cc;
      words = record {
        ends = omega (arith, c.loop-instruction.invariant.place, past_length (map meaning code) c.args.self.now.at, length-map code meaning);
        words = λ rest. c.loop-instruction.invariant.whole rest ∙ ap (λ (i : ℕ). put_all self.image.now self.at (map meaning (drop i code) ++ rest)) all ∙ ap (λ (l : List _). put_all self.image.now self.at (map meaning l ++ rest)) (drop-length code);
      };
    }
