use Rattle.std.proofs.Common.{Err, sym, ◌∙◌, arith}
use Rattle.std.proofs.lemmas.Result.{err_from_is_err_and}
use Rattle.text.specs.Text.{words}
use Rattle.text.specs.declared.judge.Refused.TheVariants.{NoProgram}
use Rattle.text.proofs.Cuts.{words_few}
use Rattle.text.proofs.Steps.{underway_more, underway_stuck, underway_end, underway_roomy}
use Rattle.text.proofs.Judging.{missing, judged_stuck, the_verdict}
use Rattle.text.proofs.judge.judge.Goals as goal

pub step-requires : goal.step-requires
step-requires c = underway_roomy (words c.args.text.now) (words c.loop-word.word-iterator.rest.now) _ _ c.loop-word.reader c.loop-word.invariant c.in-Some.ensures.steps (omega (arith, words_few c.args.text.now))

pub returns-in_err-reader : goal.returns-in_err-reader
returns-in_err-reader c =
    let p = err_from_is_err_and c.from_residual.result c.from_residual.ensures.1 in
    let m = missing c.step.result c.in_err-reader.field-0.0 c.in_err-reader.ensures.value in
    rw (p.1, p.2, m.1) (the_verdict c.args.text.now (Err NoProgram) (judged_stuck c.args.text.now (underway_stuck (words c.args.text.now) (words c.loop-word.word-iterator.rest.now) _ _ c.loop-word.reader c.loop-word.invariant c.in-Some.ensures.steps (m.0 ∙ c.step.ensures))))

pub loop-word-preserved : goal.loop-word-preserved
loop-word-preserved c = underway_more (words c.args.text.now) (words c.loop-word.word-iterator.rest.now) _ _ c.loop-word.reader c.in_ok-reader.reader c.loop-word.invariant c.in-Some.ensures.steps (sym c.in_ok-reader.ensures.ok_part ∙ c.step.ensures)

pub returns : goal.returns
returns c = the_verdict c.args.text.now c.verdict.result (c.verdict.ensures c.args.text.now (underway_end (words c.args.text.now) (words c.loop-word.word-iterator.rest.now) c.loop-word.reader c.loop-word.invariant c.in-None.ensures.steps.0))
