use Rattle.std.proofs.Common.{ℕ, ◌-◌, ◌≢◌, List, length, take, drop, sym, arith}
use Rattle.std.proofs.lemmas.Bool.{eqb-true, eqb-false}
use Rattle.std.proofs.lemmas.List.{take_rest}
use Rattle.text.proofs.Cuts.{cut_none, cut_some}
use Rattle.text.proofs.cut.next_word.Goals as goal

pub returns-then-is_empty : goal.returns-then-is_empty
returns-then-is_empty c =
    let s = c.args.s.now in let b = c.blanks.result in
    cut_none s (take (length s - b) (drop b s)) b (take_rest s b) c.blanks.ensures.place (eqb-true _ 0 (sym c.if-is_empty.ensures))

pub returns : goal.returns
returns c =
    let s = c.args.s.now in let b = c.blanks.result in
    let t : List ℕ = take (length s - b) (drop b s) in
    let z : length t ≢ 0 = eqb-false (length t) 0 (sym c.if-is_empty.ensures) in
    cut_some s t c.split_at.result.0.now c.split_at.result.1.now b c.word_len.result (take_rest s b) c.blanks.ensures.place (omega arith) c.word_len.ensures.place c.split_at.ensures.front c.split_at.ensures.back
