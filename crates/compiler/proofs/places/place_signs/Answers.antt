use Rattle.std.proofs.Common.{◌≡◌, ℕ, suc, ◌+◌, ◌++◌, List, length, drop, sym, ap, ◌∙◌, append-nil, arith}
use Rattle.language.specs.Language.{Proc}
use Rattle.codegen.specs.Codegen.{entry, first_proc}
use Rattle.text.specs.Signs.{room}
use Rattle.text.proofs.Noting.{room_all}
use Rattle.signs.specs.Places.{sign_places, places_procs}
use Rattle.compiler.proofs.Placed.{proc_place_first, next_listed, all_listed}
use Rattle.compiler.proofs.Noted.{noted_more}
use Rattle.compiler.proofs.places.place_signs.Goals as goal

pub loop-procedure-init : goal.loop-procedure-init
loop-procedure-init c = λ g h. (sym (proc_place_first g.procs first_proc), omega (arith, ap length c.new-places.ensures), ap (λ (m : List ℕ). room (m ++ places_procs g.procs first_proc)) (sym c.new-places.ensures))

pub place_proc-requires : goal.place_proc-requires
place_proc-requires c =
    let p = c.requires in let l = c.loop-procedure in let ds = c.procedures-procedure-items in
    (next_listed c.args.parsed.now p.0 ds.result.now l.procedure-index l.at p.1 ds.ensures.entries ds.ensures.all c.loop-procedure-test.true (l.invariant p.0 p.1).0).works

pub measure_proc-at-requires : goal.measure_proc-at-requires
measure_proc-at-requires c =
    let p = c.requires in let l = c.loop-procedure in let ds = c.procedures-procedure-items in
    (next_listed c.args.parsed.now p.0 ds.result.now l.procedure-index l.at p.1 ds.ensures.entries ds.ensures.all c.loop-procedure-test.true (l.invariant p.0 p.1).0).works

pub loop-procedure-preserved : goal.loop-procedure-preserved
loop-procedure-preserved c = λ g h.
    let l = c.loop-procedure in let f = l.procedure-index in
    let i = l.invariant g h in
    let ds = c.procedures-procedure-items in
    let n = next_listed c.args.parsed.now g ds.result.now f l.at h ds.ensures.entries ds.ensures.all c.loop-procedure-test.true i.0 in
    let next : suc f ≡ f + 1 = omega arith in
    let end = c.measure_proc-at.ensures n.proc n.is in
    let k = c.place_proc in (
      end ∙ sym n.next ∙ ap (entry g) next,
      (k.ensures n.proc n.is).few,
      i.2 ∙ noted_more n.proc (drop (suc f) g.procs) (drop f g.procs) l.at c.measure_proc-at.result l.places.items k.new.places.items n.left end (k.ensures n.proc n.is)
          ∙ ap (λ (z : ℕ). room (k.new.places.items ++ places_procs (drop z g.procs) c.measure_proc-at.result)) next,
    )

pub returns : goal.returns
returns c = λ g h.
    let l = c.loop-procedure in let i = l.invariant g h in let ds = c.procedures-procedure-items in
    let left = all_listed c.args.parsed.now g ds.result.now l.procedure-index h ds.ensures.all l.auto.procedure-index-end c.loop-procedure-test.false in
    let whole : room (sign_places g) ≡ l.places.items = i.2 ∙ ap (λ (z : List Proc). room (l.places.items ++ places_procs z l.at)) left ∙ ap room (append-nil l.places.items) ∙ room_all l.places.items i.1 in
    sym whole
