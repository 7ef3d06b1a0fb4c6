use Rattle.std.proofs.Common.{◌≡◌, ℕ, suc, ◌+◌, List, drop, sym, refl, ap, ◌∙◌, arith, rules}
use Rattle.language.specs.Language.{Proc}
use Rattle.codegen.specs.Codegen.{entry, first_proc, code_procs}
use Rattle.compiler.specs.Writing.{put_all}
use Rattle.compiler.specs.Work.{Target}
use Rattle.compiler.proofs.Procedures.{small_frame}
use Rattle.compiler.proofs.Placed.{proc_place_first, next_listed, all_listed}
use Rattle.compiler.proofs.Whole.{procs_more, program_whole}
use Rattle.compiler.proofs.procs.emit_program.Goals as goal

-- what the writer leaves behind is what it wrote
left_behind : {m m' m'' : List ℕ} → m' ≡ m'' → m ≡ m' → m ≡ m''
left_behind e e' = e' ∙ e

pub loop-procedure-init : goal.loop-procedure-init
loop-procedure-init c = record { same_image = refl; whole = λ g h. (omega (arith, c.start.ensures.words.ends, proc_place_first g.procs first_proc), refl) }

pub emit_proc-requires-clause-works : goal.emit_proc-requires-clause-works
emit_proc-requires-clause-works c =
    let p = c.requires.stands in let l = c.loop-procedure in let ds = c.procedures-procedure-items in
    let n = next_listed c.args.parsed.now p.0 ds.result.now l.procedure-index l.writer.at p.1 ds.ensures.entries ds.ensures.all c.loop-procedure-test.true (l.invariant.whole p.0 p.1).0 in
    n.works

pub overflow_cast-size : goal.overflow_cast-size
overflow_cast-size c =
    let p = c.requires.stands in let l = c.loop-procedure in let ds = c.procedures-procedure-items in
    let n = next_listed c.args.parsed.now p.0 ds.result.now l.procedure-index l.writer.at p.1 ds.ensures.entries ds.ensures.all c.loop-procedure-test.true (l.invariant.whole p.0 p.1).0 in
    omega (arith, small_frame c.frame_of-size.result n.works c.frame_of-size.ensures)

pub loop-procedure-preserved : goal.loop-procedure-preserved
loop-procedure-preserved c = record {
  same_image = cc;
  whole = λ g h.
      let l = c.loop-procedure in let ds = c.procedures-procedure-items in let e = c.emit_proc in
      let i = l.invariant.whole g h in
      let f = l.procedure-index in
      let n = next_listed c.args.parsed.now g ds.result.now f l.writer.at h ds.ensures.entries ds.ensures.all c.loop-procedure-test.true i.0 in
      let next : suc f ≡ f + 1 = omega arith in
      let target : Target g c.args.parsed.now.sizes.cells c.args.places.now = record { cells_is = h.sized.cells; places_are = c.requires.placed g h } in (
        e.ensures.ends n.proc n.is ∙ sym n.next ∙ ap (entry g) next,
        i.1 ∙ procs_more g n.proc (drop (suc f) g.procs) (drop f g.procs) l.writer.at e.new.writer.at l.writer.image.now e.new.writer.image.now n.left (e.ensures.words g target n.proc n.is)
            ∙ ap (λ (z : ℕ). put_all e.new.writer.image.now e.new.writer.at (code_procs g (drop z g.procs) e.new.writer.at)) next,
      );
}

pub returns : goal.returns
returns c = λ g h.
    let l = c.loop-procedure in let i = l.invariant.whole g h in let ds = c.procedures-procedure-items in
    let left = all_listed c.args.parsed.now g ds.result.now l.procedure-index h ds.ensures.all l.auto.procedure-index-end c.loop-procedure-test.false in
    let written = program_whole g _ c.start.new.self.at c.args.image.now c.start.new.self.image.now l.writer.image.now (c.requires.placed g h 0 (omega arith)) c.start.ensures.words
    (i.1 ∙ ap (λ (z : List Proc). put_all l.writer.image.now l.writer.at (code_procs g z l.writer.at)) left) in
    left_behind written (search rules)
