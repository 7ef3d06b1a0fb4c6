-- What a writer wrote at a node or for a procedure, from what it wrote for the parts, one after the other.
use Rattle.std.proofs.Common.{◌≡◌, ℕ, ◌+◌, sym, ap, ◌∙◌, arith}
use Rattle.words.specs.Words.{word}
use Rattle.language.specs.Nodes.{node_at}
use Rattle.language.specs.declared.nodes.Node.TheVariants as N
use Rattle.language.specs.declared.nodes.Procedure.{Procedure}
use Rattle.codegen.specs.Codegen.{push, go_to, go_unless_zero, clear_words, end_of_stmt}
use Rattle.compiler.specs.declared.parts.Parts.TheVariants as P
use Rattle.compiler.specs.declared.source.Source.{Source}
use Rattle.compiler.specs.declared.writer.Writer.{Writer}
use Rattle.compiler.specs.Frames.{room_test, frame_made, frame_left}
use Rattle.compiler.specs.Procs.{FrameOf, WroteProc}
use Rattle.compiler.specs.Sizes.{go_words, go_unless_words, loop_words, return_words}
use Rattle.compiler.specs.Statements.{EndsStmt, WroteStmt}
use Rattle.compiler.specs.Work.{parts_of, NodeFits, Finished, WroteWork}
use Rattle.compiler.specs.Writing.{Wrote}
use Rattle.compiler.proofs.Emitted.{block_ends, ends_one, emits_one, ends_two, emits_two}
use Rattle.compiler.proofs.Laid.{ends_simple, emits_simple, ends_then, emits_then, ends_if, emits_if, ends_while, emits_while}
use Rattle.compiler.proofs.Procedures.{body_begins, ends_proc, emits_proc}
use Rattle.compiler.proofs.Stmts.{Simple}

module _ {c : Source} {i : ℕ} {w w' : Writer} where
  -- Work with one part, and with two.
  pub wrote_one : {j : ℕ} {w₁ : Writer} → P.One j ≡ parts_of (node_at c.nodes.now i) → NodeFits (node_at c.nodes.now i) → WroteWork c j w w₁ → Finished c (node_at c.nodes.now i) w₁ w' → WroteWork c i w w'
  wrote_one {j} {w₁} e h p f = record {
    same_image = cc;
    ends = ends_one c.nodes.now i w.at j w₁.at w'.at e p.ends (f.words.ends ∙ block_ends c.cells (λ n. word c.places.now n) (node_at c.nodes.now i) w₁.at);
    words = emits_one c.nodes.now i c.cells c.places.now w.at w.image.now j w₁.at w'.at w₁.image.now w'.image.now e h p.ends p.words f.words;
  }

  pub wrote_two : {j k : ℕ} {w₁ w₂ w₃ : Writer} → P.Two j k ≡ parts_of (node_at c.nodes.now i) → NodeFits (node_at c.nodes.now i) → WroteWork c j w w₁ → Wrote push w₁ w₂ → WroteWork c k w₂ w₃ → Finished c (node_at c.nodes.now i) w₃ w' → WroteWork c i w w'
  wrote_two {j} {k} {w₁} {w₂} {w₃} e h p q r f =
      let end = ends_two c.nodes.now i w.at j k w₁.at w₂.at w₃.at w'.at e p.ends q.words.ends r.ends (f.words.ends ∙ block_ends c.cells (λ n. word c.places.now n) (node_at c.nodes.now i) w₃.at) in
      record {
        same_image = cc;
        ends = end;
        words = emits_two c.nodes.now i c.cells c.places.now w.at w.image.now j k w₁.at w₂.at w₃.at w'.at w₁.image.now w₂.image.now w₃.image.now w'.image.now e h end p.words q.words r.words f.words;
      }

  -- Statements that are work.
  pub wrote_simple : Simple (node_at c.nodes.now i) → WroteWork c i w w' → WroteStmt c i w w'
  wrote_simple h p = record {
    same_image = p.same_image;
    ends = ends_simple c.nodes.now i w.at w'.at h p.ends;
    words = emits_simple c.nodes.now i c.cells c.places.now w.at w.image.now w'.at w'.image.now h p.words;
  }

  -- One statement and then another.
  pub wrote_then : {j k : ℕ} {w₁ : Writer} → node_at c.nodes.now i ≡ N.Then j k → WroteStmt c j w w₁ → WroteStmt c k w₁ w' → WroteStmt c i w w'
  wrote_then {j} {k} {w₁} e p q = record {
    same_image = cc;
    ends = ends_then c.nodes.now i w.at j k w₁.at w'.at e p.ends q.ends;
    words = emits_then c.nodes.now i c.cells c.places.now w.at w.image.now j k w₁.at w'.at w₁.image.now w'.image.now e p.ends q.ends p.words q.words;
  }

  -- A test and two statements, with the measures of both.
  pub wrote_if : {j k l : ℕ} (over end : ℕ) {w₁ w₂ w₃ w₄ : Writer} → node_at c.nodes.now i ≡ N.If j k l → EndsStmt c.nodes.now l (w₁.at + go_unless_words) over → EndsStmt c.nodes.now k (over + go_words) end →
      WroteWork c j w w₁ → Wrote (go_unless_zero (over + go_words)) w₁ w₂ → WroteStmt c l w₂ w₃ → Wrote (go_to end) w₃ w₄ → WroteStmt c k w₄ w' → WroteStmt c i w w'
  wrote_if {j} {k} {l} over end {w₁} {w₂} {w₃} {w₄} e over-ends whole-ends p q r s f =
      let way = q.words.ends in
      let on = s.words.ends in
      record {
        same_image = cc;
        ends = ends_if c.nodes.now i w.at j k l w₁.at w₂.at w₃.at w₄.at w'.at e p.ends (omega arith) r.ends (omega arith) f.ends;
        words = emits_if c.nodes.now i c.cells c.places.now w.at w.image.now j k l w₁.at w₂.at w₃.at w₄.at w'.at over end w₁.image.now w₂.image.now w₃.image.now w₄.image.now w'.image.now e
            p.ends over-ends whole-ends r.ends f.ends p.words q.words r.words s.words f.words;
      }

  -- A test and a statement, again and again, with the measure of the statement.
  pub wrote_while : {j k : ℕ} (over : ℕ) {w₁ w₂ w₃ w₄ : Writer} → node_at c.nodes.now i ≡ N.While j k → EndsStmt c.nodes.now k (w₁.at + loop_words) over →
      WroteWork c j w w₁ → Wrote (go_unless_zero (w₁.at + loop_words)) w₁ w₂ → Wrote (go_to (over + go_words)) w₂ w₃ → WroteStmt c k w₃ w₄ → Wrote (go_to w.at) w₄ w' → WroteStmt c i w w'
  wrote_while {j} {k} over {w₁} {w₂} {w₃} {w₄} e over-ends p q r s f =
      let way = q.words.ends in
      let out = r.words.ends in
      let again = f.words.ends in
      record {
        same_image = cc;
        ends = ends_while c.nodes.now i w.at j k w₁.at w₃.at w₄.at w'.at e p.ends (omega arith) s.ends (omega arith);
        words = emits_while c.nodes.now i c.cells c.places.now w.at w.image.now j k w₁.at w₂.at w₃.at w₄.at w'.at over w₁.image.now w₂.image.now w₃.image.now w₄.image.now w'.image.now e
            p.ends over-ends s.ends p.words q.words r.words s.words f.words;
      }

-- A procedure.
pub wrote_proc : {c : Source} {d : Procedure} (size : ℕ) {w w₁ w₂ w₃ w₄ w' : Writer} → FrameOf c.nodes.now d size →
    Wrote (room_test size) w w₁ → Wrote (frame_made d.locals) w₁ w₂ → Wrote (clear_words 0 d.locals) w₂ w₃ → WroteStmt c d.body w₃ w₄ → Wrote (frame_left d.locals size) w₄ w' → WroteProc c d w w'
wrote_proc {c} {d} size {w} {w₁} {w₂} {w₃} {w₄} {w'} sized p q r s l =
    let place = body_begins d.locals w.at size w₁.at w₂.at w₃.at p.words.ends q.words.ends r.words.ends in
    let left = l.words.ends in
    let last : w'.at ≡ w₄.at + return_words = omega arith in
    let end = ends_proc c.nodes.now d w.at w₄.at w'.at (λ z stands. s.ends z stands ∙ ap (end_of_stmt z) (sym place)) last in
    record {
      same_image = cc;
      ends = end;
      words = emits_proc c.nodes.now d c.cells c.places.now w.at w.image.now size w₁.at w₂.at w₃.at w₄.at w'.at w₁.image.now w₂.image.now w₃.image.now w₄.image.now w'.image.now sized end p.words q.words r.words s.words l.words;
    }
