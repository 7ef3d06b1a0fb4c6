-- The code of a procedure: where its body begins; its frame's size is a word; its code from that of its body.
use Rattle.std.proofs.Common.{◌≡◌, ℕ, ◌+◌, ◌<◌, ◌≤◌, List, ◌++◌, sym, ap, ◌∙◌, subst, arith}
use Rattle.language.specs.Language.{Stmt, skip, then, setloc, setglob, setcell, if, while, out, take, Proc, stmt_height, frame_size}
use Rattle.language.specs.declared.nodes.Node.{Node}
use Rattle.language.specs.declared.nodes.Procedure.{Procedure}
use Rattle.codegen.specs.Codegen.{push, end_of_expr, end_of_stmt, code_stmt, else_place, then_place, loop_place, check_room, make_frame, clear_words, body_place}
use Rattle.codegen.specs.Instructions.{Instruction, past}
use Rattle.codegen.specs.Layout.{code_limit}
use Rattle.codegen.proofs.Sizes.{past_is, length_clear, size_stmt}
use Rattle.compiler.specs.Writing.{put_all, Writes}
use Rattle.compiler.specs.Work.{StmtWorks}
use Rattle.compiler.specs.Statements.{EndsStmt, EmitsStmt}
use Rattle.compiler.specs.Procs.{ProcWorks, FrameOf, EndsProc, EmitsProc}
use Rattle.compiler.specs.Frames.{room_test, frame_made, frame_left}
use Rattle.compiler.specs.Sizes.{return_words, head_words}
use Rattle.compiler.proofs.Writings.{emits_both}
use Rattle.compiler.proofs.Parted.{height_below}
use Rattle.compiler.proofs.Stmts.{stmt_works}

-- code has at least as many words as its statement is high
pub stmt_height_below : (s : Stmt) (at : ℕ) → at + stmt_height s ≤ end_of_stmt s at
stmt_height_below skip at = omega arith
stmt_height_below (then s t) at = let h = stmt_height_below s at in let k = stmt_height_below t (end_of_stmt s at) in omega arith
stmt_height_below (setloc i e) at = let h = height_below e at in omega arith
stmt_height_below (setglob i e) at = let h = height_below e at in omega arith
stmt_height_below (setcell e f) at = let h = height_below e at in let k = height_below f (past push (end_of_expr e at)) in omega arith
stmt_height_below (if e s t) at = let h = height_below e at in let k = stmt_height_below t (else_place e at) in let l = stmt_height_below s (then_place e t at) in omega arith
stmt_height_below (while e s) at = let h = height_below e at in let k = stmt_height_below s (loop_place e at) in omega arith
stmt_height_below (out e) at = let h = height_below e at in omega arith
stmt_height_below (take i) at = omega arith

pub body_place_is : (p : Proc) (at : ℕ) → body_place p at ≡ at + head_words + p.locals
body_place_is p at =
    let made : ℕ = past (make_frame p) (past (check_room p) at) in
    omega (arith, past_is (clear_words 0 p.locals) made, length_clear 0 p.locals)

-- what is known where a procedure's code is to stand
pub record ProcFacts (nodes : List Node) (d : Procedure) (at : ℕ) : Type 0 where
  pub body_works : StmtWorks nodes d.body (at + head_words + d.locals)
  pub few : d.locals ≤ 64
  pub begins : at + head_words + d.locals ≤ code_limit
  pub room : (x : ℕ) → EndsStmt nodes d.body (at + head_words + d.locals) x → x + return_words ≤ code_limit

pub proc_facts : {nodes : List Node} {d : Procedure} {at : ℕ} → ProcWorks nodes d at → ProcFacts nodes d at
proc_facts {nodes} {d} {at} w =
    let p : Proc = w.proc in
    let same : d.locals ≡ p.locals = w.is.0 in
    let place = body_place_is p at in
    let body : at + head_words + d.locals ≡ body_place p at = omega arith in
    let room = w.room in
    let size = (size_stmt p.body (body_place p at)).1 in
    record {
      body_works = subst (λ (q : ℕ). StmtWorks nodes d.body q) (sym body) (stmt_works nodes d.body (body_place p at) p.body w.is.1 w.fits (omega arith));
      few = omega (arith, w.few);
      begins = omega arith;
      room = λ x h. let end = h p.body w.is.1 ∙ ap (end_of_stmt p.body) body in omega arith;
    }

-- the size of its frame is a word
pub small_frame : {nodes : List Node} {d : Procedure} {at : ℕ} (size : ℕ) → ProcWorks nodes d at → FrameOf nodes d size → size < 65536
small_frame {d = d} {at = at} size w h =
    let p : Proc = w.proc in
    let few = w.few in
    let room = w.room in
    let high = stmt_height_below p.body (body_place p at) in
    omega (arith, h p w.is)

-- where the body begins, behind the test for room, the making of the frame and the clearing of locals
pub body_begins : (locals at size p₁ p₂ p₃ : ℕ) → p₁ ≡ past (room_test size) at → p₂ ≡ past (frame_made locals) p₁ → p₃ ≡ past (clear_words 0 locals) p₂ → at + head_words + locals ≡ p₃
body_begins locals at size p₁ p₂ p₃ test made cleared =
    let count = past_is (clear_words 0 locals) p₂ in
    let counted = length_clear 0 locals in
    omega arith

pub ends_proc : (nodes : List Node) (d : Procedure) (at x r : ℕ) → EndsStmt nodes d.body (at + head_words + d.locals) x → r ≡ x + return_words → EndsProc nodes d at r
ends_proc nodes d at x r h e p is =
    let same : d.locals ≡ p.locals = is.0 in
    let place = body_place_is p at in
    let body : at + head_words + d.locals ≡ body_place p at = omega arith in
    let end = h p.body is.1 ∙ ap (end_of_stmt p.body) body in
    omega arith

module _ (nodes : List Node) (d : Procedure) (cells : ℕ) (places : List ℕ) (at : ℕ) (m : List ℕ) where
  pub emits_proc : (size p₁ p₂ p₃ p₄ r : ℕ) (m₁ m₂ m₃ m₄ m' : List ℕ) → FrameOf nodes d size → EndsProc nodes d at r →
      Writes (room_test size) at m p₁ m₁ → Writes (frame_made d.locals) p₁ m₁ p₂ m₂ → Writes (clear_words 0 d.locals) p₂ m₂ p₃ m₃ → EmitsStmt nodes d.body cells places p₃ m₃ p₄ m₄ → Writes (frame_left d.locals size) p₄ m₄ r m' →
      EmitsProc nodes d cells places at m r m'
  emits_proc size p₁ p₂ p₃ p₄ r m₁ m₂ m₃ m₄ m' sized ends test made cleared body left g t p is =
      let same : d.locals ≡ p.locals = is.0 in
      let size_is : frame_size p ≡ size = sym (sized p is) in
      let test-end = test.ends in
      let made-end = made.ends in
      let cleared-end = cleared.ends in
      let count = past_is (clear_words 0 d.locals) p₂ in
      let counted = length_clear 0 d.locals in
      let place = body_place_is p at in
      let body_is : body_place p at ≡ p₃ = omega arith in
      let all = emits_both test (emits_both made (emits_both cleared (emits_both (body g t p.body is.1) left))) in
      let code : ℕ → ℕ → ℕ → List Instruction → List Instruction = λ locals frame q rest. room_test frame ++ (frame_made locals ++ (clear_words 0 locals ++ code_stmt g p.body q (frame_left locals frame ++ rest))) in
      let written : (rest : List Instruction) → put_all m at (code d.locals size p₃ rest) ≡ put_all m' r rest = all.words in
      record {
        ends = ends p is;
        words = λ rest. ap (λ (q : ℕ). put_all m at (code p.locals (frame_size p) q rest)) body_is
            ∙ ap (λ (n : ℕ). put_all m at (code p.locals n p₃ rest)) size_is
            ∙ ap (λ (n : ℕ). put_all m at (code n size p₃ rest)) (sym same)
            ∙ written rest;
      }
