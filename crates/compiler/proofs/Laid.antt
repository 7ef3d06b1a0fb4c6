-- The code of a statement, from that of its parts and of the ways between them.
use Rattle.std.proofs.Common.{◌≡◌, ℕ, ◌+◌, List, ◌++◌, sym, ap, ◌∙◌, subst, arith}
use Rattle.language.specs.Language.{Expr, Stmt, if, while}
use Rattle.language.specs.Nodes.{node_at}
use Rattle.language.specs.declared.nodes.Node.{Node}
use Rattle.language.specs.declared.nodes.Node.TheVariants as N
use Rattle.codegen.specs.Codegen.{go_to, go_unless_zero, code_expr, end_of_stmt, code_stmt, else_place, then_place, loop_place}
use Rattle.codegen.specs.Instructions.{Instruction, past}
use Rattle.compiler.specs.Writing.{put_all, Writes}
use Rattle.compiler.specs.Work.{EndsWork, EmitsWork}
use Rattle.compiler.specs.Statements.{EndsStmt, EmitsStmt}
use Rattle.compiler.specs.Sizes.{go_words, go_unless_words, loop_words}
use Rattle.compiler.proofs.Writings.{emits_both}
use Rattle.compiler.proofs.Works.{expr_ended, expr_emitted}
use Rattle.compiler.proofs.Stmts.{Simple, simple_is_work, unroll}

-- Where the code of a statement ends, from where that of its parts does.
module _ (nodes : List Node) (i at : ℕ) where
  pub ends_simple : (r : ℕ) → Simple (node_at nodes i) → EndsWork nodes i at r → EndsStmt nodes i at r
  ends_simple r h e s p = let w = simple_is_work nodes i at s h p in e w.exprs w.parts_at ∙ sym (w.end_is at)

  pub ends_then : (j k x r : ℕ) → node_at nodes i ≡ N.Then j k → EndsStmt nodes j at x → EndsStmt nodes k x r → EndsStmt nodes i at r
  ends_then j k x r e h h' s p =
      let u = unroll nodes i (N.Then j k) s e p in
      let q = u.says in
      subst (λ (z : Stmt). r ≡ end_of_stmt z at) (sym q.2) (h' q.1 (u.depth, q.6) ∙ ap (end_of_stmt q.1) (h q.0 (u.depth, q.5)))

  pub ends_if : (j k l p₁ p₂ p₃ p₄ r : ℕ) → node_at nodes i ≡ N.If j k l → EndsWork nodes j at p₁ → p₂ ≡ p₁ + go_unless_words → EndsStmt nodes l p₂ p₃ → p₄ ≡ p₃ + go_words → EndsStmt nodes k p₄ r → EndsStmt nodes i at r
  ends_if j k l p₁ p₂ p₃ p₄ r e test way second on first s p =
      let u = unroll nodes i (N.If j k l) s e p in
      let q = u.says in
      let test-end = expr_ended nodes j q.0 at p₁ (u.depth, q.7) test in
      let second_place : p₂ ≡ else_place q.0 at = omega arith in
      let second-end = second q.2 (u.depth, q.9) ∙ ap (end_of_stmt q.2) second_place in
      let first-place : p₄ ≡ then_place q.0 q.2 at = omega arith in
      subst (λ (z : Stmt). r ≡ end_of_stmt z at) (sym q.3) (first q.1 (u.depth, q.8) ∙ ap (end_of_stmt q.1) first-place)

  pub ends_while : (j k x z y r : ℕ) → node_at nodes i ≡ N.While j k → EndsWork nodes j at x → z ≡ x + loop_words → EndsStmt nodes k z y → r ≡ y + go_words → EndsStmt nodes i at r
  ends_while j k x z y r e test ways body again s p =
      let u = unroll nodes i (N.While j k) s e p in
      let q = u.says in
      let test-end = expr_ended nodes j q.0 at x (u.depth, q.5) test in
      let body_place : z ≡ loop_place q.0 at = omega arith in
      let body_end = body q.1 (u.depth, q.6) ∙ ap (end_of_stmt q.1) body_place in
      let end : r ≡ past (go_to 0) (end_of_stmt q.1 (loop_place q.0 at)) = omega arith in
      subst (λ (z : Stmt). r ≡ end_of_stmt z at) (sym q.2) end

-- The code itself.
module _ (nodes : List Node) (i cells : ℕ) (places : List ℕ) (at : ℕ) (m : List ℕ) where
  -- Statements that are work.
  pub emits_simple : (r : ℕ) (m' : List ℕ) → Simple (node_at nodes i) → EmitsWork nodes i cells places at m r m' → EmitsStmt nodes i cells places at m r m'
  emits_simple r m' h e g t s p =
      let w = simple_is_work nodes i at s h p in
      let x = e g t w.exprs w.parts_at in
      record { ends = x.ends ∙ sym (w.end_is at); words = λ rest. ap (λ (is : List Instruction). put_all m at is) (w.code_is g rest) ∙ x.words rest }

  -- One statement and then another.
  pub emits_then : (j k x r : ℕ) (m₁ m' : List ℕ) → node_at nodes i ≡ N.Then j k → EndsStmt nodes j at x → EndsStmt nodes k x r → EmitsStmt nodes j cells places at m x m₁ → EmitsStmt nodes k cells places x m₁ r m' → EmitsStmt nodes i cells places at m r m'
  emits_then j k x r m₁ m' e first_ends second-ends h h' g t s p =
      let u = unroll nodes i (N.Then j k) s e p in
      let q = u.says in
      let a : Stmt = q.0 in
      let b : Stmt = q.1 in
      let first = h g t a (u.depth, q.5) in
      let second = h' g t b (u.depth, q.6) in
      let middle = first_ends a (u.depth, q.5) in
      let all = emits_both first second in
      record {
        ends = ends_then nodes i at j k x r e first_ends second-ends s p;
        words = λ rest. ap (λ (z : Stmt). put_all m at (code_stmt g z at rest)) q.2 ∙ ap (λ (z : ℕ). put_all m at (code_stmt g a at (code_stmt g b z rest))) (sym middle) ∙ all.words rest;
      }

  -- A test and two statements. The ways name the places where they lead, which were measured before.
  pub emits_if : (j k l p₁ p₂ p₃ p₄ r over end : ℕ) (m₁ m₂ m₃ m₄ m' : List ℕ) → node_at nodes i ≡ N.If j k l →
      EndsWork nodes j at p₁ → EndsStmt nodes l (p₁ + go_unless_words) over → EndsStmt nodes k (over + go_words) end → EndsStmt nodes l p₂ p₃ → EndsStmt nodes k p₄ r →
      EmitsWork nodes j cells places at m p₁ m₁ → Writes (go_unless_zero (over + go_words)) p₁ m₁ p₂ m₂ → EmitsStmt nodes l cells places p₂ m₂ p₃ m₃ → Writes (go_to end) p₃ m₃ p₄ m₄ → EmitsStmt nodes k cells places p₄ m₄ r m' →
      EmitsStmt nodes i cells places at m r m'
  emits_if j k l p₁ p₂ p₃ p₄ r over end m₁ m₂ m₃ m₄ m' e test-ends over-ends whole-ends second-ends first_ends test way second on first g t s p =
      let u = unroll nodes i (N.If j k l) s e p in
      let q = u.says in
      let c : Expr = q.0 in
      let a : Stmt = q.1 in
      let b : Stmt = q.2 in
      let way_end = way.ends in
      let on-end = on.ends in
      let test-end = expr_ended nodes j c at p₁ (u.depth, q.7) test-ends in
      let e₂ : else_place c at ≡ p₂ = omega arith in
      let else-is : p₁ + go_unless_words ≡ else_place c at = omega arith in
      let over-is : over ≡ end_of_stmt b (else_place c at) = over-ends b (u.depth, q.9) ∙ ap (end_of_stmt b) else-is in
      let second-end : p₃ ≡ end_of_stmt b (else_place c at) = second-ends b (u.depth, q.9) ∙ ap (end_of_stmt b) (sym e₂) in
      let e₄ : then_place c b at ≡ p₄ = omega arith in
      let first-place : then_place c b at ≡ over + go_words = omega arith in
      let eₑ : end_of_stmt (if c a b) at ≡ end = ap (end_of_stmt a) first-place ∙ sym (whole-ends a (u.depth, q.8)) in
      let all = emits_both (expr_emitted nodes j cells places c at m p₁ m₁ (u.depth, q.7) test g t) (emits_both way (emits_both (second g t b (u.depth, q.9)) (emits_both on (first g t a (u.depth, q.8))))) in
      let code : ℕ → ℕ → ℕ → ℕ → List Instruction → List Instruction = λ w x y z rest. code_expr g c (go_unless_zero w ++ code_stmt g b x (go_to y ++ code_stmt g a z rest)) in
      let written : (rest : List Instruction) → put_all m at (code (over + go_words) p₂ end p₄ rest) ≡ put_all m' r rest = all.words in
      record {
        ends = ends_if nodes i at j k l p₁ p₂ p₃ p₄ r e test-ends (omega arith) second-ends (omega arith) first_ends s p;
        words = λ rest. ap (λ (z : Stmt). put_all m at (code_stmt g z at rest)) q.3
            ∙ ap (λ (w : ℕ). put_all m at (code w (else_place c at) (end_of_stmt (if c a b) at) (then_place c b at) rest)) first-place
            ∙ ap (λ (x : ℕ). put_all m at (code (over + go_words) x (end_of_stmt (if c a b) at) (then_place c b at) rest)) e₂
            ∙ ap (λ (y : ℕ). put_all m at (code (over + go_words) p₂ y (then_place c b at) rest)) eₑ
            ∙ ap (λ (z : ℕ). put_all m at (code (over + go_words) p₂ end z rest)) e₄
            ∙ written rest;
      }

  -- A test and a statement, again and again.
  pub emits_while : (j k p₁ p₂ p₃ p₄ r over : ℕ) (m₁ m₂ m₃ m₄ m' : List ℕ) → node_at nodes i ≡ N.While j k →
      EndsWork nodes j at p₁ → EndsStmt nodes k (p₁ + loop_words) over → EndsStmt nodes k p₃ p₄ →
      EmitsWork nodes j cells places at m p₁ m₁ → Writes (go_unless_zero (p₁ + loop_words)) p₁ m₁ p₂ m₂ → Writes (go_to (over + go_words)) p₂ m₂ p₃ m₃ → EmitsStmt nodes k cells places p₃ m₃ p₄ m₄ → Writes (go_to at) p₄ m₄ r m' →
      EmitsStmt nodes i cells places at m r m'
  emits_while j k p₁ p₂ p₃ p₄ r over m₁ m₂ m₃ m₄ m' e test-ends over-ends body-ends test way out body again g t s p =
      let u = unroll nodes i (N.While j k) s e p in
      let q = u.says in
      let c : Expr = q.0 in
      let a : Stmt = q.1 in
      let way_end = way.ends in
      let out-end = out.ends in
      let again-end = again.ends in
      let test-end = expr_ended nodes j c at p₁ (u.depth, q.5) test-ends in
      let e₃ : loop_place c at ≡ p₃ = omega arith in
      let body_is : loop_place c at ≡ p₁ + loop_words = omega arith in
      let over-is : over ≡ end_of_stmt a (loop_place c at) = over-ends a (u.depth, q.6) ∙ ap (end_of_stmt a) (sym body_is) in
      let eₑ : end_of_stmt (while c a) at ≡ over + go_words = omega arith in
      let all = emits_both (expr_emitted nodes j cells places c at m p₁ m₁ (u.depth, q.5) test g t) (emits_both way (emits_both out (emits_both (body g t a (u.depth, q.6)) again))) in
      let code : ℕ → ℕ → ℕ → List Instruction → List Instruction = λ w y z rest. code_expr g c (go_unless_zero w ++ (go_to y ++ code_stmt g a z (go_to at ++ rest))) in
      let written : (rest : List Instruction) → put_all m at (code (p₁ + loop_words) (over + go_words) p₃ rest) ≡ put_all m' r rest = all.words in
      record {
        ends = ends_while nodes i at j k p₁ p₃ p₄ r e test-ends (omega arith) body-ends (omega arith) s p;
        words = λ rest. ap (λ (z : Stmt). put_all m at (code_stmt g z at rest)) q.2
            ∙ ap (λ (w : ℕ). put_all m at (code w (end_of_stmt (while c a) at) (loop_place c at) rest)) body_is
            ∙ ap (λ (y : ℕ). put_all m at (code (p₁ + loop_words) y (loop_place c at) rest)) eₑ
            ∙ ap (λ (z : ℕ). put_all m at (code (p₁ + loop_words) (over + go_words) z rest)) e₃
            ∙ written rest;
      }
