-- The parts of a statement: which they are, and that their code is within the words for code. Statements whose parts are
-- expressions are work; then 'then', 'if' and 'while'.
use Rattle.std.proofs.Common.{◌≡◌, ℕ, zero, suc, ◌+◌, ◌<◌, ◌≤◌, ◌&&◌, T, ltb, List, [], ◌∷◌, length, sym, refl, ap, ◌∙◌, subst, arith, ltb→lt}
use Rattle.language.specs.Language.{Expr, Stmt, then, setloc, setglob, setcell, if, while, out}
use Rattle.language.specs.Limits.{fits_expr, fits_stmt}
use Rattle.language.specs.Nodes.{node_at, IsExpr, StmtNode, IsStmt, StmtAt}
use Rattle.language.specs.declared.nodes.Node.{Node}
use Rattle.language.specs.declared.nodes.Node.TheVariants as N
use Rattle.codegen.specs.Codegen.{end_of_stmt, code_stmt, else_place, then_place, loop_place}
use Rattle.codegen.specs.Layout.{code_limit}
use Rattle.codegen.proofs.Rows.{both}
use Rattle.codegen.proofs.Sizes.{size_expr, size_stmt}
use Rattle.signs.specs.Places.{places_stmt}
use Rattle.compiler.specs.Sizes.{go_words, go_unless_words, loop_words}
use Rattle.compiler.specs.Statements.{EndsStmt}
use Rattle.compiler.specs.Work.{ExprFits, StmtFits, Works, StmtWorks, EndsWork}
use Rattle.compiler.proofs.Works.{NodeWork, expr_works, expr_ended}

-- an expression and a statement that are parts of a statement are within the same limits
expr_part : (s : Stmt) (a : Expr) (f : StmtFits s) → T (fits_expr f.locals f.globals f.procs a) → ExprFits a
expr_part s a f t = record { locals = f.locals; globals = f.globals; procs = f.procs; few_locals = f.few_locals; few_globals = f.few_globals; few_procs = f.few_procs; fits = t }

stmt_part : (s a : Stmt) (f : StmtFits s) → T (fits_stmt f.locals f.globals f.procs a) → StmtFits a
stmt_part s a f t = record { locals = f.locals; globals = f.globals; procs = f.procs; few_locals = f.few_locals; few_globals = f.few_globals; few_procs = f.few_procs; fits = t }

-- Statements that are work.
abbrev pub Simple : Node → Type 0
Simple (N.Num n) = Unit {0}
Simple (N.Loc n) = Unit {0}
Simple (N.Glob n) = Unit {0}
Simple (N.Cell j) = Unit {0}
Simple (N.Add j k) = Unit {0}
Simple (N.Sub j k) = Unit {0}
Simple (N.Nand j k) = Unit {0}
Simple (N.Less j k) = Unit {0}
Simple (N.Half j) = Unit {0}
Simple (N.Call f j) = Unit {0}
Simple N.Skip = Unit {0}
Simple (N.Then j k) = ⊥
Simple (N.SetLoc n j) = Unit {0}
Simple (N.SetGlob n j) = Unit {0}
Simple (N.SetCell j k) = Unit {0}
Simple (N.If j k l) = ⊥
Simple (N.While j k) = ⊥
Simple (N.Out j) = Unit {0}
Simple (N.Take n) = Unit {0}
Simple (N.Proc n j k) = Unit {0}

pub simple : (d : Node) → ((j k : ℕ) → d ≡ N.Then j k → ⊥) → ((j k l : ℕ) → d ≡ N.If j k l → ⊥) → ((j k : ℕ) → d ≡ N.While j k → ⊥) → Simple d
simple (N.Num n) not-then not-if not-while = tt
simple (N.Loc n) not-then not-if not-while = tt
simple (N.Glob n) not-then not-if not-while = tt
simple (N.Cell j) not-then not-if not-while = tt
simple (N.Add j k) not-then not-if not-while = tt
simple (N.Sub j k) not-then not-if not-while = tt
simple (N.Nand j k) not-then not-if not-while = tt
simple (N.Less j k) not-then not-if not-while = tt
simple (N.Half j) not-then not-if not-while = tt
simple (N.Call f j) not-then not-if not-while = tt
simple N.Skip not-then not-if not-while = tt
simple (N.Then j k) not-then not-if not-while = not-then j k refl
simple (N.SetLoc n j) not-then not-if not-while = tt
simple (N.SetGlob n j) not-then not-if not-while = tt
simple (N.SetCell j k) not-then not-if not-while = tt
simple (N.If j k l) not-then not-if not-while = not-if j k l refl
simple (N.While j k) not-then not-if not-while = not-while j k refl
simple (N.Out j) not-then not-if not-while = tt
simple (N.Take n) not-then not-if not-while = tt
simple (N.Proc n j k) not-then not-if not-while = tt

abbrev pub SimpleWork : List Node → ℕ → ℕ → Node → Stmt → Type 0
SimpleWork nodes i at d s = NodeWork nodes i d (StmtFits s) (λ g rest. code_stmt g s at rest) (end_of_stmt s) (places_stmt s)

pub stmt_node_work : (nodes : List Node) (depth i at : ℕ) (d : Node) (s : Stmt) → Simple d → StmtNode (IsExpr depth nodes) (IsStmt depth nodes) i d s → SimpleWork nodes i at d s
stmt_node_work nodes depth i at (N.Num n) s simple-node p = absurd p
stmt_node_work nodes depth i at (N.Loc n) s simple-node p = absurd p
stmt_node_work nodes depth i at (N.Glob n) s simple-node p = absurd p
stmt_node_work nodes depth i at (N.Cell j) s simple-node p = absurd p
stmt_node_work nodes depth i at (N.Add j k) s simple-node p = absurd p
stmt_node_work nodes depth i at (N.Sub j k) s simple-node p = absurd p
stmt_node_work nodes depth i at (N.Nand j k) s simple-node p = absurd p
stmt_node_work nodes depth i at (N.Less j k) s simple-node p = absurd p
stmt_node_work nodes depth i at (N.Half j) s simple-node p = absurd p
stmt_node_work nodes depth i at (N.Call f j) s simple-node p = absurd p
stmt_node_work nodes depth i at N.Skip s simple-node p = subst (λ (x : Stmt). SimpleWork nodes i at N.Skip x) (sym (p)) (record { exprs = []; parts_at = refl; fit = λ f. (tt, tt); code_is = λ g rest. refl; end_is = λ at. refl; places_are = λ at rest. refl })
stmt_node_work nodes depth i at (N.Then j k) s simple-node p = absurd simple-node
stmt_node_work nodes depth i at (N.SetLoc n j) s simple-node p = let a : Expr = p.0 in subst (λ (x : Stmt). SimpleWork nodes i at (N.SetLoc n j) x) (sym p.1) (record { exprs = a ∷ []; parts_at = (a, refl, p.2, (depth, p.3)); fit = λ f. let each = both (ltb n f.locals) (fits_expr f.locals f.globals f.procs a) f.fits in (let small = ltb→lt n f.locals each.0 in omega (arith, f.few_locals), (expr_part (setloc n a) a f each.1, tt)); code_is = λ g rest. refl; end_is = λ at. refl; places_are = λ at rest. refl })
stmt_node_work nodes depth i at (N.SetGlob n j) s simple-node p = let a : Expr = p.0 in subst (λ (x : Stmt). SimpleWork nodes i at (N.SetGlob n j) x) (sym p.1) (record { exprs = a ∷ []; parts_at = (a, refl, p.2, (depth, p.3)); fit = λ f. let each = both (ltb n f.globals) (fits_expr f.locals f.globals f.procs a) f.fits in (let small = ltb→lt n f.globals each.0 in omega (arith, f.few_globals), (expr_part (setglob n a) a f each.1, tt)); code_is = λ g rest. refl; end_is = λ at. refl; places_are = λ at rest. refl })
stmt_node_work nodes depth i at (N.SetCell j k) s simple-node p = let a : Expr = p.0 in let b : Expr = p.1 in subst (λ (x : Stmt). SimpleWork nodes i at (N.SetCell j k) x) (sym p.2) (record { exprs = a ∷ b ∷ []; parts_at = (a, b, refl, p.3, p.4, (depth, p.5), (depth, p.6)); fit = λ f. let each = both (fits_expr f.locals f.globals f.procs a) (fits_expr f.locals f.globals f.procs b) f.fits in (tt, (expr_part (setcell a b) a f each.0, (expr_part (setcell a b) b f each.1, tt))); code_is = λ g rest. refl; end_is = λ at. refl; places_are = λ at rest. refl })
stmt_node_work nodes depth i at (N.If j k l) s simple-node p = absurd simple-node
stmt_node_work nodes depth i at (N.While j k) s simple-node p = absurd simple-node
stmt_node_work nodes depth i at (N.Out j) s simple-node p = let a : Expr = p.0 in subst (λ (x : Stmt). SimpleWork nodes i at (N.Out j) x) (sym p.1) (record { exprs = a ∷ []; parts_at = (a, refl, p.2, (depth, p.3)); fit = λ f. (tt, (expr_part (out a) a f f.fits, tt)); code_is = λ g rest. refl; end_is = λ at. refl; places_are = λ at rest. refl })
stmt_node_work nodes depth i at (N.Take n) s simple-node p = subst (λ (x : Stmt). SimpleWork nodes i at (N.Take n) x) (sym (p)) (record { exprs = []; parts_at = refl; fit = λ f. (let small = ltb→lt n f.locals f.fits in omega (arith, f.few_locals), tt); code_is = λ g rest. refl; end_is = λ at. refl; places_are = λ at rest. refl })
stmt_node_work nodes depth i at (N.Proc n j k) s simple-node p = absurd p

-- what stands at a node of a kind that is known
pub record Unrolled (nodes : List Node) (i : ℕ) (d : Node) (s : Stmt) : Type 0 where
  pub inside : i < length nodes
  pub depth : ℕ
  pub says : StmtNode (IsExpr depth nodes) (IsStmt depth nodes) i d s

pub unroll : (nodes : List Node) (i : ℕ) (d : Node) (s : Stmt) → node_at nodes i ≡ d → StmtAt nodes i s → Unrolled nodes i d s
unroll nodes i d s e (zero, p) = absurd p
unroll nodes i d s e (suc depth, p) = record { inside = p.0; depth = depth; says = subst (λ (x : Node). StmtNode (IsExpr depth nodes) (IsStmt depth nodes) i x s) e p.1 }

pub stmt_works : (nodes : List Node) (i at : ℕ) (s : Stmt) → StmtAt nodes i s → StmtFits s → end_of_stmt s at ≤ code_limit → StmtWorks nodes i at
stmt_works nodes i at s p f h = record { inside = (unroll nodes i (node_at nodes i) s refl p).inside; stmt = s; stands = p; fits = f; room = h }

pub simple_is_work : (nodes : List Node) (i at : ℕ) (s : Stmt) → Simple (node_at nodes i) → StmtAt nodes i s → SimpleWork nodes i at (node_at nodes i) s
simple_is_work nodes i at s h p = let u = unroll nodes i (node_at nodes i) s refl p in stmt_node_work nodes u.depth i at (node_at nodes i) s h u.says

pub simple_works : {nodes : List Node} {i at : ℕ} → Simple (node_at nodes i) → StmtWorks nodes i at → Works nodes i at
simple_works {nodes} {i} {at} h w =
    let k = simple_is_work nodes i at w.stmt h w.stands in
    let fit = k.fit w.fits in
    record { inside = (unroll nodes i (node_at nodes i) w.stmt refl w.stands).inside; exprs = k.exprs; parts_at = k.parts_at; node_fits = fit.0; parts_fit = fit.1; room = subst (λ (x : ℕ). x ≤ code_limit) (k.end_is at) w.room }

-- One statement and then another, which begins where the first one's code ends.
pub record ThenWork (nodes : List Node) (i j k at : ℕ) : Type 0 where
  pub inside : i < length nodes
  pub first_later : i < j
  pub second_later : i < k
  pub first_works : StmtWorks nodes j at
  pub second_works : (x : ℕ) → EndsStmt nodes j at x → StmtWorks nodes k x

pub then_work : {nodes : List Node} {i j k at : ℕ} → node_at nodes i ≡ N.Then j k → StmtWorks nodes i at → ThenWork nodes i j k at
then_work {nodes} {i} {j} {k} {at} e w =
    let u = unroll nodes i (N.Then j k) w.stmt e w.stands in
    let p = u.says in
    let a : Stmt = p.0 in
    let b : Stmt = p.1 in
    let f : StmtFits (then a b) = subst (λ (x : Stmt). StmtFits x) p.2 w.fits in
    let room : end_of_stmt (then a b) at ≤ code_limit = subst (λ (x : Stmt). end_of_stmt x at ≤ code_limit) p.2 w.room in
    let each = both (fits_stmt f.locals f.globals f.procs a) (fits_stmt f.locals f.globals f.procs b) f.fits in
    let more = (size_stmt b (end_of_stmt a at)).1 in
    record {
      inside = u.inside;
      first_later = p.3;
      second_later = p.4;
      first_works = stmt_works nodes j at a (u.depth, p.5) (stmt_part (then a b) a f each.0) (omega arith);
      second_works = λ x h. subst (λ (q : ℕ). StmtWorks nodes k q) (sym (h a (u.depth, p.5))) (stmt_works nodes k (end_of_stmt a at) b (u.depth, p.6) (stmt_part (then a b) b f each.1) room);
    }

-- A test and two statements: the test's code ends at x, the second statement's is from z to y, the first one's from v to r.
pub record IfWork (nodes : List Node) (i j k l at : ℕ) : Type 0 where
  pub inside : i < length nodes
  pub first_later : i < k
  pub second_later : i < l
  pub test_works : Works nodes j at
  pub else_room : (x : ℕ) → EndsWork nodes j at x → x + go_unless_words ≤ code_limit
  pub second_works : (x z : ℕ) → EndsWork nodes j at x → z ≡ x + go_unless_words → StmtWorks nodes l z
  pub then_room : (x z y : ℕ) → EndsWork nodes j at x → z ≡ x + go_unless_words → EndsStmt nodes l z y → y + go_words ≤ code_limit
  pub first_works : (x z y v : ℕ) → EndsWork nodes j at x → z ≡ x + go_unless_words → EndsStmt nodes l z y → v ≡ y + go_words → StmtWorks nodes k v
  pub room : (x z y v r : ℕ) → EndsWork nodes j at x → z ≡ x + go_unless_words → EndsStmt nodes l z y → v ≡ y + go_words → EndsStmt nodes k v r → r ≤ code_limit

pub if_work : {nodes : List Node} {i j k l at : ℕ} → node_at nodes i ≡ N.If j k l → StmtWorks nodes i at → IfWork nodes i j k l at
if_work {nodes} {i} {j} {k} {l} {at} e w =
    let u = unroll nodes i (N.If j k l) w.stmt e w.stands in
    let p = u.says in
    let c : Expr = p.0 in
    let a : Stmt = p.1 in
    let b : Stmt = p.2 in
    let f : StmtFits (if c a b) = subst (λ (x : Stmt). StmtFits x) p.3 w.fits in
    let room : end_of_stmt (if c a b) at ≤ code_limit = subst (λ (x : Stmt). end_of_stmt x at ≤ code_limit) p.3 w.room in
    let each = both (fits_expr f.locals f.globals f.procs c) (fits_stmt f.locals f.globals f.procs a && fits_stmt f.locals f.globals f.procs b) f.fits in
    let ways = both (fits_stmt f.locals f.globals f.procs a) (fits_stmt f.locals f.globals f.procs b) each.1 in
    let first-size = (size_stmt a (then_place c b at)).1 in
    let second-size = (size_stmt b (else_place c at)).1 in
    let else : (x z : ℕ) → EndsWork nodes j at x → z ≡ x + go_unless_words → else_place c at ≡ z = λ x z h s. let end = expr_ended nodes j c at x (u.depth, p.7) h in omega arith in
    let over : (x z y : ℕ) → EndsWork nodes j at x → z ≡ x + go_unless_words → EndsStmt nodes l z y → y ≡ end_of_stmt b (else_place c at) =
    λ x z y h s h'. h' b (u.depth, p.9) ∙ ap (end_of_stmt b) (sym (else x z h s)) in
    let then' : (x z y v : ℕ) → EndsWork nodes j at x → z ≡ x + go_unless_words → EndsStmt nodes l z y → v ≡ y + go_words → then_place c b at ≡ v =
    λ x z y v h s h' s'. let end = over x z y h s h' in omega arith in
    record {
      inside = u.inside;
      first_later = p.5;
      second_later = p.6;
      test_works = expr_works nodes j c at (u.depth, p.7) (expr_part (if c a b) c f each.0) (omega arith);
      else_room = λ x h. let end = expr_ended nodes j c at x (u.depth, p.7) h in omega arith;
      second_works = λ x z h s. subst (λ (q : ℕ). StmtWorks nodes l q) (else x z h s) (stmt_works nodes l (else_place c at) b (u.depth, p.9) (stmt_part (if c a b) b f ways.1) (omega arith));
      then_room = λ x z y h s h'. let end = over x z y h s h' in omega arith;
      first_works = λ x z y v h s h' s'. subst (λ (q : ℕ). StmtWorks nodes k q) (then' x z y v h s h' s') (stmt_works nodes k (then_place c b at) a (u.depth, p.8) (stmt_part (if c a b) a f ways.0) room);
      room = λ x z y v r h s h' s' h''. subst (λ (q : ℕ). q ≤ code_limit) (ap (end_of_stmt a) (then' x z y v h s h' s') ∙ sym (h'' a (u.depth, p.8))) room;
    }

-- A test and a statement, again and again: the test's code ends at x, the body's is from z to y.
pub record WhileWork (nodes : List Node) (i j k at : ℕ) : Type 0 where
  pub inside : i < length nodes
  pub body_later : i < k
  pub test_works : Works nodes j at
  pub loop_room : (x : ℕ) → EndsWork nodes j at x → x + loop_words ≤ code_limit
  pub body_works : (x z : ℕ) → EndsWork nodes j at x → z ≡ x + loop_words → StmtWorks nodes k z
  pub room : (x z y : ℕ) → EndsWork nodes j at x → z ≡ x + loop_words → EndsStmt nodes k z y → y + go_words ≤ code_limit
  pub begins : at ≤ code_limit

pub while_work : {nodes : List Node} {i j k at : ℕ} → node_at nodes i ≡ N.While j k → StmtWorks nodes i at → WhileWork nodes i j k at
while_work {nodes} {i} {j} {k} {at} e w =
    let u = unroll nodes i (N.While j k) w.stmt e w.stands in
    let p = u.says in
    let c : Expr = p.0 in
    let a : Stmt = p.1 in
    let f : StmtFits (while c a) = subst (λ (x : Stmt). StmtFits x) p.2 w.fits in
    let room : end_of_stmt (while c a) at ≤ code_limit = subst (λ (x : Stmt). end_of_stmt x at ≤ code_limit) p.2 w.room in
    let each = both (fits_expr f.locals f.globals f.procs c) (fits_stmt f.locals f.globals f.procs a) f.fits in
    let size = (size_stmt a (loop_place c at)).1 in
    let test-size = (size_expr c at).1 in
    let loop : (x z : ℕ) → EndsWork nodes j at x → z ≡ x + loop_words → loop_place c at ≡ z = λ x z h s. let end = expr_ended nodes j c at x (u.depth, p.5) h in omega arith in
    record {
      inside = u.inside;
      body_later = p.4;
      test_works = expr_works nodes j c at (u.depth, p.5) (expr_part (while c a) c f each.0) (omega arith);
      loop_room = λ x h. let end = expr_ended nodes j c at x (u.depth, p.5) h in omega arith;
      body_works = λ x z h s. subst (λ (q : ℕ). StmtWorks nodes k q) (loop x z h s) (stmt_works nodes k (loop_place c at) a (u.depth, p.6) (stmt_part (while c a) a f each.1) (omega arith));
      room = λ x z y h s h'. let end = h' a (u.depth, p.6) ∙ ap (end_of_stmt a) (sym (loop x z h s)) in omega arith;
      begins = omega arith;
    }
