-- The height at a node from the heights at its parts: expressions with no part, one, two; then statements.
use Rattle.std.proofs.Common.{◌≡◌, ℕ, ◌+◌, ◌<◌, max, List, length, Some, None, Option, sym, refl, ap, ◌∙◌, arith}
use Rattle.language.specs.Language.{Expr, Stmt, then, setcell, if, while, height, stmt_height, both_height}
use Rattle.language.specs.Nodes.{node_at, IsExpr, IsStmt, ExprNode, StmtNode, StmtAt}
use Rattle.language.specs.declared.nodes.Node.{Node}
use Rattle.language.specs.declared.nodes.Node.TheVariants as N
use Rattle.language.specs.Heights.{node_names, ExprHeight, StmtHeight, ExprPart, StmtPart, Small, higher_of, both_of}
use Rattle.language.proofs.Trees.{expr_parts, stmt_parts, expr_deeper, stmt_deeper, expr_stands, stmt_stands}
use Rattle.language.proofs.Shapes.{One, Two, Uses}
use Rattle.language.proofs.Unique.{same_stmt}

pub part_small : (nodes : List Node) (i j : ℕ) (r : Option ℕ) → ExprPart nodes i j r → Small r
part_small nodes i j (Some h) p = omega (arith, p.1.0)
part_small nodes i j None p = tt

module _ (nodes : List Node) (i : ℕ) (inside : i < length nodes) where
  pub one_height : (j : ℕ) → One nodes i j → (r : Option ℕ) → ExprPart nodes i j r → ExprHeight nodes i r
  one_height j o (Some h) p =
      let e = p.1.1.0 in
      let at = p.1.1.1 in
      (omega (arith, p.0, p.1.0), (o.make e, expr_stands nodes i at.0 o.node (o.make e) inside o.is (o.stands (IsExpr at.0 nodes) (o.make e) (e, refl, p.0, at.1)), p.1.1.2 ∙ sym (o.high e)))
  one_height j o None p = λ e h.
      let d = expr_parts nodes i o.node e o.is h in
      let t = o.says (IsExpr d.depth nodes) e d.says in
      p t.2 t.0 (d.depth, t.3)

  pub two_height : (j k : ℕ) → Two nodes i j k → (x y : Option ℕ) → ExprPart nodes i j x → ExprPart nodes i k y → ExprHeight nodes i (both_of x y)
  two_height j k o (Some x) (Some y) p q =
      let a = p.1.1.0 in let b = q.1.1.0 in
      let da = p.1.1.1.0 in let db = q.1.1.1.0 in
      let d = max da db in
      let e = o.make a b in
      let high : max x (1 + y) ≡ height e = ap (λ (n : ℕ). max n (1 + y)) p.1.1.2 ∙ ap (λ (n : ℕ). max (height a) (1 + n)) q.1.1.2 ∙ sym (o.high a b) in (
        omega (arith, p.0, q.0, p.1.0, q.1.0),
        (
          e,
          expr_stands nodes i d o.node e inside o.is
              (o.stands (IsExpr d nodes) e (a, b, refl, p.0, q.0, expr_deeper nodes da d (omega arith) j a p.1.1.1.1, expr_deeper nodes db d (omega arith) k b q.1.1.1.1)),
          high,
        ),
      )
  two_height j k o (Some x) None p q = λ e h.
      let d = expr_parts nodes i o.node e o.is h in
      let t = o.says (IsExpr d.depth nodes) e d.says in
      q t.4 t.1 (d.depth, t.6)
  two_height j k o None (Some y) p q = λ e h.
      let d = expr_parts nodes i o.node e o.is h in
      let t = o.says (IsExpr d.depth nodes) e d.says in
      p t.3 t.0 (d.depth, t.5)
  two_height j k o None None p q = λ e h.
      let d = expr_parts nodes i o.node e o.is h in
      let t = o.says (IsExpr d.depth nodes) e d.says in
      p t.3 t.0 (d.depth, t.5)

  pub leaf_height : (node : Node) (e : Expr) → i < node_names → node_at nodes i ≡ node → ExprNode (IsExpr 0 nodes) i node e → 1 ≡ height e → ExprHeight nodes i (Some 1)
  leaf_height node e b q h k = (omega arith, (e, expr_stands nodes i 0 node e inside q h, k))

  -- statements: with no part, with one expression, and each kind with more
  pub leaf_stmt_height : (node : Node) (s : Stmt) → i < node_names → node_at nodes i ≡ node → StmtNode (IsExpr 0 nodes) (IsStmt 0 nodes) i node s → 0 ≡ stmt_height s → StmtHeight nodes i (Some 0)
  leaf_stmt_height node s b q h k = (omega arith, (s, stmt_stands nodes i 0 node s inside q h, k))

  pub uses_height : (j : ℕ) → Uses nodes i j → (r : Option ℕ) → ExprPart nodes i j r → StmtHeight nodes i r
  uses_height j o (Some h) p =
      let e = p.1.1.0 in
      let at = p.1.1.1 in
      let d = at.0 in
      (omega (arith, p.0, p.1.0), (o.make e, stmt_stands nodes i d o.node (o.make e) inside o.is (o.stands (IsExpr d nodes) (IsStmt d nodes) (o.make e) (e, refl, p.0, at.1)), p.1.1.2 ∙ sym (o.high e)))
  uses_height j o None p = λ s h.
      let d = stmt_parts nodes i o.node s o.is h in
      let t = o.says (IsExpr d.depth nodes) (IsStmt d.depth nodes) s d.says in
      p t.2 t.0 (d.depth, t.3)

  pub setcell_height : (j k : ℕ) → node_at nodes i ≡ N.SetCell j k → (x y : Option ℕ) → ExprPart nodes i j x → ExprPart nodes i k y → StmtHeight nodes i (both_of x y)
  setcell_height j k o (Some x) (Some y) p q =
      let a = p.1.1.0 in let b = q.1.1.0 in
      let da = p.1.1.1.0 in let db = q.1.1.1.0 in
      let d = max da db in
      let high : max x (1 + y) ≡ both_height (height a) (height b) = ap (λ (n : ℕ). max n (1 + y)) p.1.1.2 ∙ ap (λ (n : ℕ). max (height a) (1 + n)) q.1.1.2 in (
        omega (arith, p.0, q.0, p.1.0, q.1.0),
        (
          setcell a b,
          stmt_stands nodes i d (N.SetCell j k) (setcell a b) inside o
              (a, b, refl, p.0, q.0, expr_deeper nodes da d (omega arith) j a p.1.1.1.1, expr_deeper nodes db d (omega arith) k b q.1.1.1.1),
          high,
        ),
      )
  setcell_height j k o (Some x) None p q = λ s h. let d = stmt_parts nodes i (N.SetCell j k) s o h in let t = d.says in q t.4 t.1 (d.depth, t.6)
  setcell_height j k o None (Some y) p q = λ s h. let d = stmt_parts nodes i (N.SetCell j k) s o h in let t = d.says in p t.3 t.0 (d.depth, t.5)
  setcell_height j k o None None p q = λ s h. let d = stmt_parts nodes i (N.SetCell j k) s o h in let t = d.says in p t.3 t.0 (d.depth, t.5)

  pub then_height : (j k : ℕ) → node_at nodes i ≡ N.Then j k → (x y : Option ℕ) → StmtPart nodes i j x → StmtPart nodes i k y → StmtHeight nodes i (higher_of x y)
  then_height j k o (Some x) (Some y) p q =
      let a = p.1.1.0 in let b = q.1.1.0 in
      let da = p.1.1.1.0 in let db = q.1.1.1.0 in
      let d = max da db in
      let high : max x y ≡ max (stmt_height a) (stmt_height b) = ap (λ (n : ℕ). max n y) p.1.1.2 ∙ ap (λ (n : ℕ). max (stmt_height a) n) q.1.1.2 in (
        omega (arith, p.0, q.0, p.1.0, q.1.0),
        (
          then a b,
          stmt_stands nodes i d (N.Then j k) (then a b) inside o
              (a, b, refl, p.0, q.0, stmt_deeper nodes da d (omega arith) j a p.1.1.1.1, stmt_deeper nodes db d (omega arith) k b q.1.1.1.1),
          high,
        ),
      )
  then_height j k o (Some x) None p q = λ s h. let d = stmt_parts nodes i (N.Then j k) s o h in let t = d.says in q t.4 t.1 (d.depth, t.6)
  then_height j k o None y p q = λ s h. let d = stmt_parts nodes i (N.Then j k) s o h in let t = d.says in p t.3 t.0 (d.depth, t.5)

  pub while_height : (j k : ℕ) → node_at nodes i ≡ N.While j k → (x y : Option ℕ) → ExprPart nodes i j x → StmtPart nodes i k y → StmtHeight nodes i (higher_of x y)
  while_height j k o (Some x) (Some y) p q =
      let a = p.1.1.0 in let b = q.1.1.0 in
      let da = p.1.1.1.0 in let db = q.1.1.1.0 in
      let d = max da db in
      let high : max x y ≡ max (height a) (stmt_height b) = ap (λ (n : ℕ). max n y) p.1.1.2 ∙ ap (λ (n : ℕ). max (height a) n) q.1.1.2 in (
        omega (arith, p.0, q.0, p.1.0, q.1.0),
        (
          while a b,
          stmt_stands nodes i d (N.While j k) (while a b) inside o
              (a, b, refl, p.0, q.0, expr_deeper nodes da d (omega arith) j a p.1.1.1.1, stmt_deeper nodes db d (omega arith) k b q.1.1.1.1),
          high,
        ),
      )
  while_height j k o (Some x) None p q = λ s h. let d = stmt_parts nodes i (N.While j k) s o h in let t = d.says in q t.4 t.1 (d.depth, t.6)
  while_height j k o None y p q = λ s h. let d = stmt_parts nodes i (N.While j k) s o h in let t = d.says in p t.3 t.0 (d.depth, t.5)

  pub if_height : (j k l : ℕ) → node_at nodes i ≡ N.If j k l → (x y z : Option ℕ) → ExprPart nodes i j x → StmtPart nodes i k y → StmtPart nodes i l z → StmtHeight nodes i (higher_of x (higher_of y z))
  if_height j k l o (Some x) (Some y) (Some z) p q r =
      let e = p.1.1.0 in let a = q.1.1.0 in let b = r.1.1.0 in
      let de = p.1.1.1.0 in let da = q.1.1.1.0 in let db = r.1.1.1.0 in
      let d = max de (max da db) in
      let high : max x (max y z) ≡ max (height e) (max (stmt_height a) (stmt_height b)) = ap (λ (n : ℕ). max n (max y z)) p.1.1.2 ∙ ap (λ (n : ℕ). max (height e) (max n z)) q.1.1.2 ∙ ap (λ (n : ℕ). max (height e) (max (stmt_height a) n)) r.1.1.2 in (
        omega (arith, p.0, q.0, r.0, p.1.0, q.1.0, r.1.0),
        (
          if e a b,
          stmt_stands nodes i d (N.If j k l) (if e a b) inside o
              (e, a, b, refl, p.0, q.0, r.0, expr_deeper nodes de d (omega arith) j e p.1.1.1.1, stmt_deeper nodes da d (omega arith) k a q.1.1.1.1, stmt_deeper nodes db d (omega arith) l b r.1.1.1.1),
          high,
        ),
      )
  if_height j k l o (Some x) (Some y) None p q r = λ s h. let d = stmt_parts nodes i (N.If j k l) s o h in let t = d.says in r t.6 t.2 (d.depth, t.9)
  if_height j k l o (Some x) None z p q r = λ s h. let d = stmt_parts nodes i (N.If j k l) s o h in let t = d.says in q t.5 t.1 (d.depth, t.8)
  if_height j k l o None y z p q r = λ s h. let d = stmt_parts nodes i (N.If j k l) s o h in let t = d.says in p t.4 t.0 (d.depth, t.7)

-- where a statement is known to stand, its height is the one that is found
pub found_height : (nodes : List Node) (i : ℕ) (s : Stmt) → StmtAt nodes i s → (r : Option ℕ) → StmtHeight nodes i r → r ≡ Some (stmt_height s)
found_height nodes i s at (Some h) k = ap (λ (n : ℕ). Some n) (k.1.2 ∙ ap stmt_height (same_stmt nodes i k.1.0 s k.1.1 at))
found_height nodes i s at None k = absurd (k s at)
