-- Nodes that stand in the order of their words, once they have the numbers of their parts, are the tree: first a node with
-- no part, one, two or three, whatever its kind; then expressions, statements and procedures.
use Rattle.std.proofs.Common.{◌≡◌, ℕ, zero, suc, ◌+◌, ◌<◌, ◌≤◌, List, [], ◌∷◌, ◌++◌, length, sym, refl, ap, ◌∙◌, subst, arith}
use Rattle.words.proofs.Slots.{Slot, slot_head, slot_tail, slot_left, slot_right}
use Rattle.language.specs.Language.{Expr, num, loc, glob, cell, add, sub, nand, less, half, call, Stmt, skip, then, setloc, setglob, setcell, if, while, out, take, Proc}
use Rattle.language.specs.Nodes.{node_at, ExprNode, IsExpr, StmtNode, IsStmt}
use Rattle.language.specs.declared.nodes.Node.{Node}
use Rattle.language.specs.declared.nodes.Node.TheVariants as N
use Rattle.text.specs.Text.{signs_expr, signs_stmt, signs}
use Rattle.text.specs.Links.{end_of, linked_node, parts, past, Linked}
use Rattle.text.specs.Table.{ProcsAt}
use Rattle.text.proofs.Rows.{row_expr, row_stmt, row_procs, length_expr, length_stmt}

-- a tree has at least one sign, so it is at least one deep
no_depth : {X : Type 0} (n : ℕ) → 1 + n ≤ 0 → X
no_depth n h = let no : ⊥ = omega arith in absurd no

module _ (bare nodes : List Node) (ends : List ℕ) (n : ℕ) (linked : Linked bare nodes ends n) (big : n ≤ length nodes) where
  -- wherever a row of nodes stands, P holds of its first, and it ends after so many
  abbrev Planted : List Node → ℕ → (ℕ → Type 0) → Type 0
  Planted row size P = (i : ℕ) → Slot bare i row → i + size ≤ n → P i × (end_of ends i ≡ i + size)

  -- what node i is, and where it ends
  node_is : (i : ℕ) (d : Node) (p : ℕ) (row : List Node) → parts d ≡ p → Slot bare i (d ∷ row) → i < n → (node_at nodes i ≡ linked_node d i ends) × (end_of ends i ≡ past p (i + 1) ends)
  node_is i d p row q s b =
      let e : node_at bare i ≡ d = slot_head bare i (N.Num 0) d row s in
      let l = linked.first i b in
      (l.0 ∙ ap (λ x. linked_node x i ends) e, l.1 ∙ ap (λ x. past (parts x) (i + 1) ends) e ∙ ap (λ x. past x (i + 1) ends) q)

  -- a node with no part, one, two, three
  leaf : (d : Node) (i : ℕ) → parts d ≡ 0 → Slot bare i (d ∷ []) → i + 1 ≤ n → (node_at nodes i ≡ linked_node d i ends) × (end_of ends i ≡ i + 1)
  leaf d i q s b = node_is i d 0 [] q s (omega arith)

  one_part : (d : Node) (a : List Node) (m : ℕ) (P : ℕ → Type 0) → Planted a m P → (i : ℕ) → parts d ≡ 1 → Slot bare i (d ∷ a) → i + (1 + m) ≤ n → (node_at nodes i ≡ linked_node d i ends) × P (i + 1) × (end_of ends i ≡ i + (1 + m))
  one_part d a m P pa i q s b =
      let h = node_is i d 1 a q s (omega arith) in
      let t = pa (i + 1) (slot_tail bare i d a s) (omega arith) in
      (h.0, t.0, h.1 ∙ t.1 ∙ omega arith)

  two_parts : (d : Node) (a b : List Node) (m k : ℕ) (P Q : ℕ → Type 0) → Planted a m P → length a ≡ m → Planted b k Q → (i : ℕ) → parts d ≡ 2 → Slot bare i (d ∷ (a ++ b)) → i + (1 + (m + k)) ≤ n
      → (node_at nodes i ≡ linked_node d i ends) × P (i + 1) × Q (end_of ends (i + 1)) × (i < end_of ends (i + 1)) × (end_of ends i ≡ i + (1 + (m + k)))
  two_parts d a b m k P Q pa la pb i q s h =
      let w = slot_tail bare i d (a ++ b) s in
      let x = node_is i d 2 (a ++ b) q s (omega arith) in
      let t = pa (i + 1) (slot_left bare (i + 1) a b w) (omega arith) in
      let u = pb (i + 1 + m) (slot_right bare (i + 1) m a b la w) (omega arith) in
      let e : end_of ends (i + 1) ≡ i + 1 + m = t.1 in
      (x.0, t.0, subst Q (sym e) u.0, omega (arith, e), x.1 ∙ ap (end_of ends) e ∙ u.1 ∙ omega arith)

  three_parts : (d : Node) (a b c : List Node) (m k l : ℕ) (P Q R : ℕ → Type 0) → Planted a m P → length a ≡ m → Planted b k Q → length b ≡ k → Planted c l R → (i : ℕ) → parts d ≡ 3 → Slot bare i (d ∷ (a ++ (b ++ c))) → i + (1 + (m + (k + l))) ≤ n
      → (node_at nodes i ≡ linked_node d i ends) × P (i + 1) × Q (end_of ends (i + 1)) × R (end_of ends (end_of ends (i + 1))) × (i < end_of ends (i + 1)) × (i < end_of ends (end_of ends (i + 1))) × (end_of ends i ≡ i + (1 + (m + (k + l))))
  three_parts d a b c m k l P Q R pa la pb lb pc i q s h =
      let w = slot_tail bare i d (a ++ (b ++ c)) s in
      let w2 = slot_right bare (i + 1) m a (b ++ c) la w in
      let x = node_is i d 3 (a ++ (b ++ c)) q s (omega arith) in
      let t = pa (i + 1) (slot_left bare (i + 1) a (b ++ c) w) (omega arith) in
      let u = pb (i + 1 + m) (slot_left bare (i + 1 + m) b c w2) (omega arith) in
      let v = pc (i + 1 + m + k) (slot_right bare (i + 1 + m) k b c lb w2) (omega arith) in
      let e : end_of ends (i + 1) ≡ i + 1 + m = t.1 in
      let f : end_of ends (end_of ends (i + 1)) ≡ i + 1 + m + k = ap (end_of ends) e ∙ u.1 in
      (x.0, t.0, subst Q (sym e) u.0, subst R (sym f) v.0, omega (arith, e), omega (arith, f), x.1 ∙ ap (end_of ends) f ∙ v.1 ∙ omega arith)

  -- expressions
  put_expr : (i depth : ℕ) (d : Node) (e : Expr) → i < n → node_at nodes i ≡ d → ExprNode (IsExpr depth nodes) i d e → IsExpr (suc depth) nodes i e
  put_expr i depth d e b q h = (omega arith, subst (λ (x : Node). ExprNode (IsExpr depth nodes) i x e) (sym q) h)

  abbrev TreeExpr : ℕ → Expr → Type 0
  TreeExpr depth e = Planted (row_expr e) (signs_expr e) (λ i. IsExpr depth nodes i e)

  expr_leaf : (d : Node) (e : Expr) (depth i : ℕ) → parts d ≡ 0 → Slot bare i (d ∷ []) → i + 1 ≤ n → ExprNode (IsExpr depth nodes) i (linked_node d i ends) e → IsExpr (suc depth) nodes i e × (end_of ends i ≡ i + 1)
  expr_leaf d e depth i q s b h = let t = leaf d i q s b in (put_expr i depth (linked_node d i ends) e (omega arith) t.0 h, t.1)

  expr_one : (d : Node) (make : Expr → Expr) (a : Expr) (depth : ℕ) → TreeExpr depth a → (i : ℕ) → parts d ≡ 1 → Slot bare i (d ∷ row_expr a) → i + (1 + signs_expr a) ≤ n
      → (IsExpr depth nodes (i + 1) a → ExprNode (IsExpr depth nodes) i (linked_node d i ends) (make a)) → IsExpr (suc depth) nodes i (make a) × (end_of ends i ≡ i + (1 + signs_expr a))
  expr_one d make a depth ta i q s b f =
      let t = one_part d (row_expr a) (signs_expr a) (λ j. IsExpr depth nodes j a) ta i q s b in
      (put_expr i depth (linked_node d i ends) (make a) (omega arith) t.0 (f t.1), t.2)

  expr_two : (d : Node) (make : Expr → Expr → Expr) (a b : Expr) (depth : ℕ) → TreeExpr depth a → TreeExpr depth b → (i : ℕ) → parts d ≡ 2 → Slot bare i (d ∷ (row_expr a ++ row_expr b)) → i + (1 + (signs_expr a + signs_expr b)) ≤ n
      → (IsExpr depth nodes (i + 1) a → IsExpr depth nodes (end_of ends (i + 1)) b → i < i + 1 → i < end_of ends (i + 1) → ExprNode (IsExpr depth nodes) i (linked_node d i ends) (make a b)) → IsExpr (suc depth) nodes i (make a b) × (end_of ends i ≡ i + (1 + (signs_expr a + signs_expr b)))
  expr_two d make a b depth ta tb i q s h f =
      let t = two_parts d (row_expr a) (row_expr b) (signs_expr a) (signs_expr b) (λ j. IsExpr depth nodes j a) (λ j. IsExpr depth nodes j b) ta (length_expr a) tb i q s h in
      (put_expr i depth (linked_node d i ends) (make a b) (omega arith) t.0 (f t.1 t.2 (omega arith) t.3), t.4)

  pub tree_expr : (e : Expr) (depth : ℕ) → signs_expr e ≤ depth → TreeExpr depth e
  tree_expr (num k) zero g i s b = no_depth 0 g
  tree_expr (num k) (suc f) g i s b = expr_leaf (N.Num k) (num k) f i refl s b refl
  tree_expr (loc k) zero g i s b = no_depth 0 g
  tree_expr (loc k) (suc f) g i s b = expr_leaf (N.Loc k) (loc k) f i refl s b refl
  tree_expr (glob k) zero g i s b = no_depth 0 g
  tree_expr (glob k) (suc f) g i s b = expr_leaf (N.Glob k) (glob k) f i refl s b refl
  tree_expr (cell a) zero g i s b = no_depth (signs_expr a) g
  tree_expr (cell a) (suc f) g i s b = expr_one (N.Cell 0) cell a f (tree_expr a f (omega arith)) i refl s b (λ x. (a, refl, omega arith, x))
  tree_expr (half a) zero g i s b = no_depth (signs_expr a) g
  tree_expr (half a) (suc f) g i s b = expr_one (N.Half 0) half a f (tree_expr a f (omega arith)) i refl s b (λ x. (a, refl, omega arith, x))
  tree_expr (call k a) zero g i s b = no_depth (signs_expr a) g
  tree_expr (call k a) (suc f) g i s b = expr_one (N.Call k 0) (call k) a f (tree_expr a f (omega arith)) i refl s b (λ x. (a, refl, omega arith, x))
  tree_expr (add x y) zero g i s b = no_depth (signs_expr x + signs_expr y) g
  tree_expr (add x y) (suc f) g i s b = expr_two (N.Add 0 0) add x y f (tree_expr x f (omega arith)) (tree_expr y f (omega arith)) i refl s b (λ t u p q. (x, y, refl, p, q, t, u))
  tree_expr (sub x y) zero g i s b = no_depth (signs_expr x + signs_expr y) g
  tree_expr (sub x y) (suc f) g i s b = expr_two (N.Sub 0 0) sub x y f (tree_expr x f (omega arith)) (tree_expr y f (omega arith)) i refl s b (λ t u p q. (x, y, refl, p, q, t, u))
  tree_expr (nand x y) zero g i s b = no_depth (signs_expr x + signs_expr y) g
  tree_expr (nand x y) (suc f) g i s b = expr_two (N.Nand 0 0) nand x y f (tree_expr x f (omega arith)) (tree_expr y f (omega arith)) i refl s b (λ t u p q. (x, y, refl, p, q, t, u))
  tree_expr (less x y) zero g i s b = no_depth (signs_expr x + signs_expr y) g
  tree_expr (less x y) (suc f) g i s b = expr_two (N.Less 0 0) less x y f (tree_expr x f (omega arith)) (tree_expr y f (omega arith)) i refl s b (λ t u p q. (x, y, refl, p, q, t, u))

  -- statements
  put_stmt : (i depth : ℕ) (d : Node) (s : Stmt) → i < n → node_at nodes i ≡ d → StmtNode (IsExpr depth nodes) (IsStmt depth nodes) i d s → IsStmt (suc depth) nodes i s
  put_stmt i depth d s b q h = (omega arith, subst (λ (x : Node). StmtNode (IsExpr depth nodes) (IsStmt depth nodes) i x s) (sym q) h)

  abbrev TreeStmt : ℕ → Stmt → Type 0
  TreeStmt depth s = Planted (row_stmt s) (signs_stmt s) (λ i. IsStmt depth nodes i s)

  stmt_leaf : (d : Node) (s : Stmt) (depth i : ℕ) → parts d ≡ 0 → Slot bare i (d ∷ []) → i + 1 ≤ n → StmtNode (IsExpr depth nodes) (IsStmt depth nodes) i (linked_node d i ends) s → IsStmt (suc depth) nodes i s × (end_of ends i ≡ i + 1)
  stmt_leaf d s depth i q r b h = let t = leaf d i q r b in (put_stmt i depth (linked_node d i ends) s (omega arith) t.0 h, t.1)

  stmt_one : (d : Node) (s : Stmt) (a : Expr) (depth : ℕ) → TreeExpr depth a → (i : ℕ) → parts d ≡ 1 → Slot bare i (d ∷ row_expr a) → i + (1 + signs_expr a) ≤ n
      → (IsExpr depth nodes (i + 1) a → StmtNode (IsExpr depth nodes) (IsStmt depth nodes) i (linked_node d i ends) s) → IsStmt (suc depth) nodes i s × (end_of ends i ≡ i + (1 + signs_expr a))
  stmt_one d s a depth ta i q r b f =
      let t = one_part d (row_expr a) (signs_expr a) (λ j. IsExpr depth nodes j a) ta i q r b in
      (put_stmt i depth (linked_node d i ends) s (omega arith) t.0 (f t.1), t.2)

  pub tree_stmt : (s : Stmt) (depth : ℕ) → signs_stmt s ≤ depth → TreeStmt depth s
  tree_stmt skip zero g i r b = no_depth 0 g
  tree_stmt skip (suc f) g i r b = stmt_leaf N.Skip skip f i refl r b refl
  tree_stmt (take k) zero g i r b = no_depth 0 g
  tree_stmt (take k) (suc f) g i r b = stmt_leaf (N.Take k) (take k) f i refl r b refl
  tree_stmt (setloc k a) zero g i r b = no_depth (signs_expr a) g
  tree_stmt (setloc k a) (suc f) g i r b = stmt_one (N.SetLoc k 0) (setloc k a) a f (tree_expr a f (omega arith)) i refl r b (λ x. (a, refl, omega arith, x))
  tree_stmt (setglob k a) zero g i r b = no_depth (signs_expr a) g
  tree_stmt (setglob k a) (suc f) g i r b = stmt_one (N.SetGlob k 0) (setglob k a) a f (tree_expr a f (omega arith)) i refl r b (λ x. (a, refl, omega arith, x))
  tree_stmt (out a) zero g i r b = no_depth (signs_expr a) g
  tree_stmt (out a) (suc f) g i r b = stmt_one (N.Out 0) (out a) a f (tree_expr a f (omega arith)) i refl r b (λ x. (a, refl, omega arith, x))
  tree_stmt (then x y) zero g i r b = no_depth (signs_stmt x + signs_stmt y) g
  tree_stmt (then x y) (suc f) g i r b =
      let t = two_parts (N.Then 0 0) (row_stmt x) (row_stmt y) (signs_stmt x) (signs_stmt y) (λ j. IsStmt f nodes j x) (λ j. IsStmt f nodes j y) (tree_stmt x f (omega arith)) (length_stmt x) (tree_stmt y f (omega arith)) i refl r b in
      (put_stmt i f (linked_node (N.Then 0 0) i ends) (then x y) (omega arith) t.0 (x, y, refl, omega arith, t.3, t.1, t.2), t.4)
  tree_stmt (setcell x y) zero g i r b = no_depth (signs_expr x + signs_expr y) g
  tree_stmt (setcell x y) (suc f) g i r b =
      let t = two_parts (N.SetCell 0 0) (row_expr x) (row_expr y) (signs_expr x) (signs_expr y) (λ j. IsExpr f nodes j x) (λ j. IsExpr f nodes j y) (tree_expr x f (omega arith)) (length_expr x) (tree_expr y f (omega arith)) i refl r b in
      (put_stmt i f (linked_node (N.SetCell 0 0) i ends) (setcell x y) (omega arith) t.0 (x, y, refl, omega arith, t.3, t.1, t.2), t.4)
  tree_stmt (while x y) zero g i r b = no_depth (signs_expr x + signs_stmt y) g
  tree_stmt (while x y) (suc f) g i r b =
      let t = two_parts (N.While 0 0) (row_expr x) (row_stmt y) (signs_expr x) (signs_stmt y) (λ j. IsExpr f nodes j x) (λ j. IsStmt f nodes j y) (tree_expr x f (omega arith)) (length_expr x) (tree_stmt y f (omega arith)) i refl r b in
      (put_stmt i f (linked_node (N.While 0 0) i ends) (while x y) (omega arith) t.0 (x, y, refl, omega arith, t.3, t.1, t.2), t.4)
  tree_stmt (if x y z) zero g i r b = no_depth (signs_expr x + (signs_stmt y + signs_stmt z)) g
  tree_stmt (if x y z) (suc f) g i r b =
      let t = three_parts (N.If 0 0 0) (row_expr x) (row_stmt y) (row_stmt z) (signs_expr x) (signs_stmt y) (signs_stmt z) (λ j. IsExpr f nodes j x) (λ j. IsStmt f nodes j y) (λ j. IsStmt f nodes j z)
      (tree_expr x f (omega arith)) (length_expr x) (tree_stmt y f (omega arith)) (length_stmt y) (tree_stmt z f (omega arith)) i refl r b in
      (put_stmt i f (linked_node (N.If 0 0 0) i ends) (if x y z) (omega arith) t.0 (x, y, z, refl, omega arith, t.4, t.5, t.1, t.2, t.3), t.6)

  -- procedures, one after the other
  pub tree_procs : (ps : List Proc) (i depth : ℕ) → Slot bare i (row_procs ps) → i + signs ps ≤ n → signs ps ≤ depth → ProcsAt nodes i ps
  tree_procs [] i f r b g = tt
  tree_procs (p ∷ ps) i f r b g =
      let rest = row_stmt p.body ++ row_procs ps in let d = N.Proc p.locals 0 0 in
      let w = slot_tail bare i d rest r in
      let t = tree_stmt p.body f (omega arith) (i + 1) (slot_left bare (i + 1) (row_stmt p.body) (row_procs ps) w) (omega arith) in
      let h = node_is i d 1 rest refl r (omega arith) in
      (h.0 ∙ ap (λ x. N.Proc p.locals (i + 1) x) t.1, (f, t.0), tree_procs ps (i + 1 + signs_stmt p.body) f (slot_right bare (i + 1) (signs_stmt p.body) (row_stmt p.body) (row_procs ps) (length_stmt p.body) w) (omega arith) (omega arith))
