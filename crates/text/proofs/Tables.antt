-- The table of procedures, one entry after the other: what is done, what is left, and one entry more.
use Rattle.std.proofs.Common.{◌≡◌, ℕ, zero, suc, ◌+◌, ◌-◌, ◌<◌, ◌≤◌, List, [], ◌∷◌, ◌++◌, length, drop, set, sym, refl, ap, ◌∙◌, subst, ⊎_elim, arith}
use mathlib.Core.Option.{some}
use Rattle.std.proofs.lemmas.List.{get_or-set_same, get_or-set_other, get_or_append_left, get_or-append_right, get_or-drop}
use Rattle.std.proofs.lemmas.Bool.{cases_eq}
use Rattle.language.specs.Language.{Stmt, Proc, proc_at}
use Rattle.language.specs.Nodes.{node_at, IsStmt, StmtAt, entry_at, IsProc, Holds}
use Rattle.language.specs.declared.nodes.Node.{Node}
use Rattle.language.specs.declared.nodes.Node.TheVariants as N
use Rattle.language.specs.declared.nodes.Procedure.{Procedure}
use Rattle.text.specs.Text.{signs_stmt}
use Rattle.text.specs.Table.{ProcsAt, SameEntries}

-- the f-th procedure, and those after it
nth_proc : (ps : List Proc) (f : ℕ) → f < length ps → (p : Proc) × (drop f ps ≡ p ∷ drop (suc f) ps) × (proc_at ps f ≡ some p)
nth_proc [] f h = let no : ⊥ = omega arith in absurd no
nth_proc (p ∷ ps) zero h = (p, refl, refl)
nth_proc (p ∷ ps) (suc f) h = nth_proc ps f (omega arith)

proc_within : (ps : List Proc) (f : ℕ) (p : Proc) → proc_at ps f ≡ some p → f < length ps
proc_within [] f p e = let z : ◌≡◌ {A = ℕ} 0 1 = cc in let no : ⊥ = omega arith in absurd no
proc_within (q ∷ ps) zero p e = omega arith
proc_within (q ∷ ps) (suc f) p e = let ih = proc_within ps f p e in omega arith

-- where a statement stands there is a node
stands_inside : (nodes : List Node) (i : ℕ) (s : Stmt) → StmtAt nodes i s → i < length nodes
stands_inside nodes i s h = go h.0 h.1
  where
    go : (depth : ℕ) → IsStmt depth nodes i s → i < length nodes
    go zero h = absurd h
    go (suc depth) h = h.0

-- the first f entries are right, and the other procedures stand from node i on
pub record Tabled (nodes : List Node) (table : List Procedure) (i f : ℕ) (ps : List Proc) : Type 0 where
  pub left : ProcsAt nodes i (drop f ps)
  pub right : (j : ℕ) (p : Proc) → j < f → proc_at ps j ≡ some p → IsProc nodes (entry_at table j) p

-- what stands at the next procedure's node
pub record Next (nodes : List Node) (i f : ℕ) (ps : List Proc) : Type 0 where
  pub proc : Proc
  pub named : proc_at ps f ≡ some proc
  pub inside : i < length nodes
  pub node : node_at nodes i ≡ N.Proc proc.locals (i + 1) (i + 1 + signs_stmt proc.body)
  pub body : StmtAt nodes (i + 1) proc.body
  pub others : ProcsAt nodes (i + 1 + signs_stmt proc.body) (drop (f + 1) ps)

pub next_proc : (nodes : List Node) (table : List Procedure) (i f : ℕ) (ps : List Proc) → f < length ps → Tabled nodes table i f ps → Next nodes i f ps
next_proc nodes table i f ps h t =
    let p = nth_proc ps f h in
    let s = subst (ProcsAt nodes i) p.1 t.left in
    let k : suc f ≡ f + 1 = omega arith in
    record { proc = p.0; named = p.2; inside = (let b : i + 1 < length nodes = stands_inside nodes (i + 1) p.0.body s.1 in omega arith); node = s.0; body = s.1; others = subst (λ (m : ℕ). ProcsAt nodes (i + 1 + signs_stmt p.0.body) (drop m ps)) k s.2 }

-- the next procedure's node is there, where some procedures stand
pub next_inside : (nodes : List Node) (table : List Procedure) (i f count : ℕ) → (ps : List Proc) × (length ps ≡ count) × ProcsAt nodes 0 ps → f < count → ((ps : List Proc) → length ps ≡ count → ProcsAt nodes 0 ps → Tabled nodes table i f ps) → i < length nodes
next_inside nodes table i f count p h t = (next_proc nodes table i f p.0 (omega (arith, p.1)) (t p.0 p.1 p.2)).inside

-- one entry more
pub tabled_more : (nodes : List Node) (table : List Procedure) (i f : ℕ) (ps : List Proc) (l b a : ℕ) → f < length ps → f < length table → node_at nodes i ≡ N.Proc l b a → Tabled nodes table i f ps → Tabled nodes (set table f (record { locals = l; body = b })) a (f + 1) ps
tabled_more nodes table i f ps l b a h h2 q t =
    let n = next_proc nodes table i f ps h t in
    let e : N.Proc l b a ≡ N.Proc n.proc.locals (i + 1) (i + 1 + signs_stmt n.proc.body) = sym q ∙ n.node in
    let el : l ≡ n.proc.locals = cc in let eb : b ≡ i + 1 = cc in let ea : a ≡ i + 1 + signs_stmt n.proc.body = cc in
    let x : Procedure = record { locals = l; body = b } in
    let here : IsProc nodes x n.proc = (el, subst (λ (k : ℕ). StmtAt nodes k n.proc.body) (sym eb) n.body) in
    record {
      left = subst (λ (k : ℕ). ProcsAt nodes k (drop (f + 1) ps)) (sym ea) n.others;
      right = λ j p b2 r. ⊎_elim
          (λ (z : j ≡ f).
          let same : some p ≡ some n.proc = sym r ∙ ap (proc_at ps) z ∙ n.named in
          let pe : n.proc ≡ p = cc in
          let get : entry_at (set table f x) j ≡ x = ap (entry_at (set table f x)) z ∙ get_or-set_same table f x (record { locals = 0; body = 0 }) h2 in
          subst (λ (y : Procedure). IsProc nodes y p) (sym get) (subst (IsProc nodes x) pe here))
          (λ (ne : j ≡ f → ⊥). subst (λ (y : Procedure). IsProc nodes y p) (sym (get_or-set_other table f j x (record { locals = 0; body = 0 }) ne)) (t.right j p (omega arith) r))
          (cases_eq j f);
    }

-- all entries are right, whatever stands behind them
pub tabled_all : (nodes : List Node) (table others : List Procedure) (i f : ℕ) (ps : List Proc) → length ps ≤ f → f ≤ length table → Tabled nodes table i f ps → Holds nodes (table ++ others) ps
tabled_all nodes table others i f ps h l t = λ j p e.
    let b : j < f = omega (arith, proc_within ps j p e) in
    subst (λ (y : Procedure). IsProc nodes y p) (sym (get_or_append_left table others (record { locals = 0; body = 0 }) j (omega arith))) (t.right j p b e)

-- the entries past those that are written are as they were
pub entries_past : (items before : List Procedure) (f : ℕ) → length items ≡ f → SameEntries f before (items ++ drop f before)
entries_past items before f l = λ j h.
    let d : Procedure = record { locals = 0; body = 0 } in
    let back : f + (j - f) ≡ j = omega arith in
    get_or-append_right items (drop f before) f j d l h ∙ get_or-drop f before (j - f) d ∙ ap (entry_at before) back
