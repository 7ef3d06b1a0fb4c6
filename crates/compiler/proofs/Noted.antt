-- The places of the signs at a node, from those of its parts: of work, of statements, of procedures.
use Rattle.std.proofs.Common.{◌≡◌, ℕ, ◌+◌, List, [], ◌∷◌, ◌++◌, sym, ap, ◌∙◌, subst, arith}
use Rattle.language.specs.Language.{Expr, Stmt, Proc}
use Rattle.language.specs.Nodes.{node_at, ExprAt}
use Rattle.language.specs.declared.nodes.Node.{Node}
use Rattle.language.specs.declared.nodes.Node.TheVariants as N
use Rattle.language.specs.declared.nodes.Procedure.{Procedure}
use Rattle.codegen.specs.Codegen.{end_of_stmt, else_place, then_place, loop_place, body_place, end_of_proc}
use Rattle.text.specs.Signs.{room}
use Rattle.text.proofs.Noting.{noted_one, room_few}
use Rattle.signs.specs.Places.{second_place, places_expr, places_stmt, places_proc, places_procs}
use Rattle.compiler.specs.declared.parts.Parts.{Parts}
use Rattle.compiler.specs.declared.parts.Parts.TheVariants as P
use Rattle.compiler.specs.Places.{work_places, Noted, PlacesWork, PlacesStmt, PlacesProc}
use Rattle.compiler.specs.Statements.{EndsStmt}
use Rattle.compiler.specs.Work.{parts_of, PartsAt, EndsWork}
use Rattle.compiler.specs.Sizes.{push_words, go_words, go_unless_words, loop_words, head_words}
use Rattle.compiler.proofs.Works.{expr_is_work, expr_ended}
use Rattle.compiler.proofs.Stmts.{Simple, simple_is_work, unroll}
use Rattle.compiler.proofs.Procedures.{body_place_is}

-- an expression is work
pub expr_noted : (nodes : List Node) (i at : ℕ) (m m' : List ℕ) (e : Expr) → ExprAt nodes i e → PlacesWork nodes i at m m' → Noted (places_expr e at) m m'
expr_noted nodes i at m m' e p h =
    let w = (expr_is_work nodes i e p).work in
    let x = h w.exprs w.parts_at in
    record { all = λ rest. ap (λ (l : List ℕ). room (m ++ l)) (w.places_are at rest) ∙ x.all rest; few = x.few }

-- a place is noted
pub one_noted : (at : ℕ) (m m' : List ℕ) → m' ≡ room (m ++ at ∷ []) → Noted (λ rest. at ∷ rest) m m'
one_noted at m m' e = record { all = λ rest. sym (noted_one m m' at e rest); few = room_few m' (m ++ at ∷ []) e }

module _ (nodes : List Node) (i at : ℕ) (m m₁ : List ℕ) where
  pub noted_nothing : P.Nothing ≡ parts_of (node_at nodes i) → m₁ ≡ room (m ++ at ∷ []) → PlacesWork nodes i at m m₁
  noted_nothing e h es s =
      let q : PartsAt nodes i P.Nothing es = subst (λ (x : Parts). PartsAt nodes i x es) (sym e) s in
      subst (λ (l : List Expr). Noted (work_places l at) m m₁) (sym q) (one_noted at m m₁ h)

  pub noted_part : (j : ℕ) (m' : List ℕ) → P.One j ≡ parts_of (node_at nodes i) → m₁ ≡ room (m ++ at ∷ []) → PlacesWork nodes j at m₁ m' → PlacesWork nodes i at m m'
  noted_part j m' e h h' es s =
      let q : PartsAt nodes i (P.One j) es = subst (λ (x : Parts). PartsAt nodes i x es) (sym e) s in
      subst (λ (l : List Expr). Noted (work_places l at) m m') (sym q.1) (record { all = λ rest. (one_noted at m m₁ h).all (places_expr q.0 at rest) ∙ (expr_noted nodes j at m₁ m' q.0 q.3 h').all rest; few = (expr_noted nodes j at m₁ m' q.0 q.3 h').few })

  pub noted_two : (j l x : ℕ) (m₂ m' : List ℕ) → P.Two j l ≡ parts_of (node_at nodes i) → EndsWork nodes j at x → m₁ ≡ room (m ++ at ∷ []) →
      PlacesWork nodes j at m₁ m₂ → PlacesWork nodes l (x + push_words) m₂ m' → PlacesWork nodes i at m m'
  noted_two j l x m₂ m' e measured h h' h'' es s =
      let t : PartsAt nodes i (P.Two j l) es = subst (λ (z : Parts). PartsAt nodes i z es) (sym e) s in
      let end = expr_ended nodes j t.0 at x t.5 measured in
      let place : x + push_words ≡ second_place t.0 at = omega arith in
      let second : PlacesWork nodes l (second_place t.0 at) m₂ m' = subst (λ (z : ℕ). PlacesWork nodes l z m₂ m') place h'' in
      let last = expr_noted nodes l (second_place t.0 at) m₂ m' t.1 t.6 second in
      subst (λ (z : List Expr). Noted (work_places z at) m m') (sym t.2)
      (record {
        all = λ rest. let more : List ℕ = places_expr t.1 (second_place t.0 at) rest in (one_noted at m m₁ h).all (places_expr t.0 at more) ∙ (expr_noted nodes j at m₁ m₂ t.0 t.5 h').all more ∙ last.all rest;
        few = last.few;
      })

-- Statements that are work.
pub noted_simple : (nodes : List Node) (i at : ℕ) (m m' : List ℕ) → Simple (node_at nodes i) → PlacesWork nodes i at m m' → PlacesStmt nodes i at m m'
noted_simple nodes i at m m' simple h s p =
    let w = simple_is_work nodes i at s simple p in
    let x = h w.exprs w.parts_at in
    record { all = λ rest. ap (λ (l : List ℕ). room (m ++ l)) (w.places_are at rest) ∙ x.all rest; few = x.few }

module _ (nodes : List Node) (i at : ℕ) (m m₁ : List ℕ) where
  -- One statement and then another.
  pub noted_then : (j l x : ℕ) (m₂ m' : List ℕ) → node_at nodes i ≡ N.Then j l → EndsStmt nodes j at x → m₁ ≡ room (m ++ at ∷ []) →
      PlacesStmt nodes j at m₁ m₂ → PlacesStmt nodes l x m₂ m' → PlacesStmt nodes i at m m'
  noted_then j l x m₂ m' e measured h first second s stands =
      let u = unroll nodes i (N.Then j l) s e stands in
      let t = u.says in
      let a : Stmt = t.0 in
      let b : Stmt = t.1 in
      let second' = subst (λ (z : ℕ). PlacesStmt nodes l z m₂ m') (measured a (u.depth, t.5)) second in
      subst (λ (z : Stmt). Noted (places_stmt z at) m m') (sym t.2)
      (record {
        all = λ rest. let more : List ℕ = places_stmt b (end_of_stmt a at) rest in (one_noted at m m₁ h).all (places_stmt a at more) ∙ (first a (u.depth, t.5)).all more ∙ (second' b (u.depth, t.6)).all rest;
        few = (second' b (u.depth, t.6)).few;
      })

  -- A test and two statements.
  pub noted_if : (j l n x y : ℕ) (m₂ m₃ m' : List ℕ) → node_at nodes i ≡ N.If j l n → EndsWork nodes j at x → EndsStmt nodes n (x + go_unless_words) y → m₁ ≡ room (m ++ at ∷ []) →
      PlacesWork nodes j at m₁ m₂ → PlacesStmt nodes l (y + go_words) m₂ m₃ → PlacesStmt nodes n (x + go_unless_words) m₃ m' → PlacesStmt nodes i at m m'
  noted_if j l n x y m₂ m₃ m' e measured over h test first second s stands =
      let u = unroll nodes i (N.If j l n) s e stands in
      let t = u.says in
      let c : Expr = t.0 in
      let a : Stmt = t.1 in
      let b : Stmt = t.2 in
      let test-end = expr_ended nodes j c at x (u.depth, t.7) measured in
      let else-is : x + go_unless_words ≡ else_place c at = omega arith in
      let over-end = over b (u.depth, t.9) ∙ ap (end_of_stmt b) else-is in
      let then-is : y + go_words ≡ then_place c b at = omega arith in
      let first' = subst (λ (z : ℕ). PlacesStmt nodes l z m₂ m₃) then-is first in
      let second' = subst (λ (z : ℕ). PlacesStmt nodes n z m₃ m') else-is second in
      subst (λ (z : Stmt). Noted (places_stmt z at) m m') (sym t.3)
      (record {
        all = λ rest. let last : List ℕ = places_stmt b (else_place c at) rest in
            let more : List ℕ = places_stmt a (then_place c b at) last in
            (one_noted at m m₁ h).all (places_expr c at more) ∙ (expr_noted nodes j at m₁ m₂ c (u.depth, t.7) test).all more ∙ (first' a (u.depth, t.8)).all last ∙ (second' b (u.depth, t.9)).all rest;
        few = (second' b (u.depth, t.9)).few;
      })

  -- A test and a statement, again and again.
  pub noted_while : (j l x : ℕ) (m₂ m' : List ℕ) → node_at nodes i ≡ N.While j l → EndsWork nodes j at x → m₁ ≡ room (m ++ at ∷ []) →
      PlacesWork nodes j at m₁ m₂ → PlacesStmt nodes l (x + loop_words) m₂ m' → PlacesStmt nodes i at m m'
  noted_while j l x m₂ m' e measured h test body s stands =
      let u = unroll nodes i (N.While j l) s e stands in
      let t = u.says in
      let c : Expr = t.0 in
      let a : Stmt = t.1 in
      let test-end = expr_ended nodes j c at x (u.depth, t.5) measured in
      let loop-is : x + loop_words ≡ loop_place c at = omega arith in
      let body' = subst (λ (z : ℕ). PlacesStmt nodes l z m₂ m') loop-is body in
      subst (λ (z : Stmt). Noted (places_stmt z at) m m') (sym t.2)
      (record {
        all = λ rest. let more : List ℕ = places_stmt a (loop_place c at) rest in (one_noted at m m₁ h).all (places_expr c at more) ∙ (expr_noted nodes j at m₁ m₂ c (u.depth, t.5) test).all more ∙ (body' a (u.depth, t.6)).all rest;
        few = (body' a (u.depth, t.6)).few;
      })

-- A procedure, and one more of some.
pub noted_proc : (nodes : List Node) (d : Procedure) (at : ℕ) (m m₁ m' : List ℕ) → m₁ ≡ room (m ++ at ∷ []) →
    PlacesStmt nodes d.body (at + head_words + d.locals) m₁ m' → PlacesProc nodes d at m m'
noted_proc nodes d at m m₁ m' h body f is =
    let same : d.locals ≡ f.locals = is.0 in
    let place = body_place_is f at in
    let body_is : at + head_words + d.locals ≡ body_place f at = omega arith in
    let body' = subst (λ (z : ℕ). PlacesStmt nodes d.body z m₁ m') body_is body in
    record { all = λ rest. (one_noted at m m₁ h).all (places_stmt f.body (body_place f at) rest) ∙ (body' f.body is.1).all rest; few = (body' f.body is.1).few }

pub noted_more : (f : Proc) (fs qs : List Proc) (at at' : ℕ) (m m' : List ℕ) → qs ≡ f ∷ fs → at' ≡ end_of_proc f at → Noted (places_proc f at) m m' →
    room (m ++ places_procs qs at) ≡ room (m' ++ places_procs fs at')
noted_more f fs qs at at' m m' e e' h =
    ap (λ (z : List Proc). room (m ++ places_procs z at)) e ∙ h.all (places_procs fs (end_of_proc f at)) ∙ ap (λ (z : ℕ). room (m' ++ places_procs fs z)) (sym e')
