-- The value of an expression from the values of its parts, kind by kind: first where the first part stops, then each kind.
use Rattle.std.proofs.Common.{◌≡◌, ℕ, ◌<◌, ◌⊎◌, Bool, true, false, cond, if◌then◌else◌, ltb, List, length, Ok, Err, Result, sym, refl, ap, ◌∙◌, subst, inl, inr}
use Rattle.std.proofs.Math.Bridge.{le_prop}
use Rattle.std.proofs.Math.Logic.{∥∥₁_map, ∥∥₁_elim}
use Rattle.words.specs.Words.{word, half16}
use Rattle.words.specs.Runs.{ended_index}
use Rattle.words.proofs.Runs.{prefix_refl}
use Rattle.language.specs.Language.{Expr, Program, State, Outcome, fine, ends, bind, if_cell, eval, run_call}
use Rattle.language.specs.Nodes.{node_at, ExprAt, IsExpr}
use Rattle.language.specs.declared.nodes.Node.{Node}
use Rattle.language.specs.declared.nodes.Node.TheVariants as N
use Rattle.interpreter.specs.declared.code.Code.{Code}
use Rattle.language.proofs.Fuel.{bind_more}
use Rattle.interpreter.specs.declared.state.Stop.{Stop}
use Rattle.interpreter.specs.declared.state.Store.{Store}
use Rattle.interpreter.specs.declared.state.Stop.TheVariants.{Index}
use Rattle.interpreter.specs.Running.{Work, work, Fetches, SomeExpr, combined, state_of, Stops, Evaluates, Held, Values, Calls}
use Rattle.language.proofs.Trees.{expr_parts}
use Rattle.language.proofs.Shapes.{Two, two_of}
use Rattle.interpreter.proofs.Outcomes.{call_grows, expr_grows, Adds, adds_cond, grew_none, stops_bind, evaluates_after}

-- the operation of such a node is what the code combines two words by
pub combines : (nodes : List Node) (i j k : ℕ) (s : (node_at nodes i ≡ N.Add j k) ⊎ ((node_at nodes i ≡ N.Sub j k) ⊎ ((node_at nodes i ≡ N.Nand j k) ⊎ (node_at nodes i ≡ N.Less j k)))) (x y : ℕ) → combined (node_at nodes i) x y ≡ (two_of nodes i j k s).op x y
combines nodes i j k (inl q) x y = ap (λ (d : Node). combined d x y) q
combines nodes i j k (inr (inl q)) x y = ap (λ (d : Node). combined d x y) q
combines nodes i j k (inr (inr (inl q))) x y = ap (λ (d : Node). combined d x y) q
combines nodes i j k (inr (inr (inr q))) x y = ap (λ (d : Node). combined d x y) q

-- the node stands among the nodes
pub expr_inside : (code : Code) (i : ℕ) → SomeExpr code i → i < length code.nodes.now
expr_inside code i some = ∥∥₁_elim some le_prop (λ e. (expr_parts code.nodes.now i (node_at code.nodes.now i) e.0 refl e.1).inside)

module _ (code : Code) (fuel room : ℕ) where
  -- what a call does, for the program g
  abbrev calls : Program → ℕ → ℕ → State → Outcome
  calls g = λ f v t. run_call fuel g room f v t

  abbrev tape : List ℕ
  tape = code.tape.now

  abbrev state : Work → State
  state m = state_of tape m

  -- The expression at node i begins with that at node j, behind it: whatever is worked out there comes first.
  pub record Leads (i j : ℕ) (e : Expr) : Type 0 where
    pub part : Expr
    pub later : i < j
    pub at : ExprAt code.nodes.now j part
    pub rest : Program → ℕ → State → Outcome
    pub is : (g : Program) (s : State) → eval (calls g) e s ≡ bind (eval (calls g) part s) (rest g)
    pub adds : (g : Program) → Adds (rest g)

  abbrev pub Lead : ℕ → ℕ → Type 0
  Lead i j = (e : Expr) → ExprAt code.nodes.now i e → Leads i j e

  -- the expression with which it begins stands behind it
  pub lead_needs : (i j : ℕ) → Lead i j → SomeExpr code i → (i < j) × SomeExpr code j
  lead_needs i j lead some = (∥∥₁_elim some le_prop (λ e. (lead e.0 e.1).later), ∥∥₁_map some (λ e. let p = lead e.0 e.1 in (p.part, p.at)))

  module _ (i : ℕ) where
    abbrev pub lead_half : (j : ℕ) → node_at code.nodes.now i ≡ N.Half j → Lead i j
    lead_half j q e h =
        let p = expr_parts code.nodes.now i (N.Half j) e q h in let t = p.says in
        record { part = t.0; later = t.2; at = (p.depth, t.3); rest = λ g u w. fine (half16 u) w; is = λ g s. ap (λ (x : Expr). eval (calls g) x s) t.1; adds = λ g v s. prefix_refl s.out }

    abbrev pub lead_cell : (j : ℕ) → node_at code.nodes.now i ≡ N.Cell j → Lead i j
    lead_cell j q e h =
        let p = expr_parts code.nodes.now i (N.Cell j) e q h in let t = p.says in
        record { part = t.0; later = t.2; at = (p.depth, t.3); rest = λ g u w. if_cell u w (fine (word w.cells u) w); is = λ g s. ap (λ (x : Expr). eval (calls g) x s) t.1; adds = λ g v s. adds_cond (ltb v (length s.cells)) (fine (word s.cells v) s) (ends ended_index s) s.out (prefix_refl s.out) (prefix_refl s.out) }

    abbrev pub lead_call : (f j : ℕ) → node_at code.nodes.now i ≡ N.Call f j → Lead i j
    lead_call f j q e h =
        let p = expr_parts code.nodes.now i (N.Call f j) e q h in let t = p.says in
        record { part = t.0; later = t.2; at = (p.depth, t.3); rest = λ g u w. calls g f u w; is = λ g s. ap (λ (x : Expr). eval (calls g) x s) t.1; adds = λ g v s. call_grows g fuel room f v s }

    abbrev pub lead_two : (j k : ℕ) → Two code.nodes.now i j k → Lead i j
    lead_two j k o e h =
        let p = expr_parts code.nodes.now i o.node e o.is h in let t = o.says (IsExpr p.depth code.nodes.now) e p.says in
        let r : Program → ℕ → State → Outcome = λ g u w. bind (eval (calls g) t.1 w) (λ v x. fine (o.op u v) x) in
        record {
          part = t.0;
          later = t.3;
          at = (p.depth, t.5);
          rest = r;
          is = λ g s. ap (λ (x : Expr). eval (calls g) x s) t.2 ∙ o.value (calls g) t.0 t.1 s;
          adds = λ g u w. bind_more w.out (eval (calls g) t.1 w) (λ v x. fine (o.op u v) x) (expr_grows g fuel room t.1 w) (λ v x. prefix_refl x.out);
        }

    -- the first part stops, and so does the whole
    pub first_stops : (j : ℕ) → Lead i j → (m m1 : Work) (stop : Stop) → Values code j fuel room m m1 (Err stop) → Values code i fuel room m m1 (Err stop)
    first_stops j l m m1 stop h g e held at =
        let p = l e at in let s = state m in
        subst (λ (r : Outcome). Stops r tape m.counts m1.counts m.out m1.out stop) (sym (p.is g s))
        (stops_bind tape (eval (calls g) p.part s) (p.rest g) m.counts m1.counts m.out m1.out stop (p.adds g) (h g p.part held p.at))

    -- the first part has a value, and the rest of the whole comes to x
    pub first_value : (j : ℕ) (lead : Lead i j) (m m1 m2 : Work) (v : ℕ) (x : Result ℕ Stop) → Values code j fuel room m m1 (Ok v)
        → ((g : Program) (e : Expr) (at : ExprAt code.nodes.now i e) → Held code.nodes.now code.procs.now g → Evaluates ((lead e at).rest g v (state m1)) tape m1 m2 x)
        → Values code i fuel room m m2 x
    first_value j l m m1 m2 v x h k g e held at =
        let p = l e at in let s = state m in
        subst (λ (r : Outcome). Evaluates r tape m m2 x) (sym (p.is g s)) (evaluates_after tape (eval (calls g) p.part s) (p.rest g) v m m1 m2 (h g p.part held p.at) x (k g e at held))

    -- Each kind.
    pub half_value : (j : ℕ) → node_at code.nodes.now i ≡ N.Half j → (m m1 : Work) (x v : ℕ) → v ≡ half16 x → Values code j fuel room m m1 (Ok x) → Values code i fuel room m m1 (Ok v)
    half_value j q m m1 x v w h = first_value j (lead_half j q) m m1 m1 x (Ok v) h
        (λ g e at held. record { is = ap (λ (y : ℕ). fine y (state m1)) (sym w); grew = grew_none tape m1.counts m1.out })

    cell_of : (m1 : Work) (x : ℕ) (b : Bool) → Evaluates (cond b (fine (word m1.cells x) (state m1)) (ends ended_index (state m1))) tape m1 m1 (if b then Ok (word m1.cells x) else Err Index)
    cell_of m1 x true = record { is = refl; grew = grew_none tape m1.counts m1.out }
    cell_of m1 x false = record { state = state m1; is = refl; shown = refl; left = refl; grew = grew_none tape m1.counts m1.out }

    pub cell_value : (j : ℕ) → node_at code.nodes.now i ≡ N.Cell j → (m m1 : Work) (x : ℕ) (y : Result ℕ Stop) → Fetches m1.cells x y → Values code j fuel room m m1 (Ok x) → Values code i fuel room m m1 y
    cell_value j q m m1 x y is h = first_value j (lead_cell j q) m m1 m1 x y h (λ g e at held.
        subst (λ (r : Result ℕ Stop). Evaluates (if_cell x (state m1) (fine (word m1.cells x) (state m1))) tape m1 m1 r) (sym is) (cell_of m1 x (ltb x (length m1.cells))))

    -- an operation on two: the second part, and what comes of both
    abbrev second_two : (j k : ℕ) → Two code.nodes.now i j k → (e : Expr) → ExprAt code.nodes.now i e → (b : Expr) × (i < k) × ExprAt code.nodes.now k b
    second_two j k o e h =
        let p = expr_parts code.nodes.now i o.node e o.is h in let t = o.says (IsExpr p.depth code.nodes.now) e p.says in
        (t.1, t.4, (p.depth, t.6))

    pub second_needs : (j k : ℕ) → Two code.nodes.now i j k → SomeExpr code i → (i < k) × SomeExpr code k
    second_needs j k o some = (∥∥₁_elim some le_prop (λ e. (second_two j k o e.0 e.1).1), ∥∥₁_map some (λ e. let p = second_two j k o e.0 e.1 in (p.0, p.2)))

    pub two_second_stops : (j k : ℕ) → Two code.nodes.now i j k → (m m1 m2 : Work) (x : ℕ) (stop : Stop) → Values code j fuel room m m1 (Ok x) → Values code k fuel room m1 m2 (Err stop) → Values code i fuel room m m2 (Err stop)
    two_second_stops j k o m m1 m2 x stop h h2 = first_value j (lead_two j k o) m m1 m2 x (Err stop) h (λ g e at held.
        let b = second_two j k o e at in
        stops_bind tape (eval (calls g) b.0 (state m1)) (λ v w. fine (o.op x v) w) m1.counts m2.counts m1.out m2.out stop (λ v w. prefix_refl w.out) (h2 g b.0 held b.2))

    pub two_value : (j k : ℕ) (o : Two code.nodes.now i j k) (m m1 m2 : Work) (x y v : ℕ) → v ≡ o.op x y → Values code j fuel room m m1 (Ok x) → Values code k fuel room m1 m2 (Ok y) → Values code i fuel room m m2 (Ok v)
    two_value j k o m m1 m2 x y v w h h2 = first_value j (lead_two j k o) m m1 m2 x (Ok v) h (λ g e at held.
        let b = second_two j k o e at in evaluates_after tape (eval (calls g) b.0 (state m1)) (λ v w. fine (o.op x v) w) y m1 m2 m2 (h2 g b.0 held b.2) (Ok v)
        (record { is = ap (λ (z : ℕ). fine z (state m2)) (sym w); grew = grew_none tape m2.counts m2.out }))

    -- a call: the argument, then what the call comes to
    pub call_value : (f j : ℕ) → node_at code.nodes.now i ≡ N.Call f j → (m : Work) (locals : List ℕ) (s s' : Store) (x : ℕ) (y : Result ℕ Stop) → Values code j fuel room m (work locals s) (Ok x) → Calls code f x fuel room s s' y → Values code i fuel room m (work locals s') y
    call_value f j q m locals s s' x y h k = first_value j (lead_call f j q) m (work locals s) (work locals s') x y h (λ g e at held. k g locals held)
