-- What a statement does from what its parts do, kind by kind: first statements that begin with an expression, and where
-- that stops; then each kind.
use Rattle.std.proofs.Common.{◌≡◌, ℕ, suc, ◌<◌, Bool, true, false, cond, eqb, ltb, List, [], ◌∷◌, length, take, drop, Ok, Err, Result, sym, refl, ap, subst}
use Rattle.std.proofs.Math.Bridge.{le_prop}
use Rattle.std.proofs.Math.Logic.{∥∥₁_map, ∥∥₁_elim}
use Rattle.std.proofs.lemmas.Bool.{lt-ltb, le-ltb}
use Rattle.words.specs.Words.{put}
use Rattle.words.specs.Runs.{ended_index}
use Rattle.words.proofs.Runs.{prefix_refl}
use Rattle.language.specs.Language.{Expr, Stmt, then, while, Program, State, set_local, set_global, set_cell, put_out, Outcome, fine, ends, bind, if_cell, eval, run_stmt, run_call}
use Rattle.language.specs.Nodes.{node_at, ExprAt, StmtAt}
use Rattle.language.specs.declared.nodes.Node.TheVariants as N
use Rattle.language.proofs.Fuel.{bind_more}
use Rattle.language.proofs.Trees.{stmt_parts}
use Rattle.interpreter.specs.declared.code.Code.{Code}
use Rattle.interpreter.specs.declared.state.Stop.{Stop}
use Rattle.interpreter.specs.declared.state.Stop.TheVariants.{Index}
use Rattle.interpreter.specs.declared.state.Store.{Store}
use Rattle.interpreter.specs.Running.{Work, work, SomeExpr, SomeStmt, state_of, Stops, Executes, Stores, Puts, Held, Values, Does, Repeats}
use Rattle.interpreter.proofs.Outcomes.{expr_grows, stmt_grows, Adds, adds_cond, is_0, not_0, grew_none, stops_bind, executes_after}

-- the node stands among the nodes
pub stmt_inside : (code : Code) (i : ℕ) → SomeStmt code i → i < length code.nodes.now
stmt_inside code i some = ∥∥₁_elim some le_prop (λ s. (stmt_parts code.nodes.now i (node_at code.nodes.now i) s.0 refl s.1).inside)

module _ (code : Code) (fuel room : ℕ) where
  -- what an expression and a statement do, for the program g
  abbrev value : Program → Expr → State → Outcome
  value g e s = eval (λ f v t. run_call fuel g room f v t) e s

  abbrev does : Program → Stmt → State → Outcome
  does g p s = run_stmt (suc fuel) g room p s

  abbrev tape : List ℕ
  tape = code.tape.now

  abbrev state : Work → State
  state m = state_of tape m

  -- The statement at node i begins with the expression at node j, behind it.
  pub record Begins (i j : ℕ) (p : Stmt) : Type 0 where
    pub part : Expr
    pub later : i < j
    pub at : ExprAt code.nodes.now j part
    pub rest : Program → ℕ → State → Outcome
    pub is : (g : Program) (s : State) → does g p s ≡ bind (value g part s) (rest g)
    pub adds : (g : Program) → Adds (rest g)

  abbrev pub Begin : ℕ → ℕ → Type 0
  Begin i j = (p : Stmt) → StmtAt code.nodes.now i p → Begins i j p

  -- the expression stands behind it
  pub begin_needs : (i j : ℕ) → Begin i j → SomeStmt code i → (i < j) × SomeExpr code j
  begin_needs i j begin some = (∥∥₁_elim some le_prop (λ s. (begin s.0 s.1).later), ∥∥₁_map some (λ s. let p = begin s.0 s.1 in (p.part, p.at)))

  module _ (i : ℕ) where
    abbrev pub begin_setloc : (k j : ℕ) → node_at code.nodes.now i ≡ N.SetLoc k j → Begin i j
    begin_setloc k j q p h =
        let d = stmt_parts code.nodes.now i (N.SetLoc k j) p q h in let t = d.says in
        record { part = t.0; later = t.2; at = (d.depth, t.3); rest = λ g v s. fine 0 (set_local s k v); is = λ g s. ap (λ (x : Stmt). does g x s) t.1; adds = λ g v s. prefix_refl s.out }

    abbrev pub begin_setglob : (k j : ℕ) → node_at code.nodes.now i ≡ N.SetGlob k j → Begin i j
    begin_setglob k j q p h =
        let d = stmt_parts code.nodes.now i (N.SetGlob k j) p q h in let t = d.says in
        record { part = t.0; later = t.2; at = (d.depth, t.3); rest = λ g v s. fine 0 (set_global s k v); is = λ g s. ap (λ (x : Stmt). does g x s) t.1; adds = λ g v s. prefix_refl s.out }

    abbrev pub begin_out : (j : ℕ) → node_at code.nodes.now i ≡ N.Out j → Begin i j
    begin_out j q p h =
        let d = stmt_parts code.nodes.now i (N.Out j) p q h in let t = d.says in
        record { part = t.0; later = t.2; at = (d.depth, t.3); rest = λ g v s. fine 0 (put_out s v); is = λ g s. ap (λ (x : Stmt). does g x s) t.1; adds = λ g v s. (v ∷ [], refl) }

    -- of a cell that is set, first the place, then the value, then the test of the place
    abbrev pub set_place : ℕ → ℕ → State → Outcome
    set_place place v s = if_cell place s (fine 0 (set_cell s place v))

    pub set_place_adds : (place : ℕ) → Adds (set_place place)
    set_place_adds place v s = adds_cond (ltb place (length s.cells)) (fine 0 (set_cell s place v)) (ends ended_index s) s.out (prefix_refl s.out) (prefix_refl s.out)

    abbrev pub begin_setcell : (j k : ℕ) → node_at code.nodes.now i ≡ N.SetCell j k → Begin i j
    begin_setcell j k q p h =
        let d = stmt_parts code.nodes.now i (N.SetCell j k) p q h in let t = d.says in
        record {
          part = t.0;
          later = t.3;
          at = (d.depth, t.5);
          rest = λ g place s. bind (value g t.1 s) (set_place place);
          is = λ g s. ap (λ (x : Stmt). does g x s) t.2;
          adds = λ g place s. bind_more s.out (value g t.1 s) (set_place place) (expr_grows g fuel room t.1 s) (set_place_adds place);
        }

    abbrev pub begin_if : (j k l : ℕ) → node_at code.nodes.now i ≡ N.If j k l → Begin i j
    begin_if j k l q p h =
        let d = stmt_parts code.nodes.now i (N.If j k l) p q h in let t = d.says in
        record {
          part = t.0;
          later = t.4;
          at = (d.depth, t.7);
          rest = λ g v s. cond (eqb v 0) (does g t.2 s) (does g t.1 s);
          is = λ g s. ap (λ (x : Stmt). does g x s) t.3;
          adds = λ g v s. adds_cond (eqb v 0) (does g t.2 s) (does g t.1 s) s.out (stmt_grows g (suc fuel) room t.2 s) (stmt_grows g (suc fuel) room t.1 s);
        }

    -- the expression stops, and so does the statement
    pub begin_stops : (j : ℕ) → Begin i j → (m m1 : Work) (stop : Stop) → Values code j fuel room m m1 (Err stop) → Does code i fuel room m m1 (Err stop)
    begin_stops j b m m1 stop h g p held at =
        let d = b p at in let s = state m in
        subst (λ (r : Outcome). Stops r tape m.counts m1.counts m.out m1.out stop) (sym (d.is g s))
        (stops_bind tape (value g d.part s) (d.rest g) m.counts m1.counts m.out m1.out stop (d.adds g) (h g d.part held d.at))

    -- the expression has a value, and the rest of the statement comes to x
    begin_value : (j : ℕ) (b : Begin i j) (m m1 m2 : Work) (v : ℕ) (x : Result (Unit {0}) Stop) → Values code j fuel room m m1 (Ok v)
        → ((g : Program) (p : Stmt) (at : StmtAt code.nodes.now i p) → Held code.nodes.now code.procs.now g → Executes ((b p at).rest g v (state m1)) tape m1 m2 x)
        → Does code i fuel room m m2 x
    begin_value j b m m1 m2 v x h k g p held at =
        let d = b p at in let s = state m in
        subst (λ (r : Outcome). Executes r tape m m2 x) (sym (d.is g s)) (executes_after tape (value g d.part s) (d.rest g) v m m1 m2 (h g d.part held d.at) x (k g p at held))

    -- Each kind.
    pub setloc_does : (k j : ℕ) → node_at code.nodes.now i ≡ N.SetLoc k j → (m : Work) (locals locals' : List ℕ) (s : Store) (x : ℕ) (done : Unit {0}) → locals' ≡ put locals k x
        → Values code j fuel room m (work locals s) (Ok x) → Does code i fuel room m (work locals' s) (Ok done)
    setloc_does k j q m locals locals' s x done e h = begin_value j (begin_setloc k j q) m (work locals s) (work locals' s) x (Ok done) h (λ g p at held. record {
      is = ap (λ (l : List ℕ). fine 0 (state (work l s))) (sym e);
      grew = grew_none tape s.counts s.out.now;
    })

    pub setglob_does : (k j : ℕ) → node_at code.nodes.now i ≡ N.SetGlob k j → (m m1 : Work) (x : ℕ) (globals : List ℕ) (done : Unit {0}) → globals ≡ put m1.globals k x
        → Values code j fuel room m m1 (Ok x) → Does code i fuel room m (record { locals = m1.locals; globals = globals; cells = m1.cells; out = m1.out; counts = m1.counts }) (Ok done)
    setglob_does k j q m m1 x globals done e h = begin_value j (begin_setglob k j q) m m1 (record { locals = m1.locals; globals = globals; cells = m1.cells; out = m1.out; counts = m1.counts }) x (Ok done) h (λ g p at held. record {
      is = ap (λ (l : List ℕ). fine 0 (record { locals = m1.locals; globals = l; cells = m1.cells; tape = drop m1.counts.taken tape; out = take m1.counts.sent m1.out })) (sym e);
      grew = grew_none tape m1.counts m1.out;
    })

    pub out_does : (j : ℕ) → node_at code.nodes.now i ≡ N.Out j → (m : Work) (locals : List ℕ) (s s' : Store) (x : ℕ) (r : Result (Unit {0}) Stop) → Puts s s' x r
        → Values code j fuel room m (work locals s) (Ok x) → Does code i fuel room m (work locals s') r
    out_does j q m locals s s' x r puts h = begin_value j (begin_out j q) m (work locals s) (work locals s') x r h (λ g p at held. puts tape locals)

    -- one after the other
    abbrev then_parts : (j k : ℕ) → node_at code.nodes.now i ≡ N.Then j k → (p : Stmt) → StmtAt code.nodes.now i p → (a : Stmt) × (b : Stmt) × (p ≡ then a b) × (i < j) × (i < k) × StmtAt code.nodes.now j a × StmtAt code.nodes.now k b
    then_parts j k q p h = let d = stmt_parts code.nodes.now i (N.Then j k) p q h in let t = d.says in (t.0, t.1, t.2, t.3, t.4, (d.depth, t.5), (d.depth, t.6))

    pub then_needs : (j k : ℕ) → node_at code.nodes.now i ≡ N.Then j k → SomeStmt code i → (i < j) × (i < k) × SomeStmt code j × SomeStmt code k
    then_needs j k q some = (
      ∥∥₁_elim some le_prop (λ s. (then_parts j k q s.0 s.1).3),
      ∥∥₁_elim some le_prop (λ s. (then_parts j k q s.0 s.1).4),
      ∥∥₁_map some (λ s. let t = then_parts j k q s.0 s.1 in (t.0, t.5)),
      ∥∥₁_map some (λ s. let t = then_parts j k q s.0 s.1 in (t.1, t.6)),
    )

    pub then_stops : (j k : ℕ) → node_at code.nodes.now i ≡ N.Then j k → (m m1 : Work) (stop : Stop) → Does code j fuel room m m1 (Err stop) → Does code i fuel room m m1 (Err stop)
    then_stops j k q m m1 stop h g p held at =
        let t = then_parts j k q p at in let s = state m in
        subst (λ (y : Stmt). Stops (does g y s) tape m.counts m1.counts m.out m1.out stop) (sym t.2)
        (stops_bind tape (does g t.0 s) (λ v u. does g t.1 u) m.counts m1.counts m.out m1.out stop (λ v u. stmt_grows g (suc fuel) room t.1 u) (h g t.0 held t.5))

    pub then_does : (j k : ℕ) → node_at code.nodes.now i ≡ N.Then j k → (m m1 m2 : Work) (done : Unit {0}) (x : Result (Unit {0}) Stop) → Does code j fuel room m m1 (Ok done) → Does code k fuel room m1 m2 x → Does code i fuel room m m2 x
    then_does j k q m m1 m2 done x h h2 g p held at =
        let t = then_parts j k q p at in let s = state m in
        subst (λ (y : Stmt). Executes (does g y s) tape m m2 x) (sym t.2)
        (executes_after tape (does g t.0 s) (λ v u. does g t.1 u) 0 m m1 m2 (h g t.0 held t.5) x (h2 g t.1 held t.6))

    -- two ways
    abbrev if_parts : (j k l : ℕ) → node_at code.nodes.now i ≡ N.If j k l → (p : Stmt) → StmtAt code.nodes.now i p → (a : Stmt) × (b : Stmt) × (i < k) × (i < l) × StmtAt code.nodes.now k a × StmtAt code.nodes.now l b
    if_parts j k l q p h = let d = stmt_parts code.nodes.now i (N.If j k l) p q h in let t = d.says in (t.1, t.2, t.5, t.6, (d.depth, t.8), (d.depth, t.9))

    pub if_needs : (j k l : ℕ) → node_at code.nodes.now i ≡ N.If j k l → SomeStmt code i → (i < k) × (i < l) × SomeStmt code k × SomeStmt code l
    if_needs j k l q some = (
      ∥∥₁_elim some le_prop (λ s. (if_parts j k l q s.0 s.1).2),
      ∥∥₁_elim some le_prop (λ s. (if_parts j k l q s.0 s.1).3),
      ∥∥₁_map some (λ s. let t = if_parts j k l q s.0 s.1 in (t.0, t.4)),
      ∥∥₁_map some (λ s. let t = if_parts j k l q s.0 s.1 in (t.1, t.5)),
    )

    pub if_0 : (j k l : ℕ) → node_at code.nodes.now i ≡ N.If j k l → (m m1 m2 : Work) (x : ℕ) (y : Result (Unit {0}) Stop) → x ≡ 0 → Values code j fuel room m m1 (Ok x) → Does code l fuel room m1 m2 y → Does code i fuel room m m2 y
    if_0 j k l q m m1 m2 x y z h h2 = begin_value j (begin_if j k l q) m m1 m2 x y h (λ g p at held.
        let t = if_parts j k l q p at in let s = state m1 in
        subst (λ (r : Outcome). Executes r tape m1 m2 y) (sym (is_0 x Outcome (does g t.1 s) (does g t.0 s) z)) (h2 g t.1 held t.5))

    pub if_not_0 : (j k l : ℕ) → node_at code.nodes.now i ≡ N.If j k l → (m m1 m2 : Work) (x : ℕ) (y : Result (Unit {0}) Stop) → (x ≡ 0 → ⊥) → Values code j fuel room m m1 (Ok x) → Does code k fuel room m1 m2 y → Does code i fuel room m m2 y
    if_not_0 j k l q m m1 m2 x y z h h2 = begin_value j (begin_if j k l q) m m1 m2 x y h (λ g p at held.
        let t = if_parts j k l q p at in let s = state m1 in
        subst (λ (r : Outcome). Executes r tape m1 m2 y) (sym (not_0 x Outcome (does g t.1 s) (does g t.0 s) z)) (h2 g t.0 held t.4))

    -- a loop
    abbrev while_parts : (j k : ℕ) → node_at code.nodes.now i ≡ N.While j k → (p : Stmt) → StmtAt code.nodes.now i p → (e : Expr) × (a : Stmt) × (p ≡ while e a) × (i < j) × (i < k) × ExprAt code.nodes.now j e × StmtAt code.nodes.now k a
    while_parts j k q p h = let d = stmt_parts code.nodes.now i (N.While j k) p q h in let t = d.says in (t.0, t.1, t.2, t.3, t.4, (d.depth, t.5), (d.depth, t.6))

    pub while_needs : (j k : ℕ) → node_at code.nodes.now i ≡ N.While j k → SomeStmt code i → (i < j) × (i < k) × SomeExpr code j × SomeStmt code k
    while_needs j k q some = (
      ∥∥₁_elim some le_prop (λ s. (while_parts j k q s.0 s.1).3),
      ∥∥₁_elim some le_prop (λ s. (while_parts j k q s.0 s.1).4),
      ∥∥₁_map some (λ s. let t = while_parts j k q s.0 s.1 in (t.0, t.5)),
      ∥∥₁_map some (λ s. let t = while_parts j k q s.0 s.1 in (t.1, t.6)),
    )

    pub while_does : (j k : ℕ) → node_at code.nodes.now i ≡ N.While j k → (m m1 : Work) (x : Result (Unit {0}) Stop) → Repeats code j k fuel room m m1 x → Does code i fuel room m m1 x
    while_does j k q m m1 x h g p held at =
        let t = while_parts j k q p at in
        subst (λ (y : Stmt). Executes (does g y (state m)) tape m m1 x) (sym t.2) (h g t.0 t.1 held t.5 t.6)

    -- a cell that is set: the second part, and the test of the place
    abbrev setcell_second : (j k : ℕ) → node_at code.nodes.now i ≡ N.SetCell j k → (p : Stmt) → StmtAt code.nodes.now i p → (b : Expr) × (i < k) × ExprAt code.nodes.now k b
    setcell_second j k q p h = let d = stmt_parts code.nodes.now i (N.SetCell j k) p q h in let t = d.says in (t.1, t.4, (d.depth, t.6))

    pub setcell_needs : (j k : ℕ) → node_at code.nodes.now i ≡ N.SetCell j k → SomeStmt code i → (i < k) × SomeExpr code k
    setcell_needs j k q some = (∥∥₁_elim some le_prop (λ s. (setcell_second j k q s.0 s.1).1), ∥∥₁_map some (λ s. let b = setcell_second j k q s.0 s.1 in (b.0, b.2)))

    pub setcell_stops : (j k : ℕ) → node_at code.nodes.now i ≡ N.SetCell j k → (m m1 m2 : Work) (x : ℕ) (stop : Stop) → Values code j fuel room m m1 (Ok x) → Values code k fuel room m1 m2 (Err stop) → Does code i fuel room m m2 (Err stop)
    setcell_stops j k q m m1 m2 x stop h h2 = begin_value j (begin_setcell j k q) m m1 m2 x (Err stop) h (λ g p at held.
        let b = setcell_second j k q p at in
        stops_bind tape (value g b.0 (state m1)) (set_place x) m1.counts m2.counts m1.out m2.out stop (set_place_adds x) (h2 g b.0 held b.2))

    setcell_of : (j k : ℕ) (q : node_at code.nodes.now i ≡ N.SetCell j k) (m m1 m2 m3 : Work) (x y : ℕ) (b : Bool) → ltb x (length m2.cells) ≡ b → (r : Result (Unit {0}) Stop)
        → Executes (cond b (fine 0 (set_cell (state m2) x y)) (ends ended_index (state m2))) tape m2 m3 r
        → Values code j fuel room m m1 (Ok x) → Values code k fuel room m1 m2 (Ok y) → Does code i fuel room m m3 r
    setcell_of j k q m m1 m2 m3 x y b is r e h h2 = begin_value j (begin_setcell j k q) m m1 m3 x r h (λ g p at held.
        let d = setcell_second j k q p at in let u = state m2 in
        executes_after tape (value g d.0 (state m1)) (set_place x) y m1 m2 m3 (h2 g d.0 held d.2) r
        (subst (λ (z : Bool). Executes (cond z (fine 0 (set_cell u x y)) (ends ended_index u)) tape m2 m3 r) (sym is) e))

    pub setcell_does : (j k : ℕ) → node_at code.nodes.now i ≡ N.SetCell j k → (m m1 : Work) (locals : List ℕ) (s s' : Store) (x y : ℕ) (r : Result (Unit {0}) Stop) → Stores s s' x y r
        → Values code j fuel room m m1 (Ok x) → Values code k fuel room m1 (work locals s) (Ok y) → Does code i fuel room m (work locals s') r
    setcell_does j k q m m1 locals s s' x y (Ok done) stores h h2 =
        let m2 = work locals s in
        let m3 : Work = record { locals = locals; globals = s.globals.now; cells = put s.cells.now x y; out = s.out.now; counts = s.counts } in
        subst (λ (w : Work). Does code i fuel room m w (Ok done)) (sym (stores.1 locals))
        (setcell_of j k q m m1 m2 m3 x y true (lt-ltb x (length s.cells.now) stores.0) (Ok done) (record { is = refl; grew = grew_none tape s.counts s.out.now }) h h2)
    setcell_does j k q m m1 locals s s' x y (Err stop) stores h h2 =
        let m2 = work locals s in
        subst (λ (u : Store). Does code i fuel room m (work locals u) (Err stop)) (sym stores.2) (subst (λ (z : Stop). Does code i fuel room m m2 (Err z)) (sym stores.1)
        (setcell_of j k q m m1 m2 m2 x y false (le-ltb x (length s.cells.now) stores.0) (Err Index) (record { state = state m2; is = refl; shown = refl; left = refl; grew = grew_none tape s.counts s.out.now }) h h2))
