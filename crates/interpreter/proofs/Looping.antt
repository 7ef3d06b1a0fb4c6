-- A loop written as a loop: what it does from a turn on is what it does from its start. Each turn: the test stops, the
-- test is 0, the body stops, the fuel is spent, or a further turn comes.
use Rattle.std.proofs.Common.{◌≡◌, ℕ, suc, ◌-◌, cond, eqb, List, Ok, Err, Result, sym, refl, ap, ◌∙◌, subst, arith}
use Rattle.words.proofs.Runs.{prefix_refl}
use Rattle.language.specs.Language.{Expr, Stmt, while, Program, State, Outcome, fine, bind, eval, run_stmt, run_call}
use Rattle.language.specs.Nodes.{ExprAt, StmtAt}
use Rattle.language.proofs.Fuel.{bind_more}
use Rattle.interpreter.specs.declared.code.Code.{Code}
use Rattle.interpreter.specs.declared.state.Stop.{Stop}
use Rattle.interpreter.specs.declared.state.Stop.TheVariants.{Spent}
use Rattle.interpreter.specs.declared.state.Store.{Store}
use Rattle.interpreter.specs.Running.{Work, SameLoans, state_of, Stops, Executes, Held, Values, Does, Repeats}
use Rattle.interpreter.proofs.Outcomes.{stmt_grows, Adds, adds_cond, is_0, not_0, grew_none, stops_bind, executes_after}

-- the same lent words later on
pub same_later : (a b c : Store) → SameLoans a b → SameLoans b c → SameLoans a c
same_later a b c x y = record { globals = y.globals ∙ x.globals; cells = y.cells ∙ x.cells; out = y.out ∙ x.out }

module _ (code : Code) (i j room : ℕ) where
  -- whatever the loop does from a turn on, it does from its start
  abbrev pub Still : ℕ → Work → ℕ → Work → Type 0
  Still fuel m0 left m = (m' : Work) (x : Result (Unit {0}) Stop) → Repeats code i j left room m m' x → Repeats code i j fuel room m0 m' x

  abbrev tape : List ℕ
  tape = code.tape.now

  module _ (left : ℕ) where
    abbrev state : Work → State
    state m = state_of tape m

    module _ (g : Program) (e : Expr) (p : Stmt) where
      abbrev test : State → Outcome
      test s = eval (λ f v t. run_call left g room f v t) e s

      abbrev body : State → Outcome
      body s = run_stmt (suc left) g room p s

      abbrev again : ℕ → State → Outcome
      again z u = run_stmt left g room (while e p) u

      -- what follows the test
      abbrev turns : ℕ → State → Outcome
      turns v t = cond (eqb v 0) (fine 0 t) (bind (body t) again)

      turns_add : Adds turns
      turns_add v t = adds_cond (eqb v 0) (fine 0 t) (bind (body t) again) t.out (prefix_refl t.out)
          (bind_more t.out (body t) again (stmt_grows g (suc left) room p t) (λ z u. stmt_grows g left room (while e p) u))

    pub test_stops : (m m1 : Work) (stop : Stop) → Values code i left room m m1 (Err stop) → Repeats code i j left room m m1 (Err stop)
    test_stops m m1 stop h g e p held at bt = stops_bind tape (test g e p (state m)) (turns g e p) m.counts m1.counts m.out m1.out stop (turns_add g e p) (h g e held at)

    module _ (m m1 : Work) (v : ℕ) (h : Values code i left room m m1 (Ok v)) where
      -- after the test, the rest of the turn
      after_test : (m2 : Work) (x : Result (Unit {0}) Stop) → ((g : Program) (e : Expr) (p : Stmt) → Held code.nodes.now code.procs.now g → ExprAt code.nodes.now i e → StmtAt code.nodes.now j p
          → Executes (turns g e p v (state m1)) tape m1 m2 x) → Repeats code i j left room m m2 x
      after_test m2 x k g e p held at bt = executes_after tape (test g e p (state m)) (turns g e p) v m m1 m2 (h g e held at) x (k g e p held at bt)

      pub test_is_0 : (done : Unit {0}) → v ≡ 0 → Repeats code i j left room m m1 (Ok done)
      test_is_0 done z = after_test m1 (Ok done) (λ g e p held at bt.
          let t = state m1 in
          record { is = is_0 v Outcome (fine 0 t) (bind (body g e p t) (again g e p)) z; grew = grew_none tape m1.counts m1.out })

      module _ (yes : v ≡ 0 → ⊥) where
        pub body_stops : (m2 : Work) (stop : Stop) → Does code j left room m1 m2 (Err stop) → Repeats code i j left room m m2 (Err stop)
        body_stops m2 stop k = after_test m2 (Err stop) (λ g e p held at bt.
            let t = state m1 in
            subst (λ (r : Outcome). Stops r tape m1.counts m2.counts m1.out m2.out stop) (sym (not_0 v Outcome (fine 0 t) (bind (body g e p t) (again g e p)) yes))
            (stops_bind tape (body g e p t) (again g e p) m1.counts m2.counts m1.out m2.out stop (λ z u. stmt_grows g left room (while e p) u) (k g p held bt)))

        -- the body is done, and the further turns come to x
        further : (m2 m3 : Work) (done : Unit {0}) (x : Result (Unit {0}) Stop) → Does code j left room m1 m2 (Ok done)
            → ((g : Program) (e : Expr) (p : Stmt) → Held code.nodes.now code.procs.now g → ExprAt code.nodes.now i e → StmtAt code.nodes.now j p → Executes (again g e p 0 (state m2)) tape m2 m3 x)
            → Repeats code i j left room m m3 x
        further m2 m3 done x k more = after_test m3 x (λ g e p held at bt.
            let t = state m1 in
            subst (λ (r : Outcome). Executes r tape m1 m3 x) (sym (not_0 v Outcome (fine 0 t) (bind (body g e p t) (again g e p)) yes))
            (executes_after tape (body g e p t) (again g e p) 0 m1 m2 m3 (k g p held bt) x (more g e p held at bt)))

        pub fuel_spent : (m2 : Work) (done : Unit {0}) → left ≡ 0 → Does code j left room m1 m2 (Ok done) → Repeats code i j left room m m2 (Err Spent)
        fuel_spent m2 done z k = further m2 m2 done (Err Spent) k (λ g e p held at bt.
            let s = state m2 in
            record { state = s; is = ap (λ (n : ℕ). run_stmt n g room (while e p) s) z; shown = refl; left = refl; grew = grew_none tape m2.counts m2.out })

        pub turn_more : (m2 m3 : Work) (done : Unit {0}) (x : Result (Unit {0}) Stop) → (left ≡ 0 → ⊥) → Does code j left room m1 m2 (Ok done) → Repeats code i j (left - 1) room m2 m3 x → Repeats code i j left room m m3 x
        turn_more m2 m3 done x nz k more = further m2 m3 done x k (λ g e p held at bt.
            let less : suc (left - 1) ≡ left = omega arith in
            subst (λ (n : ℕ). Executes (run_stmt n g room (while e p) (state m2)) tape m2 m3 x) less (more g e p held at bt))
