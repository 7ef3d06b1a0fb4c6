-- A call: the procedure that is found, no room for its frame or no fuel for its body, and what comes of its body, after
-- which the caller's locals are back.
use Rattle.std.proofs.Common.{◌≡◌, ℕ, zero, suc, ◌+◌, ◌-◌, ◌<◌, ◌≤◌, Bool, true, false, cond, ltb, List, [], ◌∷◌, length, set, replicate, Ok, Err, sym, refl, ap, ◌∙◌, subst, arith}
use mathlib.Core.Option.{Option, some, none}
use Rattle.std.proofs.Math.Bridge.{le_prop}
use Rattle.std.proofs.Math.Logic.{∥∥₁_map, ∥∥₁_elim}
use Rattle.std.specs.Coded.{Coded-set, coded_ℕ}
use Rattle.std.proofs.lemmas.Bool.{lt-ltb, le-ltb}
use Rattle.words.specs.Words.{word}
use Rattle.words.specs.Runs.{ended_full}
use Rattle.words.proofs.Runs.{prefix_refl}
use Rattle.language.specs.Language.{Stmt, Proc, Program, State, with_locals, Outcome, fine, ends, bind, enter, room_inside, proc_at, frame_size, frame_words, stmt_height, run_stmt, run_call}
use Rattle.language.specs.Heights.{node_names}
use Rattle.language.specs.Nodes.{StmtAt}
use Rattle.interpreter.specs.declared.code.Code.{Code}
use Rattle.interpreter.specs.declared.state.Routine.{Routine}
use Rattle.interpreter.specs.declared.state.Stop.{Stop}
use Rattle.interpreter.specs.declared.state.Stop.TheVariants.{Full, Spent}
use Rattle.interpreter.specs.declared.state.Store.{Store}
use Rattle.interpreter.specs.Routines.{routine_at}
use Rattle.interpreter.specs.Running.{work, SomeStmt, state_of, Stops, Held, Calls, Does}
use Rattle.language.proofs.Unique.{same_stmt}
use Rattle.interpreter.proofs.Outcomes.{Adds, grew_none, stops_bind}

pub proc_some : (ps : List Proc) (f : ℕ) → f < length ps → (p : Proc) × (proc_at ps f ≡ some p)
proc_some [] f h = absurd (omega arith)
proc_some (p ∷ ps) zero h = (p, refl)
proc_some (p ∷ ps) (suc f) h = proc_some ps f (omega arith)

pub proc_inside : (ps : List Proc) (f : ℕ) (p : Proc) → proc_at ps f ≡ some p → f < length ps
proc_inside [] f p q = let no : ◌≡◌ {A = ℕ} 0 1 = cc in absurd (omega arith)
proc_inside (x ∷ ps) zero p q = omega arith
proc_inside (x ∷ ps) (suc f) p q = let h = proc_inside ps f p q in omega arith

proc_none : (ps : List Proc) (f : ℕ) → length ps ≤ f → proc_at ps f ≡ none
proc_none [] f h = refl
proc_none (p ∷ ps) zero h = absurd (omega arith)
proc_none (p ∷ ps) (suc f) h = proc_none ps f (omega arith)

-- the locals of a procedure at its start
pub opened_frame : (n v : ℕ) (words : List ℕ) → words ≡ replicate (1 + n) 0 → set words 0 v ≡ v ∷ replicate n 0
opened_frame n v words is =
    let one_more : 1 + n ≡ suc n = omega arith in
    let zeros : words ≡ replicate (suc n) 0 = is ∙ ap (λ (k : ℕ). replicate k 0) one_more in
    ap (λ (l : List ℕ). set l 0 v) zeros

module _ (code : Code) (f v fuel room : ℕ) (s : Store) where
  abbrev routine : Routine
  routine = routine_at code.procs.now f

  abbrev tape : List ℕ
  tape = code.tape.now

  abbrev caller : List ℕ → State
  caller locals = state_of tape (work locals s)

  -- the words of the frame
  abbrev pub size : ℕ
  size = frame_words + routine.locals + routine.height

  -- at its body a statement stands, and the height is small
  pub body_stands : f < length code.procs.now → SomeStmt code routine.body
  body_stands inside = ∥∥₁_map code.measured (λ all. let d = all f inside in (d.0, d.1))

  pub height_small : f < length code.procs.now → routine.height ≤ node_names
  height_small inside = ∥∥₁_elim code.measured le_prop (λ all. (all f inside).3)

  -- the call with a procedure that is found or not, when its body has so much fuel
  abbrev entered : Program → ℕ → List ℕ → Option Proc → Outcome
  entered g n locals o = enter (λ b t. run_stmt n g (room_inside o room) b t) o room v (caller locals)

  call_is : (g : Program) (n : ℕ) (locals : List ℕ) (o : Option Proc) → fuel ≡ suc n → proc_at g.procs f ≡ o → run_call fuel g room f v (caller locals) ≡ entered g n locals o
  call_is g n locals o e q = ap (λ (k : ℕ). run_call k g room f v (caller locals)) e ∙ ap (λ (x : Option Proc). entered g n locals x) q

  pub call_unknown : (fuel ≡ 0 → ⊥) → length code.procs.now ≤ f → Calls code f v fuel room s s (Err Full)
  call_unknown some-fuel past g locals held =
      let e : fuel ≡ suc (fuel - 1) = omega arith in
      record { state = caller locals; is = call_is g (fuel - 1) locals none e (proc_none g.procs f (omega (arith, held.all))); shown = refl; left = refl; grew = grew_none tape s.counts s.out.now }

  record Found (g : Program) : Type 0 where
    pub proc : Proc
    pub is : proc_at g.procs f ≡ some proc
    pub locals : routine.locals ≡ proc.locals
    pub body : StmtAt code.nodes.now routine.body proc.body
    pub needs : size ≡ frame_size proc

  -- after the body the caller's locals are back
  abbrev returned : List ℕ → ℕ → State → Outcome
  returned locals z t = fine (word t.locals 0) (with_locals t locals)

  abbrev body_of : Program → ℕ → List ℕ → Proc → Outcome
  body_of g n locals p = bind (run_stmt n g (room - frame_size p) p.body (with_locals (caller locals) (v ∷ replicate p.locals 0))) (returned locals)

  module _ (inside : f < length code.procs.now) where
    -- the routine has the height of the procedure's body
    height_is : (b : Stmt) → StmtAt code.nodes.now routine.body b → routine.height ≡ stmt_height b
    height_is b at = ∥∥₁_elim code.measured (Coded-set coded_ℕ _ _) (λ all. let d = all f inside in d.2 ∙ ap stmt_height (same_stmt code.nodes.now routine.body d.0 b d.1 at))

    found : (g : Program) → Held code.nodes.now code.procs.now g → Found g
    found g held =
        let p = proc_some g.procs f (omega (arith, held.all)) in
        let h = held.holds f p.0 p.1 in
        let high = height_is p.0.body h.1 in
        record { proc = p.0; is = p.1; locals = h.0; body = h.1; needs = omega (arith, h.0, high) }

    pub call_full : (fuel ≡ 0 → ⊥) → room < size → Calls code f v fuel room s s (Err Full)
    call_full some-fuel few g locals held =
        let e : fuel ≡ suc (fuel - 1) = omega arith in
        let p = found g held in
        let full : ltb room (frame_size p.proc) ≡ true = lt-ltb room (frame_size p.proc) (omega (arith, p.needs)) in
        record {
          state = caller locals;
          is = call_is g (fuel - 1) locals (some p.proc) e p.is ∙ ap (λ (b : Bool). cond b (ends ended_full (caller locals)) (body_of g (fuel - 1) locals p.proc)) full;
          shown = refl;
          left = refl;
          grew = grew_none tape s.counts s.out.now;
        }

    module _ (n : ℕ) (e : fuel ≡ suc n) (fits : size ≤ room) where
      body_is : (g : Program) (locals : List ℕ) (p : Found g) → run_call fuel g room f v (caller locals) ≡ body_of g n locals p.proc
      body_is g locals p =
          let q = p.proc in
          let enough : ltb room (frame_size q) ≡ false = le-ltb room (frame_size q) (omega (arith, p.needs)) in
          call_is g n locals (some q) e p.is ∙ ap (λ (b : Bool). cond b (ends ended_full (caller locals)) (body_of g n locals q)) enough

      pub call_spent : n ≡ 0 → Calls code f v fuel room s s (Err Spent)
      call_spent z g locals held =
          let p = found g held in
          record { state = with_locals (caller locals) (v ∷ replicate p.proc.locals 0); is = body_is g locals p ∙ ap (λ (k : ℕ). body_of g k locals p.proc) z; shown = refl; left = refl; grew = grew_none tape s.counts s.out.now }

      -- the body with locals of its own, and less room
      module _ (own : List ℕ) (less room1 : ℕ) (more : n ≡ suc less) (own_room : room1 ≡ room - size) (opened : own ≡ v ∷ replicate routine.locals 0) where
        callee_is : (g : Program) (locals : List ℕ) (p : Found g) → run_call fuel g room f v (caller locals) ≡ bind (run_stmt (suc less) g room1 p.proc.body (state_of tape (work own s))) (returned locals)
        callee_is g locals p =
            let q = p.proc in
            let starts : v ∷ replicate q.locals 0 ≡ own = ap (λ (k : ℕ). v ∷ replicate k 0) (sym p.locals) ∙ sym opened in
            let left : room - frame_size q ≡ room1 = ap (λ (k : ℕ). room - k) (sym p.needs) ∙ sym own_room in
            body_is g locals p ∙ (ap (λ (k : ℕ). body_of g k locals q) more
            ∙ (ap (λ (k : ℕ). bind (run_stmt (suc less) g k q.body (with_locals (caller locals) (v ∷ replicate q.locals 0))) (returned locals)) left
            ∙ ap (λ (l : List ℕ). bind (run_stmt (suc less) g room1 q.body (with_locals (caller locals) l)) (returned locals)) starts))

        returned_adds : (locals : List ℕ) → Adds (returned locals)
        returned_adds locals z t = prefix_refl t.out

        pub call_stops : (own' : List ℕ) (s' : Store) (stop : Stop) → Does code routine.body less room1 (work own s) (work own' s') (Err stop) → Calls code f v fuel room s s' (Err stop)
        call_stops own' s' stop h g locals held =
            let p = found g held in
            subst (λ (x : Outcome). Stops x tape s.counts s'.counts s.out.now s'.out.now stop) (sym (callee_is g locals p))
            (stops_bind tape (run_stmt (suc less) g room1 p.proc.body (state_of tape (work own s))) (returned locals) s.counts s'.counts s.out.now s'.out.now stop (returned_adds locals) (h g p.proc.body held p.body))

        pub call_gives : (own' : List ℕ) (s' : Store) (done : Unit {0}) → Does code routine.body less room1 (work own s) (work own' s') (Ok done) → Calls code f v fuel room s s' (Ok (word own' 0))
        call_gives own' s' done h g locals held =
            let p = found g held in let came = h g p.proc.body held p.body in
            record { is = callee_is g locals p ∙ ap (λ (r : Outcome). bind r (returned locals)) came.is; grew = came.grew }
