-- A call of procedure 0 with 0, over globals and cells that are all 0, is the program's run.
use Rattle.std.proofs.Common.{◌≡◌, ℕ, ◌<◌, ◌≤◌, List, [], length, take, drop, replicate, Ok, Err, Some, None, Option, Result, sym, refl, ap, ◌∙◌, subst, arith}
use Rattle.words.specs.Endings.{halt_code}
use Rattle.words.specs.Runs.{Seen, ended_index, ended_full}
use Rattle.words.specs.declared.ending.Ending.{Ending}
use Rattle.words.specs.declared.ending.Ending.TheVariants as E
use Rattle.language.specs.Language.{Program, State, Outcome, ends, spent, run_call, start, source, seen_outcome, program_run, frame_room}
use Rattle.language.specs.declared.nodes.Node.{Node}
use Rattle.language.specs.declared.nodes.Procedure.{Procedure}
use Rattle.interpreter.specs.declared.Run.{Run}
use Rattle.interpreter.specs.declared.state.Routine.{Routine}
use Rattle.interpreter.specs.declared.state.Store.{Store}
use Rattle.interpreter.specs.declared.state.Stop.{Stop}
use Rattle.interpreter.specs.declared.state.Counts.{Counts}
use Rattle.interpreter.specs.declared.state.Stop.TheVariants.{Index, Full, Spent, NoOut}
use Rattle.interpreter.specs.Running.{Memory, Work, work, state_of, Grew, Stopped, Evaluates, Held}
use Rattle.interpreter.specs.Interpreter.{Lent, Shows}
use Rattle.interpreter.specs.Routines.{AllReady}
use Rattle.interpreter.proofs.Preparing.{part_held}

abbrev pub no_counts : Counts
no_counts = record { taken = 0; sent = 0 }

abbrev pub run_of : Option Ending → Work → Run
run_of how m = record { ending = how; counts = m.counts }

module _ (nodes : List Node) (table : List Procedure) (procs part : List Routine) (ready : AllReady nodes table procs (length table)) (long : length table ≤ length procs) (is : part ≡ take (length table) procs)
    (tape : List ℕ) (fuel : ℕ) (m : Memory) (globals cells : List ℕ) (zero_globals : globals ≡ replicate (length m.globals) 0) (zero_cells : cells ≡ replicate (length m.cells) 0) (room : ℕ) (enough : room ≡ frame_room) (s2 : Store) where
  abbrev pub Given : Program → Type 0
  Given g = Lent nodes table m g

  held : (g : Program) → Given g → Held nodes part g
  held g l = part_held nodes table procs part ready long is g l.holds l.procs

  -- the work at the start and at the end, with these locals outside
  abbrev m1 : List ℕ → Work
  m1 locals = record { locals = locals; globals = globals; cells = cells; out = m.out; counts = no_counts }

  abbrev pub m2 : Work
  m2 = work [] s2

  -- what comes of the call of procedure 0
  abbrev pub First : Result ℕ Stop → Type 0
  First r = (g : Program) (locals : List ℕ) → Held nodes part g → Evaluates (run_call fuel g room 0 0 (state_of tape (m1 locals))) tape (m1 locals) (work locals s2) r

  start_is : (g : Program) → Given g → state_of tape (m1 []) ≡ start g tape
  start_is g l =
      let make : List ℕ → List ℕ → State = λ a b. record { locals = []; globals = a; cells = b; tape = tape; out = [] } in
      ap (λ (a : List ℕ). make a cells) (zero_globals ∙ ap (λ (n : ℕ). replicate n 0) l.globals) ∙ ap (λ (b : List ℕ). make (replicate g.globals 0) b) (zero_cells ∙ ap (λ (n : ℕ). replicate n 0) l.cells)

  source_is : (g : Program) → Given g → source g tape fuel ≡ run_call fuel g room 0 0 (state_of tape (m1 []))
  source_is g l = ap (λ (s : State). run_call fuel g frame_room 0 0 s) (sym (start_is g l)) ∙ ap (λ (n : ℕ). run_call fuel g n 0 0 (state_of tape (m1 []))) (sym enough)

  -- the ending as it is known, and the out words at the end
  pub seen_as : (g : Program) (ending how : Option Ending) (out : List ℕ) → ending ≡ how → out ≡ m2.out → Shows (program_run g tape fuel) (run_of how m2) tape m.out m2.out → Shows (program_run g tape fuel) (run_of ending m2) tape m.out out
  seen_as g ending how out e f h = subst (λ (o : List ℕ). Shows (program_run g tape fuel) (run_of ending m2) tape m.out o) (sym f) (subst (λ (x : Option Ending). Shows (program_run g tape fuel) (run_of x m2) tape m.out m2.out) (sym e) h)

  -- the outcome seen, after what has grown from nothing
  shows : (seen : Seen) (how : Option Ending) → seen ≡ record { shown = take m2.counts.sent m2.out; tape_left = drop m2.counts.taken tape; ending = halt_code how } → Grew tape (m1 []).counts m2.counts (m1 []).out m2.out
      → Shows seen (run_of how m2) tape m.out m2.out
  shows seen how e grew = record { is = e; taken_within = grew.taken_within (omega arith); sent_within = grew.sent_within (omega arith); unsent = grew.unsent }

  pub ran_done : (v : ℕ) → First (Ok v) → (g : Program) → Given g → Shows (program_run g tape fuel) (run_of (Some E.Done) m2) tape m.out m2.out
  ran_done v h g l =
      let came = h g [] (held g l) in
      shows (program_run g tape fuel) (Some E.Done) (ap seen_outcome (source_is g l ∙ came.is)) came.grew

  stopped_shows : (how : State → Outcome) (end : Option Ending) → ((s : State) → seen_outcome (how s) ≡ record { shown = s.out; tape_left = s.tape; ending = halt_code end }) → (g : Program) → Given g
      → Stopped how (run_call fuel g room 0 0 (state_of tape (m1 []))) tape (m1 []).counts m2.counts (m1 []).out m2.out → Shows (program_run g tape fuel) (run_of end m2) tape m.out m2.out
  stopped_shows how end e g l h =
      let make : List ℕ → List ℕ → Seen = λ a b. record { shown = a; tape_left = b; ending = halt_code end } in
      shows (program_run g tape fuel) end
      (ap seen_outcome (source_is g l ∙ h.is) ∙ (e h.state ∙ (ap (λ (a : List ℕ). make a h.state.tape) h.shown ∙ ap (λ (b : List ℕ). make (take m2.counts.sent m2.out) b) h.left))) h.grew

  pub ran_index : First (Err Index) → (g : Program) → Given g → Shows (program_run g tape fuel) (run_of (Some E.Index) m2) tape m.out m2.out
  ran_index h g l = stopped_shows (ends ended_index) (Some E.Index) (λ s. refl) g l (h g [] (held g l))

  pub ran_full : First (Err Full) → (g : Program) → Given g → Shows (program_run g tape fuel) (run_of (Some E.Full) m2) tape m.out m2.out
  ran_full h g l = stopped_shows (ends ended_full) (Some E.Full) (λ s. refl) g l (h g [] (held g l))

  pub ran_spent : First (Err Spent) → (g : Program) → Given g → Shows (program_run g tape fuel) (run_of None m2) tape m.out m2.out
  ran_spent h g l = stopped_shows spent None (λ s. refl) g l (h g [] (held g l))

  pub ran_no_out : First (Err NoOut) → (g : Program) → Given g → length m.out < length (program_run g tape fuel).shown
  ran_no_out h g l = subst (λ (r : Outcome). length m.out < length (seen_outcome r).shown) (sym (source_is g l)) (h g [] (held g l))
