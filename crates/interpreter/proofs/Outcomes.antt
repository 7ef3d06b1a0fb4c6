-- Outcomes in a row: what is put out only grows; a stop behind which more would have come is the stop; and what comes
-- after a value.
use Rattle.std.proofs.Common.{◌≡◌, ℕ, ◌+◌, ◌-◌, ◌≤◌, Bool, true, false, cond, eqb, List, length, drop, Ok, Err, Result, sym, refl, ap, ◌∙◌, subst, arith, length-append}
use Rattle.std.proofs.lemmas.Bool.{eq-eqb, ne_eqb}
use Rattle.std.proofs.lemmas.List.{drop-drop}
use Rattle.words.specs.Runs.{Prefix, ended_index, ended_full}
use Rattle.language.specs.Language.{Expr, Stmt, Program, State, Outcome, fine, ends, spent, bind, eval, run_stmt, run_call}
use Rattle.language.proofs.Fuel.{outs, expr_extends, same_fuel}
use Rattle.interpreter.specs.declared.state.Counts.{Counts}
use Rattle.interpreter.specs.declared.state.Stop.{Stop}
use Rattle.interpreter.specs.declared.state.Stop.TheVariants.{Index, Full, Spent, NoOut}
use Rattle.interpreter.specs.Running.{Work, state_of, Grew, Came, Stopped, Stops, Evaluates, Executes}

-- What a program puts out only grows: in a call, an expression, a statement.
pub call_grows : (g : Program) (n room f v : ℕ) (s : State) → Prefix s.out (outs (run_call n g room f v s))
call_grows g n room f v s = ((same_fuel g n).1 room f v s).more

pub expr_grows : (g : Program) (n room : ℕ) (e : Expr) (s : State) → Prefix s.out (outs (eval (λ f v t. run_call n g room f v t) e s))
expr_grows g n room e s = (expr_extends (λ f v t. run_call n g room f v t) (λ f v t. run_call n g room f v t) (λ f v t. (same_fuel g n).1 room f v t) e s).more

pub stmt_grows : (g : Program) (n room : ℕ) (p : Stmt) (s : State) → Prefix s.out (outs (run_stmt n g room p s))
stmt_grows g n room p s = ((same_fuel g n).0 room p s).more

-- what comes after a value only adds words
abbrev pub Adds : (ℕ → State → Outcome) → Type 0
Adds k = (v : ℕ) (s : State) → Prefix s.out (outs (k v s))

pub adds_cond : (b : Bool) (r q : Outcome) (o : List ℕ) → Prefix o (outs r) → Prefix o (outs q) → Prefix o (outs (cond b r q))
adds_cond true r q o x y = x
adds_cond false r q o x y = y

-- a test for 0
pub not_0 : (v : ℕ) (A : Type 0) (x y : A) → (v ≡ 0 → ⊥) → cond (eqb v 0) x y ≡ y
not_0 v A x y h = ap (λ (b : Bool). cond b x y) (ne_eqb v 0 h)

pub is_0 : (v : ℕ) (A : Type 0) (x y : A) → v ≡ 0 → cond (eqb v 0) x y ≡ x
is_0 v A x y h = ap (λ (b : Bool). cond b x y) (eq-eqb v 0 h)

longer : (xs ys : List ℕ) → Prefix xs ys → length xs ≤ length ys
longer xs ys p = omega (arith, ap length p.1, length-append xs p.0)

bind_longer : (r : Outcome) (k : ℕ → State → Outcome) → Adds k → length (outs r) ≤ length (outs (bind r k))
bind_longer (fine v s) k g = longer s.out (outs (k v s)) (g v s)
bind_longer (ends how s) k g = omega arith
bind_longer (spent s) k g = omega arith

-- words past a place that are the same are the same past a later place
drop_further : (j k : ℕ) (xs ys : List ℕ) → j ≤ k → drop j xs ≡ drop j ys → drop k xs ≡ drop k ys
drop_further j k xs ys h e =
    let s : k ≡ j + (k - j) = omega arith in
    ap (λ (n : ℕ). drop n xs) s ∙ (sym (drop-drop (k - j) j xs) ∙ (ap (drop (k - j)) e ∙ (drop-drop (k - j) j ys ∙ ap (λ (n : ℕ). drop n ys) (sym s))))

module _ (tape : List ℕ) where
  pub grew_none : (c : Counts) (out : List ℕ) → Grew tape c c out out
  grew_none c out = record { unsent = refl; long = refl; more = omega arith; sent_within = λ h. h; taken_within = λ h. h }

  pub grew_more : (a b c : Counts) (o p q : List ℕ) → Grew tape a b o p → Grew tape b c p q → Grew tape a c o q
  grew_more a b c o p q x y = record {
    unsent = y.unsent ∙ drop_further b.sent c.sent p o y.more x.unsent;
    long = y.long ∙ x.long;
    more = omega (arith, x.more, y.more);
    sent_within = λ h. (let l = x.long in let u = x.sent_within h in let w = y.sent_within (omega arith) in omega arith);
    taken_within = λ h. y.taken_within (x.taken_within h);
  }

  -- a stop is the stop of the whole
  stopped_bind : (how : State → Outcome) (r : Outcome) (k : ℕ → State → Outcome) (c c' : Counts) (o o' : List ℕ) → ((s : State) → bind (how s) k ≡ how s)
      → Stopped how r tape c c' o o' → Stopped how (bind r k) tape c c' o o'
  stopped_bind how r k c c' o o' e h = record { state = h.state; is = ap (λ (x : Outcome). bind x k) h.is ∙ e h.state; shown = h.shown; left = h.left; grew = h.grew }

  pub stops_bind : (r : Outcome) (k : ℕ → State → Outcome) (c c' : Counts) (o o' : List ℕ) (stop : Stop) → Adds k → Stops r tape c c' o o' stop → Stops (bind r k) tape c c' o o' stop
  stops_bind r k c c' o o' Index g h = stopped_bind (ends ended_index) r k c c' o o' (λ s. refl) h
  stops_bind r k c c' o o' Full g h = stopped_bind (ends ended_full) r k c c' o o' (λ s. refl) h
  stops_bind r k c c' o o' Spent g h = stopped_bind spent r k c c' o o' (λ s. refl) h
  stops_bind r k c c' o o' NoOut g h = omega (arith, bind_longer r k g)

  -- a stop, a value later on
  stopped_later : (how : State → Outcome) (r : Outcome) (b c c' : Counts) (o p q : List ℕ) → Grew tape b c o p → Stopped how r tape c c' p q → Stopped how r tape b c' o q
  stopped_later how r b c c' o p q x h = record { state = h.state; is = h.is; shown = h.shown; left = h.left; grew = grew_more b c c' o p q x h.grew }

  stops_later : (r : Outcome) (b c c' : Counts) (o p q : List ℕ) (stop : Stop) → Grew tape b c o p → Stops r tape c c' p q stop → Stops r tape b c' o q stop
  stops_later r b c c' o p q Index x h = stopped_later (ends ended_index) r b c c' o p q x h
  stops_later r b c c' o p q Full x h = stopped_later (ends ended_full) r b c c' o p q x h
  stops_later r b c c' o p q Spent x h = stopped_later spent r b c c' o p q x h
  stops_later r b c c' o p q NoOut x h = omega (arith, x.long)

  module _ (r : Outcome) (k : ℕ → State → Outcome) (v : ℕ) (m m1 m2 : Work) (first : Came r v tape m m1) where
    -- the whole is what comes after the value
    after_is : bind r k ≡ k v (state_of tape m1)
    after_is = ap (λ (x : Outcome). bind x k) first.is

    came_after : (w : ℕ) → Came (k v (state_of tape m1)) w tape m1 m2 → Came (bind r k) w tape m m2
    came_after w h = record { is = after_is ∙ h.is; grew = grew_more m.counts m1.counts m2.counts m.out m1.out m2.out first.grew h.grew }

    stops_after : (stop : Stop) → Stops (k v (state_of tape m1)) tape m1.counts m2.counts m1.out m2.out stop → Stops (bind r k) tape m.counts m2.counts m.out m2.out stop
    stops_after stop h = subst (λ (y : Outcome). Stops y tape m.counts m2.counts m.out m2.out stop) (sym after_is)
        (stops_later (k v (state_of tape m1)) m.counts m1.counts m2.counts m.out m1.out m2.out stop first.grew h)

    pub evaluates_after : (x : Result ℕ Stop) → Evaluates (k v (state_of tape m1)) tape m1 m2 x → Evaluates (bind r k) tape m m2 x
    evaluates_after (Ok w) h = came_after w h
    evaluates_after (Err stop) h = stops_after stop h

    pub executes_after : (x : Result (Unit {0}) Stop) → Executes (k v (state_of tape m1)) tape m1 m2 x → Executes (bind r k) tape m m2 x
    executes_after (Ok done) h = came_after 0 h
    executes_after (Err stop) h = stops_after stop h
