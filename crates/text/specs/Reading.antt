-- A text's words one by one, with three counters: all that is owed is some expressions, then some statements, then some procedures.
use Rattle.std.specs.Prelude.{ℕ, zero, suc, ◌+◌, ◌^◌, ◌<◌, Bool, true, false, ◌&&◌, List, [], ◌∷◌, Some, None, Option, nat_le, nat_lt}
use Rattle.text.specs.declared.kinds.Kind.{Kind}
use Rattle.text.specs.declared.reader.Role.{Role}
use Rattle.text.specs.declared.reader.Role.TheVariants as R
use Rattle.text.specs.declared.reader.Use.{Use}
use Rattle.text.specs.declared.reader.Use.TheVariants.{Globals, Cells, Procs, Locals, Value, Local, Global, Callee}
use Rattle.text.specs.declared.reader.Need.{Need}
use Rattle.text.specs.declared.reader.Need.TheVariants.{Start, Number, Owed}
use Rattle.text.specs.declared.reader.Shape.{Shape}
use Rattle.text.specs.declared.reader.Reader.{Reader}
use Rattle.text.specs.Text.{most_globals, most_cells, most_procs, most_locals}
use Rattle.text.specs.Kinds.{kind}
use Rattle.text.specs.Numbers.{number_of}
use Rattle.text.specs.Shapes.{shape}

-- go on with what there is, if there is anything
abbrev pub and_then : {A B : Type 0} → Option A → (A → Option B) → Option B
and_then None f = None
and_then (Some a) f = f a

-- e more than k
abbrev pub more : ℕ → ℕ → ℕ
more zero k = k
more (suc e) k = suc (more e k)

-- What is owed after a word with e expressions and s statements of its own that begins the first thing owed, where k
-- expressions, m statements and p procedures were owed; none where something else is owed first.
abbrev pub owed_after : Role → ℕ → ℕ → ℕ → ℕ → ℕ → Option (ℕ × ℕ × ℕ)
owed_after R.Expression e s zero m p = None
owed_after R.Expression e s (suc k) m p = Some (more e k, m, p)
owed_after R.Statement e s (suc k) m p = None
owed_after R.Statement e s zero zero p = None
owed_after R.Statement e s zero (suc m) p = Some (e, more s m, p)
owed_after R.Procedure e s (suc k) m p = None
owed_after R.Procedure e s zero (suc m) p = None
owed_after R.Procedure e s zero zero zero = None
owed_after R.Procedure e s zero zero (suc p) = Some (0, 1, p)
owed_after R.Program e s k m p = None

-- one sign more
abbrev pub moved : Need → Reader → ℕ × ℕ × ℕ → Reader
moved n a t = record { need = n; exprs = t.0; stmts = t.1; procs = t.2; globals = a.globals; cells = a.cells; count = a.count; locals = a.locals; signs = a.signs + 1; fits = a.fits }

-- a word of a shape, if it begins what is owed first
abbrev pub enter : Shape → Reader → Option Reader
enter h a = and_then (owed_after h.role h.exprs h.stmts a.exprs a.stmts a.procs) (λ t. Some (moved h.next a t))

-- a word where something owed begins
abbrev pub enter_word : Option Kind → Reader → Option Reader
enter_word None a = None
enter_word (Some k) a = enter (shape k) a

-- another need, and nothing else changed
abbrev pub with_need : Need → Reader → Reader
with_need n a = record { need = n; exprs = a.exprs; stmts = a.stmts; procs = a.procs; globals = a.globals; cells = a.cells; count = a.count; locals = a.locals; signs = a.signs; fits = a.fits }

-- the first word has to begin a program
abbrev pub begun : Role → Reader → Option Reader
begun R.Expression a = None
begun R.Statement a = None
begun R.Procedure a = None
begun R.Program a = Some (with_need (Number Globals) a)

-- a word where the program begins
abbrev pub begin_word : Option Kind → Reader → Option Reader
begin_word None a = None
begin_word (Some k) a = begun (shape k).role a

-- a number that is within the limits or not; what is owed comes next
abbrev pub judged : Reader → Bool → Reader
judged a ok = record { need = Owed; exprs = a.exprs; stmts = a.stmts; procs = a.procs; globals = a.globals; cells = a.cells; count = a.count; locals = a.locals; signs = a.signs; fits = a.fits && ok }

-- a number, by what it is for
abbrev pub taken : Use → ℕ → Reader → Reader
taken Globals n a = record { need = Number Cells; exprs = a.exprs; stmts = a.stmts; procs = a.procs; globals = n; cells = a.cells; count = a.count; locals = a.locals; signs = a.signs; fits = a.fits && nat_le n most_globals }
taken Cells n a = record { need = Number Procs; exprs = a.exprs; stmts = a.stmts; procs = a.procs; globals = a.globals; cells = n; count = a.count; locals = a.locals; signs = a.signs; fits = a.fits && nat_le n most_cells }
taken Procs n a = record { need = Owed; exprs = 0; stmts = 0; procs = n; globals = a.globals; cells = a.cells; count = n; locals = a.locals; signs = a.signs; fits = a.fits && (nat_le 1 n && nat_le n most_procs) }
taken Locals n a = record { need = Owed; exprs = a.exprs; stmts = a.stmts; procs = a.procs; globals = a.globals; cells = a.cells; count = a.count; locals = 1 + n; signs = a.signs; fits = a.fits && nat_le n most_locals }
taken Value n a = judged a (nat_lt n 65536)
taken Local n a = judged a (nat_lt n a.locals)
taken Global n a = judged a (nat_lt n a.globals)
taken Callee n a = judged a (nat_lt n a.count)

-- a word where a number is needed
abbrev pub take_number : Use → Option ℕ → Reader → Option Reader
take_number u None a = None
take_number u (Some n) a = Some (taken u n a)

-- a word, by what is needed
abbrev pub step_at : Need → List ℕ → Reader → Option Reader
step_at Start w a = begin_word (kind w) a
step_at (Number u) w a = take_number u (number_of w) a
step_at Owed w a = enter_word (kind w) a

-- one word more, or none where it can't stand there
abbrev pub step : List ℕ → Reader → Option Reader
step w a = step_at a.need w a

-- all words, one after the other
abbrev pub run : List (List ℕ) → Reader → Option Reader
run [] a = Some a
run (w ∷ ws) a = and_then (step w a) (run ws)

-- before the first word
abbrev pub fresh : Reader
fresh = record { need = Start; exprs = 0; stmts = 0; procs = 0; globals = 0; cells = 0; count = 0; locals = 0; signs = 0; fits = true }

-- nothing is owed any more
abbrev pub done : Need → ℕ → ℕ → ℕ → Bool
done Start k m p = false
done (Number u) k m p = false
done Owed (suc k) m p = false
done Owed zero (suc m) p = false
done Owed zero zero (suc p) = false
done Owed zero zero zero = true

-- the counters can go on
pub record Roomy (a : Reader) : Type 0 where
  pub exprs : a.exprs + 2 < 2 ^ 64
  pub stmts : a.stmts + 2 < 2 ^ 64
  pub signs : a.signs + 1 < 2 ^ 64
