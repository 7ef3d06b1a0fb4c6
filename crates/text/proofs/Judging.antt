-- The verdict on a text, from how its reading came out; and that only one verdict is right.
use Rattle.std.proofs.Common.{◌≡◌, ℕ, Bool, true, false, ◌&&◌, T, leb, List, Some, None, Option, Ok, Err, Result, sym, refl, ap, ◌∙◌, subst}
use Rattle.std.specs.Option.{ok_or}
use Rattle.std.proofs.lemmas.Bool.{both_ways}
use Rattle.words.proofs.Tests.{T_true, true_T, not_nothing}
use Rattle.language.specs.Language.{Program}
use Rattle.text.specs.declared.reader.Reader.{Reader}
use Rattle.text.specs.declared.judge.Refused.{Refused}
use Rattle.text.specs.declared.judge.Refused.TheVariants.{NoProgram, Limits}
use Rattle.text.specs.Text.{words, Reads, fits, most_signs}
use Rattle.text.specs.Verdicts.{Verdict, Judged, VerdictIs}
use Rattle.text.specs.Reading.{run, fresh, done}
use Rattle.text.proofs.Decode.{one_program}
use Rattle.text.proofs.Written.{Knows, owing, read_program}
use Rattle.text.proofs.Sound.{Ends, program_written}

-- nothing is owed
abbrev pub is_done : Reader → Bool
is_done a = done a.need a.exprs a.stmts a.procs

-- a text that is read to its end is the writing of a program that the reader knows
pub program_read : (s : List ℕ) (a : Reader) → Some a ≡ run (words s) fresh → is_done a ≡ true → (g : Program) × Reads s g × Knows a g
program_read s a e d =
    let p = program_written (words s) (subst Ends e (true_T (is_done a) d)) in
    let r = read_program p.0 p.2 in
    let q : owing 0 0 0 r.0.signs r.0.fits r.0 ≡ a = cc (e ∙ ap (λ ws. run ws fresh) p.1 ∙ r.1) in
    let k = r.2 in
    (p.0, record { text = p.1; small = p.2 }, subst (λ (x : Reader). Knows x p.0) q (record { globals = k.globals; cells = k.cells; count = k.count; signs = k.signs; fits = k.fits }))

-- the reading of a program's text comes to its end, and the reader then knows the program
pub read_done : (s : List ℕ) (g : Program) → Reads s g → (a : Reader) × (run (words s) fresh ≡ Some a) × (is_done a ≡ true) × Knows a g
read_done s g r =
    let p = read_program g r.small in let k = p.2 in
    (owing 0 0 0 p.0.signs p.0.fits p.0, ap (λ ws. run ws fresh) r.text ∙ p.1, refl, record { globals = k.globals; cells = k.cells; count = k.count; signs = k.signs; fits = k.fits })

-- no program: a word can't stand where it does, or something is still owed
pub judged_stuck : (s : List ℕ) → run (words s) fresh ≡ None → Judged s (Err NoProgram)
judged_stuck s e = λ g r. let p = read_done s g r in not_nothing p.0 (sym p.1 ∙ e)

pub judged_undone : (s : List ℕ) (a : Reader) → Some a ≡ run (words s) fresh → is_done a ≡ false → Judged s (Err NoProgram)
judged_undone s a e d = λ g r. let p = read_done s g r in let q : a ≡ p.0 = cc (e ∙ p.1) in both_ways (is_done a) d (ap is_done q ∙ p.2)

-- a program outside the limits, or within them
pub judged_limits : (s : List ℕ) (a : Reader) → Some a ≡ run (words s) fresh → is_done a ≡ true → (a.fits && leb a.signs most_signs) ≡ false → Judged s (Err Limits)
judged_limits s a e d f = let p = program_read s a e d in (p.0, p.1, sym p.2.fits ∙ f)

pub judged_program : (s : List ℕ) (a : Reader) → Some a ≡ run (words s) fresh → is_done a ≡ true → (a.fits && leb a.signs most_signs) ≡ true → Judged s (Ok tt)
judged_program s a e d f = let p = program_read s a e d in (p.0, p.1, true_T (fits p.0) (sym p.2.fits ∙ f))

-- where a reader is missing the refusal is that there is no program
pub missing : (o : Option Reader) (r : Refused) → ◌≡◌ {A = Result Reader Refused} (Err r) (ok_or o NoProgram) → (None ≡ o) × (r ≡ NoProgram)
missing None r e = (refl, cc)
missing (Some a) r e = absurd (cc)

-- one program can't be both within the limits and outside them
apart : {X : Type 0} (s : List ℕ) (g h : Program) → Reads s g → Reads s h → fits g ≡ false → T (fits h) → X
apart s g h r q f t = absurd (both_ways (fits h) (ap fits (sym (one_program s g h r q)) ∙ f) (T_true (fits h) t))

judged_once : (s : List ℕ) (u v : Verdict) → Judged s u → Judged s v → u ≡ v
judged_once s (Ok x) (Ok y) a b = refl
judged_once s (Ok x) (Err NoProgram) a b = absurd (b a.0 a.1)
judged_once s (Ok x) (Err Limits) a b = apart s b.0 a.0 b.1 a.1 b.2 a.2
judged_once s (Err NoProgram) (Ok y) a b = absurd (a b.0 b.1)
judged_once s (Err NoProgram) (Err NoProgram) a b = refl
judged_once s (Err NoProgram) (Err Limits) a b = absurd (a b.0 b.1)
judged_once s (Err Limits) (Ok y) a b = apart s a.0 b.0 a.1 b.1 a.2 b.2
judged_once s (Err Limits) (Err NoProgram) a b = absurd (b a.0 a.1)
judged_once s (Err Limits) (Err Limits) a b = refl

-- a verdict that is right is the only one
pub the_verdict : (s : List ℕ) (r : Verdict) → Judged s r → VerdictIs s r
the_verdict s r j = record { right = j; only = λ v h. judged_once s v r h j }
