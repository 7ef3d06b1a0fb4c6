-- What it says of a program that it is within the limits, part by part; and of each of its procedures.
use Rattle.std.proofs.Common.{◌≡◌, ℕ, zero, suc, ◌+◌, ◌<◌, ◌≤◌, ◌&&◌, T, leb, List, [], ◌∷◌, length, subst, arith, leb→le}
use mathlib.Core.Option.{some, none}
use Rattle.language.specs.Language.{Proc, Program, proc_at}
use Rattle.language.specs.Limits.{most_globals, most_cells, most_procs, most_locals, most_signs, fits_stmt, fits_procs, signs, fits}
use Rattle.codegen.proofs.Rows.{both}

pub record WithinLimits (g : Program) : Type 0 where
  pub few_globals : g.globals ≤ most_globals
  pub few_cells : g.cells ≤ most_cells
  pub some_proc : 1 ≤ length g.procs
  pub few_procs : length g.procs ≤ most_procs
  pub few_signs : signs g.procs ≤ most_signs
  pub procs_fit : T (fits_procs g.globals (length g.procs) g.procs)

pub within_limits : (g : Program) → T (fits g) → WithinLimits g
within_limits g t =
    let count : ℕ = length g.procs in
    let globals = both (leb g.globals most_globals) _ t in
    let cells = both (leb g.cells most_cells) _ globals.1 in
    let procs = both (leb 1 count && leb count most_procs) _ cells.1 in
    let counts = both (leb 1 count) _ procs.0 in
    let signs-fit = both (leb (signs g.procs) most_signs) _ procs.1 in
    record {
      few_globals = leb→le g.globals most_globals globals.0;
      few_cells = leb→le g.cells most_cells cells.0;
      some_proc = leb→le 1 count counts.0;
      few_procs = leb→le count most_procs counts.1;
      few_signs = leb→le (signs g.procs) most_signs signs-fit.0;
      procs_fit = signs-fit.1;
    }

-- of the first of some procedures, and of the others
pub record FirstFits (globals count : ℕ) (p : Proc) (ps : List Proc) : Type 0 where
  pub few_locals : p.locals ≤ most_locals
  pub body_fits : T (fits_stmt (1 + p.locals) globals count p.body)
  pub others_fit : T (fits_procs globals count ps)

pub first_fits : (globals count : ℕ) (p : Proc) (ps : List Proc) → T (fits_procs globals count (p ∷ ps)) → FirstFits globals count p ps
first_fits globals count p ps t =
    let few = both (leb p.locals most_locals) _ t in
    let body = both (fits_stmt (1 + p.locals) globals count p.body) (fits_procs globals count ps) few.1 in
    record { few_locals = leb→le p.locals most_locals few.0; body_fits = body.0; others_fit = body.1 }

-- a procedure that is called is there, and its body is within the limits
pub proc_there : (ps : List Proc) (f : ℕ) → f < length ps → proc_at ps f ≡ none → ⊥
proc_there [] f h e = omega arith
proc_there (p ∷ ps) zero h e = let z : ◌≡◌ {A = ℕ} 0 1 = cc in omega arith
proc_there (p ∷ ps) (suc f) h e = proc_there ps f (omega arith) e

pub body_fits_at : (globals count : ℕ) (ps : List Proc) → T (fits_procs globals count ps) → (f : ℕ) (p : Proc) → proc_at ps f ≡ some p →
    T (fits_stmt (1 + p.locals) globals count p.body)
body_fits_at globals count [] t f p e = let z : ◌≡◌ {A = ℕ} 0 1 = cc in absurd (omega arith)
body_fits_at globals count (d ∷ ps) t zero p e = let same : d ≡ p = cc in subst (λ (x : Proc). T (fits_stmt (1 + x.locals) globals count x.body)) same (first_fits globals count d ps t).body_fits
body_fits_at globals count (d ∷ ps) t (suc f) p e = body_fits_at globals count ps (first_fits globals count d ps t).others_fit f p e
