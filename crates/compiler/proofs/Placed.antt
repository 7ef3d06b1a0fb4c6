-- The procedures of a program one after the other: the place of the next; and that each is within the limits and in the table.
use Rattle.std.proofs.Common.{◌≡◌, ℕ, zero, suc, ◌+◌, ◌<◌, ◌≤◌, T, List, [], ◌∷◌, length, take, drop, sym, refl, ap, ◌∙◌, subst, arith}
use mathlib.Core.Option.{some}
use lib.Seq.{drop-length}
use Rattle.std.proofs.lemmas.List.{get_or-take}
use Rattle.language.specs.Language.{Proc, Program, proc_at}
use Rattle.language.specs.Limits.{most_globals, most_procs, most_locals, fits_procs}
use Rattle.language.specs.Held.{HeldProgram}
use Rattle.language.specs.Nodes.{entry_at, IsProc}
use Rattle.language.specs.declared.nodes.Procedure.{Procedure}
use Rattle.language.specs.declared.parsed.Parsed.{Parsed}
use Rattle.codegen.specs.Codegen.{end_of_proc, end_of_procs, proc_place, first_proc, entry}
use Rattle.codegen.specs.Layout.{code_limit}
use Rattle.codegen.proofs.Limits.{within_limits, first_fits}
use Rattle.codegen.proofs.Sizes.{size_procs, end_within, entry_within}
use Rattle.compiler.specs.Work.{StmtFits}
use Rattle.compiler.specs.Procs.{ProcWorks}

-- procedure f of some
pub record Placed (ps : List Proc) (at f : ℕ) : Type 0 where
  pub proc : Proc
  pub there : proc_at ps f ≡ some proc
  pub next : proc_place ps at (suc f) ≡ end_of_proc proc (proc_place ps at f)
  pub left : drop f ps ≡ proc ∷ drop (suc f) ps
  pub few : proc.locals ≤ most_locals
  pub fits : StmtFits proc.body
  pub room : end_of_proc proc (proc_place ps at f) ≤ end_of_procs ps at

pub proc_place_first : (ps : List Proc) (at : ℕ) → proc_place ps at 0 ≡ at
proc_place_first [] at = refl
proc_place_first (p ∷ ps) at = refl

pub placed : (globals count : ℕ) → globals ≤ most_globals → count ≤ most_procs → (ps : List Proc) (at f : ℕ) → T (fits_procs globals count ps) → f < length ps → Placed ps at f
placed globals count few_globals few_procs [] at f ok h = absurd (omega arith)
placed globals count few_globals few_procs (p ∷ ps) at zero ok h =
    let fit = first_fits globals count p ps ok in
    let few : p.locals ≤ most_locals = fit.few_locals in
    record {
      proc = p;
      there = refl;
      next = proc_place_first ps (end_of_proc p at);
      left = refl;
      few = few;
      fits = record { locals = 1 + p.locals; globals = globals; procs = count; few_locals = omega arith; few_globals = few_globals; few_procs = few_procs; fits = fit.body_fits };
      room = (size_procs globals count ps (end_of_proc p at) fit.others_fit).1;
    }
placed globals count few_globals few_procs (p ∷ ps) at (suc f) ok h =
    let fit = first_fits globals count p ps ok in
    let k = placed globals count few_globals few_procs ps (end_of_proc p at) f fit.others_fit (omega arith) in
    record { proc = k.proc; there = k.there; next = k.next; left = k.left; few = k.few; fits = k.fits; room = k.room }

-- past the last procedure the place stays
pub place_stays : (ps : List Proc) (at f : ℕ) → length ps ≤ f → proc_place ps at (suc f) ≡ proc_place ps at f
place_stays [] at f h = refl
place_stays (p ∷ ps) at zero h = absurd (omega arith)
place_stays (p ∷ ps) at (suc f) h = place_stays ps (end_of_proc p at) f (omega arith)

-- Of a program that is held: procedure f begins at a place, and d is its entry.
pub record NextProc (p : Parsed) (g : Program) (f at : ℕ) (d : Procedure) : Type 0 where
  pub proc : Proc
  pub is : IsProc p.nodes d proc
  pub works : ProcWorks p.nodes d at
  pub next : entry g (suc f) ≡ end_of_proc proc at
  pub left : drop f g.procs ≡ proc ∷ drop (suc f) g.procs

pub next_proc : (p : Parsed) (g : Program) (f at : ℕ) → HeldProgram p g → f < p.sizes.procs → at ≡ entry g f → NextProc p g f at (entry_at p.table f)
next_proc p g f at h b e =
    let within = within_limits g h.within in
    let k = placed g.globals (length g.procs) within.few_globals within.few_procs g.procs first_proc f within.procs_fit (omega (arith, h.sized.procs)) in
    let room : end_of_proc k.proc at ≤ code_limit = subst (λ (x : ℕ). end_of_proc k.proc x ≤ code_limit) (sym e) (omega (arith, k.room, end_within g within)) in
    let is = h.holds f k.proc k.there in
    record {
      proc = k.proc;
      is = is;
      works = record { proc = k.proc; is = is; few = k.few; fits = k.fits; room = room };
      next = k.next ∙ ap (end_of_proc k.proc) (sym e);
      left = k.left;
    }

-- in the row of the entries that are procedures
pub next_listed : (p : Parsed) (g : Program) (ds : List Procedure) (f at : ℕ) → HeldProgram p g → ds ≡ take p.sizes.procs p.table → length ds ≡ p.sizes.procs → f < length ds → at ≡ entry g f → NextProc p g f at (entry_at ds f)
next_listed p g ds f at h e n b place =
    let low : f < p.sizes.procs = omega arith in
    let is : entry_at ds f ≡ entry_at p.table f = ap (λ (z : List Procedure). entry_at z f) e ∙ get_or-take p.sizes.procs p.table f _ low in
    subst (λ (d : Procedure). NextProc p g f at d) (sym is) (next_proc p g f at h low place)

-- behind the last of them none is left
pub all_listed : (p : Parsed) (g : Program) (ds : List Procedure) (f : ℕ) → HeldProgram p g → length ds ≡ p.sizes.procs → f ≤ length ds → length ds ≤ f → drop f g.procs ≡ []
all_listed p g ds f h n b b' =
    let all : f ≡ length g.procs = omega (arith, h.sized.procs) in
    ap (λ (z : ℕ). drop z g.procs) all ∙ drop-length g.procs

-- a place is among the words for code
pub entry_low : (p : Parsed) (g : Program) → HeldProgram p g → (f : ℕ) → entry g f ≤ code_limit
entry_low p g h f =
    let within = within_limits g h.within in
    omega (arith, entry_within g.globals (length g.procs) g.procs first_proc f within.procs_fit, end_within g within)
