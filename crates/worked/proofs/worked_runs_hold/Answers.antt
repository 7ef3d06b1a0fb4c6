-- Each run by computing it, with enough fuel.
use mathlib.Core.Path.{refl}
use Rattle.worked.proofs.worked_runs_hold.Goals as goal

pub returns : goal.returns
returns c = record {
  five_reads = record { text = refl; small = tt };
  five_fits = tt;
  five_runs = λ tape. (2, refl);
  sum_reads = record { text = refl; small = tt };
  sum_fits = tt;
  sum_runs = (20, refl);
  cells_reads = record { text = refl; small = tt };
  cells_fits = tt;
  cells_runs = λ tape. (2, refl);
  instructions_run = λ rest tape. refl;
}
