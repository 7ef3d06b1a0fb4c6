-- Worked runs: a text, the program that it is the writing of, the words that it puts out, and how it ends; and one run of
-- instructions.
use Rattle.std.specs.Prelude.{◌≡◌, List, [], ◌∷◌, ℕ, codes, T}
use Rattle.words.specs.Runs.{ended_done, ended_index}
use Rattle.machine.specs.Machine.{machine_run}
use Rattle.language.specs.Language.{num, loc, cell, add, sub, less, call, skip, then, setloc, setcell, if, out, take, Program, program_run}
use Rattle.text.specs.Text.{Reads, fits}

-- with the tape, some fuel lets the program come to its end: these words shown, this tape left, this ending
abbrev pub Ends : Program → List ℕ → List ℕ → List ℕ → ℕ → Type 0
Ends g tape shown left ending = (n : ℕ) × (program_run g tape n ≡ record { shown = shown; tape_left = left; ending = ending })

-- puts out 5
abbrev pub five_text : List ℕ
five_text = codes "program 0 0 1 proc 0 out num 5"

abbrev pub five : Program
five = record { globals = 0; cells = 0; procs = record { locals = 0; body = out (num 5) } ∷ [] }

-- puts out the sum of the numbers up to the tape's first word, by a procedure that calls itself
abbrev pub sum_text : List ℕ
sum_text = codes "program 0 0 2 proc 1 then take 1 out call 1 loc 1 proc 0 if less num 0 loc 0 setloc 0 add loc 0 call 1 sub loc 0 num 1 skip"

abbrev pub sum : Program
sum = record {
  globals = 0;
  cells = 0;
  procs =
      record { locals = 1; body = then (take 1) (out (call 1 (loc 1))) }
      ∷ record { locals = 0; body = if (less (num 0) (loc 0)) (setloc 0 (add (loc 0) (call 1 (sub (loc 0) (num 1))))) skip } ∷ [];
}

-- sets the last of three cells and reads it, then reads the cell after it
abbrev pub cells_text : List ℕ
cells_text = codes "program 0 3 1 proc 0 then setcell num 2 num 9 then out cell num 2 out cell num 3"

abbrev pub cells_program : Program
cells_program = record {
  globals = 0;
  cells = 3;
  procs =
      record { locals = 0; body = then (setcell (num 2) (num 9)) (then (out (cell (num 2))) (out (cell (num 3)))) } ∷ [];
}

pub record WorkedRuns : Type 0 where
  pub five_reads : Reads five_text five
  pub five_fits : T (fits five)
  pub five_runs : (tape : List ℕ) → Ends five tape (5 ∷ []) tape ended_done
  pub sum_reads : Reads sum_text sum
  pub sum_fits : T (fits sum)
  pub sum_runs : Ends sum (4 ∷ []) (10 ∷ []) [] ended_done
  pub cells_reads : Reads cells_text cells_program
  pub cells_fits : T (fits cells_program)
  pub cells_runs : (tape : List ℕ) → Ends cells_program tape (9 ∷ []) tape ended_index
  -- low 1 5; out 1; done: three steps, whatever stands behind them and on the tape
  pub instructions_run : (rest tape : List ℕ) →
      machine_run (20997 ∷ 49664 ∷ 53248 ∷ rest) tape 3 ≡ record { shown = 5 ∷ []; tape_left = tape; ending = ended_done }
