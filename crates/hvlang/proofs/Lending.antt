-- A program that is loaded is lent to the interpreter: its sizes are within the limits, and the table's first entries and
-- as many globals and cells as it has are its own.
use Rattle.std.proofs.Common.{◌≡◌, ℕ, ◌-◌, ◌<◌, ◌≤◌, ◌&&◌, T, leb, List, length, take, replicate, sym, ap, ◌∙◌, subst, arith}
use lib.ListN.{length-replicate}
use Rattle.std.proofs.lemmas.List.{get_or-take, length-take-le}
use Rattle.std.proofs.lemmas.Bool.{leb-true}
use Rattle.words.proofs.Tests.{TLeft, TRight, T_true}
use Rattle.language.specs.Language.{Program, Proc}
use Rattle.language.specs.Limits.{fits, fits_procs, signs, most_globals, most_cells, most_procs, most_signs}
use Rattle.language.specs.Nodes.{Holds, IsProc}
use Rattle.language.specs.declared.nodes.Node.{Node}
use Rattle.language.specs.declared.nodes.Procedure.{Procedure}
use Rattle.language.specs.Held.{Sized}
use Rattle.language.specs.declared.nodes.Sizes.{Sizes}
use Rattle.language.specs.declared.parsed.Parsed.{Parsed}
use Rattle.text.specs.Loads.{Loaded}
use Rattle.interpreter.specs.Running.{memory}
use Rattle.interpreter.specs.Interpreter.{Lent}
use Rattle.interpreter.proofs.Calling.{proc_inside}

record Small (z : Sizes) : Type 0 where
  pub globals : z.globals ≤ most_globals
  pub cells : z.cells ≤ most_cells
  pub procs : z.procs ≤ most_procs

small : (z : Sizes) (g : Program) → Sized z g → T (fits g) → Small z
small z g s f =
    let G = g.globals in let C = g.cells in let N = length g.procs in
    let tail = leb (signs g.procs) most_signs && fits_procs G N g.procs in
    let count = leb 1 N && leb N most_procs in
    let f1 = TRight (leb G most_globals) (leb C most_cells && (count && tail)) f in
    let f2 = TRight (leb C most_cells) (count && tail) f1 in
    let f3 = TLeft count tail f2 in
    record {
      globals = subst (λ (n : ℕ). n ≤ most_globals) (sym s.globals) (leb-true G most_globals (T_true (leb G most_globals) (TLeft (leb G most_globals) (leb C most_cells && (count && tail)) f)));
      cells = subst (λ (n : ℕ). n ≤ most_cells) (sym s.cells) (leb-true C most_cells (T_true (leb C most_cells) (TLeft (leb C most_cells) (count && tail) f1)));
      procs = subst (λ (n : ℕ). n ≤ most_procs) (sym s.procs) (leb-true N most_procs (T_true (leb N most_procs) (TRight (leb 1 N) (leb N most_procs) f3)));
    }

-- the table's first entries hold the program
first_hold : (nodes : List Node) (table : List Procedure) (n : ℕ) (ps : List Proc) → n ≡ length ps → Holds nodes table ps → Holds nodes (take n table) ps
first_hold nodes table n ps e h f p q =
    let inside : f < n = omega (arith, proc_inside ps f p q) in
    subst (λ (x : Procedure). IsProc nodes x p) (sym (get_or-take n table f (record { locals = 0; body = 0 }) inside)) (h f p q)

-- as many words as the program has, of a buffer with room for the most
own_length : (most n : ℕ) → n ≤ most → length {A = ℕ} (take (n - 0) (replicate most 0)) ≡ n
own_length most n h =
    let words : List ℕ = replicate most 0 in
    let long : length words ≡ most = length-replicate most 0 in
    length-take-le (n - 0) words (omega arith) ∙ omega arith

pub lent : (s : List ℕ) (p : Parsed) (l : Loaded s p) (part : List Procedure) (frames globals cells out : List ℕ) → length p.table ≡ most_procs → part ≡ take p.sizes.procs p.table
    → globals ≡ take (p.sizes.globals - 0) (replicate most_globals 0) → cells ≡ take (p.sizes.cells - 0) (replicate most_cells 0) → Lent p.nodes part (memory frames globals cells out) l.program
lent s p l part frames globals cells out long is own-globals own-cells =
    let z = p.sizes in let h = l.held in let g = l.program in
    let fit = small z g h.sized h.within in
    let within : z.procs ≤ length p.table = omega (arith, fit.procs, long) in
    record {
      holds = subst (λ (t : List Procedure). Holds p.nodes t g.procs) (sym is) (first_hold p.nodes p.table z.procs g.procs h.sized.procs h.holds);
      procs = ap length is ∙ (length-take-le z.procs p.table within ∙ h.sized.procs);
      globals = ap length own-globals ∙ (own_length most_globals z.globals fit.globals ∙ h.sized.globals);
      cells = ap length own-cells ∙ (own_length most_cells z.cells fit.cells ∙ h.sized.cells);
    }
