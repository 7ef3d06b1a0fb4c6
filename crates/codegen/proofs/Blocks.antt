-- What each block of an expression's or statement's code does: numbers; locals and globals; the stack; jumps; cells; words
-- put out and taken.
use Rattle.std.proofs.Common.{◌≡◌, ℕ, ◌+◌, ◌-◌, ◌*◌, ◌/◌, ◌%◌, ◌<◌, ◌≤◌, true, false, eqb, ltb, List, [], ◌∷◌, ◌++◌, refl, arith}
use Rattle.std.proofs.lemmas.Bool.{ltb-true}
use Rattle.words.specs.Words.{add16, sub16, word, put, front}
use Rattle.words.specs.Runs.{ended_index}
use Rattle.machine.specs.Machine.{Machine, halt}
use Rattle.language.specs.Language.{State, set_local, set_global, set_cell, take_word}
use Rattle.language.specs.Limits.{most_globals, most_cells}
use Rattle.language.specs.Language as language
use Rattle.codegen.specs.Layout.{stack_top, stack_base, cells_base, globals_base, value, work, back, spare}
use Rattle.codegen.specs.Instructions.{Instruction, INDEX, JUMP, past, Stands}
use Rattle.codegen.specs.Codegen.{constant, push, pop, cell_test, check_cell, go_to, zero_test, go_unless_zero, load_local, load_global, fetch_cell, load_cell, halve, store_local, store_global, keep_cell, store_cell, put_out, take_to_local}
use Rattle.codegen.specs.Heart.{Scratch, at_work, HasCode}
use Rattle.codegen.proofs.Rows.{stands_front, stands_past}
use Rattle.codegen.proofs.Outcomes.{Reaches, reaches_then, by_row}

-- a number comes together from its two bytes
pub from_bytes : (n : ℕ) → n % 256 % 256 + 256 * (n / 256) ≡ n
from_bytes n = omega arith

abbrev pub with_work : Scratch → ℕ → Scratch
with_work x w = record { in_work = w; in_back = x.in_back; in_spare = x.in_spare }

-- from the machine at a block's first word
module _ (img : List ℕ) (at v : ℕ) (x : Scratch) (sp fp left : ℕ) (mem : List ℕ) (s : State) (code : HasCode img mem) where
  abbrev pub From : Machine → Type 0
  From = Reaches (at_work at v x sp fp left mem s)

  pub number_made : (n : ℕ) → Stands img at (constant value n) → From (at_work (past (constant value n) at) n x sp fp left mem s)
  number_made n st = by_row img (constant value n) code refl tt st (omega arith) (rw from_bytes refl)

  pub local_loaded : (i : ℕ) → Stands img at (load_local i) → fp + i < stack_top →
      From (at_work (past (load_local i) at) (word mem (fp + i)) (with_work x (fp + i)) sp fp left mem s)
  local_loaded i st b =
      let sum : add16 fp i ≡ fp + i = omega arith in
      let same : add16 (fp + i) 0 ≡ fp + i = omega arith in
      by_row img (load_local i) code refl tt st (omega arith) (rw (sum, same) refl)

  pub global_loaded : (i : ℕ) → Stands img at (load_global i) → i < most_globals →
      From (at_work (past (load_global i) at) (word mem (globals_base + i)) (with_work x (globals_base + i)) sp fp left mem s)
  global_loaded i st b =
      let same : add16 (globals_base + i) 0 ≡ globals_base + i = omega arith in
      by_row img (load_global i) code refl tt st (omega arith) (rw (from_bytes, same) refl)

  pub local_stored : (i : ℕ) → Stands img at (store_local i) → stack_base ≤ fp → fp + i < stack_top →
      From (at_work (past (store_local i) at) v (with_work x (fp + i)) sp fp left (put mem (fp + i) v) (set_local s i v))
  local_stored i st lo b =
      let sum : add16 fp i ≡ fp + i = omega arith in
      let same : add16 (fp + i) 0 ≡ fp + i = omega arith in
      by_row img (store_local i) code refl tt st (omega arith) (rw (sum, same) refl)

  pub global_stored : (i : ℕ) → Stands img at (store_global i) → i < most_globals →
      From (at_work (past (store_global i) at) v (with_work x (globals_base + i)) sp fp left (put mem (globals_base + i) v) (set_global s i v))
  global_stored i st b =
      let same : add16 (globals_base + i) 0 ≡ globals_base + i = omega arith in
      let sum : (globals_base + i) % 256 % 256 + 256 * ((globals_base + i) / 256) ≡ globals_base + i = omega arith in
      by_row img (store_global i) code refl tt st (omega arith) (rw (sum, same) refl)

  pub word_taken : (i : ℕ) → Stands img at (take_to_local i) → stack_base ≤ fp → fp + i < stack_top →
      From (at_work (past (take_to_local i) at) (front s.tape) (with_work x (fp + i)) sp fp left (put mem (fp + i) (front s.tape)) (take_word s i))
  word_taken i st lo b =
      let sum : add16 fp i ≡ fp + i = omega arith in
      let same : add16 (fp + i) 0 ≡ fp + i = omega arith in
      by_row img (take_to_local i) code refl tt st (omega arith) (rw (sum, same) refl)

  pub word_shown : Stands img at put_out → From (at_work (past put_out at) v x sp fp left mem (language.put_out s v))
  word_shown st = by_row img put_out code refl tt st (omega arith) refl

  pub halved : Stands img at halve → From (at_work (past halve at) (v / 2) x sp fp left mem s)
  halved st = by_row img halve code refl tt st (omega arith) refl

  pub pushed : Stands img at push → stack_base < sp → sp ≤ stack_top → From (at_work (past push at) v x (sp - 1) fp left (put mem (sp - 1) v) s)
  pushed st lo hi =
      let down : sub16 sp 1 ≡ sp - 1 = omega arith in
      let same : add16 (sp - 1) 0 ≡ sp - 1 = omega arith in
      by_row img push code refl tt st (omega arith) (rw (down, same) refl)

  -- the stack's lowest word is that below the stack pointer 'top'
  pub popped : (top : ℕ) → Stands img at pop → sp ≡ top - 1 → stack_base < top → top ≤ stack_top →
      From (at_work (past pop at) v (with_work x (word mem sp)) top fp left mem s)
  popped top st e lo hi =
      let same : add16 sp 0 ≡ sp = omega arith in
      let up : add16 sp 1 ≡ top = omega arith in
      by_row img pop code refl tt st (omega arith) (rw (same, up) refl)

  pub jumped : (q : ℕ) → Stands img at (go_to q) → From (at_work q v (record { in_work = q; in_back = past (go_to q) at; in_spare = x.in_spare }) sp fp left mem s)
  jumped q st = by_row img (go_to q) code refl tt st (omega arith) (rw from_bytes refl)

  -- a branch: the value is 0 and the jump is gone over, or it is not
  pub branch_not_taken : (q : ℕ) → Stands img at (go_unless_zero q) → eqb v 0 ≡ true → From (at_work (past (go_unless_zero q) at) v (with_work x q) sp fp left mem s)
  branch_not_taken q st z = by_row img (zero_test q) code refl tt (stands_front img (zero_test q) (JUMP back work ∷ []) at st) (omega arith) (rw (from_bytes, z) refl)

  pub branch_taken : (q : ℕ) → Stands img at (go_unless_zero q) → eqb v 0 ≡ false →
      From (at_work q v (record { in_work = q; in_back = past (go_unless_zero q) at; in_spare = x.in_spare }) sp fp left mem s)
  branch_taken q st z = reaches_then {m' = at_work (past (zero_test q) at) v (with_work x q) sp fp left mem s}
      (by_row img (zero_test q) code refl tt (stands_front img (zero_test q) (JUMP back work ∷ []) at st) (omega arith) (rw (from_bytes, z) refl))
      (by_row img (JUMP back work ∷ []) code refl tt (stands_past img (zero_test q) (JUMP back work ∷ []) at st) (omega arith) refl)

  -- a cell whose number is the value: it is there, or it is not
  pub cell_loaded : (n : ℕ) → Stands img at (load_cell n) → n ≤ most_cells → ltb v n ≡ true →
      From (at_work (past (load_cell n) at) (word mem (cells_base + v)) (record { in_work = cells_base + v; in_back = 0; in_spare = x.in_spare }) sp fp left mem s)
  cell_loaded n st most lt =
      let below : v < n = ltb-true v n lt in
      let sum : add16 cells_base v ≡ cells_base + v = omega arith in
      let same : add16 (cells_base + v) 0 ≡ cells_base + v = omega arith in
      reaches_then {m' = at_work (past (check_cell value work back n) at) v (record { in_work = n; in_back = 0; in_spare = x.in_spare }) sp fp left mem s}
      (by_row img (cell_test value work back n) code refl tt (stands_front img (cell_test value work back n) (INDEX ∷ fetch_cell) at st) (omega arith) (rw (from_bytes, lt) refl))
      (by_row img fetch_cell code refl tt (stands_past img (check_cell value work back n) fetch_cell at st) (omega arith) (rw (sum, same) refl))

  pub cell_missing : (n : ℕ) → Stands img at (load_cell n) → ltb v n ≡ false →
      From (halt (at_work (past (cell_test value work back n) at) v (record { in_work = n; in_back = 1; in_spare = x.in_spare }) sp fp left mem s) ended_index)
  cell_missing n st lt = reaches_then {m' = at_work (past (cell_test value work back n) at) v (record { in_work = n; in_back = 1; in_spare = x.in_spare }) sp fp left mem s}
      (by_row img (cell_test value work back n) code refl tt (stands_front img (cell_test value work back n) (INDEX ∷ fetch_cell) at st) (omega arith) (rw (from_bytes, lt) refl))
      (by_row img (INDEX ∷ []) code refl tt (stands_front img (INDEX ∷ []) fetch_cell (past (cell_test value work back n) at) (stands_past img (cell_test value work back n) (INDEX ∷ fetch_cell) at st)) (omega arith) refl)

  -- a cell whose number is the stack's lowest word takes the value, or it is not there
  abbrev popped_test : ℕ → List Instruction
  popped_test n = pop ++ cell_test work back spare n

  module _ (n i top : ℕ) (st : Stands img at (store_cell n)) (below_top : sp ≡ top - 1) (lo : stack_base < top) (hi : top ≤ stack_top) (on_stack : word mem sp ≡ i) where
    same : add16 sp 0 ≡ sp
    same = omega arith

    up : add16 sp 1 ≡ top
    up = omega arith

    pub cell_stored : n ≤ most_cells → ltb i n ≡ true →
        From (at_work (past (store_cell n) at) v (record { in_work = i; in_back = cells_base + i; in_spare = 0 }) top fp left (put mem (cells_base + i) v) (set_cell s i v))
    cell_stored most lt =
        let below : i < n = ltb-true i n lt in
        let sum : add16 cells_base i ≡ cells_base + i = omega arith in
        let there : add16 (cells_base + i) 0 ≡ cells_base + i = omega arith in
        reaches_then {m' = at_work (past (pop ++ check_cell work back spare n) at) v (record { in_work = i; in_back = n; in_spare = 0 }) top fp left mem s}
        (by_row img (popped_test n) code refl tt (stands_front img (popped_test n) (INDEX ∷ keep_cell) at st) (omega arith) (rw (same, on_stack, up, from_bytes, lt) refl))
        (by_row img keep_cell code refl tt (stands_past img (pop ++ check_cell work back spare n) keep_cell at st) (omega arith) (rw (sum, there) refl))

    pub cell_not_stored : ltb i n ≡ false →
        From (halt (at_work (past (popped_test n) at) v (record { in_work = i; in_back = n; in_spare = 1 }) top fp left mem s) ended_index)
    cell_not_stored lt = reaches_then {m' = at_work (past (popped_test n) at) v (record { in_work = i; in_back = n; in_spare = 1 }) top fp left mem s}
        (by_row img (popped_test n) code refl tt (stands_front img (popped_test n) (INDEX ∷ keep_cell) at st) (omega arith) (rw (same, on_stack, up, from_bytes, lt) refl))
        (by_row img (INDEX ∷ []) code refl tt (stands_front img (INDEX ∷ []) keep_cell (past (popped_test n) at) (stands_past img (popped_test n) (INDEX ∷ keep_cell) at st)) (omega arith) refl)
