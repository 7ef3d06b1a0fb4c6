-- Memory goes on holding a state: after a store to the stack below the locals; after a store to a local, a global or a cell,
-- which the state takes too; with words put out or taken. And which words of the stack have changed: none, one, those of
-- two parts of a run.
use Rattle.std.proofs.Common.{ℕ, ◌+◌, ◌<◌, ◌≤◌, List, refl, ◌∙◌, arith, length-set}
use Rattle.std.proofs.lemmas.List.{get_or-set_other}
use Rattle.words.specs.Words.{put, IsTape}
use Rattle.words.proofs.Lists.{put_below}
use Rattle.words.proofs.Memory.{put_both}
use Rattle.language.specs.Language.{Program, State, set_local, set_global, set_cell}
use Rattle.language.specs.Limits.{most_globals, most_cells}
use Rattle.codegen.specs.Layout.{stack_top, stack_base, cells_base, globals_base}
use Rattle.codegen.specs.Heart.{Holds, ChangedWithin}

module _ (img : List ℕ) (g : Program) (few_globals : g.globals ≤ most_globals) (few_cells : g.cells ≤ most_cells)
    (locals : ℕ) (s : State) (fp : ℕ) (mem : List ℕ) (h : Holds img g locals s fp mem) where
  pub holds_pushed : (p v : ℕ) → stack_base ≤ p → p < fp → Holds img g locals s fp (put mem p v)
  holds_pushed p v lo hi = record {
    words = h.words;
    size = length-set mem p v ∙ h.size;
    code_kept = λ j b. get_or-set_other mem p j v 0 (omega arith) ∙ h.code_kept j b;
    globals_count = h.globals_count;
    cells_count = h.cells_count;
    locals_count = h.locals_count;
    globals_held = λ i b. get_or-set_other mem p (globals_base + i) v 0 (omega arith) ∙ h.globals_held i b;
    cells_held = λ i b. get_or-set_other mem p (cells_base + i) v 0 (omega arith) ∙ h.cells_held i b;
    locals_held = λ i b. get_or-set_other mem p (fp + i) v 0 (omega arith) ∙ h.locals_held i b;
  }

  -- what is put out or taken changes nothing of memory
  pub holds_io : (tape out : List ℕ) → IsTape tape → Holds img g locals (record { locals = s.locals; globals = s.globals; cells = s.cells; tape = tape; out = out }) fp mem
  holds_io tape out tape_words = record {
    words = record { locals_words = h.words.locals_words; globals_words = h.words.globals_words; cells_words = h.words.cells_words; tape_words = tape_words };
    size = h.size;
    code_kept = h.code_kept;
    globals_count = h.globals_count;
    cells_count = h.cells_count;
    locals_count = h.locals_count;
    globals_held = h.globals_held;
    cells_held = h.cells_held;
    locals_held = h.locals_held;
  }

  module _ (lo : stack_base ≤ fp) (hi : fp + locals ≤ stack_top) (i v : ℕ) (small : v < 65536) where
    pub holds_local : i < locals → Holds img g locals (set_local s i v) fp (put mem (fp + i) v)
    holds_local there = record {
      words = record { locals_words = put_below s.locals i v h.words.locals_words small; globals_words = h.words.globals_words; cells_words = h.words.cells_words; tape_words = h.words.tape_words };
      size = length-set mem (fp + i) v ∙ h.size;
      code_kept = λ j b. get_or-set_other mem (fp + i) j v 0 (omega arith) ∙ h.code_kept j b;
      globals_count = h.globals_count;
      cells_count = h.cells_count;
      locals_count = length-set s.locals i v ∙ h.locals_count;
      globals_held = λ j b. get_or-set_other mem (fp + i) (globals_base + j) v 0 (omega arith) ∙ h.globals_held j b;
      cells_held = λ j b. get_or-set_other mem (fp + i) (cells_base + j) v 0 (omega arith) ∙ h.cells_held j b;
      locals_held = λ j b. put_both s.locals mem fp i j v (omega (arith, h.locals_count)) (omega (arith, h.size)) (h.locals_held j b);
    }

    pub holds_global : i < g.globals → Holds img g locals (set_global s i v) fp (put mem (globals_base + i) v)
    holds_global there = record {
      words = record { locals_words = h.words.locals_words; globals_words = put_below s.globals i v h.words.globals_words small; cells_words = h.words.cells_words; tape_words = h.words.tape_words };
      size = length-set mem (globals_base + i) v ∙ h.size;
      code_kept = λ j b. get_or-set_other mem (globals_base + i) j v 0 (omega arith) ∙ h.code_kept j b;
      globals_count = length-set s.globals i v ∙ h.globals_count;
      cells_count = h.cells_count;
      locals_count = h.locals_count;
      globals_held = λ j b. put_both s.globals mem globals_base i j v (omega (arith, h.globals_count)) (omega (arith, h.size)) (h.globals_held j b);
      cells_held = λ j b. get_or-set_other mem (globals_base + i) (cells_base + j) v 0 (omega arith) ∙ h.cells_held j b;
      locals_held = λ j b. get_or-set_other mem (globals_base + i) (fp + j) v 0 (omega arith) ∙ h.locals_held j b;
    }

    pub holds_cell : i < g.cells → Holds img g locals (set_cell s i v) fp (put mem (cells_base + i) v)
    holds_cell there = record {
      words = record { locals_words = h.words.locals_words; globals_words = h.words.globals_words; cells_words = put_below s.cells i v h.words.cells_words small; tape_words = h.words.tape_words };
      size = length-set mem (cells_base + i) v ∙ h.size;
      code_kept = λ j b. get_or-set_other mem (cells_base + i) j v 0 (omega arith) ∙ h.code_kept j b;
      globals_count = h.globals_count;
      cells_count = length-set s.cells i v ∙ h.cells_count;
      locals_count = h.locals_count;
      globals_held = λ j b. get_or-set_other mem (cells_base + i) (globals_base + j) v 0 (omega arith) ∙ h.globals_held j b;
      cells_held = λ j b. put_both s.cells mem cells_base i j v (omega (arith, h.cells_count)) (omega (arith, h.size)) (h.cells_held j b);
      locals_held = λ j b. get_or-set_other mem (cells_base + i) (fp + j) v 0 (omega arith) ∙ h.locals_held j b;
    }

pub changed_none : {lo hi : ℕ} {mem : List ℕ} → ChangedWithin lo hi mem mem
changed_none = record { below = λ j b c. refl; above = λ j b. refl }

-- a store to the stack, and one below it
pub changed_one : {lo hi : ℕ} (mem : List ℕ) (p v : ℕ) → lo ≤ p → p < hi → ChangedWithin lo hi mem (put mem p v)
changed_one mem p v l h = record { below = λ j b c. get_or-set_other mem p j v 0 (omega arith); above = λ j b. get_or-set_other mem p j v 0 (omega arith) }

pub changed_data : {lo hi : ℕ} (mem : List ℕ) (p v : ℕ) → p < stack_base → stack_base ≤ hi → ChangedWithin lo hi mem (put mem p v)
changed_data mem p v l h = record { below = λ j b c. get_or-set_other mem p j v 0 (omega arith); above = λ j b. get_or-set_other mem p j v 0 (omega arith) }

pub changed_wider : {lo hi lo₁ hi₁ : ℕ} {mem mem₁ : List ℕ} → ChangedWithin lo₁ hi₁ mem mem₁ → lo ≤ lo₁ → hi₁ ≤ hi → ChangedWithin lo hi mem mem₁
changed_wider c l h = record { below = λ j b k. c.below j b (omega arith); above = λ j b. c.above j (omega arith) }

pub changed_then : {lo hi : ℕ} {mem mem₁ mem₂ : List ℕ} → ChangedWithin lo hi mem mem₁ → ChangedWithin lo hi mem₁ mem₂ → ChangedWithin lo hi mem mem₂
changed_then c d = record { below = λ j b k. d.below j b k ∙ c.below j b k; above = λ j b. d.above j b ∙ c.above j b }
