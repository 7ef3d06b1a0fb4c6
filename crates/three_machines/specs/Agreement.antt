-- When two outcomes agree, and when three runs came out as expected.
use Rattle.std.specs.Prelude.{◌≡◌, ℕ, ◌≤◌, Bool, true, false, ◌⊎◌, List, ◌++◌, length, vec_items}
use Rattle.three_machines.specs.declared.outcome.Outcome.{Outcome}
use Rattle.three_machines.specs.declared.outcome.Runs.{Runs}

-- the first words are all of the second or a beginning of them
abbrev pub Begins : List ℕ → List ℕ → Type 0
Begins xs ys = (rest : List ℕ) × (ys ≡ xs ++ rest)

-- the same words; of programs that put out more and more, one's are a beginning of the other's
abbrev pub SameWords : Bool → List ℕ → List ℕ → Type 0
SameWords false xs ys = xs ≡ ys
SameWords true xs ys = Begins xs ys ⊎ Begins ys xs

pub record Agree (more : Bool) (a b : Outcome) : Type 0 where
  pub words : SameWords more (vec_items a.words) (vec_items b.words)
  pub taken : a.taken ≡ b.taken
  pub ending : a.ending ≡ b.ending

-- a run came out as expected, with no word missing
pub record Meets (more : Bool) (expected run : Outcome) : Type 0 where
  pub agrees : Agree more expected run
  pub all : length (vec_items expected.words) ≤ length (vec_items run.words)

-- all three did, and agree with one another
pub record AllMeet (more : Bool) (expected : Outcome) (runs : Runs) : Type 0 where
  pub definition : Meets more expected runs.definition
  pub instructions : Meets more expected runs.instructions
  pub board : Meets more expected runs.board
  pub definition_instructions : Agree more runs.definition runs.instructions
  pub instructions_board : Agree more runs.instructions runs.board
  pub board_definition : Agree more runs.board runs.definition
