-- The promise of 'build': no two answers are right of one text; an image that the code made; the promise by answer.
use Rattle.std.proofs.Common.{◌≡◌, ℕ, Bool, false, T, List, length, Ok, Err, sym, refl, ap, ◌∙◌, subst}
use Rattle.words.specs.Words.{memory_size}
use Rattle.language.specs.Language.{Program}
use Rattle.language.specs.Limits.{fits}
use Rattle.language.proofs.Fuel.{fuel_keeps}
use Rattle.text.specs.Text.{Reads}
use Rattle.text.specs.Verdicts.{Judged}
use Rattle.text.specs.declared.judge.Refused.{Refused}
use Rattle.text.specs.declared.judge.Refused.TheVariants as R
use Rattle.text.proofs.Decode.{one_program}
use Rattle.codegen.specs.Codegen.{image}
use Rattle.codegen.proofs.Images.{images_right}
use Rattle.compiler.specs.declared.BuildError.TheVariants as B
use Rattle.compiler.specs.Promise.{ImageMade, Answer, Case, Leaves, Built, why}

-- no program is both within the limits and outside
apart : (s : List ℕ) (g h : Program) → Reads s g → Reads s h → T (fits g) → fits h ≡ false → ⊥
apart s g h r r' t e = subst (λ (b : Bool). T b) (ap fits (one_program s g h r r') ∙ e) t

only_one : (s m : List ℕ) (r other : Answer) → Case s m r → Case s m other → other ≡ r
only_one s m (Err B.Short) (Err B.Short) a b = refl
only_one s m (Err B.Short) (Err B.NoProgram) a b = absurd (a b.0)
only_one s m (Err B.Short) (Err B.Limits) a b = absurd (a b.0)
only_one s m (Err B.Short) (Ok u) a b = absurd (a b.0)
only_one s m (Err B.NoProgram) (Err B.Short) a b = absurd (b a.0)
only_one s m (Err B.NoProgram) (Err B.NoProgram) a b = refl
only_one s m (Err B.NoProgram) (Err B.Limits) a b = absurd (a.1 b.1.0 b.1.1)
only_one s m (Err B.NoProgram) (Ok u) a b = absurd (a.1 b.1.0 b.1.1)
only_one s m (Err B.Limits) (Err B.Short) a b = absurd (b a.0)
only_one s m (Err B.Limits) (Err B.NoProgram) a b = absurd (b.1 a.1.0 a.1.1)
only_one s m (Err B.Limits) (Err B.Limits) a b = refl
only_one s m (Err B.Limits) (Ok u) a b = absurd (apart s b.1.0 a.1.0 b.1.1 a.1.1 b.1.2 a.1.2)
only_one s m (Ok u) (Err B.Short) a b = absurd (b a.0)
only_one s m (Ok u) (Err B.NoProgram) a b = absurd (b.1 a.1.0 a.1.1)
only_one s m (Ok u) (Err B.Limits) a b = absurd (apart s a.1.0 b.1.0 a.1.1 b.1.1 a.1.2 b.1.2)
only_one s m (Ok u) (Ok v) a b = refl

pub built : (s m m' : List ℕ) (r : Answer) → Case s m r → Leaves s m m' r → Built s m m' r
built s m m' r a b = record { right = a; only = λ other c. only_one s m r other a c; leaves = b; one_program = one_program; fuel_keeps = fuel_keeps }

-- a text that is refused
pub refused : (s m : List ℕ) (r : Refused) → length m ≡ memory_size → Judged s (Err r) → Case s m (Err (why r))
refused s m R.NoProgram e j = (e, j)
refused s m R.Limits e j = (e, j)

-- what holds of the program's image holds of words that are it
pub image_made : (s m : List ℕ) (g : Program) → Reads s g → T (fits g) → m ≡ image g → ImageMade s m
image_made s m g r t e =
    let made : ImageMade s (image g) =
    let x = images_right g t in
    record { program = g; reads = r; within = t; is = refl; is_memory = x.is_memory; does_the_same = x.does_the_same; top_blank = x.top_blank; top_alone = x.top_alone } in
    subst (λ (w : List ℕ). ImageMade s w) (sym e) made
