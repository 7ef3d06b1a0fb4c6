-- One word more: the three things that a step can be, and how far the counters go. Every step is the first word, a number
-- that is taken, or a word that begins what is owed.
use Rattle.std.proofs.Common.{◌≡◌, ℕ, zero, suc, ◌+◌, ◌*◌, ◌^◌, ◌<◌, ◌≤◌, true, List, [], ◌∷◌, length, Some, None, Option, sym, refl, ap, ◌∙◌, subst, arith}
use Rattle.std.proofs.lemmas.Bool.{and_parts}
use Rattle.words.proofs.Tests.{not_nothing}
use Rattle.text.specs.declared.kinds.Kind.{Kind}
use Rattle.text.specs.declared.kinds.Kind.TheVariants as K
use Rattle.text.specs.declared.reader.Role.{Role}
use Rattle.text.specs.declared.reader.Role.TheVariants as R
use Rattle.text.specs.declared.reader.Use.{Use}
use Rattle.text.specs.declared.reader.Use.TheVariants.{Globals, Cells, Procs, Locals, Value, Local, Global, Callee}
use Rattle.text.specs.declared.reader.Need.{Need}
use Rattle.text.specs.declared.reader.Need.TheVariants.{Start, Number, Owed}
use Rattle.text.specs.declared.reader.Reader.{Reader}
use Rattle.text.specs.Kinds.{kind}
use Rattle.text.specs.Numbers.{number_of}
use Rattle.text.specs.Shapes.{shape}
use Rattle.text.specs.Reading.{and_then, more, owed_after, moved, enter_word, with_need, begun, begin_word, taken, take_number, step_at, step, run, fresh, Roomy}

-- what is owed after a word of a kind
abbrev pub owes : Kind → Reader → Option (ℕ × ℕ × ℕ)
owes k a = owed_after (shape k).role (shape k).exprs (shape k).stmts a.exprs a.stmts a.procs

pub data Stepped (w : List ℕ) (a b : Reader) : Type 0 where
  starts : a.need ≡ Start → kind w ≡ Some K.Program → b ≡ with_need (Number Globals) a → Stepped w a b
  takes : (u : Use) (n : ℕ) → a.need ≡ Number u → number_of w ≡ Some n → b ≡ taken u n a → Stepped w a b
  enters : (k : Kind) (t : ℕ × ℕ × ℕ) → a.need ≡ Owed → kind w ≡ Some k → owes k a ≡ Some t → b ≡ moved (shape k).next a t → Stepped w a b

-- only the word 'program' begins a program
pub begins_program : (k : Kind) (a b : Reader) → begun (shape k).role a ≡ Some b → k ≡ K.Program
begins_program K.Num a b e = not_nothing b (sym e)
begins_program K.Loc a b e = not_nothing b (sym e)
begins_program K.Glob a b e = not_nothing b (sym e)
begins_program K.Cell a b e = not_nothing b (sym e)
begins_program K.Add a b e = not_nothing b (sym e)
begins_program K.Sub a b e = not_nothing b (sym e)
begins_program K.Nand a b e = not_nothing b (sym e)
begins_program K.Less a b e = not_nothing b (sym e)
begins_program K.Half a b e = not_nothing b (sym e)
begins_program K.Call a b e = not_nothing b (sym e)
begins_program K.Skip a b e = not_nothing b (sym e)
begins_program K.Then a b e = not_nothing b (sym e)
begins_program K.SetLoc a b e = not_nothing b (sym e)
begins_program K.SetGlob a b e = not_nothing b (sym e)
begins_program K.SetCell a b e = not_nothing b (sym e)
begins_program K.If a b e = not_nothing b (sym e)
begins_program K.While a b e = not_nothing b (sym e)
begins_program K.Out a b e = not_nothing b (sym e)
begins_program K.Take a b e = not_nothing b (sym e)
begins_program K.Program a b e = refl
begins_program K.Proc a b e = not_nothing b (sym e)

stepped_start : (w : List ℕ) (a b : Reader) (o : Option Kind) → a.need ≡ Start → kind w ≡ o → Some b ≡ begin_word o a → Stepped w a b
stepped_start w a b None q e h = not_nothing b h
stepped_start w a b (Some k) q e h =
    let p : k ≡ K.Program = begins_program k a b (sym h) in
    let h2 : Some b ≡ begin_word (Some K.Program) a = subst (λ (j : Kind). Some b ≡ begin_word (Some j) a) p h in
    starts q (e ∙ ap (λ (j : Kind). Some j) p) (cc)

stepped_number : (w : List ℕ) (a b : Reader) (u : Use) (o : Option ℕ) → a.need ≡ Number u → number_of w ≡ o → Some b ≡ take_number u o a → Stepped w a b
stepped_number w a b u None q e h = not_nothing b h
stepped_number w a b u (Some n) q e h = takes u n q e (cc)

stepped_owed : (w : List ℕ) (a b : Reader) (k : Kind) (o : Option (ℕ × ℕ × ℕ)) → a.need ≡ Owed → kind w ≡ Some k → owes k a ≡ o → Some b ≡ and_then o (λ t. Some (moved (shape k).next a t)) → Stepped w a b
stepped_owed w a b k None q e f h = not_nothing b h
stepped_owed w a b k (Some t) q e f h = enters k t q e f (cc)

stepped_word : (w : List ℕ) (a b : Reader) (o : Option Kind) → a.need ≡ Owed → kind w ≡ o → Some b ≡ enter_word o a → Stepped w a b
stepped_word w a b None q e h = not_nothing b h
stepped_word w a b (Some k) q e h = stepped_owed w a b k (owes k a) q e refl h

stepped_at : (n : Need) (w : List ℕ) (a b : Reader) → a.need ≡ n → Some b ≡ step_at n w a → Stepped w a b
stepped_at Start w a b q h = stepped_start w a b (kind w) q refl h
stepped_at (Number u) w a b q h = stepped_number w a b u (number_of w) q refl h
stepped_at Owed w a b q h = stepped_word w a b (kind w) q refl h

pub stepped : (w : List ℕ) (a b : Reader) → Some b ≡ step w a → Stepped w a b
stepped w a b h = stepped_at a.need w a b refl h

-- One word adds at most so much to the counters; the limits that are kept were kept before.
pub record Grown (a b : Reader) : Type 0 where
  pub exprs : b.exprs ≤ a.exprs + 2
  pub stmts : b.stmts ≤ a.stmts + 2
  pub signs : b.signs ≤ a.signs + 1
  pub signs_up : a.signs ≤ b.signs
  pub sign : a.need ≡ Owed → b.signs ≡ a.signs + 1
  pub fits : b.fits ≡ true → a.fits ≡ true

pub more_is : (e k : ℕ) → more e k ≡ e + k
more_is zero k = omega arith
more_is (suc e) k = ap suc (more_is e k) ∙ omega arith

-- a need is not two
not_owed : {X : Type 0} (u : Use) (n : Need) → n ≡ Number u → n ≡ Owed → X
not_owed u n p q = let z : ◌≡◌ {A = ℕ} 0 1 = cc in let no : ⊥ = omega arith in absurd no

not_start : {X : Type 0} (n : Need) → n ≡ Start → n ≡ Owed → X
not_start n p q = let z : ◌≡◌ {A = ℕ} 0 1 = cc in let no : ⊥ = omega arith in absurd no

-- a number adds nothing to the counters
record Kept (a b : Reader) : Type 0 where
  exprs : b.exprs ≤ a.exprs
  stmts : b.stmts ≤ a.stmts
  signs : b.signs ≡ a.signs
  fits : b.fits ≡ true → a.fits ≡ true

taken_keeps : (u : Use) (n : ℕ) (a : Reader) → Kept a (taken u n a)
taken_keeps Globals n a = record { exprs = omega arith; stmts = omega arith; signs = refl; fits = λ h. (and_parts a.fits _ h).0 }
taken_keeps Cells n a = record { exprs = omega arith; stmts = omega arith; signs = refl; fits = λ h. (and_parts a.fits _ h).0 }
taken_keeps Procs n a = record { exprs = omega arith; stmts = omega arith; signs = refl; fits = λ h. (and_parts a.fits _ h).0 }
taken_keeps Locals n a = record { exprs = omega arith; stmts = omega arith; signs = refl; fits = λ h. (and_parts a.fits _ h).0 }
taken_keeps Value n a = record { exprs = omega arith; stmts = omega arith; signs = refl; fits = λ h. (and_parts a.fits _ h).0 }
taken_keeps Local n a = record { exprs = omega arith; stmts = omega arith; signs = refl; fits = λ h. (and_parts a.fits _ h).0 }
taken_keeps Global n a = record { exprs = omega arith; stmts = omega arith; signs = refl; fits = λ h. (and_parts a.fits _ h).0 }
taken_keeps Callee n a = record { exprs = omega arith; stmts = omega arith; signs = refl; fits = λ h. (and_parts a.fits _ h).0 }

owed_grows : (r : Role) (e s k m p : ℕ) (t : ℕ × ℕ × ℕ) → e ≤ 2 → s ≤ 2 → owed_after r e s k m p ≡ Some t → (t.0 ≤ k + 2) × (t.1 ≤ m + 2)
owed_grows R.Expression e s zero m p t he hs q = not_nothing t (sym q)
owed_grows R.Expression e s (suc k) m p t he hs q = let v : t ≡ (more e k, m, p) = cc in (omega (arith, more_is e k, ap (λ (x : ℕ × ℕ × ℕ). x.0) v), omega (arith, ap (λ (x : ℕ × ℕ × ℕ). x.1) v))
owed_grows R.Statement e s (suc k) m p t he hs q = not_nothing t (sym q)
owed_grows R.Statement e s zero zero p t he hs q = not_nothing t (sym q)
owed_grows R.Statement e s zero (suc m) p t he hs q = let v : t ≡ (e, more s m, p) = cc in (omega (arith, ap (λ (x : ℕ × ℕ × ℕ). x.0) v), omega (arith, more_is s m, ap (λ (x : ℕ × ℕ × ℕ). x.1) v))
owed_grows R.Procedure e s (suc k) m p t he hs q = not_nothing t (sym q)
owed_grows R.Procedure e s zero (suc m) p t he hs q = not_nothing t (sym q)
owed_grows R.Procedure e s zero zero zero t he hs q = not_nothing t (sym q)
owed_grows R.Procedure e s zero zero (suc p) t he hs q = let v : t ≡ (0, 1, p) = cc in (omega (arith, ap (λ (x : ℕ × ℕ × ℕ). x.0) v), omega (arith, ap (λ (x : ℕ × ℕ × ℕ). x.1) v))
owed_grows R.Program e s k m p t he hs q = not_nothing t (sym q)

-- no word holds more than two expressions or two statements
few : (k : Kind) → ((shape k).exprs ≤ 2) × ((shape k).stmts ≤ 2)
few K.Num = omega arith
few K.Loc = omega arith
few K.Glob = omega arith
few K.Cell = omega arith
few K.Add = omega arith
few K.Sub = omega arith
few K.Nand = omega arith
few K.Less = omega arith
few K.Half = omega arith
few K.Call = omega arith
few K.Skip = omega arith
few K.Then = omega arith
few K.SetLoc = omega arith
few K.SetGlob = omega arith
few K.SetCell = omega arith
few K.If = omega arith
few K.While = omega arith
few K.Out = omega arith
few K.Take = omega arith
few K.Program = omega arith
few K.Proc = omega arith

grown_by : (w : List ℕ) (a b : Reader) → Stepped w a b → Grown a b
grown_by w a b (starts q e r) = subst (Grown a) (sym r) (record { exprs = omega arith; stmts = omega arith; signs = omega arith; signs_up = omega arith; sign = λ p. not_start a.need q p; fits = λ h. h })
grown_by w a b (takes u n q e r) = let k = taken_keeps u n a in subst (Grown a) (sym r) (record { exprs = omega (arith, k.exprs); stmts = omega (arith, k.stmts); signs = omega (arith, k.signs); signs_up = omega (arith, k.signs); sign = λ p. not_owed u a.need q p; fits = k.fits })
grown_by w a b (enters k t q e f r) =
    let g = owed_grows (shape k).role (shape k).exprs (shape k).stmts a.exprs a.stmts a.procs t (few k).0 (few k).1 f in
    subst (Grown a) (sym r) (record { exprs = g.0; stmts = g.1; signs = omega arith; signs_up = omega arith; sign = λ p. refl; fits = λ h. h })

pub grown : (w : List ℕ) (a b : Reader) → Some b ≡ step w a → Grown a b
grown w a b e = grown_by w a b (stepped w a b e)

-- A reader is underway: of the words ws it has read some, and those that are left give from it what all of them give from
-- the start. Each word adds at most two to a counter.
pub record Underway (ws left : List (List ℕ)) (a : Reader) : Type 0 where
  pub reads : run ws fresh ≡ run left a
  pub exprs : a.exprs + 2 * length left ≤ 2 * length ws
  pub stmts : a.stmts + 2 * length left ≤ 2 * length ws
  pub signs : a.signs + length left ≤ length ws

pub underway_more : (ws left left' : List (List ℕ)) (w : List ℕ) (a b : Reader) → Underway ws left a → left ≡ w ∷ left' → Some b ≡ step w a → Underway ws left' b
underway_more ws left left' w a b u e h =
    let g : Grown a b = grown w a b h in let l : length left ≡ length left' + 1 = ap length e ∙ omega arith in
    record { reads = u.reads ∙ ap (λ vs. run vs a) e ∙ ap (λ o. and_then o (run left')) (sym h); exprs = omega arith; stmts = omega arith; signs = omega arith }

-- a word that can't stand where it does ends the reading
pub underway_stuck : (ws left left' : List (List ℕ)) (w : List ℕ) (a : Reader) → Underway ws left a → left ≡ w ∷ left' → None ≡ step w a → run ws fresh ≡ None
underway_stuck ws left left' w a u e h = u.reads ∙ ap (λ vs. run vs a) e ∙ ap (λ o. and_then o (run left')) (sym h)

-- all words are read
pub underway_end : (ws left : List (List ℕ)) (a : Reader) → Underway ws left a → left ≡ [] → Some a ≡ run ws fresh
underway_end ws left a u e = sym (u.reads ∙ ap (λ vs. run vs a) e)

-- the counters have room for one word more
pub underway_roomy : (ws left left' : List (List ℕ)) (w : List ℕ) (a : Reader) → Underway ws left a → left ≡ w ∷ left' → length ws < 2 ^ 63 → Roomy a
underway_roomy ws left left' w a u e h = let l : length left ≡ length left' + 1 = ap length e ∙ omega arith in record { exprs = omega arith; stmts = omega arith; signs = omega arith }
