-- With more fuel a run puts out what it put out and more, and a run that has ended stays as it ended.
-- First what it means that one outcome goes as far as another; then expressions, statements and calls keep it, whatever
-- keeps it in the calls and turns that are handed in; then an induction on the fuel.
use mathlib.Core.Path.{◌≡◌, refl, sym, ap, subst}
use mathlib.Core.Bool.{Bool, true, false, cond}
use mathlib.Core.List.{List, [], ◌∷◌}
use mathlib.Core.Option.{Option, some, none}
use Prim.Native.Nat.{ℕ, zero, suc, ◌<◌, ◌≤◌}
use native.Mathlib.Omega.{arith}
use lib.Dec.{ltb, eqb}
use lib.ListN.{length, replicate}
use Rattle.words.specs.Words.{word, add16, sub16, less16, nand16}
use Rattle.words.specs.Runs.{Prefix, ended_index, ended_full}
use Rattle.words.proofs.Runs.{prefix_refl, prefix_trans}
use Rattle.language.specs.Language.{Expr, num, loc, glob, cell, add, sub, nand, less, half, call, Stmt, skip, then, setloc, setglob, setcell, if, while, out, take, Proc, Program, State, with_locals, set_local, set_global, set_cell, put_out, take_word, Outcome, fine, ends, spent, bind, eval, exec, enter, room_inside, proc_at, frame_size, frame_room, run_stmt, run_call, start, source, seen_outcome, FuelKeeps}

-- the words that a run has put out
abbrev pub outs : Outcome → List ℕ
outs r = (seen_outcome r).shown

-- r' goes as far as r: it is the same, or r ran out of fuel before
abbrev pub AsFar : Outcome → Outcome → Type 0
AsFar (fine v s) r' = r' ≡ fine v s
AsFar (ends how s) r' = r' ≡ ends how s
AsFar (spent s) r' = Prefix s.out (outs r')

as_far_refl : (r : Outcome) → AsFar r r
as_far_refl (fine v s) = refl
as_far_refl (ends how s) = refl
as_far_refl (spent s) = prefix_refl s.out

-- behind the words o, r' puts out more and goes as far as r
pub record Extends (o : List ℕ) (r r' : Outcome) : Type 0 where
  pub more : Prefix o (outs r')
  pub as_far : AsFar r r'

pub bind_more : (o : List ℕ) (r : Outcome) (k : ℕ → State → Outcome) → Prefix o (outs r) → ((v : ℕ) (s : State) → Prefix s.out (outs (k v s))) → Prefix o (outs (bind r k))
bind_more o (fine v s) k p g = prefix_trans o s.out (outs (k v s)) p (g v s)
bind_more o (ends how s) k p g = p
bind_more o (spent s) k p g = p

bind_as_far : (r r' : Outcome) (k k' : ℕ → State → Outcome) → AsFar r r' → ((v : ℕ) (s : State) → Extends s.out (k v s) (k' v s)) → AsFar (bind r k) (bind r' k')
bind_as_far (fine v s) r' k k' l g = subst (λ (x : Outcome). AsFar (k v s) (bind x k')) (sym l) (g v s).as_far
bind_as_far (ends how s) r' k k' l g = ap (λ (x : Outcome). bind x k') l
bind_as_far (spent s) r' k k' l g = bind_more s.out r' k' l (λ v t. (g v t).more)

extends_bind : (o : List ℕ) (r r' : Outcome) (k k' : ℕ → State → Outcome) → Extends o r r' → ((v : ℕ) (s : State) → Extends s.out (k v s) (k' v s)) → Extends o (bind r k) (bind r' k')
extends_bind o r r' k k' a g = record { more = bind_more o r' k' a.more (λ v s. (g v s).more); as_far = bind_as_far r r' k k' a.as_far g }

extends_cond : (o : List ℕ) (b : Bool) (r r' q q' : Outcome) → Extends o r r' → Extends o q q' → Extends o (cond b r q) (cond b r' q')
extends_cond o true r r' q q' a c = a
extends_cond o false r r' q q' a c = c

-- an outcome that needs no fuel, and puts out nothing
same : (s : State) (r : Outcome) → Prefix s.out (outs r) → Extends s.out r r
same s r p = record { more = p; as_far = as_far_refl r }

silent : (v : ℕ) (s t : State) → t.out ≡ s.out → Extends s.out (fine v t) (fine v t)
silent v s t e = same s (fine v t) (subst (λ (o : List ℕ). Prefix s.out o) (sym e) (prefix_refl s.out))

stopped : (how : ℕ) (s : State) → Extends s.out (ends how s) (ends how s)
stopped how s = same s (ends how s) (prefix_refl s.out)

module _ (c c' : ℕ → ℕ → State → Outcome) (calls : (f v : ℕ) (s : State) → Extends s.out (c f v s) (c' f v s)) where
  on_two : (a b : Expr) (op : ℕ → ℕ → ℕ) → ((s : State) → Extends s.out (eval c a s) (eval c' a s)) → ((s : State) → Extends s.out (eval c b s) (eval c' b s)) → (s : State) →
      Extends s.out (bind (eval c a s) (λ u t. bind (eval c b t) (λ v w. fine (op u v) w))) (bind (eval c' a s) (λ u t. bind (eval c' b t) (λ v w. fine (op u v) w)))
  on_two a b op ga gb s = extends_bind s.out _ _ _ _ (ga s) (λ u t. extends_bind t.out _ _ _ _ (gb t) (λ v w. silent (op u v) w w refl))

  pub expr_extends : (e : Expr) (s : State) → Extends s.out (eval c e s) (eval c' e s)
  expr_extends (num n) s = silent n s s refl
  expr_extends (loc i) s = silent (word s.locals i) s s refl
  expr_extends (glob i) s = silent (word s.globals i) s s refl
  expr_extends (cell e) s = extends_bind s.out _ _ _ _ (expr_extends e s)
      (λ i t. extends_cond t.out (ltb i (length t.cells)) _ _ _ _ (silent (word t.cells i) t t refl) (stopped ended_index t))
  expr_extends (add a b) s = on_two a b add16 (expr_extends a) (expr_extends b) s
  expr_extends (sub a b) s = on_two a b sub16 (expr_extends a) (expr_extends b) s
  expr_extends (nand a b) s = on_two a b nand16 (expr_extends a) (expr_extends b) s
  expr_extends (less a b) s = on_two a b less16 (expr_extends a) (expr_extends b) s
  expr_extends (half a) s = extends_bind s.out _ _ _ _ (expr_extends a s) (λ u t. silent _ t t refl)
  expr_extends (call f a) s = extends_bind s.out _ _ _ _ (expr_extends a s) (λ u t. calls f u t)

  module _ (w w' : Expr → Stmt → State → Outcome) (turns : (e : Expr) (p : Stmt) (s : State) → Extends s.out (w e p s) (w' e p s)) where
    pub stmt_extends : (p : Stmt) (s : State) → Extends s.out (exec c w p s) (exec c' w' p s)
    stmt_extends skip s = silent 0 s s refl
    stmt_extends (then p q) s = extends_bind s.out _ _ _ _ (stmt_extends p s) (λ v t. stmt_extends q t)
    stmt_extends (setloc i e) s = extends_bind s.out _ _ _ _ (expr_extends e s) (λ v t. silent 0 t (set_local t i v) refl)
    stmt_extends (setglob i e) s = extends_bind s.out _ _ _ _ (expr_extends e s) (λ v t. silent 0 t (set_global t i v) refl)
    stmt_extends (setcell e f) s = extends_bind s.out _ _ _ _ (expr_extends e s) (λ i t. extends_bind t.out _ _ _ _ (expr_extends f t)
        (λ v u. extends_cond u.out (ltb i (length u.cells)) _ _ _ _ (silent 0 u (set_cell u i v) refl) (stopped ended_index u)))
    stmt_extends (if e p q) s = extends_bind s.out _ _ _ _ (expr_extends e s) (λ v t. extends_cond t.out (eqb v 0) _ _ _ _ (stmt_extends q t) (stmt_extends p t))
    stmt_extends (while e p) s = extends_bind s.out _ _ _ _ (expr_extends e s)
        (λ v t. extends_cond t.out (eqb v 0) _ _ _ _ (silent 0 t t refl) (extends_bind t.out _ _ _ _ (stmt_extends p t) (λ z u. turns e p u)))
    stmt_extends (out e) s = extends_bind s.out _ _ _ _ (expr_extends e s) (λ v t. same t (fine 0 (put_out t v)) (v ∷ [], refl))
    stmt_extends (take i) s = silent 0 s (take_word s i) refl

enter_extends : (b b' : Stmt → State → Outcome) → ((p : Stmt) (s : State) → Extends s.out (b p s) (b' p s)) → (o : Option Proc) (room v : ℕ) (s : State) → Extends s.out (enter b o room v s) (enter b' o room v s)
enter_extends b b' bodies none room v s = stopped ended_full s
enter_extends b b' bodies (some d) room v s = extends_cond s.out (ltb room (frame_size d)) _ _ _ _ (stopped ended_full s)
    (extends_bind s.out _ _ _ _ (bodies d.body (with_locals s (v ∷ replicate d.locals 0))) (λ z t. silent _ t (with_locals t s.locals) refl))

-- what fuel n does, fuel m does and more
abbrev pub FuelExtends : Program → ℕ → ℕ → Type 0
FuelExtends g n m =
    ((room : ℕ) (p : Stmt) (s : State) → Extends s.out (run_stmt n g room p s) (run_stmt m g room p s))
    × ((room f v : ℕ) (s : State) → Extends s.out (run_call n g room f v s) (run_call m g room f v s))

-- one unit of fuel more on both sides
fuel_suc : (g : Program) (n m : ℕ) → FuelExtends g n m → FuelExtends g (suc n) (suc m)
fuel_suc g n m ih = (
  (λ room p s. stmt_extends (λ f v t. run_call n g room f v t) (λ f v t. run_call m g room f v t) (ih.1 room)
      (λ e q t. run_stmt n g room (while e q) t) (λ e q t. run_stmt m g room (while e q) t) (λ e q t. ih.0 room (while e q) t) p s),
  (λ room f v s. enter_extends _ _ (λ p t. ih.0 (room_inside (proc_at g.procs f) room) p t) (proc_at g.procs f) room v s),
)

pub same_fuel : (g : Program) (m : ℕ) → FuelExtends g m m
same_fuel g zero = ((λ room p s. same s (spent s) (prefix_refl s.out)), (λ room f v s. same s (spent s) (prefix_refl s.out)))
same_fuel g (suc m) = fuel_suc g m m (same_fuel g m)

more_fuel : (g : Program) (n m : ℕ) → n ≤ m → FuelExtends g n m
more_fuel g zero m h = let a = same_fuel g m in
    ((λ room p s. record { more = (a.0 room p s).more; as_far = (a.0 room p s).more }), (λ room f v s. record { more = (a.1 room f v s).more; as_far = (a.1 room f v s).more }))
more_fuel g (suc n) zero h = absurd (omega arith)
more_fuel g (suc n) (suc m) h = fuel_suc g n m (more_fuel g n m (omega arith))

keeps : (r r' : Outcome) → AsFar r r' → Prefix (outs r) (outs r') × (0 < (seen_outcome r).ending → r' ≡ r)
keeps (fine v s) r' l = (subst (λ (x : Outcome). Prefix s.out (outs x)) (sym l) (prefix_refl s.out), λ h. l)
keeps (ends how s) r' l = (subst (λ (x : Outcome). Prefix s.out (outs x)) (sym l) (prefix_refl s.out), λ h. l)
keeps (spent s) r' l = (l, λ h. absurd (omega arith))

pub fuel_keeps : FuelKeeps
fuel_keeps g tape n m h = keeps (source g tape n) (source g tape m) ((more_fuel g n m h).1 frame_room 0 0 (start g tape)).as_far
