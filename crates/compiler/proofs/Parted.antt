-- The parts of work: which expressions they are, and that their code is within the words for code.
use Rattle.std.proofs.Common.{◌≡◌, ℕ, ◌+◌, ◌<◌, ◌≤◌, List, [], ◌∷◌, length, sym, ap, ◌∙◌, subst, arith}
use Rattle.language.specs.Language.{Expr, num, loc, glob, cell, add, sub, nand, less, half, call, height}
use Rattle.language.specs.Nodes.{node_at}
use Rattle.language.specs.declared.nodes.Node.{Node}
use Rattle.codegen.specs.Codegen.{push, end_of_expr}
use Rattle.codegen.specs.Instructions.{past}
use Rattle.codegen.specs.Layout.{code_limit}
use Rattle.codegen.proofs.Sizes.{past_is, size_expr}
use Rattle.compiler.specs.declared.parts.Parts.{Parts}
use Rattle.compiler.specs.declared.parts.Parts.TheVariants as P
use Rattle.compiler.specs.Work.{parts_of, last_block, past_last, PartsAt, AllFit, work_end, Works, EndsWork}
use Rattle.compiler.specs.Sizes.{push_words}
use Rattle.compiler.proofs.Works.{expr_works, expr_ended}

-- the last block ends no earlier than it begins
pub past_last_more : (d : Node) (at : ℕ) → at ≤ past_last d at
past_last_more d at = omega (arith, past_is (last_block 0 (λ f. 0) d) at)

-- code has at least as many words as its expression is high
pub height_below : (e : Expr) (at : ℕ) → at + height e ≤ end_of_expr e at
height_below (num n) at = omega arith
height_below (loc i) at = omega arith
height_below (glob i) at = omega arith
height_below (cell e) at = let h = height_below e at in omega arith
height_below (add a b) at = let h = height_below a at in let k = height_below b (past push (end_of_expr a at)) in omega arith
height_below (sub a b) at = let h = height_below a at in let k = height_below b (past push (end_of_expr a at)) in omega arith
height_below (nand a b) at = let h = height_below a at in let k = height_below b (past push (end_of_expr a at)) in omega arith
height_below (less a b) at = let h = height_below a at in let k = height_below b (past push (end_of_expr a at)) in omega arith
height_below (half a) at = let h = height_below a at in omega arith
height_below (call f a) at = let h = height_below a at in omega arith

-- Work with one part.
pub record OneWork (nodes : List Node) (i j at : ℕ) : Type 0 where
  pub inside : i < length nodes
  pub later : i < j
  pub works : Works nodes j at
  pub room : (x : ℕ) → EndsWork nodes j at x → past_last (node_at nodes i) x ≤ code_limit

pub one_work : {nodes : List Node} {i j at : ℕ} → Works nodes i at → P.One j ≡ parts_of (node_at nodes i) → OneWork nodes i j at
one_work {nodes} {i} {j} {at} w e =
    let d : Node = node_at nodes i in
    let q : PartsAt nodes i (P.One j) w.exprs = subst (λ (x : Parts). PartsAt nodes i x w.exprs) (sym e) w.parts_at in
    let a : Expr = q.0 in
    let fit : AllFit (a ∷ []) = subst (λ (es : List Expr). AllFit es) q.1 w.parts_fit in
    let room : work_end d (a ∷ []) at ≤ code_limit = subst (λ (es : List Expr). work_end d es at ≤ code_limit) q.1 w.room in
    let more = past_last_more d (end_of_expr a at) in
    record {
      inside = w.inside;
      later = q.2;
      works = expr_works nodes j a at q.3 fit.0 (omega arith);
      room = λ x h. subst (λ (p : ℕ). past_last d p ≤ code_limit) (sym (expr_ended nodes j a at x q.3 h)) room;
    }

-- Work with two parts: the second begins at z, behind the first one's code, which ends at x, and a push.
pub record TwoWork (nodes : List Node) (i j k at : ℕ) : Type 0 where
  pub inside : i < length nodes
  pub first_later : i < j
  pub second_later : i < k
  pub first_works : Works nodes j at
  pub middle : (x : ℕ) → EndsWork nodes j at x → x + push_words ≤ code_limit
  pub second_works : (x z : ℕ) → EndsWork nodes j at x → z ≡ x + push_words → Works nodes k z
  pub room : (x z y : ℕ) → EndsWork nodes j at x → z ≡ x + push_words → EndsWork nodes k z y → past_last (node_at nodes i) y ≤ code_limit

pub two_work : {nodes : List Node} {i j k at : ℕ} → Works nodes i at → P.Two j k ≡ parts_of (node_at nodes i) → TwoWork nodes i j k at
two_work {nodes} {i} {j} {k} {at} w e =
    let d : Node = node_at nodes i in
    let q : PartsAt nodes i (P.Two j k) w.exprs = subst (λ (x : Parts). PartsAt nodes i x w.exprs) (sym e) w.parts_at in
    let a : Expr = q.0 in
    let b : Expr = q.1 in
    let fit : AllFit (a ∷ b ∷ []) = subst (λ (es : List Expr). AllFit es) q.2 w.parts_fit in
    let room : work_end d (a ∷ b ∷ []) at ≤ code_limit = subst (λ (es : List Expr). work_end d es at ≤ code_limit) q.2 w.room in
    let middle : ℕ = past push (end_of_expr a at) in
    let more = past_last_more d (end_of_expr b middle) in
    let sized = (size_expr b middle).1 in
    let second : (x z : ℕ) → EndsWork nodes j at x → z ≡ x + push_words → middle ≡ z = λ x z h s. let end = expr_ended nodes j a at x q.5 h in omega arith in
    record {
      inside = w.inside;
      first_later = q.3;
      second_later = q.4;
      first_works = expr_works nodes j a at q.5 fit.0 (omega arith);
      middle = λ x h. let end = expr_ended nodes j a at x q.5 h in omega arith;
      second_works = λ x z h s. subst (λ (p : ℕ). Works nodes k p) (second x z h s) (expr_works nodes k b middle q.6 fit.1.0 (omega arith));
      room = λ x z y h s h'. subst (λ (p : ℕ). past_last d p ≤ code_limit) (ap (end_of_expr b) (second x z h s) ∙ sym (expr_ended nodes k b z y q.6 h')) room;
    }
