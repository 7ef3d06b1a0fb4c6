-- The code of work, from that of its parts and of its last block.
use Rattle.std.proofs.Common.{◌≡◌, ℕ, List, [], ◌∷◌, ◌++◌, sym, refl, ap, ◌∙◌, subst}
use Rattle.words.specs.Words.{word}
use Rattle.language.specs.Language.{Expr, Program}
use Rattle.language.specs.Nodes.{node_at}
use Rattle.language.specs.declared.nodes.Node.{Node}
use Rattle.language.specs.declared.nodes.Node.TheVariants as N
use Rattle.codegen.specs.Codegen.{push, go_to, end_of_expr, entry, load_cell, store_cell}
use Rattle.codegen.specs.Instructions.{Instruction, past}
use Rattle.compiler.specs.declared.parts.Parts.{Parts}
use Rattle.compiler.specs.declared.parts.Parts.TheVariants as P
use Rattle.compiler.specs.Writing.{put_all, Emits, Writes}
use Rattle.compiler.specs.Work.{parts_of, last_block, past_last, NodeFits, PartsAt, work_code, work_end, Target, EndsWork, EmitsWork}
use Rattle.compiler.proofs.Writings.{emits_both}
use Rattle.compiler.proofs.Works.{expr_ended, expr_emitted}

-- The last block is the program's, and ends where it should.
block_is : (g : Program) (cells : ℕ) (places : List ℕ) (d : Node) → Target g cells places → NodeFits d → last_block cells (λ f. word places f) d ≡ last_block g.cells (entry g) d
block_is g cells places (N.Num n) t h = refl
block_is g cells places (N.Loc i) t h = refl
block_is g cells places (N.Glob i) t h = refl
block_is g cells places (N.Cell j) t h = ap load_cell t.cells_is
block_is g cells places (N.Add j k) t h = refl
block_is g cells places (N.Sub j k) t h = refl
block_is g cells places (N.Nand j k) t h = refl
block_is g cells places (N.Less j k) t h = refl
block_is g cells places (N.Half j) t h = refl
block_is g cells places (N.Call f j) t h = ap go_to (t.places_are f h)
block_is g cells places N.Skip t h = refl
block_is g cells places (N.Then j k) t h = refl
block_is g cells places (N.SetLoc i j) t h = refl
block_is g cells places (N.SetGlob i j) t h = refl
block_is g cells places (N.SetCell j k) t h = ap store_cell t.cells_is
block_is g cells places (N.If j k l) t h = refl
block_is g cells places (N.While j k) t h = refl
block_is g cells places (N.Out j) t h = refl
block_is g cells places (N.Take i) t h = refl
block_is g cells places (N.Proc n j k) t h = refl

pub block_ends : (cells : ℕ) (place : ℕ → ℕ) (d : Node) (at : ℕ) → past (last_block cells place d) at ≡ past_last d at
block_ends cells place (N.Num n) at = refl
block_ends cells place (N.Loc i) at = refl
block_ends cells place (N.Glob i) at = refl
block_ends cells place (N.Cell j) at = refl
block_ends cells place (N.Add j k) at = refl
block_ends cells place (N.Sub j k) at = refl
block_ends cells place (N.Nand j k) at = refl
block_ends cells place (N.Less j k) at = refl
block_ends cells place (N.Half j) at = refl
block_ends cells place (N.Call f j) at = refl
block_ends cells place N.Skip at = refl
block_ends cells place (N.Then j k) at = refl
block_ends cells place (N.SetLoc i j) at = refl
block_ends cells place (N.SetGlob i j) at = refl
block_ends cells place (N.SetCell j k) at = refl
block_ends cells place (N.If j k l) at = refl
block_ends cells place (N.While j k) at = refl
block_ends cells place (N.Out j) at = refl
block_ends cells place (N.Take i) at = refl
block_ends cells place (N.Proc n j k) at = refl

finish_emits : (g : Program) (cells : ℕ) (places : List ℕ) (d : Node) (at : ℕ) (m : List ℕ) (r : ℕ) (m' : List ℕ) → Target g cells places → NodeFits d → Writes (last_block cells (λ f. word places f) d) at m r m' →
    Emits (λ rest. last_block g.cells (entry g) d ++ rest) (past_last d at) at m r m'
finish_emits g cells places d at m r m' t h w = record {
  ends = w.ends ∙ block_ends cells (λ f. word places f) d at;
  words = λ rest. ap (λ (is : List Instruction). put_all m at (is ++ rest)) (sym (block_is g cells places d t h)) ∙ w.words rest;
}

-- Where the code of work ends, from where that of its parts does.
module _ (nodes : List Node) (i at : ℕ) where
  pub ends_one : (j x r : ℕ) → P.One j ≡ parts_of (node_at nodes i) → EndsWork nodes j at x → r ≡ past_last (node_at nodes i) x → EndsWork nodes i at r
  ends_one j x r e h w es p =
      let q : PartsAt nodes i (P.One j) es = subst (λ (z : Parts). PartsAt nodes i z es) (sym e) p in
      subst (λ (l : List Expr). r ≡ work_end (node_at nodes i) l at) (sym q.1) (w ∙ ap (past_last (node_at nodes i)) (expr_ended nodes j q.0 at x q.3 h))

  pub ends_two : (j k x y z r : ℕ) → P.Two j k ≡ parts_of (node_at nodes i) → EndsWork nodes j at x → y ≡ past push x → EndsWork nodes k y z → r ≡ past_last (node_at nodes i) z → EndsWork nodes i at r
  ends_two j k x y z r e h middle h' w es p =
      let q : PartsAt nodes i (P.Two j k) es = subst (λ (s : Parts). PartsAt nodes i s es) (sym e) p in
      let first = expr_ended nodes j q.0 at x q.5 h in
      let second = expr_ended nodes k q.1 y z q.6 h' in
      subst (λ (l : List Expr). r ≡ work_end (node_at nodes i) l at) (sym q.2) (w ∙ ap (past_last (node_at nodes i)) (second ∙ ap (end_of_expr q.1) (middle ∙ ap (past push) first)))

-- The code itself.
module _ (nodes : List Node) (i cells : ℕ) (places : List ℕ) (at : ℕ) (m : List ℕ) where
  -- Work with one part.
  pub emits_one : (j x r : ℕ) (m₁ m' : List ℕ) → P.One j ≡ parts_of (node_at nodes i) → NodeFits (node_at nodes i) → EndsWork nodes j at x → EmitsWork nodes j cells places at m x m₁ →
      Writes (last_block cells (λ f. word places f) (node_at nodes i)) x m₁ r m' → EmitsWork nodes i cells places at m r m'
  emits_one j x r m₁ m' e h ends first w g t es p =
      let d : Node = node_at nodes i in
      let q : PartsAt nodes i (P.One j) es = subst (λ (z : Parts). PartsAt nodes i z es) (sym e) p in
      let a = expr_emitted nodes j cells places q.0 at m x m₁ q.3 first g t in
      let both = emits_both a (finish_emits g cells places d x m₁ r m' t h w) in
      subst (λ (l : List Expr). Emits (work_code g d l) (work_end d l at) at m r m') (sym q.1)
      (record { ends = both.ends ∙ ap (past_last d) (expr_ended nodes j q.0 at x q.3 ends); words = both.words })

  -- Work with two parts.
  pub emits_two : (j k x y z r : ℕ) (m₁ m₂ m₃ m' : List ℕ) → P.Two j k ≡ parts_of (node_at nodes i) → NodeFits (node_at nodes i) → EndsWork nodes i at r → EmitsWork nodes j cells places at m x m₁ →
      Writes push x m₁ y m₂ → EmitsWork nodes k cells places y m₂ z m₃ → Writes (last_block cells (λ f. word places f) (node_at nodes i)) z m₃ r m' → EmitsWork nodes i cells places at m r m'
  emits_two j k x y z r m₁ m₂ m₃ m' e h ends first middle second w g t es p =
      let d : Node = node_at nodes i in
      let q : PartsAt nodes i (P.Two j k) es = subst (λ (s : Parts). PartsAt nodes i s es) (sym e) p in
      let a = expr_emitted nodes j cells places q.0 at m x m₁ q.5 first g t in
      let b = expr_emitted nodes k cells places q.1 y m₂ z m₃ q.6 second g t in
      let all = emits_both a (emits_both middle (emits_both b (finish_emits g cells places d z m₃ r m' t h w))) in
      let code : (rest : List Instruction) → put_all m at (work_code g d (q.0 ∷ q.1 ∷ []) rest) ≡ put_all m' r rest = all.words in
      record { ends = ends es p; words = λ rest. ap (λ (l : List Expr). put_all m at (work_code g d l rest)) q.2 ∙ code rest }
