use Rattle.std.proofs.Common.{◌≡◌, ℕ, ◌+◌, ◌-◌, refl, ◌∙◌, subst, arith}
use Rattle.text.proofs.Linking.{Half, half_more, half_none, ends_fill}
use Rattle.text.proofs.links.link.Goals as goal

pub loop-i-init : goal.loop-i-init
loop-i-init c = half_none c.args.nodes.now _ c.args.n (ends_fill 2001 refl)

pub loop-i-preserved : goal.loop-i-preserved
loop-i-preserved c =
    let i1 : c.loop-i.i ≡ c.loop-i.i - 1 + 1 = omega arith in
    half_more c.args.nodes.now c.loop-i.nodes c.loop-i.ends (c.loop-i.i - 1) c.args.n _ _ (omega arith) c.requires (c.loop-i.invariant.size ∙ c.told-nodes)
    c.linked-node.ensures.0 c.linked-node.ensures.1
    (subst (λ (i : ℕ). Half c.args.nodes.now c.loop-i.nodes c.loop-i.ends i c.args.n) i1 c.loop-i.invariant)
