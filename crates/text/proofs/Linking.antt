-- Nodes get the numbers of their parts from the last to the first: what is written at a node depends on later nodes alone,
-- so it stays right when an earlier one gets its numbers. First ends, then ends that are the same from a place on, then
-- the nodes from i on, and one node more.
use Rattle.std.proofs.Common.{◌≡◌, ℕ, zero, suc, ◌+◌, ◌<◌, ◌≤◌, List, length, get_or, set, replicate, sym, refl, ap, ◌∙◌, subst, ⊎_elim, arith}
use Rattle.std.proofs.lemmas.List.{get_or-set_same, get_or-set_other, length-set, length-replicate, get_or-replicate, get_or_past}
use Rattle.std.proofs.lemmas.Bool.{cases_eq, cases_lt}
use Rattle.language.specs.Nodes.{node_at, most_nodes}
use Rattle.language.specs.declared.nodes.Node.{Node}
use Rattle.language.specs.declared.nodes.Node.TheVariants.{Num}
use Rattle.text.specs.Filling.{SameFrom}
use Rattle.text.specs.Links.{end_of, with_parts, linked_node, parts, past, node_end, Ends, LinkedAt}

-- parts end at or past where they begin
end_up : (ends : List ℕ) (k : ℕ) → Ends ends → k ≤ most_nodes → k ≤ end_of ends k
end_up ends k o h = ⊎_elim (λ (e : k ≡ most_nodes). omega (arith, e, o.last, ap (end_of ends) e)) (λ (n : k ≡ most_nodes → ⊥). let l : k < most_nodes = omega arith in omega (arith, o.after k l)) (cases_eq k most_nodes)

past_up : (ends : List ℕ) (p k : ℕ) → Ends ends → k ≤ most_nodes → (k ≤ past p k ends) × (past p k ends ≤ most_nodes)
past_up ends zero k o h = (omega arith, h)
past_up ends (suc p) k o h = let r = past_up ends p (end_of ends k) o (o.within k) in (omega (arith, r.0, end_up ends k o h), r.1)

-- ends that are the same past j say the same of node j
module _ (ends ends' : List ℕ) (j : ℕ) (o : Ends ends) (same : (k : ℕ) → j < k → end_of ends k ≡ end_of ends' k) where
  past_same : (p k : ℕ) → j < k → k ≤ most_nodes → past p k ends ≡ past p k ends'
  past_same zero k h b = refl
  past_same (suc p) k h b = past_same p (end_of ends k) (omega (arith, end_up ends k o b)) (o.within k) ∙ ap (λ x. past p x ends') (same k h)

  linked_same : (d : Node) → j < most_nodes → linked_node d j ends ≡ linked_node d j ends'
  linked_same d b =
      let e1 : end_of ends (j + 1) ≡ end_of ends' (j + 1) = same (j + 1) (omega arith) in
      let u : j + 1 ≤ end_of ends (j + 1) = end_up ends (j + 1) o (omega arith) in
      let e2 : end_of ends (end_of ends (j + 1)) ≡ end_of ends' (end_of ends' (j + 1)) = same (end_of ends (j + 1)) (omega arith) ∙ ap (end_of ends') e1 in
      ap (λ x. with_parts d (j + 1) x (end_of ends (end_of ends (j + 1)))) e1 ∙ ap (λ x. with_parts d (j + 1) (end_of ends' (j + 1)) x) e2

  end_same : (d : Node) → j < most_nodes → node_end d j ends ≡ node_end d j ends'
  end_same d b = past_same (parts d) (j + 1) (omega arith) (omega arith)

  at_same : (bare nodes nodes' : List Node) → j < most_nodes → node_at nodes' j ≡ node_at nodes j → end_of ends' j ≡ end_of ends j → LinkedAt bare nodes ends j → LinkedAt bare nodes' ends' j
  at_same bare nodes nodes' b n e l = (n ∙ l.0 ∙ linked_same (node_at bare j) b, e ∙ l.1 ∙ end_same (node_at bare j) b)

-- the nodes from i to n have their numbers, those before are bare, and those past n are as they were
pub record Half (bare nodes : List Node) (ends : List ℕ) (i n : ℕ) : Type 0 where
  pub ok : Ends ends
  pub size : length nodes ≡ length bare
  pub below : (j : ℕ) → j < i → node_at nodes j ≡ node_at bare j
  pub above : (j : ℕ) → i ≤ j → j < n → LinkedAt bare nodes ends j
  pub others : SameFrom n bare nodes

pub half_none : (bare : List Node) (ends : List ℕ) (n : ℕ) → Ends ends → Half bare bare ends n n
half_none bare ends n o = record { ok = o; size = refl; below = λ j h. refl; above = λ j h k. (let no : ⊥ = omega arith in absurd no); others = λ j h. refl }

ends_set : (ends : List ℕ) (i v : ℕ) → Ends ends → i < most_nodes → i < v → v ≤ most_nodes → Ends (set ends i v)
ends_set ends i v o b lo hi =
    let l : i < length ends = omega (arith, o.size) in
    record {
      size = length-set ends i v ∙ o.size;
      last = get_or-set_other ends i most_nodes v 0 (omega arith) ∙ o.last;
      after = λ k h. ⊎_elim (λ (e : k ≡ i). omega (arith, e, get_or-set_same ends i v 0 l, ap (λ x. get_or (set ends i v) x 0) e)) (λ (q : k ≡ i → ⊥). omega (arith, get_or-set_other ends i k v 0 q, o.after k h)) (cases_eq k i);
      within = λ k. ⊎_elim (λ (e : k ≡ i). omega (arith, e, get_or-set_same ends i v 0 l, ap (λ x. get_or (set ends i v) x 0) e)) (λ (q : k ≡ i → ⊥). omega (arith, get_or-set_other ends i k v 0 q, o.within k)) (cases_eq k i);
    }

-- node i gets its numbers
pub half_more : (bare nodes : List Node) (ends : List ℕ) (i n : ℕ) (d : Node) (v : ℕ) → i < n → n ≤ most_nodes → length nodes ≡ most_nodes → d ≡ linked_node (node_at nodes i) i ends → v ≡ node_end (node_at nodes i) i ends → Half bare nodes ends (i + 1) n → Half bare (set nodes i d) (set ends i v) i n
half_more bare nodes ends i n d v b b2 len qd qv h =
    let r = node_at bare i in
    let er : node_at nodes i ≡ r = h.below i (omega arith) in
    let pu = past_up ends (parts (node_at nodes i)) (i + 1) h.ok (omega arith) in
    let l : i < length ends = omega (arith, h.ok.size) in
    let same : (k : ℕ) → i < k → end_of ends k ≡ end_of (set ends i v) k = λ k p. sym (get_or-set_other ends i k v 0 (omega arith)) in
    record {
      ok = ends_set ends i v h.ok (omega arith) (omega (arith, pu.0, qv)) (omega (arith, pu.1, qv));
      size = length-set nodes i d ∙ h.size;
      below = λ j p. get_or-set_other nodes i j d (Num 0) (omega arith) ∙ h.below j (omega arith);
      above = λ j p q. ⊎_elim
          (λ (e : j ≡ i). subst (λ (x : ℕ). LinkedAt bare (set nodes i d) (set ends i v) x) (sym e) (
            get_or-set_same nodes i d (Num 0) (omega arith) ∙ qd ∙ ap (λ x. linked_node x i ends) er ∙ linked_same ends (set ends i v) i h.ok same r (omega arith),
            get_or-set_same ends i v 0 l ∙ qv ∙ ap (λ x. node_end x i ends) er ∙ end_same ends (set ends i v) i h.ok same r (omega arith),
          ))
          (λ (ne : j ≡ i → ⊥). at_same ends (set ends i v) j h.ok (λ k p2. same k (omega arith)) bare nodes (set nodes i d) (omega arith)
          (get_or-set_other nodes i j d (Num 0) ne) (get_or-set_other ends i j v 0 ne) (h.above j (omega arith) q))
          (cases_eq j i);
      others = λ j p. get_or-set_other nodes i j d (Num 0) (omega arith) ∙ h.others j p;
    }

-- at the start every node ends with the array
pub ends_fill : (m : ℕ) → m ≡ most_nodes + 1 → Ends (replicate m most_nodes)
ends_fill m e = record {
  size = length-replicate {A = ℕ} m most_nodes ∙ e;
  last = get_or-replicate {A = ℕ} m most_nodes most_nodes 0 (omega arith);
  after = λ k h. omega (arith, get_or-replicate {A = ℕ} m k most_nodes 0 (omega arith));
  within = λ k. ⊎_elim (λ (l : k < m). omega (arith, get_or-replicate {A = ℕ} m k most_nodes 0 l)) (λ (l : m ≤ k). omega (arith, get_or_past (replicate m most_nodes) k 0 (subst (λ x. x ≤ k) (sym (length-replicate {A = ℕ} m most_nodes)) l))) (cases_lt k m);
}
