-- The nodes written so far and those of the words to come are always those of the text. First a list that gets one node
-- more, or a number into its last node; then a word of each kind, a number by its use, and any step of the reader.
use Rattle.std.proofs.Common.{◌≡◌, ℕ, ◌+◌, ◌-◌, ◌%◌, ◌<◌, ◌≤◌, Bool, true, false, cond, List, [], ◌∷◌, ◌++◌, length, take, set, Some, None, Option, sym, refl, ap, ◌∙◌, subst, append_assoc, arith, ltb→lt}
use Rattle.std.proofs.lemmas.List.{take_more_set, take-set, get_or-set_same, get_or-set_other}
use Rattle.words.proofs.Tests.{not_nothing}
use Rattle.language.specs.Nodes.{node_at, most_nodes}
use Rattle.language.specs.declared.nodes.Node.{Node}
use Rattle.language.specs.declared.nodes.Node.TheVariants as N
use Rattle.text.specs.declared.kinds.Kind.{Kind}
use Rattle.text.specs.declared.kinds.Kind.TheVariants as K
use Rattle.text.specs.declared.reader.Use.{Use}
use Rattle.text.specs.declared.reader.Use.TheVariants.{Globals, Cells, Procs, Locals, Value, Local, Global, Callee}
use Rattle.text.specs.declared.reader.Need.{Need}
use Rattle.text.specs.declared.reader.Need.TheVariants.{Start, Number, Owed}
use Rattle.text.specs.declared.reader.Reader.{Reader}
use Rattle.text.specs.Text.{decimal}
use Rattle.text.specs.Kinds.{kind}
use Rattle.text.specs.Numbers.{number_of}
use Rattle.text.specs.Shapes.{shape}
use Rattle.text.specs.Reading.{moved, with_need, taken, step}
use Rattle.text.specs.Bare.{bare, numbered, has_node, noted_number, noted_kind, noted_at, noted, Placed}
use Rattle.text.specs.Filling.{in_front, before_nodes, bare_nodes, WrittenPlain, WrittenWaiting, WrittenNumber, WrittenAt, WrittenSoFar, SameFrom}
use Rattle.text.proofs.Decimals.{value_decimal, number_of_sound}
use Rattle.text.proofs.Spellings.{kind_decimal}
use Rattle.text.proofs.Steps.{Stepped, starts, takes, enters, stepped, owes, Grown, grown}

abbrev Word : Type 0
Word = List ℕ

-- one node more; and one that waits for its number
plain_more : (c : ℕ) (nodes : List Node) (d : Node) (others all : List Node) → c < length nodes → take c nodes ++ (d ∷ others) ≡ all → take (c + 1) (set nodes c d) ++ others ≡ all
plain_more c nodes d others all h e = ap (λ y. y ++ others) (take_more_set nodes c d h) ∙ append_assoc (take c nodes) (d ∷ []) others ∙ e

waiting_more : (c : ℕ) (nodes : List Node) (d : Node) (ws : List Word) (all : List Node) → c < length nodes → take c nodes ++ (numbered d (bare_nodes ws).0 ∷ (bare_nodes ws).1) ≡ all → WrittenWaiting (c + 1) (set nodes c d) ws all
waiting_more c nodes d ws all h e =
    let p = (bare_nodes ws).0 in let others = (bare_nodes ws).1 in
    (c, refl, ap (λ z. z ++ (numbered (node_at (set nodes c d) c) p ∷ others)) (take-set nodes c d) ∙ ap (λ z. take c nodes ++ (numbered z p ∷ others)) (get_or-set_same nodes c d (N.Num 0) h) ∙ e)

-- a word of a kind
kind_more : (k : Kind) (c : ℕ) (nodes : List Node) (ws : List Word) (all : List Node) → c < length nodes → take c nodes ++ in_front (shape k).role (numbered (bare k) (bare_nodes ws).0) (bare_nodes ws).1 ≡ all → (k ≡ K.Program → ⊥) → WrittenAt (shape k).next (c + 1) (set nodes c (bare k)) ws all
kind_more K.Num c nodes ws all h e f = waiting_more c nodes (N.Num 0) ws all h e
kind_more K.Loc c nodes ws all h e f = waiting_more c nodes (N.Loc 0) ws all h e
kind_more K.Glob c nodes ws all h e f = waiting_more c nodes (N.Glob 0) ws all h e
kind_more K.Cell c nodes ws all h e f = plain_more c nodes (N.Cell 0) (bare_nodes ws).1 all h e
kind_more K.Add c nodes ws all h e f = plain_more c nodes (N.Add 0 0) (bare_nodes ws).1 all h e
kind_more K.Sub c nodes ws all h e f = plain_more c nodes (N.Sub 0 0) (bare_nodes ws).1 all h e
kind_more K.Nand c nodes ws all h e f = plain_more c nodes (N.Nand 0 0) (bare_nodes ws).1 all h e
kind_more K.Less c nodes ws all h e f = plain_more c nodes (N.Less 0 0) (bare_nodes ws).1 all h e
kind_more K.Half c nodes ws all h e f = plain_more c nodes (N.Half 0) (bare_nodes ws).1 all h e
kind_more K.Call c nodes ws all h e f = waiting_more c nodes (N.Call 0 0) ws all h e
kind_more K.Skip c nodes ws all h e f = plain_more c nodes N.Skip (bare_nodes ws).1 all h e
kind_more K.Then c nodes ws all h e f = plain_more c nodes (N.Then 0 0) (bare_nodes ws).1 all h e
kind_more K.SetLoc c nodes ws all h e f = waiting_more c nodes (N.SetLoc 0 0) ws all h e
kind_more K.SetGlob c nodes ws all h e f = waiting_more c nodes (N.SetGlob 0 0) ws all h e
kind_more K.SetCell c nodes ws all h e f = plain_more c nodes (N.SetCell 0 0) (bare_nodes ws).1 all h e
kind_more K.If c nodes ws all h e f = plain_more c nodes (N.If 0 0 0) (bare_nodes ws).1 all h e
kind_more K.While c nodes ws all h e f = plain_more c nodes (N.While 0 0) (bare_nodes ws).1 all h e
kind_more K.Out c nodes ws all h e f = plain_more c nodes (N.Out 0) (bare_nodes ws).1 all h e
kind_more K.Take c nodes ws all h e f = waiting_more c nodes (N.Take 0) ws all h e
kind_more K.Program c nodes ws all h e f = absurd (f refl)
kind_more K.Proc c nodes ws all h e f = waiting_more c nodes (N.Proc 0 0 0) ws all h e

-- a number
pub bare_nodes_number : (w : Word) (n : ℕ) (ws : List Word) → number_of w ≡ Some n → bare_nodes (w ∷ ws) ≡ (n % 65536, (bare_nodes ws).1)
bare_nodes_number w n ws e =
    let s = number_of_sound w n e in
    ap (λ x. bare_nodes (x ∷ ws)) s.0 ∙ ap (λ o. before_nodes o (decimal n) (bare_nodes ws)) (kind_decimal n) ∙ ap (λ (m : ℕ). (m % 65536, (bare_nodes ws).1)) (value_decimal n (ltb→lt n 100000 s.1))

number_plain : (w : Word) (n c : ℕ) (nodes : List Node) (ws : List Word) (all : List Node) → number_of w ≡ Some n → WrittenPlain c nodes (w ∷ ws) all → WrittenPlain c nodes ws all
number_plain w n c nodes ws all e f = ap (λ (x : ℕ × List Node). take c nodes ++ x.1) (sym (bare_nodes_number w n ws e)) ∙ f

number_waiting : (w : Word) (n c : ℕ) (nodes : List Node) (ws : List Word) (all : List Node) → number_of w ≡ Some n → c ≤ length nodes → WrittenWaiting c nodes (w ∷ ws) all → WrittenPlain c (noted_number (Some n) c nodes) ws all
number_waiting w n c nodes ws all e h f =
    let d = f.0 in let x = numbered (node_at nodes d) (n % 65536) in
    let g : take d nodes ++ (x ∷ (bare_nodes ws).1) ≡ all = ap (λ (y : ℕ × List Node). take d nodes ++ (numbered (node_at nodes d) y.0 ∷ y.1)) (sym (bare_nodes_number w n ws e)) ∙ f.2 in
    let p : c - 1 ≡ d = omega (arith, f.1) in
    subst (λ (i : ℕ). take i (set nodes (c - 1) (numbered (node_at nodes (c - 1)) (n % 65536))) ++ (bare_nodes ws).1 ≡ all) (sym f.1)
    (subst (λ (i : ℕ). take (d + 1) (set nodes i (numbered (node_at nodes i) (n % 65536))) ++ (bare_nodes ws).1 ≡ all) (sym p) (plain_more d nodes x (bare_nodes ws).1 all (omega (arith, f.1)) g))

number_more : (u : Use) (w : Word) (n : ℕ) (a : Reader) (nodes : List Node) (ws : List Word) (all : List Node) → number_of w ≡ Some n → a.signs ≤ length nodes → WrittenNumber (has_node u) a.signs nodes (w ∷ ws) all → WrittenSoFar (taken u n a) (cond (has_node u) (noted_number (Some n) a.signs nodes) nodes) ws all
number_more Globals w n a nodes ws all q h f = number_plain w n a.signs nodes ws all q f
number_more Cells w n a nodes ws all q h f = number_plain w n a.signs nodes ws all q f
number_more Procs w n a nodes ws all q h f = number_plain w n a.signs nodes ws all q f
number_more Locals w n a nodes ws all q h f = number_waiting w n a.signs nodes ws all q h f
number_more Value w n a nodes ws all q h f = number_waiting w n a.signs nodes ws all q h f
number_more Local w n a nodes ws all q h f = number_waiting w n a.signs nodes ws all q h f
number_more Global w n a nodes ws all q h f = number_waiting w n a.signs nodes ws all q h f
number_more Callee w n a nodes ws all q h f = number_waiting w n a.signs nodes ws all q h f

-- the word 'program' begins nothing that is owed
not_program : (k : Kind) (a : Reader) (t : ℕ × ℕ × ℕ) → owes k a ≡ Some t → k ≡ K.Program → ⊥
not_program k a t e q = not_nothing t (sym (subst (λ (j : Kind). owes j a ≡ Some t) q e))

-- any step of the reader
step_more : (w : Word) (a b : Reader) (nodes : List Node) (ws : List Word) (all : List Node) → Stepped w a b → (a.need ≡ Owed → a.signs < length nodes) → a.signs ≤ length nodes → WrittenSoFar a nodes (w ∷ ws) all → WrittenSoFar b (noted a w nodes) ws all
step_more w a b nodes ws all (starts q e r) h h2 f =
    let P : Need → Type 0 = λ n. WrittenAt n a.signs nodes (w ∷ ws) all → WrittenSoFar (with_need (Number Globals) a) (noted_at n a.signs w nodes) ws all in
    let p : P Start = λ g. ap (λ o. take a.signs nodes ++ (before_nodes o w (bare_nodes ws)).1) (sym e) ∙ g in
    subst (λ (x : Reader). WrittenSoFar x (noted a w nodes) ws all) (sym r) (subst P (sym q) p f)
step_more w a b nodes ws all (takes u n q e r) h h2 f =
    let P : Need → Type 0 = λ m. WrittenAt m a.signs nodes (w ∷ ws) all → WrittenSoFar (taken u n a) (noted_at m a.signs w nodes) ws all in
    let p : P (Number u) = λ g. subst (λ (o : Option ℕ). WrittenSoFar (taken u n a) (cond (has_node u) (noted_number o a.signs nodes) nodes) ws all) (sym e) (number_more u w n a nodes ws all e h2 g) in
    subst (λ (x : Reader). WrittenSoFar x (noted a w nodes) ws all) (sym r) (subst P (sym q) p f)
step_more w a b nodes ws all (enters k t q e o r) h h2 f =
    let P : Need → Type 0 = λ m. WrittenAt m a.signs nodes (w ∷ ws) all → WrittenSoFar (moved (shape k).next a t) (noted_at m a.signs w nodes) ws all in
    let p : P Owed = λ g.
    (let g2 : take a.signs nodes ++ in_front (shape k).role (numbered (bare k) (bare_nodes ws).0) (bare_nodes ws).1 ≡ all = ap (λ j. take a.signs nodes ++ (before_nodes j w (bare_nodes ws)).1) (sym e) ∙ g in
    subst (λ (j : Option Kind). WrittenSoFar (moved (shape k).next a t) (noted_kind j a.signs nodes) ws all) (sym e) (kind_more k a.signs nodes ws all (h q) g2 (not_program k a t o))) in
    subst (λ (x : Reader). WrittenSoFar x (noted a w nodes) ws all) (sym r) (subst P (sym q) p f)

-- where a step writes, there is a place
pub placed : (w : Word) (a b : Reader) (nodes : List Node) (ws : List Word) (all : List Node) → Some b ≡ step w a → b.signs ≤ most_nodes → WrittenSoFar a nodes ws all → Placed a
placed w a b nodes ws all e h f =
    let k : Grown a b = grown w a b e in
    record {
      within = omega (arith, k.signs_up);
      owed = λ q. omega (arith, k.sign q);
      some = λ u q p. (let g : WrittenNumber (has_node u) a.signs nodes ws all = subst (λ (n : Need). WrittenAt n a.signs nodes ws all) q f in
          let g2 : WrittenWaiting a.signs nodes ws all = subst (λ (t : Bool). WrittenNumber t a.signs nodes ws all) p g in omega (arith, g2.1));
    }

-- one word on, where the nodes are written
pub filled_more : (left left' : List Word) (w : Word) (a b : Reader) (nodes nodes' all : List Node) → nodes' ≡ noted a w nodes → left ≡ w ∷ left' → Some b ≡ step w a → b.fits ≡ true → b.signs ≤ most_nodes → length nodes ≡ most_nodes → (a.fits ≡ true → a.signs ≤ most_nodes → WrittenSoFar a nodes left all) → WrittenSoFar b nodes' left' all
filled_more left left' w a b nodes nodes' all q cut e h h2 l f =
    let k : Grown a b = grown w a b e in
    let g : WrittenSoFar a nodes left all = f (k.fits h) (omega (arith, k.signs_up)) in
    subst (λ (ns : List Node). WrittenSoFar b ns left' all) (sym q)
    (step_more w a b nodes left' all (stepped w a b e) (λ o. omega (arith, k.sign o, l)) (omega (arith, k.signs_up, l)) (subst (λ (x : List Word). WrittenSoFar a nodes x all) cut g))

-- A step writes nothing at or past the number of signs read after it.
same_cond : (t : Bool) (c : ℕ) (before xs ys : List Node) → (t ≡ true → SameFrom c before xs) → SameFrom c before ys → SameFrom c before (cond t xs ys)
same_cond true c before xs ys f g = f refl
same_cond false c before xs ys f g = g

same_number : (o : Option ℕ) (c : ℕ) (before nodes : List Node) → 0 < c → SameFrom c before nodes → SameFrom c before (noted_number o c nodes)
same_number None c before nodes h f = f
same_number (Some n) c before nodes h f = λ j b. get_or-set_other nodes (c - 1) j _ (N.Num 0) (λ e. omega (arith, e)) ∙ f j b

same_kind : (o : Option Kind) (c : ℕ) (before nodes : List Node) → SameFrom c before nodes → SameFrom (c + 1) before (noted_kind o c nodes)
same_kind None c before nodes f = λ j b. f j (omega arith)
same_kind (Some k) c before nodes f = λ j b. get_or-set_other nodes c j _ (N.Num 0) (λ e. omega (arith, e)) ∙ f j (omega arith)

same_noted : (n : Need) (a b : Reader) (w : Word) (before nodes : List Node) → a.need ≡ n → Placed a → Grown a b → SameFrom a.signs before nodes → SameFrom b.signs before (noted_at n a.signs w nodes)
same_noted Start a b w before nodes q p g f = λ j h. f j (omega (arith, g.signs_up))
same_noted (Number u) a b w before nodes q p g f = λ j h. same_cond (has_node u) a.signs before (noted_number (number_of w) a.signs nodes) nodes (λ t. same_number (number_of w) a.signs before nodes (p.some u q t) f) f j (omega (arith, g.signs_up))
same_noted Owed a b w before nodes q p g f = λ j h. same_kind (kind w) a.signs before nodes f j (omega (arith, g.sign q))

pub same_more : (w : Word) (a b : Reader) (before nodes nodes' : List Node) → nodes' ≡ noted a w nodes → Some b ≡ step w a → Placed a → SameFrom a.signs before nodes → SameFrom b.signs before nodes'
same_more w a b before nodes nodes' q e p f = subst (SameFrom b.signs before) (sym q) (same_noted a.need a b w before nodes refl p (grown w a b e) f)

pub same_on : (w : Word) (a b : Reader) (before nodes : List Node) → Some b ≡ step w a → SameFrom a.signs before nodes → SameFrom b.signs before nodes
same_on w a b before nodes e f = λ j h. f j (omega (arith, (grown w a b e).signs_up))
