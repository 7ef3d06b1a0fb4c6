-- From the words of a text to the trees of its program: within the limits the bare nodes of the words are those of the
-- program's procedures, and once linked they are its trees.
use Rattle.std.proofs.Common.{◌≡◌, ℕ, ◌≤◌, true, false, ◌&&◌, T, leb, List, [], ◌∷◌, ◌++◌, length, take, drop, Some, Option, Ok, sym, refl, ap, ◌∙◌, subst, append-nil, arith}
use Rattle.std.proofs.lemmas.List.{take-append-drop}
use Rattle.std.proofs.lemmas.Bool.{and_parts, leb-true, both_ways}
use Rattle.words.proofs.Slots.{Slot}
use Rattle.words.proofs.Tests.{TLeft, TRight, T_true}
use Rattle.language.specs.Language.{Program}
use Rattle.language.specs.Nodes.{most_nodes}
use Rattle.language.specs.declared.nodes.Node.{Node}
use Rattle.text.specs.declared.reader.Need.{Need}
use Rattle.text.specs.declared.reader.Need.TheVariants.{Start, Number, Owed}
use Rattle.text.specs.declared.reader.Reader.{Reader}
use Rattle.text.specs.Text.{words, decimal, write_procs, writable, writable_procs, fits_procs, signs, Reads, fits, most_globals, most_cells, most_procs, most_signs}
use Rattle.text.specs.Verdicts.{Judged}
use Rattle.text.specs.Kinds.{kind}
use Rattle.text.specs.Reading.{run, fresh, done}
use Rattle.text.specs.Filling.{bare_nodes, WrittenAt, WrittenSoFar, Filled, SameFrom}
use Rattle.text.specs.Links.{Linked}
use Rattle.text.specs.Table.{ProcsAt}
use Rattle.text.proofs.Decimals.{number_of_decimal}
use Rattle.text.proofs.Written.{Knows}
use Rattle.text.proofs.Judging.{is_done, read_done}
use Rattle.text.proofs.Fillings.{bare_nodes_number}
use Rattle.text.proofs.Rows.{row_procs, rows_procs}
use Rattle.text.proofs.Trees.{tree_procs}

-- where nothing is owed, the nodes written are all
written_all : (n : Need) (k m p c : ℕ) (nodes all : List Node) → done n k m p ≡ true → WrittenAt n c nodes [] all → take c nodes ≡ all
written_all Start k m p c nodes all d f = absurd (both_ways false refl d)
written_all (Number u) k m p c nodes all d f = absurd (both_ways false refl d)
written_all Owed k m p c nodes all d f = sym (append-nil (take c nodes)) ∙ f

number_no_node : (i : ℕ) (ws : List (List ℕ)) → T (writable i) → (bare_nodes (decimal i ∷ ws)).1 ≡ (bare_nodes ws).1
number_no_node i ws h = ap (λ (x : ℕ × List Node). x.1) (bare_nodes_number (decimal i) i ws (number_of_decimal i h))

-- what it means for a program to be within the limits
record Within (g : Program) : Type 0 where
  globals : g.globals ≤ most_globals
  procs : length g.procs ≤ most_procs
  numbers : fits_procs g.globals (length g.procs) g.procs ≡ true

within : (g : Program) → fits g ≡ true → Within g
within g f =
    let G = g.globals in let C = g.cells in let N = length g.procs in
    let numbers = fits_procs G N g.procs in let few = leb (signs g.procs) most_signs in let count = leb 1 N && leb N most_procs in
    let f1 = and_parts (leb G most_globals) (leb C most_cells && (count && (few && numbers))) f in
    let f2 = and_parts (leb C most_cells) (count && (few && numbers)) f1.1 in
    let f3 = and_parts count (few && numbers) f2.1 in
    let f4 = and_parts (leb 1 N) (leb N most_procs) f3.0 in
    record { globals = leb-true G most_globals f1.0; procs = leb-true N most_procs f4.1; numbers = (and_parts few numbers f3.1).1 }

-- the bare nodes of a program within the limits
program_row : (s : List ℕ) (g : Program) → Reads s g → fits g ≡ true → (bare_nodes (words s)).1 ≡ row_procs g.procs
unfolding kind
program_row s g r f =
    let G = g.globals in let C = g.cells in let N = length g.procs in
    let w0 = writable G in let w1 = writable C in let w2 = writable N in let w3 = writable_procs g.procs in
    let h1 : T (w1 && (w2 && w3)) = TRight w0 (w1 && (w2 && w3)) r.small in
    let h2 : T (w2 && w3) = TRight w1 (w2 && w3) h1 in
    let l = within g f in
    ap (λ ws. (bare_nodes ws).1) r.text
    ∙ number_no_node G (decimal C ∷ decimal N ∷ write_procs g.procs) (TLeft w0 (w1 && (w2 && w3)) r.small)
    ∙ number_no_node C (decimal N ∷ write_procs g.procs) (TLeft w1 (w2 && w3) h1)
    ∙ number_no_node N (write_procs g.procs) (TLeft w2 w3 h2)
    ∙ rows_procs G N (omega (arith, l.globals)) (omega (arith, l.procs)) g.procs (TRight w2 w3 h2) l.numbers

-- what a reader has read that has read a program within the limits to its end
pub record Complete (s : List ℕ) (a : Reader) : Type 0 where
  pub program : Program
  pub reads : Reads s program
  pub within : T (fits program)
  pub knows : Knows a program
  pub done : is_done a ≡ true
  pub kept : a.fits ≡ true
  pub few : a.signs ≤ most_signs

pub complete : (s : List ℕ) (a : Reader) (o : Option Reader) → o ≡ Some a → o ≡ run (words s) fresh → ((t : List ℕ) → Some a ≡ run (words t) fresh → Judged t (Ok tt)) → Complete s a
complete s a o is read judged =
    let e = sym is ∙ read in let j = judged s e in
    let ok : fits j.0 ≡ true = T_true (fits j.0) j.2 in
    let d = read_done s j.0 j.1 in
    let same : d.0 ≡ a = cc (e ∙ d.1) in
    let knows : Knows a j.0 = subst (λ (x : Reader). Knows x j.0) same d.3 in
    let kept = and_parts a.fits (leb a.signs most_signs) (knows.fits ∙ ok) in
    record { program = j.0; reads = j.1; within = j.2; knows = knows; done = subst (λ (x : Reader). is_done x ≡ true) same d.2; kept = kept.0; few = leb-true a.signs most_signs kept.1 }

-- its procedures, as the table is made from them
pub count_few : (s : List ℕ) (a : Reader) → Complete s a → a.count ≤ most_procs
count_few s a c = omega (arith, c.knows.count, (within c.program (T_true (fits c.program) c.within)).procs)

pub procs_stand : (s : List ℕ) (a : Reader) (o : Option Reader) (before bare nodes : List Node) (c : Complete s a) → o ≡ Some a → length bare ≡ most_nodes → Filled (words s) before bare o → (ends : List ℕ) × Linked bare nodes ends a.signs → ProcsAt nodes 0 c.program.procs
procs_stand s a o before bare nodes c is len filled l =
    let ends = l.0 in let linked = l.1 in
    let ps = c.program.procs in let size = c.knows.signs in
    let written : WrittenSoFar a bare [] (bare_nodes (words s)).1 = (subst (Filled (words s) before bare) is filled).0 c.kept c.few in
    let row : take a.signs bare ≡ row_procs ps = written_all a.need a.exprs a.stmts a.procs a.signs bare (bare_nodes (words s)).1 c.done written ∙ program_row s c.program c.reads (T_true (fits c.program) c.within) in
    let slot : Slot bare 0 (row_procs ps) = record { front = []; back = drop a.signs bare; at = refl; is = sym (take-append-drop a.signs bare) ∙ ap (λ x. x ++ drop a.signs bare) row } in
    tree_procs bare nodes ends a.signs linked (omega (arith, linked.size)) ps 0 most_nodes slot (omega arith) (omega arith)

-- the nodes past them are as they were
pub nodes_past : (s : List ℕ) (a : Reader) (o : Option Reader) (before bare nodes : List Node) → o ≡ Some a → Filled (words s) before bare o → (ends : List ℕ) × Linked bare nodes ends a.signs → SameFrom a.signs before nodes
nodes_past s a o before bare nodes is filled l = λ j h. l.1.others j h ∙ (subst (Filled (words s) before bare) is filled).1 j h
