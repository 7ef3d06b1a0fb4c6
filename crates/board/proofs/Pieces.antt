-- The laws of runs: pieces of a run join, first as boards and then in lent slices; a halted board stays; a cycle puts
-- out at most one word.
use Rattle.std.proofs.Common.{◌≡◌, ℕ, zero, suc, ◌+◌, ◌<◌, ◌≤◌, Bool, true, false, cond, List, [], ◌∷◌, ◌++◌, length, take, drop, sym, refl, ap, ◌∙◌, subst, arith}
use Rattle.std.proofs.lemmas.List.{append_assoc, append-nil, length-append, length-take, length-drop, take_all, drop-drop}
use Rattle.words.specs.Words.{bit_at}
use Rattle.words.specs.Runs.{running}
use Rattle.circuit.specs.Circuit.{Circuit, Board, cycle, tick, ticks, unless_halted, pin_levels, datum, emit_pin}
use Rattle.circuit.specs.Sheet.{drawn}
use Rattle.board.specs.Board.{laid, Stands}
use Rattle.board.specs.Laws.{handed_on, shown_after, PiecesJoin, HaltedStays, SpinsJoin, HaltedSpinStays, OneWordACycle, RoomSuffices}
use Rattle.circuit.proofs.Ticking.{ticks_add, halted_stays as stays-halted}
use Rattle.board.proofs.Ticking.{same_board}

-- words that were shown before do not matter to a run
cond_after : (e : Bool) (ws out : List ℕ) (x : ℕ) → cond e ((ws ++ out) ++ (x ∷ [])) (ws ++ out) ≡ ws ++ cond e (out ++ (x ∷ [])) out
cond_after true ws out x = append_assoc ws out (x ∷ [])
cond_after false ws out x = refl

cycle_after : (c : Circuit) (ws : List ℕ) (b : Board) → cycle c (shown_after ws b) (pin_levels c b) ≡ shown_after ws (cycle c b (pin_levels c b))
cycle_after c ws b = let p = pin_levels c b in same_board refl refl refl refl (cond_after (bit_at p emit_pin) ws b.out (datum p)) refl

unless_after : (h : ℕ) (ws : List ℕ) (b x y : Board) → x ≡ shown_after ws y → unless_halted h (shown_after ws b) x ≡ shown_after ws (unless_halted h b y)
unless_after zero ws b x y e = e
unless_after (suc h) ws b x y e = refl

ticks_after : (n : ℕ) (c : Circuit) (ws : List ℕ) (b : Board) → ticks n c (shown_after ws b) ≡ shown_after ws (ticks n c b)
ticks_after zero c ws b = refl
ticks_after (suc n) c ws b =
    ap (ticks n c) (unless_after b.halted ws b (cycle c (shown_after ws b) (pin_levels c b)) (cycle c b (pin_levels c b)) (cycle_after c ws b)) ∙ ticks_after n c ws (tick c b)

-- a board that has not halted is what is handed on, with its words before
handed : (b : Board) → b.halted ≡ running → b ≡ shown_after b.out (handed_on b)
handed b z = same_board refl refl refl refl (sym (append-nil b.out)) z

pub pieces_join : PiecesJoin
pieces_join c b m n z =
    let at = ticks m c b in
    ticks_add c m n b ∙ (ap (ticks n c) (handed at z) ∙ ticks_after n c at.out (handed_on at))

pub halted_stays : HaltedStays
halted_stays c b m n h = ticks_add c m n b ∙ stays-halted c n (ticks m c b) h

-- the same in lent slices
take_both : (m n : ℕ) (xs ys : List ℕ) → take (m + n) (take m xs ++ take n ys) ≡ take m xs ++ take n ys
take_both m n xs ys =
    let l : length (take m xs ++ take n ys) ≤ m + n = omega (arith, length-append (take m xs) (take n ys), length-take m xs, length-take n ys) in
    take_all (m + n) (take m xs ++ take n ys) l

pub spins_join : SpinsJoin
spins_join c m n state mem read tape one two s z t =
    let start = laid state mem read tape in
    let at = ticks m c start in
    let again : laid one.state one.mem one.read (drop one.taken tape) ≡ handed_on at = same_board s.state_is s.mem_is s.read_is s.tape_is refl refl in
    let second = ticks n c (laid one.state one.mem one.read (drop one.taken tape)) in
    let all : shown_after at.out second ≡ ticks (m + n) c start =
    ap (λ (x : Board). shown_after at.out (ticks n c x)) again ∙ sym (pieces_join c start m n (sym s.halt_is ∙ z)) in
    record {
      state_is = t.state_is ∙ ap (λ (x : Board). x.state) all;
      state_bits = t.state_bits;
      mem_is = t.mem_is ∙ ap (λ (x : Board). x.mem) all;
      read_is = t.read_is ∙ ap (λ (x : Board). x.read) all;
      tape_is = sym (drop-drop two.taken one.taken tape) ∙ (t.tape_is ∙ ap (λ (x : Board). x.tape) all);
      taken_there = omega (arith, t.taken_there, s.taken_there, length-drop one.taken tape);
      out_is = take_both one.sent two.sent one.out two.out
          ∙ (ap (λ (ws : List ℕ). ws ++ take two.sent two.out) s.out_is
          ∙ (ap (λ (ws : List ℕ). at.out ++ ws) t.out_is ∙ ap (λ (x : Board). x.out) all));
      halt_is = t.halt_is ∙ ap (λ (x : Board). x.halted) all;
    }

pub halted_spin_stays : HaltedSpinStays
halted_spin_stays c m n state mem read tape one s h =
    let start = laid state mem read tape in
    let halted : 0 < (ticks m c start).halted = omega (arith, s.halt_is) in
    subst (λ (b : Board). Stands b tape one) (sym (halted_stays c start m n halted)) s

-- a cycle puts out at most one word
cond_one : (e : Bool) (xs : List ℕ) (x : ℕ) → length (cond e (xs ++ (x ∷ [])) xs) ≤ length xs + 1
cond_one true xs x = omega (arith, length-append xs (x ∷ []))
cond_one false xs x = omega arith

unless_one : (h : ℕ) (b after : Board) → length after.out ≤ length b.out + 1 → length (unless_halted h b after).out ≤ length b.out + 1
unless_one zero b after l = l
unless_one (suc h) b after l = omega arith

pub one_word_a_cycle : OneWordACycle
one_word_a_cycle c b zero = omega arith
one_word_a_cycle c b (suc n) =
    let p = pin_levels c b in
    let first = unless_one b.halted b (cycle c b p) (cond_one (bit_at p emit_pin) b.out (datum p)) in
    let others = one_word_a_cycle c (tick c b) n in
    omega arith

pub room_suffices : RoomSuffices
room_suffices a before after room post =
    let words = one_word_a_cycle (drawn a.flops a.gates a.sheet) (laid before.state before.mem a.read a.tape) a.cycles in
    omega (arith, post.says.1)
