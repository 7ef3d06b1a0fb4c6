-- A cycle of the board from its parts, and the words that cycles put out.
use Rattle.std.proofs.Common.{◌≡◌, ℕ, zero, suc, ◌<◌, ◌≤◌, Bool, true, false, cond, List, [], ◌∷◌, ◌++◌, map, length, take, drop, sym, ap, ◌∙◌, arith}
use Rattle.std.proofs.lemmas.List.{length-append}
use Rattle.words.specs.Words.{bit_at, word, put, rest}
use Rattle.words.specs.Runs.{running}
use Rattle.words.specs.Endings.{halt_code}
use Rattle.circuit.specs.Circuit.{Circuit, Board, cycle, tick, ticks, unless_halted, pin_levels, signals, address, datum, store_pin, emit_pin}
use Rattle.circuit.specs.Sheet.{levels}
use Rattle.board.specs.Slices.{Shown, standing}
use Rattle.board.specs.declared.pins.Pins.{Pins}
use Rattle.board.specs.declared.cycle.Port.{Port}

-- a choice whose test is known
pub cond_true : {A : Type 0} (b : Bool) (x y : A) → b ≡ true → x ≡ cond b x y
cond_true b x y e = ap (λ (t : Bool). cond t x y) (sym e)

-- a board that has not halted goes on
pub goes_on : (c : Circuit) (b : Board) → b.halted ≡ running → tick c b ≡ cycle c b (pin_levels c b)
goes_on c b z = ap (λ (h : ℕ). unless_halted h b (cycle c b (pin_levels c b))) z

-- boards are equal where their parts are
pub same_board : {s s' : List Bool} {m m' : List ℕ} {r r' : ℕ} {t t' o o' : List ℕ} {h h' : ℕ} → s ≡ s' → m ≡ m' → r ≡ r' → t ≡ t' → o ≡ o' → h ≡ h'
    → ◌≡◌ {A = Board} (record { state = s; mem = m; read = r; tape = t; out = o; halted = h }) (record { state = s'; mem = m'; read = r'; tape = t'; out = o'; halted = h' })
same_board a b d e f g = cc

-- the slices stand for the board after a cycle where each of them is as the pins r say
pub ticked : (c : Circuit) (b : Board) (state mem tape out : List ℕ) (p : Port) (r : Pins) → b.halted ≡ running → Shown (pin_levels c b) r
    → levels state ≡ map (bit_at (signals c b)) c.next
    → mem ≡ cond r.store (put b.mem r.address r.datum) b.mem
    → p.read ≡ word b.mem r.address
    → drop p.taken tape ≡ cond r.take (rest b.tape) b.tape
    → take p.sent out ≡ cond r.emit (b.out ++ (r.datum ∷ [])) b.out
    → halt_code p.halted ≡ halt_code r.halted
    → standing state mem tape out p ≡ tick c b
ticked c b state mem tape out p r z s e1 e2 e3 e4 e5 e6 =
    let q = pin_levels c b in
    same_board e1
    (e2 ∙ (ap (λ (t : Bool). cond t (put b.mem r.address r.datum) b.mem) s.store_is
    ∙ (ap (λ (t : ℕ). cond (bit_at q store_pin) (put b.mem t r.datum) b.mem) s.address_is
    ∙ ap (λ (t : ℕ). cond (bit_at q store_pin) (put b.mem (address q) t) b.mem) s.datum_is)))
    (e3 ∙ ap (word b.mem) s.address_is)
    (e4 ∙ ap (λ (t : Bool). cond t (rest b.tape) b.tape) s.take_is)
    (e5 ∙ (ap (λ (t : Bool). cond t (b.out ++ (r.datum ∷ [])) b.out) s.emit_is ∙ ap (λ (t : ℕ). cond (bit_at q emit_pin) (b.out ++ (t ∷ [])) b.out) s.datum_is))
    (e6 ∙ s.halted_is)
    ∙ sym (goes_on c b z)

-- no word that was put out goes away
cond_grows : (e : Bool) (xs : List ℕ) (x : ℕ) → length xs ≤ length (cond e (xs ++ (x ∷ [])) xs)
cond_grows true xs x = omega (arith, length-append xs (x ∷ []))
cond_grows false xs x = omega arith

unless_grows : (h : ℕ) (b after : Board) → length b.out ≤ length after.out → length b.out ≤ length (unless_halted h b after).out
unless_grows zero b after l = l
unless_grows (suc h) b after l = omega arith

pub tick_grows : (c : Circuit) (b : Board) → length b.out ≤ length (tick c b).out
tick_grows c b = unless_grows b.halted b (cycle c b (pin_levels c b)) (cond_grows (bit_at (pin_levels c b) emit_pin) b.out (datum (pin_levels c b)))

pub ticks_grow : (n : ℕ) (c : Circuit) (b : Board) → length b.out ≤ length (ticks n c b).out
ticks_grow zero c b = omega arith
ticks_grow (suc n) c b = omega (arith, tick_grows c b, ticks_grow n c (tick c b))

-- a cycle that emits puts out a word more
pub emits : (c : Circuit) (b : Board) (r : Pins) (n : ℕ) → b.halted ≡ running → Shown (pin_levels c b) r → r.emit ≡ true → n ≤ length b.out → n < length (tick c b).out
emits c b r n z s e l =
    let p = pin_levels c b in
    let o : (tick c b).out ≡ b.out ++ (datum p ∷ []) = ap (λ (t : Board). t.out) (goes_on c b z) ∙ ap (λ (t : Bool). cond t (b.out ++ (datum p ∷ [])) b.out) (sym s.emit_is ∙ e) in
    omega (arith, ap length o, length-append b.out (datum p ∷ []))
