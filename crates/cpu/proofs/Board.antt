-- One cycle of the board with the drawing, in words. In order: a state of the flip-flops as numbers, the levels that
-- settle from it, the registers after a cycle, the pins and the next state, the whole cycle.
use Rattle.std.proofs.Common.{◌≡◌, ℕ, zero, suc, ◌<◌, Bool, true, false, cond, ltb, List, [], ◌∷◌, ◌++◌, map, length, drop, set, sym, refl, ap, ◌∙◌, ap₂, arith}
use lib.ListN.{length-map}
use Rattle.std.proofs.lemmas.Bool.{ltb-true}
use Rattle.words.specs.Words.{bits, value, bit_at, word, put, front, rest}
use Rattle.words.specs.Runs.{running}
use Rattle.words.proofs.Bits.{bits_of_value, value_bits}
use Rattle.circuit.specs.Circuit.{Board, settle, inputs, signals, pin_levels, address, datum, tick, store_pin, emit_pin, take_pin, halt_pins}
use Rattle.circuit.specs.Parts.{Gates}
use Rattle.circuit.proofs.Settling.{settle_obeys, kept, kept_word, below_test, below_by_test}
use Rattle.circuit.proofs.Reading.{line_levels, file_levels}
use Rattle.cpu.specs.Signals.{LOW, HIGH, INSTRUCTION, TAPE, FIELD_D, PROGRAM_COUNTER, REGISTERS, OPERAND, RESULT, TARGET, PHASE_1, PHASE_2, PHASE_3, WRITES, LOADS, control_start, from}
use Rattle.cpu.specs.Control.{STORE, EMIT, TAKE, HALT_0, HALT_1, LOAD, WRITE}
use Rattle.cpu.specs.Stages.{PORT, NEXT_RESULT, WRITTEN, WRITE_SELECT, NEXT_REGISTERS, NEXT_COUNTER, ADDRESS}
use Rattle.cpu.specs.Cpu.{cpu_gates, cpu_next, cpu_pins, cpu, flat}
use Rattle.cpu.proofs.Drawing.{Staged, staged, sound, address_wide, port_wide, result_wide, counter_wide}
use Rattle.cpu.proofs.DataPath.{written_is, registers_are}

-- words as levels, one behind the other and one by one
abbrev pub flat_bits : List ℕ → List Bool
flat_bits [] = []
flat_bits (x ∷ xs) = bits 16 x ++ flat_bits xs

abbrev pub each_bits : List ℕ → List (List Bool)
each_bits [] = []
each_bits (x ∷ xs) = bits 16 x ∷ each_bits xs

-- the flip-flops: program counter, registers, operand, result, the register to write, the phases, whether it is written and whether from memory
unfoldable pub held : ℕ → List ℕ → ℕ → ℕ → ℕ → Bool → Bool → Bool → Bool → Bool → List Bool
held pc regs t r d p1 p2 p3 wr ld = bits 16 pc ++ (flat_bits regs ++ (bits 16 t ++ (bits 16 r ++ (bits 3 d ++ (p1 ∷ p2 ∷ p3 ∷ wr ∷ ld ∷ [])))))

-- levels f of all signals, settled from such a state, with w in hand and tp next on the tape
pub record Settled (f : ℕ → Bool) (w tp pc : ℕ) (regs : List ℕ) (t r d : ℕ) (p1 p2 p3 wr ld : Bool) : Type 0 where
  pub low : f LOW ≡ false
  pub high : f HIGH ≡ true
  pub instruction : map f INSTRUCTION ≡ bits 16 w
  pub tape : map f TAPE ≡ bits 16 tp
  pub program_counter : map f PROGRAM_COUNTER ≡ bits 16 pc
  pub registers : file_levels f REGISTERS ≡ each_bits regs
  pub operand : map f OPERAND ≡ bits 16 t
  pub result : map f RESULT ≡ bits 16 r
  pub target : line_levels f WRITE_SELECT ≡ bits 3 d
  pub phase_1 : f PHASE_1 ≡ p1
  pub phase_2 : f PHASE_2 ≡ p2
  pub phase_3 : f PHASE_3 ≡ p3
  pub writes : f WRITES ≡ wr
  pub loads : f LOADS ≡ ld
  pub stages : Staged f

settled_eight : (gs : Gates) (w tp pc x0 x1 x2 x3 x4 x5 x6 x7 t r d : ℕ) (p1 p2 p3 wr ld : Bool) →
    Staged (bit_at (settle gs (inputs w tp (held pc (x0 ∷ x1 ∷ x2 ∷ x3 ∷ x4 ∷ x5 ∷ x6 ∷ x7 ∷ []) t r d p1 p2 p3 wr ld)))) →
    Settled (bit_at (settle gs (inputs w tp (held pc (x0 ∷ x1 ∷ x2 ∷ x3 ∷ x4 ∷ x5 ∷ x6 ∷ x7 ∷ []) t r d p1 p2 p3 wr ld)))) w tp pc (x0 ∷ x1 ∷ x2 ∷ x3 ∷ x4 ∷ x5 ∷ x6 ∷ x7 ∷ []) t r d p1 p2 p3 wr ld
unfolding INSTRUCTION TAPE PROGRAM_COUNTER REGISTERS OPERAND RESULT WRITE_SELECT Rattle.circuit.specs.Parts.inverter_results held
settled_eight gs w tp pc x0 x1 x2 x3 x4 x5 x6 x7 t r d p1 p2 p3 wr ld q =
    let v = inputs w tp (held pc (x0 ∷ x1 ∷ x2 ∷ x3 ∷ x4 ∷ x5 ∷ x6 ∷ x7 ∷ []) t r d p1 p2 p3 wr ld) in
    let words : (xs : List ℕ) → below_test xs control_start ≡ true → map (bit_at (settle gs v)) xs ≡ map (bit_at v) xs = λ xs e. kept_word gs v xs (below_by_test xs control_start e) in
    let one : (i : ℕ) → ltb i control_start ≡ true → bit_at (settle gs v) i ≡ bit_at v i = λ i e. kept gs v i (ltb-true i control_start e) in
    record {
      low = one LOW refl;
      high = one HIGH refl;
      instruction = words INSTRUCTION refl;
      tape = words TAPE refl;
      program_counter = words PROGRAM_COUNTER refl;
      registers = rw (words (from 50 16) refl, words (from 66 16) refl, words (from 82 16) refl, words (from 98 16) refl, words (from 114 16) refl, words (from 130 16) refl, words (from 146 16) refl, words (from 162 16) refl) refl;
      operand = words OPERAND refl;
      result = words RESULT refl;
      target = words TARGET refl;
      phase_1 = one PHASE_1 refl;
      phase_2 = one PHASE_2 refl;
      phase_3 = one PHASE_3 refl;
      writes = one WRITES refl;
      loads = one LOADS refl;
      stages = q;
    }

eight : (regs : List ℕ) → length regs ≡ 8 → (Q : List ℕ → Type 0) → ((x0 x1 x2 x3 x4 x5 x6 x7 : ℕ) → Q (x0 ∷ x1 ∷ x2 ∷ x3 ∷ x4 ∷ x5 ∷ x6 ∷ x7 ∷ [])) → Q regs
eight [] l Q k = absurd (omega arith)
eight (a ∷ []) l Q k = absurd (omega arith)
eight (a ∷ (b ∷ [])) l Q k = absurd (omega arith)
eight (a ∷ (b ∷ (c ∷ []))) l Q k = absurd (omega arith)
eight (a ∷ (b ∷ (c ∷ (d ∷ [])))) l Q k = absurd (omega arith)
eight (a ∷ (b ∷ (c ∷ (d ∷ (e ∷ []))))) l Q k = absurd (omega arith)
eight (a ∷ (b ∷ (c ∷ (d ∷ (e ∷ (g ∷ [])))))) l Q k = absurd (omega arith)
eight (a ∷ (b ∷ (c ∷ (d ∷ (e ∷ (g ∷ (h ∷ []))))))) l Q k = absurd (omega arith)
eight (a ∷ (b ∷ (c ∷ (d ∷ (e ∷ (g ∷ (h ∷ (i ∷ [])))))))) l Q k = k a b c d e g h i
eight (a ∷ (b ∷ (c ∷ (d ∷ (e ∷ (g ∷ (h ∷ (i ∷ (j ∷ xs))))))))) l Q k = absurd (omega arith)

-- the levels of all signals of the drawing
unfoldable pub all_levels : ℕ → ℕ → List Bool → ℕ → Bool
all_levels w tp s = bit_at (settle cpu_gates (inputs w tp s))

pub settled : (w tp pc : ℕ) (regs : List ℕ) (t r d : ℕ) (p1 p2 p3 wr ld : Bool) → length regs ≡ 8 → Settled (all_levels w tp (held pc regs t r d p1 p2 p3 wr ld)) w tp pc regs t r d p1 p2 p3 wr ld
unfolding all_levels held
settled w tp pc regs t r d p1 p2 p3 wr ld l =
    eight regs l (λ xs. Settled (bit_at (settle cpu_gates (inputs w tp (held pc xs t r d p1 p2 p3 wr ld)))) w tp pc xs t r d p1 p2 p3 wr ld)
    (λ x0 x1 x2 x3 x4 x5 x6 x7.
    settled_eight cpu_gates w tp pc x0 x1 x2 x3 x4 x5 x6 x7 t r d p1 p2 p3 wr ld
    (staged (bit_at (settle cpu_gates (inputs w tp (held pc (x0 ∷ x1 ∷ x2 ∷ x3 ∷ x4 ∷ x5 ∷ x6 ∷ x7 ∷ []) t r d p1 p2 p3 wr ld))))
    (settle_obeys cpu_gates (inputs w tp (held pc (x0 ∷ x1 ∷ x2 ∷ x3 ∷ x4 ∷ x5 ∷ x6 ∷ x7 ∷ []) t r d p1 p2 p3 wr ld)) sound)))

-- lists of words and of levels
pub map_++ : (f : ℕ → Bool) (xs ys : List ℕ) → map f (xs ++ ys) ≡ map f xs ++ map f ys
map_++ f [] ys = refl
map_++ f (x ∷ xs) ys = ap {B = List Bool} (λ r. f x ∷ r) (map_++ f xs ys)

abbrev flat_levels : List (List Bool) → List Bool
flat_levels [] = []
flat_levels (x ∷ xs) = x ++ flat_levels xs

map_flat : (f : ℕ → Bool) (ws : List (List ℕ)) → map f (flat ws) ≡ flat_levels (file_levels f ws)
map_flat f [] = refl
map_flat f (x ∷ ws) = map_++ f x (flat ws) ∙ ap {B = List Bool} (λ r. map f x ++ r) (map_flat f ws)

flat_each : (xs : List ℕ) → flat_levels (each_bits xs) ≡ flat_bits xs
flat_each [] = refl
flat_each (x ∷ xs) = ap {B = List Bool} (λ r. bits 16 x ++ r) (flat_each xs)

each_put : (xs : List ℕ) (i v : ℕ) → set (each_bits xs) i (bits 16 v) ≡ each_bits (put xs i v)
each_put [] i v = refl
each_put (x ∷ xs) zero v = refl
each_put (x ∷ xs) (suc i) v = ap {B = List (List Bool)} (λ r. bits 16 x ∷ r) (each_put xs i v)

each_cond : (b : Bool) (xs ys : List ℕ) → cond b (each_bits xs) (each_bits ys) ≡ each_bits (cond b xs ys)
each_cond true xs ys = refl
each_cond false xs ys = refl

bits_cond : (b : Bool) (n x y : ℕ) → cond b (bits n x) (bits n y) ≡ bits n (cond b x y)
bits_cond true n x y = refl
bits_cond false n x y = refl

-- a word's levels are the bits of its value
bits_on : (f : ℕ → Bool) (xs : List ℕ) (n : ℕ) → length xs ≡ n → map f xs ≡ bits n (value (map f xs))
bits_on f xs n l = bits_of_value n (map f xs) (value (map f xs)) (length-map xs f ∙ l) refl

next_registers : (f : ℕ → Bool) (w tp pc : ℕ) (regs : List ℕ) (t r d : ℕ) (p1 p2 p3 wr ld : Bool) → d < 8 → Settled f w tp pc regs t r d p1 p2 p3 wr ld → file_levels f NEXT_REGISTERS ≡ each_bits (cond wr (put regs d (cond ld w r)) regs)
next_registers f w tp pc regs t r d p1 p2 p3 wr ld h n =
    let x : map f WRITTEN ≡ bits 16 (cond ld w r) = written_is f n.stages ∙ (rw (n.loads, n.instruction, n.result) (bits_cond ld 16 w r)) in
    let number : value (line_levels f WRITE_SELECT) ≡ d = ap value n.target ∙ value_bits 3 d h in
    registers_are f n.stages ∙ rw (n.writes, n.registers, number, x, each_put regs d (cond ld w r)) (each_cond wr (put regs d (cond ld w r)) regs)

-- a cycle by its pins and its next state
abbrev pub moved : Board → List Bool → ℕ → ℕ → Bool → Bool → Bool → ℕ → Board
moved b s a d k e t h = record { state = s; mem = cond k (put b.mem a d) b.mem; read = word b.mem a; tape = cond t (rest b.tape) b.tape; out = cond e (b.out ++ (d ∷ [])) b.out; halted = h }

-- what a cycle makes of the board, by the levels f
abbrev pub after_cycle : Board → (ℕ → Bool) → List ℕ → Board
after_cycle b f regs =
    moved b (held (value (map f NEXT_COUNTER)) regs (value (map f PORT)) (value (map f NEXT_RESULT)) (value (map f FIELD_D)) (f PHASE_3) (f PHASE_1) (f PHASE_2) (f WRITE) (f LOAD))
    (value (map f ADDRESS)) (value (map f PORT)) (f STORE) (f EMIT) (f TAKE) (value (f HALT_0 ∷ f HALT_1 ∷ []))

module _ (f : ℕ → Bool) where
  pins_are : map f cpu.pins ≡ bits 16 (value (map f ADDRESS)) ++ (bits 16 (value (map f PORT)) ++ (f STORE ∷ f EMIT ∷ f TAKE ∷ f HALT_0 ∷ f HALT_1 ∷ []))
  unfolding cpu cpu_pins
  pins_are =
      map_++ f ADDRESS (PORT ++ (STORE ∷ EMIT ∷ TAKE ∷ HALT_0 ∷ HALT_1 ∷ []))
      ∙ ap₂ {C = List Bool} (λ x y. x ++ y) (bits_on f ADDRESS 16 address_wide)
      (map_++ f PORT (STORE ∷ EMIT ∷ TAKE ∷ HALT_0 ∷ HALT_1 ∷ []) ∙ ap {B = List Bool} (λ x. x ++ (f STORE ∷ f EMIT ∷ f TAKE ∷ f HALT_0 ∷ f HALT_1 ∷ [])) (bits_on f PORT 16 port_wide))

  next_is : (regs : List ℕ) → file_levels f NEXT_REGISTERS ≡ each_bits regs → map f cpu.next ≡ held (value (map f NEXT_COUNTER)) regs (value (map f PORT)) (value (map f NEXT_RESULT)) (value (map f FIELD_D)) (f PHASE_3) (f PHASE_1) (f PHASE_2) (f WRITE) (f LOAD)
  unfolding cpu cpu_next held
  next_is regs e =
      let last : List ℕ = FIELD_D ++ (PHASE_3 ∷ PHASE_1 ∷ PHASE_2 ∷ WRITE ∷ LOAD ∷ []) in
      map_++ f NEXT_COUNTER (flat NEXT_REGISTERS ++ (PORT ++ (NEXT_RESULT ++ last)))
      ∙ ap₂ {C = List Bool} (λ x y. x ++ y) (bits_on f NEXT_COUNTER 16 counter_wide)
      (map_++ f (flat NEXT_REGISTERS) (PORT ++ (NEXT_RESULT ++ last))
      ∙ ap₂ {C = List Bool} (λ x y. x ++ y) (map_flat f NEXT_REGISTERS ∙ (ap flat_levels e ∙ flat_each regs))
      (map_++ f PORT (NEXT_RESULT ++ last)
      ∙ ap₂ {C = List Bool} (λ x y. x ++ y) (bits_on f PORT 16 port_wide)
      (map_++ f NEXT_RESULT last
      ∙ ap₂ {C = List Bool} (λ x y. x ++ y) (bits_on f NEXT_RESULT 16 result_wide) (ap {B = List Bool} (λ x. x ++ (f PHASE_3 ∷ f PHASE_1 ∷ f PHASE_2 ∷ f WRITE ∷ f LOAD ∷ [])) (bits_on f FIELD_D 3 refl)))))

-- the board's own cycle, from what the pins and the next signals are
by_pins : Board → List Bool → List Bool → Board
by_pins b p s = moved b s (address p) (datum p) (bit_at p store_pin) (bit_at p emit_pin) (bit_at p take_pin) (value (drop halt_pins p))

by_pins_is : (b : Board) (a d : ℕ) (k e t h i : Bool) (s : List Bool) → by_pins b (bits 16 a ++ (bits 16 d ++ (k ∷ e ∷ t ∷ h ∷ i ∷ []))) s ≡ moved b s (value (bits 16 a)) (value (bits 16 d)) k e t (value (h ∷ i ∷ []))
unfolding by_pins
by_pins_is b a d k e t h i s = refl

tick_by_pins : (b : Board) (p s : List Bool) → b.halted ≡ running → pin_levels cpu b ≡ p → map (bit_at (signals cpu b)) cpu.next ≡ s → tick cpu b ≡ by_pins b p s
unfolding by_pins
tick_by_pins b p s h ep es = rw (h, ← ep, ← es) refl

pub ticked : (pc : ℕ) (regs : List ℕ) (t r d : ℕ) (p1 p2 p3 wr ld : Bool) (b : Board) → length regs ≡ 8 → d < 8 → b.halted ≡ running → b.state ≡ held pc regs t r d p1 p2 p3 wr ld →
    tick cpu b ≡ after_cycle b (all_levels b.read (front b.tape) (held pc regs t r d p1 p2 p3 wr ld)) (cond wr (put regs d (cond ld b.read r)) regs)
unfolding cpu all_levels
ticked pc regs t r d p1 p2 p3 wr ld b l h z st =
    let f = all_levels b.read (front b.tape) (held pc regs t r d p1 p2 p3 wr ld) in
    let n = settled b.read (front b.tape) pc regs t r d p1 p2 p3 wr ld l in
    let regs' = cond wr (put regs d (cond ld b.read r)) regs in
    let e : file_levels f NEXT_REGISTERS ≡ each_bits regs' = next_registers f b.read (front b.tape) pc regs t r d p1 p2 p3 wr ld h n in
    let ca = sym (ap value (bits_on f ADDRESS 16 address_wide)) in
    let cp = sym (ap value (bits_on f PORT 16 port_wide)) in
    let s = held (value (map f NEXT_COUNTER)) regs' (value (map f PORT)) (value (map f NEXT_RESULT)) (value (map f FIELD_D)) (f PHASE_3) (f PHASE_1) (f PHASE_2) (f WRITE) (f LOAD) in
    let fe : bit_at (signals cpu b) ≡ f = ap (λ x. all_levels b.read (front b.tape) x) st in
    let ep : pin_levels cpu b ≡ bits 16 (value (map f ADDRESS)) ++ (bits 16 (value (map f PORT)) ++ (f STORE ∷ f EMIT ∷ f TAKE ∷ f HALT_0 ∷ f HALT_1 ∷ [])) = ap (λ x. map x cpu.pins) fe ∙ pins_are f in
    let es : map (bit_at (signals cpu b)) cpu.next ≡ s = ap (λ x. map x cpu.next) fe ∙ next_is f regs' e in
    tick_by_pins b (bits 16 (value (map f ADDRESS)) ++ (bits 16 (value (map f PORT)) ++ (f STORE ∷ f EMIT ∷ f TAKE ∷ f HALT_0 ∷ f HALT_1 ∷ []))) s z ep es
    ∙ (by_pins_is b (value (map f ADDRESS)) (value (map f PORT)) (f STORE) (f EMIT) (f TAKE) (f HALT_0) (f HALT_1) s
    ∙ ap₂ (λ x y. moved b s x y (f STORE) (f EMIT) (f TAKE) (value (f HALT_0 ∷ f HALT_1 ∷ []))) ca cp)
