-- A stored word is there when it is wanted. In order: no cycle both stores and wants a word; steps one after the other;
-- the registers on a board; the fetch and the load after a store.
use Rattle.std.proofs.Common.{◌≡◌, ℕ, zero, suc, ◌-◌, ◌<◌, Bool, true, false, not, ◌&&◌, List, [], ◌∷◌, ◌++◌, map, length, take, sym, refl, ap, ◌∙◌, subst, inl, inr, arith}
use Rattle.std.proofs.lemmas.List.{get_or-set_same}
use Rattle.words.specs.Words.{bits, value, bit_at, word, put, front, IsMemory, IsTape}
use Rattle.words.specs.Runs.{running}
use Rattle.words.proofs.Bits.{value_bits_16}
use Rattle.circuit.specs.Circuit.{Board, SoundGates, input_signals, settle, inputs, signals, pin_levels, store_pin, tick, cycle, unless_halted}
use Rattle.circuit.specs.Parts.{Gates}
use Rattle.circuit.proofs.Settling.{Obeys, settle_obeys, kept}
use Rattle.machine.specs.Machine.{Machine, Op, Store, Load, act, operation, fetched, place, following, register, execute, step, steps, begin}
use Rattle.cpu.specs.Signals.{OP_0, OP_1, OP_2, OP_3, PHASE_1, PHASE_2, PHASE_3, LOADS, control_start, flop_count}
use Rattle.cpu.specs.Control.{STORE, LOAD}
use Rattle.cpu.specs.Cpu.{cpu, cpu_gates}
use Rattle.cpu.specs.Stored.{StoresAlone, behind_words, register_on, board_after, LoadAfterStore, FetchAfterStore}
use Rattle.cpu.proofs.Drawing.{drawing, Staged, staged, sound}
use Rattle.cpu.proofs.ControlLines.{control}
use Rattle.cpu.proofs.Board.{held, flat_bits}
use Rattle.cpu.proofs.States.{WordsIn, Ready, Stands}
use Rattle.cpu.proofs.IsMachine.{stands_at}

-- the store pin, and the flip-flops that say what the next cycle wants, by the levels f
store_level : (f : ℕ → Bool) → bit_at (map f cpu.pins) store_pin ≡ f STORE
unfolding drawing
store_level f = refl

next_phase_1 : (f : ℕ → Bool) → bit_at (map f cpu.next) (PHASE_1 - input_signals) ≡ f PHASE_3
unfolding drawing
next_phase_1 f = refl

next_phase_2 : (f : ℕ → Bool) → bit_at (map f cpu.next) (PHASE_2 - input_signals) ≡ f PHASE_1
unfolding drawing
next_phase_2 f = refl

next_loads : (f : ℕ → Bool) → bit_at (map f cpu.next) (LOADS - input_signals) ≡ f LOAD
unfolding drawing
next_loads f = refl

-- a store is in phase 2, and no load
store_is : (o0 o1 o2 o3 p2 : Bool) → p2 && ((o3 && not o2) && (not o1 && not o0)) ≡ true → (p2 ≡ true) × ((not o3 && o2) && (o1 && o0) ≡ false)
store_is o0 o1 o2 true true e = (refl, refl)
store_is o0 o1 o2 false true e = absurd (let z : ◌≡◌ {A = ℕ} 0 1 = cc in omega arith)
store_is o0 o1 o2 o3 false e = absurd (let z : ◌≡◌ {A = ℕ} 0 1 = cc in omega arith)

inputs_length : (r t : ℕ) (st : List Bool) → length st ≡ flop_count → length (inputs r t st) ≡ control_start
inputs_length r t st l = omega (arith, l)

-- the flip-flops keep their levels while the gates settle
phases_kept : (gs : Gates) (r t : ℕ) (st : List Bool) → length st ≡ flop_count →
    (bit_at (settle gs (inputs r t st)) PHASE_1 ≡ bit_at st (PHASE_1 - input_signals)) × (bit_at (settle gs (inputs r t st)) PHASE_2 ≡ bit_at st (PHASE_2 - input_signals)) × (bit_at (settle gs (inputs r t st)) PHASE_3 ≡ bit_at st (PHASE_3 - input_signals))
phases_kept gs r t st l =
    let n = inputs_length r t st l in
    (kept gs (inputs r t st) PHASE_1 (omega arith), kept gs (inputs r t st) PHASE_2 (omega arith), kept gs (inputs r t st) PHASE_3 (omega arith))

board_staged : (b : Board) → length b.state ≡ flop_count → Staged (bit_at (signals cpu b))
unfolding cpu
board_staged b l =
    let v = inputs b.read (front b.tape) b.state in
    let e : control_start ≡ length v = sym (inputs_length b.read (front b.tape) b.state l) in
    let o : Obeys (bit_at (settle cpu_gates v)) (length v) cpu_gates = settle_obeys cpu_gates v (subst (λ n. SoundGates cpu_gates n) e sound) in
    staged (bit_at (settle cpu_gates v)) (subst (λ n. Obeys (bit_at (settle cpu_gates v)) n cpu_gates) (sym e) o)

pub stores_alone : StoresAlone
stores_alone b l z one e =
    let f = bit_at (signals cpu b) in
    let k = control f (board_staged b l).control (f OP_0) (f OP_1) (f OP_2) (f OP_3) (f PHASE_1) (f PHASE_2) refl refl refl refl refl refl in
    let s = store_is (f OP_0) (f OP_1) (f OP_2) (f OP_3) (f PHASE_2) (sym k.store ∙ (sym (store_level f) ∙ e)) in
    let flops = phases_kept cpu.gates b.read (front b.tape) b.state l in
    let others = one (sym flops.1 ∙ s.0) in
    let t : (tick cpu b).state ≡ map f cpu.next = ap (λ h. (unless_halted h b (cycle cpu b (pin_levels cpu b))).state) z in (
      ap (λ (v : List Bool). bit_at v (PHASE_1 - input_signals)) t ∙ (next_phase_1 f ∙ (flops.2 ∙ others.1)),
      ap (λ (v : List Bool). bit_at v (PHASE_2 - input_signals)) t ∙ (next_phase_2 f ∙ (flops.0 ∙ others.0)),
      ap (λ (v : List Bool). bit_at v (LOADS - input_signals)) t ∙ (next_loads f ∙ (k.load ∙ s.1)),
    )

-- steps one after the other
steps_more : (t : ℕ) (s : Machine) → steps (suc t) s ≡ step (steps t s)
steps_more zero s = refl
steps_more (suc t) s = steps_more t (step s)

stepped : (s : Machine) (o : Op) → s.halted ≡ running → operation (fetched s).op ≡ o → step s ≡ act o (fetched s) s
stepped s o z e = ap (λ h. Rattle.machine.specs.Machine.unless_halted h s (execute s)) z ∙ ap (λ x. act x (fetched s) s) e

-- a machine that runs has the board ready
is_ready : (s : Machine) (b : Board) → s.halted ≡ running → Stands s b → Ready s b
is_ready s b z (inl a) = a
is_ready s b z (inr a) = absurd (let e = sym z ∙ a.has_halted in omega arith)

-- the registers on a board
register_bits : (regs : List ℕ) (rest : List Bool) (k : ℕ) → k < length regs → IsTape regs → value (take 16 (behind_words k (flat_bits regs ++ rest))) ≡ word regs k
register_bits [] rest k h w = absurd (omega arith)
register_bits (x ∷ regs) rest zero h w = value_bits_16 x w.0
register_bits (x ∷ regs) rest (suc k) h w = register_bits regs rest k (omega arith) w.1

register_is : (s : Machine) (b : Board) (k : ℕ) → k < 8 → Ready s b → register_on b k ≡ register s k
unfolding held
register_is s b k h a =
    let g = a.words_in in
    ap (λ (x : Board). register_on x k) a.is ∙ register_bits s.registers (bits 16 a.t ++ (bits 16 a.r ++ (bits 3 a.d ++ (true ∷ false ∷ false ∷ false ∷ a.ld ∷ [])))) k (let e = g.eight in omega arith) g.registers_below

module _ (mem tape : List ℕ) (hm : IsMemory mem) (ht : IsTape tape) (t : ℕ) (s : Machine) (at : s ≡ steps t (begin mem tape)) (z : s.halted ≡ running) (stores : operation (fetched s).op ≡ Store) where
  abbrev PLACE : ℕ
  PLACE = place (fetched s) s

  abbrev WORD : ℕ
  WORD = register s (fetched s).d

  words_here : WordsIn s
  words_here = (is_ready s (board_after mem tape t) z (subst (λ (x : Machine). Stands x (board_after mem tape t)) (sym at) (stands_at mem tape hm ht t))).words_in

  -- memory holds the word after the store
  holds : word (put s.mem PLACE WORD) PLACE ≡ WORD
  holds = let l = words_here.mem_long in get_or-set_same s.mem PLACE WORD 0 (omega arith)

  next_is : step s ≡ act Store (fetched s) s
  next_is = stepped s Store z stores

  stands_next : Stands (step s) (board_after mem tape (suc t))
  stands_next = subst (λ (x : Machine). Stands x (board_after mem tape (suc t))) (steps_more t (begin mem tape) ∙ ap step (sym at)) (stands_at mem tape hm ht (suc t))

  runs_next : (step s).halted ≡ running
  runs_next = ap (λ (x : Machine). x.halted) next_is

  fetch_here : PLACE ≡ following s → (board_after mem tape (suc t)).read ≡ WORD
  fetch_here e =
      let a = is_ready (step s) (board_after mem tape (suc t)) runs_next stands_next in
      ap (λ (x : Board). x.read) a.is ∙ (ap (λ (x : Machine). word x.mem x.pc) next_is ∙ (ap (λ p. word (put s.mem PLACE WORD) p) (sym e) ∙ holds))

  load_here : operation (fetched (step s)).op ≡ Load → place (fetched (step s)) (step s) ≡ PLACE → register_on (board_after mem tape (suc (suc t))) (fetched (step s)).d ≡ WORD
  load_here loads same =
      let s1 = step s in
      let d = (fetched s1).d in
      let s2-is : step s1 ≡ act Load (fetched s1) s1 = stepped s1 Load runs_next loads in
      let stands : Stands (step s1) (board_after mem tape (suc (suc t))) = subst (λ (x : Machine). Stands x (board_after mem tape (suc (suc t)))) (steps_more (suc t) (begin mem tape) ∙ ap step (steps_more t (begin mem tape) ∙ ap step (sym at))) (stands_at mem tape hm ht (suc (suc t))) in
      let runs : (step s1).halted ≡ running = ap (λ (x : Machine). x.halted) s2-is ∙ runs_next in
      let a = is_ready (step s1) (board_after mem tape (suc (suc t))) runs stands in
      let eight : length s1.registers ≡ 8 = (is_ready s1 (board_after mem tape (suc t)) runs_next stands_next).words_in.eight in
      let v = word s1.mem (place (fetched s1) s1) in
      let stored : v ≡ WORD = ap (word s1.mem) same ∙ (ap (λ (x : Machine). word x.mem PLACE) next_is ∙ holds) in
      register_is (step s1) (board_after mem tape (suc (suc t))) d (omega arith) a
      ∙ (ap (λ (x : Machine). word x.registers d) s2-is ∙ (get_or-set_same s1.registers d v 0 (omega arith) ∙ stored))

pub fetch_after_store : FetchAfterStore
fetch_after_store mem tape hm ht t s at z stores e = fetch_here mem tape hm ht t s at z stores e

pub load_after_store : LoadAfterStore
load_after_store mem tape hm ht t s at z stores loads same = load_here mem tape hm ht t s at z stores loads same
