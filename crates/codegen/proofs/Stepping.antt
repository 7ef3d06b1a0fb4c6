-- One step at an instruction that is known by name: the fields of its word, what it does, and the places that it uses.
use Rattle.std.proofs.Common.{◌≡◌, ℕ, zero, suc, ◌+◌, ◌*◌, ◌/◌, ◌%◌, ◌<◌, cond, eqb, List, [], ◌∷◌, ◌++◌, refl, ap, ◌∙◌, arith}
use Rattle.std.proofs.lemmas.Bool.{lt-ltb}
use Rattle.words.specs.Words.{add16, sub16, less16, nand16, half16, word, put, front, rest}
use Rattle.words.specs.Runs.{running, ended_done, ended_index, ended_full}
use Rattle.machine.specs.Machine.{Machine, Fields, decode, operation, register, following, target, halt, act, execute, fetched, unless_halted, step}
use Rattle.codegen.specs.Layout.{code_limit}
use Rattle.codegen.specs.Instructions.{Instruction, ADD, SUB, NAND, LESS, HALF, LOW, HIGH, LOAD, STORE, ZERO, JUMP, IN, OUT, DONE, INDEX, FULL, form_three, form_wide, form_near, encode, WithinWidths}
use Rattle.codegen.specs.Top.{uses}

-- The fields of a word, of each of the three forms.
decode_is : (w op d a b n m : ℕ) → w / 4096 ≡ op → w / 512 % 8 ≡ d → w / 64 % 8 ≡ a → w / 8 % 8 ≡ b → w % 512 ≡ n → w % 64 ≡ m →
    decode w ≡ record { op = op; d = d; a = a; b = b; n = n; m = m }
decode_is w op d a b n m is-op is-d is-a is_b is-n is_m = rw (is-op, is-d, is-a, is_b, is-n, is_m)

decode_three : (op d a b : ℕ) → d < 8 → a < 8 → b < 8 → decode (form_three op d a b) ≡ record { op = op; d = d; a = a; b = b; n = a * 64 + b * 8; m = b * 8 }
decode_three op d a b hd ha hb = decode_is (form_three op d a b) op d a b (a * 64 + b * 8) (b * 8) (omega arith) (omega arith) (omega arith) (omega arith) (omega arith) (omega arith)

decode_wide : (op d n : ℕ) → d < 8 → n < 512 → decode (form_wide op d n) ≡ record { op = op; d = d; a = n / 64; b = n / 8 % 8; n = n; m = n % 64 }
decode_wide op d n hd hn = decode_is (form_wide op d n) op d (n / 64) (n / 8 % 8) n (n % 64) (omega arith) (omega arith) (omega arith) (omega arith) (omega arith) (omega arith)

decode_near : (op d a m : ℕ) → d < 8 → a < 8 → m < 64 → decode (form_near op d a m) ≡ record { op = op; d = d; a = a; b = m / 8; n = a * 64 + m; m = m }
decode_near op d a m hd ha hm = decode_is (form_near op d a m) op d a (m / 8) (a * 64 + m) m (omega arith) (omega arith) (omega arith) (omega arith) (omega arith) (omega arith)

-- What an instruction does where it stands among the words for code, so that no place wraps.
abbrev pub set_and_go : Machine → ℕ → ℕ → Machine
set_and_go s d v = record { pc = suc s.pc; registers = put s.registers d v; mem = s.mem; tape = s.tape; out = s.out; halted = s.halted }

-- so many words on
abbrev pub words_on : ℕ → ℕ → ℕ
words_on zero at = at
words_on (suc n) at = words_on n (suc at)

words_on_is : (n at : ℕ) → words_on n at ≡ at + n
words_on_is zero at = omega arith
words_on_is (suc n) at = let e = words_on_is n (suc at) in omega arith

abbrev pub effect : Instruction → Machine → Machine
effect (ADD d a b) s = set_and_go s d (add16 (register s a) (register s b))
effect (SUB d a b) s = set_and_go s d (sub16 (register s a) (register s b))
effect (NAND d a b) s = set_and_go s d (nand16 (register s a) (register s b))
effect (LESS d a b) s = set_and_go s d (less16 (register s a) (register s b))
effect (HALF d a) s = set_and_go s d (half16 (register s a))
effect (LOW d n) s = set_and_go s d n
effect (HIGH d n) s = set_and_go s d (register s d % 256 + 256 * n)
effect (LOAD d a m) s = set_and_go s d (word s.mem (add16 (register s a) m))
effect (STORE d a m) s = record { pc = suc s.pc; registers = s.registers; mem = put s.mem (add16 (register s a) m) (register s d); tape = s.tape; out = s.out; halted = running }
effect (ZERO d n) s = record { pc = cond (eqb (register s d) 0) (words_on n (suc s.pc)) (suc s.pc); registers = s.registers; mem = s.mem; tape = s.tape; out = s.out; halted = running }
effect (JUMP d a) s = record { pc = register s a; registers = put s.registers d (suc s.pc); mem = s.mem; tape = s.tape; out = s.out; halted = running }
effect (IN d) s = record { pc = suc s.pc; registers = put s.registers d (front s.tape); mem = s.mem; tape = rest s.tape; out = s.out; halted = running }
effect (OUT d) s = record { pc = suc s.pc; registers = s.registers; mem = s.mem; tape = s.tape; out = s.out ++ (register s d ∷ []); halted = running }
effect DONE s = halt s ended_done
effect INDEX s = halt s ended_index
effect FULL s = halt s ended_full

-- the places in memory that it uses
abbrev pub used : Instruction → Machine → List ℕ
used (ADD d a b) s = []
used (SUB d a b) s = []
used (NAND d a b) s = []
used (LESS d a b) s = []
used (HALF d a) s = []
used (LOW d n) s = []
used (HIGH d n) s = []
used (LOAD d a m) s = add16 (register s a) m ∷ []
used (STORE d a m) s = add16 (register s a) m ∷ []
used (ZERO d n) s = []
used (JUMP d a) s = []
used (IN d) s = []
used (OUT d) s = []
used DONE s = []
used INDEX s = []
used FULL s = []

-- A step and the places that it uses, by the fields of the word at the program counter.
acts : (s : Machine) (w : ℕ) (i : Fields) → s.halted ≡ running → word s.mem s.pc ≡ w → decode w ≡ i → step s ≡ act (operation i.op) i s
acts s w i run e d = ap (λ (h : ℕ). unless_halted h s (execute s)) run ∙ ap (λ (x : ℕ). act (operation (decode x).op) (decode x) s) e ∙ ap (λ (x : Fields). act (operation x.op) x s) d

looks : (s : Machine) (w : ℕ) (i : Fields) → word s.mem s.pc ≡ w → decode w ≡ i → uses (operation (fetched s).op) (fetched s) s ≡ uses (operation i.op) i s
looks s w i e d = ap (λ (x : ℕ). uses (operation (decode x).op) (decode x) s) e ∙ ap (λ (x : Fields). uses (operation x.op) x s) d

module _ (s : Machine) (run : s.halted ≡ running) (low : s.pc < code_limit) where
  on : following s ≡ suc s.pc
  on = omega arith

  over : (n : ℕ) → n < 256 → target s.pc n ≡ words_on n (suc s.pc)
  over n h = let e = lt-ltb n 256 h in let w = words_on_is n (suc s.pc) in rw e (omega arith)

  pub step_is : (i : Instruction) → WithinWidths i → word s.mem s.pc ≡ encode i → step s ≡ effect i s
  step_is (ADD d a b) f e = acts s _ _ run e (decode_three 0 d a b f.0 f.1 f.2) ∙ rw on refl
  step_is (SUB d a b) f e = acts s _ _ run e (decode_three 1 d a b f.0 f.1 f.2) ∙ rw on refl
  step_is (NAND d a b) f e = acts s _ _ run e (decode_three 2 d a b f.0 f.1 f.2) ∙ rw on refl
  step_is (LESS d a b) f e = acts s _ _ run e (decode_three 3 d a b f.0 f.1 f.2) ∙ rw on refl
  step_is (HALF d a) f e = acts s _ _ run e (decode_near 4 d a 0 f.0 f.1 (omega arith)) ∙ rw on refl
  step_is (LOW d n) f e = acts s _ _ run e (decode_wide 5 d n f.0 f.1) ∙ rw on refl
  step_is (HIGH d n) f e = (let wide : n < 512 = omega arith in let byte : n % 256 ≡ n = omega arith in acts s _ _ run e (decode_wide 6 d n f.0 wide) ∙ rw (on, byte) refl)
  step_is (LOAD d a m) f e = acts s _ _ run e (decode_near 7 d a m f.0 f.1 f.2) ∙ rw on refl
  step_is (STORE d a m) f e = acts s _ _ run e (decode_near 8 d a m f.0 f.1 f.2) ∙ rw on refl
  step_is (ZERO d n) f e = (let wide : n < 512 = omega arith in let o = over n f.1 in acts s _ _ run e (decode_wide 9 d n f.0 wide) ∙ rw (on, o) refl)
  step_is (JUMP d a) f e = acts s _ _ run e (decode_near 10 d a 0 f.0 f.1 (omega arith)) ∙ rw on refl
  step_is (IN d) f e = acts s _ _ run e (decode_wide 11 d 0 f (omega arith)) ∙ rw on refl
  step_is (OUT d) f e = acts s _ _ run e (decode_wide 12 d 0 f (omega arith)) ∙ rw on refl
  step_is DONE f e = acts s _ _ run e refl
  step_is INDEX f e = acts s _ _ run e refl
  step_is FULL f e = acts s _ _ run e refl

pub uses_is : (s : Machine) (i : Instruction) → WithinWidths i → word s.mem s.pc ≡ encode i → uses (operation (fetched s).op) (fetched s) s ≡ used i s
uses_is s (ADD d a b) f e = looks s _ _ e (decode_three 0 d a b f.0 f.1 f.2)
uses_is s (SUB d a b) f e = looks s _ _ e (decode_three 1 d a b f.0 f.1 f.2)
uses_is s (NAND d a b) f e = looks s _ _ e (decode_three 2 d a b f.0 f.1 f.2)
uses_is s (LESS d a b) f e = looks s _ _ e (decode_three 3 d a b f.0 f.1 f.2)
uses_is s (HALF d a) f e = looks s _ _ e (decode_near 4 d a 0 f.0 f.1 (omega arith))
uses_is s (LOW d n) f e = looks s _ _ e (decode_wide 5 d n f.0 f.1)
uses_is s (HIGH d n) f e = (let wide : n < 512 = omega arith in looks s _ _ e (decode_wide 6 d n f.0 wide))
uses_is s (LOAD d a m) f e = looks s _ _ e (decode_near 7 d a m f.0 f.1 f.2)
uses_is s (STORE d a m) f e = looks s _ _ e (decode_near 8 d a m f.0 f.1 f.2)
uses_is s (ZERO d n) f e = (let wide : n < 512 = omega arith in looks s _ _ e (decode_wide 9 d n f.0 wide))
uses_is s (JUMP d a) f e = looks s _ _ e (decode_near 10 d a 0 f.0 f.1 (omega arith))
uses_is s (IN d) f e = looks s _ _ e (decode_wide 11 d 0 f (omega arith))
uses_is s (OUT d) f e = looks s _ _ e (decode_wide 12 d 0 f (omega arith))
uses_is s DONE f e = looks s _ _ e refl
uses_is s INDEX f e = looks s _ _ e refl
uses_is s FULL f e = looks s _ _ e refl
