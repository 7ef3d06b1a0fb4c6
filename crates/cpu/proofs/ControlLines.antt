-- The control lines: what each is, by the operation's bits and the phase. In order: the record of all lines, lines with
-- their inverses, the number's upper bits, and the lines one from the other.
use Rattle.std.proofs.Common.{◌≡◌, ℕ, ◌+◌, ◌-◌, Bool, true, not, ◌&&◌, ltb, sym, refl, ap, ◌∙◌, ap₂}
use Rattle.words.specs.Words.{nand}
use Rattle.circuit.proofs.Settling.{Obeys, obeys_at, gate_at}
use Rattle.circuit.proofs.Words.{inverts_one, and_two, not_not}
use Rattle.cpu.specs.Signals.{control_start, OP_0, OP_1, OP_2, OP_3, PHASE_1, PHASE_2, LOADS, NUMBER_6, NUMBER_7, NUMBER_8}
use Rattle.cpu.specs.Control.{control_stage, NOT_OP_0, NOT_OP_1, NOT_OP_2, NOT_OP_3, FROM_4, BELOW_4, NOT_PHASE_1, NOT_PHASE_2, NOT_LOADS, NOT_8_TO_11, OPS_8_TO_11, NOT_ENDS_01, ENDS_01, NOT_ZERO, OP_ZERO, FIRST_IS_COUNTER, FIRST_IS_OPERAND, NOT_ODD_BELOW_4, ODD_BELOW_4, NOT_SUBTRACT, SUBTRACT, CARRY_IN, NOT_SECOND_IS_PORT, SECOND_IS_PORT, NOT_SECOND_IS_NUMBER, SECOND_IS_NUMBER, NOT_SIGN_6, SIGN_6, NOT_SIGN_7, SIGN_7, NOT_SIGN_8, SIGN_8, NOT_ENDS_00, ENDS_00, NOT_OP_STORE, OP_STORE, NOT_STORE, STORE, NOT_12_TO_15, OPS_12_TO_15, NOT_OP_OUT, OP_OUT, NOT_EMIT, EMIT, NOT_ENDS_11, ENDS_11, NOT_OP_IN, OP_IN, NOT_TAKE, TAKE, NOT_ENDS_10, ENDS_10, NOT_OP_JUMP, OP_JUMP, NOT_JUMP, JUMP, NOT_ODD_12_TO_15, ODD_12_TO_15, NOT_HALT_0, HALT_0, NOT_HIGH_12_TO_15, HIGH_12_TO_15, NOT_HALT_1, HALT_1, NOT_4_TO_7, OPS_4_TO_7, NOT_OP_LOAD, LOAD, NOT_JUMP_OR_IN, OP_WRITES, NOT_WRITE, WRITE}

-- an operation of 4 or more; zero; a difference is wanted
abbrev pub at_least_4 : Bool → Bool → Bool
at_least_4 o2 o3 = nand (not o3) (not o2)

abbrev pub is_zero_op : Bool → Bool → Bool → Bool → Bool
is_zero_op o0 o1 o2 o3 = (o3 && not o2) && (not o1 && o0)

abbrev pub subtracting : Bool → Bool → Bool → Bool → Bool
subtracting o0 o2 o3 p2 = p2 && (not (at_least_4 o2 o3) && o0)

-- the control lines, by the operation's bits o and the phases p
pub record Control (f : ℕ → Bool) (o0 o1 o2 o3 p1 p2 : Bool) : Type 0 where
  pub from_4 : f FROM_4 ≡ at_least_4 o2 o3
  pub below_4 : f BELOW_4 ≡ not (at_least_4 o2 o3)
  pub op_zero : f OP_ZERO ≡ is_zero_op o0 o1 o2 o3
  pub first_is_counter : f FIRST_IS_COUNTER ≡ nand (not p1) (not (is_zero_op o0 o1 o2 o3))
  pub subtract : f SUBTRACT ≡ subtracting o0 o2 o3 p2
  pub carry_in : f CARRY_IN ≡ nand (not p1) (not (subtracting o0 o2 o3 p2))
  pub second_is_port : f SECOND_IS_PORT ≡ p2 && not (at_least_4 o2 o3)
  pub second_is_number : f SECOND_IS_NUMBER ≡ p2 && at_least_4 o2 o3
  pub store : f STORE ≡ p2 && ((o3 && not o2) && (not o1 && not o0))
  pub emit : f EMIT ≡ p2 && ((o3 && o2) && (not o1 && not o0))
  pub take : f TAKE ≡ p2 && ((o3 && not o2) && (o1 && o0))
  pub jump : f JUMP ≡ p2 && ((o3 && not o2) && (o1 && not o0))
  pub halt_0 : f HALT_0 ≡ p2 && ((o3 && o2) && o0)
  pub halt_1 : f HALT_1 ≡ p2 && ((o3 && o2) && o1)
  pub load : f LOAD ≡ (not o3 && o2) && (o1 && o0)
  pub write : f WRITE ≡ p2 && nand o3 (nand (o3 && not o2) o1)

module _ (f : ℕ → Bool) (q : Obeys f control_start control_stage) where
  -- the gate that makes a line, by the line's number
  gate : (n : ℕ) → ltb (n - control_start) 72 ≡ true → f (control_start + (n - control_start)) ≡ nand (f (gate_at control_stage (n - control_start)).0) (f (gate_at control_stage (n - control_start)).1)
  unfolding control_stage
  gate n e = obeys_at f control_start control_stage (n - control_start) q e

  -- a line made of a NAND and its inverse is high where both of its lines are
  both : {n m x y : ℕ} {a b : Bool} → f n ≡ nand (f x) (f y) → f m ≡ nand (f n) (f n) → f x ≡ a → f y ≡ b → f m ≡ a && b
  both {n} {m} {x} {y} {a} {b} u v p r = and_two f n m a b (u ∙ ap₂ nand p r) v

  -- lines that are led on with their inverses
  pub not_op_0 : f NOT_OP_0 ≡ not (f OP_0)
  unfolding control_stage
  not_op_0 = inverts_one f NOT_OP_0 OP_0 (gate NOT_OP_0 refl)

  pub not_op_1 : f NOT_OP_1 ≡ not (f OP_1)
  unfolding control_stage
  not_op_1 = inverts_one f NOT_OP_1 OP_1 (gate NOT_OP_1 refl)

  pub not_op_2 : f NOT_OP_2 ≡ not (f OP_2)
  unfolding control_stage
  not_op_2 = inverts_one f NOT_OP_2 OP_2 (gate NOT_OP_2 refl)

  pub not_op_3 : f NOT_OP_3 ≡ not (f OP_3)
  unfolding control_stage
  not_op_3 = inverts_one f NOT_OP_3 OP_3 (gate NOT_OP_3 refl)

  pub not_from_4 : f BELOW_4 ≡ not (f FROM_4)
  unfolding control_stage
  not_from_4 = inverts_one f BELOW_4 FROM_4 (gate BELOW_4 refl)

  pub not_phase_1 : f NOT_PHASE_1 ≡ not (f PHASE_1)
  unfolding control_stage
  not_phase_1 = inverts_one f NOT_PHASE_1 PHASE_1 (gate NOT_PHASE_1 refl)

  pub not_phase_2 : f NOT_PHASE_2 ≡ not (f PHASE_2)
  unfolding control_stage
  not_phase_2 = inverts_one f NOT_PHASE_2 PHASE_2 (gate NOT_PHASE_2 refl)

  pub not_loads : f NOT_LOADS ≡ not (f LOADS)
  unfolding control_stage
  not_loads = inverts_one f NOT_LOADS LOADS (gate NOT_LOADS refl)

  pub not_first_is_counter : f FIRST_IS_OPERAND ≡ not (f FIRST_IS_COUNTER)
  unfolding control_stage
  not_first_is_counter = inverts_one f FIRST_IS_OPERAND FIRST_IS_COUNTER (gate FIRST_IS_OPERAND refl)

  pub not_jump : f NOT_JUMP ≡ not (f JUMP)
  unfolding control_stage
  not_jump = sym (ap not (inverts_one f JUMP NOT_JUMP (gate JUMP refl)) ∙ not_not (f NOT_JUMP))

  -- the number's bits 6, 7 and 8, which count only for zero
  pub sign_6 : f SIGN_6 ≡ f NUMBER_6 && f OP_ZERO
  unfolding control_stage
  sign_6 = both (gate NOT_SIGN_6 refl) (gate SIGN_6 refl) refl refl

  pub sign_7 : f SIGN_7 ≡ f NUMBER_7 && f OP_ZERO
  unfolding control_stage
  sign_7 = both (gate NOT_SIGN_7 refl) (gate SIGN_7 refl) refl refl

  pub sign_8 : f SIGN_8 ≡ f NUMBER_8 && f OP_ZERO
  unfolding control_stage
  sign_8 = both (gate NOT_SIGN_8 refl) (gate SIGN_8 refl) refl refl

  pub control : (o0 o1 o2 o3 p1 p2 : Bool) → f OP_0 ≡ o0 → f OP_1 ≡ o1 → f OP_2 ≡ o2 → f OP_3 ≡ o3 → f PHASE_1 ≡ p1 → f PHASE_2 ≡ p2 → Control f o0 o1 o2 o3 p1 p2
  unfolding control_stage
  control o0 o1 o2 o3 p1 p2 e0 e1 e2 e3 h1 h2 =
      let n0 : f NOT_OP_0 ≡ not o0 = inverts_one f NOT_OP_0 OP_0 (gate NOT_OP_0 refl) ∙ ap not e0 in
      let n1 : f NOT_OP_1 ≡ not o1 = inverts_one f NOT_OP_1 OP_1 (gate NOT_OP_1 refl) ∙ ap not e1 in
      let n2 : f NOT_OP_2 ≡ not o2 = inverts_one f NOT_OP_2 OP_2 (gate NOT_OP_2 refl) ∙ ap not e2 in
      let n3 : f NOT_OP_3 ≡ not o3 = inverts_one f NOT_OP_3 OP_3 (gate NOT_OP_3 refl) ∙ ap not e3 in
      let m1 : f NOT_PHASE_1 ≡ not p1 = inverts_one f NOT_PHASE_1 PHASE_1 (gate NOT_PHASE_1 refl) ∙ ap not h1 in
      let from-4-is : f FROM_4 ≡ at_least_4 o2 o3 = gate FROM_4 refl ∙ ap₂ nand n3 n2 in
      let below-4-is : f BELOW_4 ≡ not (at_least_4 o2 o3) = inverts_one f BELOW_4 FROM_4 (gate BELOW_4 refl) ∙ ap not from-4-is in
      let ops-8-to-11-is : f OPS_8_TO_11 ≡ o3 && not o2 = both (gate NOT_8_TO_11 refl) (gate OPS_8_TO_11 refl) e3 n2 in
      let ends-01-is : f ENDS_01 ≡ not o1 && o0 = both (gate NOT_ENDS_01 refl) (gate ENDS_01 refl) n1 e0 in
      let op-zero-is : f OP_ZERO ≡ is_zero_op o0 o1 o2 o3 = both (gate NOT_ZERO refl) (gate OP_ZERO refl) ops-8-to-11-is ends-01-is in
      let not-zero-is : f NOT_ZERO ≡ not (is_zero_op o0 o1 o2 o3) = gate NOT_ZERO refl ∙ ap₂ nand ops-8-to-11-is ends-01-is in
      let odd-below-4-is : f ODD_BELOW_4 ≡ not (at_least_4 o2 o3) && o0 = both (gate NOT_ODD_BELOW_4 refl) (gate ODD_BELOW_4 refl) below-4-is e0 in
      let not-subtract-is : f NOT_SUBTRACT ≡ not (subtracting o0 o2 o3 p2) = gate NOT_SUBTRACT refl ∙ ap₂ nand h2 odd-below-4-is in
      let ends-00-is : f ENDS_00 ≡ not o1 && not o0 = both (gate NOT_ENDS_00 refl) (gate ENDS_00 refl) n1 n0 in
      let op-store-is : f OP_STORE ≡ (o3 && not o2) && (not o1 && not o0) = both (gate NOT_OP_STORE refl) (gate OP_STORE refl) ops-8-to-11-is ends-00-is in
      let ops-12-to-15-is : f OPS_12_TO_15 ≡ o3 && o2 = both (gate NOT_12_TO_15 refl) (gate OPS_12_TO_15 refl) e3 e2 in
      let op-out-is : f OP_OUT ≡ (o3 && o2) && (not o1 && not o0) = both (gate NOT_OP_OUT refl) (gate OP_OUT refl) ops-12-to-15-is ends-00-is in
      let ends-11-is : f ENDS_11 ≡ o1 && o0 = both (gate NOT_ENDS_11 refl) (gate ENDS_11 refl) e1 e0 in
      let op-in-is : f OP_IN ≡ (o3 && not o2) && (o1 && o0) = both (gate NOT_OP_IN refl) (gate OP_IN refl) ops-8-to-11-is ends-11-is in
      let ends-10-is : f ENDS_10 ≡ o1 && not o0 = both (gate NOT_ENDS_10 refl) (gate ENDS_10 refl) e1 n0 in
      let op-jump-is : f OP_JUMP ≡ (o3 && not o2) && (o1 && not o0) = both (gate NOT_OP_JUMP refl) (gate OP_JUMP refl) ops-8-to-11-is ends-10-is in
      let odd-12-to-15-is : f ODD_12_TO_15 ≡ (o3 && o2) && o0 = both (gate NOT_ODD_12_TO_15 refl) (gate ODD_12_TO_15 refl) ops-12-to-15-is e0 in
      let high-12-to-15-is : f HIGH_12_TO_15 ≡ (o3 && o2) && o1 = both (gate NOT_HIGH_12_TO_15 refl) (gate HIGH_12_TO_15 refl) ops-12-to-15-is e1 in
      let ops-4-to-7-is : f OPS_4_TO_7 ≡ not o3 && o2 = both (gate NOT_4_TO_7 refl) (gate OPS_4_TO_7 refl) n3 e2 in
      let not-jump-or-in-is : f NOT_JUMP_OR_IN ≡ nand (o3 && not o2) o1 = gate NOT_JUMP_OR_IN refl ∙ ap₂ nand ops-8-to-11-is e1 in
      let op-writes-is : f OP_WRITES ≡ nand o3 (nand (o3 && not o2) o1) = gate OP_WRITES refl ∙ ap₂ nand e3 not-jump-or-in-is in
      record {
        from_4 = from-4-is;
        below_4 = below-4-is;
        op_zero = op-zero-is;
        first_is_counter = gate FIRST_IS_COUNTER refl ∙ ap₂ nand m1 not-zero-is;
        subtract = both (gate NOT_SUBTRACT refl) (gate SUBTRACT refl) h2 odd-below-4-is;
        carry_in = gate CARRY_IN refl ∙ ap₂ nand m1 not-subtract-is;
        second_is_port = both (gate NOT_SECOND_IS_PORT refl) (gate SECOND_IS_PORT refl) h2 below-4-is;
        second_is_number = both (gate NOT_SECOND_IS_NUMBER refl) (gate SECOND_IS_NUMBER refl) h2 from-4-is;
        store = both (gate NOT_STORE refl) (gate STORE refl) h2 op-store-is;
        emit = both (gate NOT_EMIT refl) (gate EMIT refl) h2 op-out-is;
        take = both (gate NOT_TAKE refl) (gate TAKE refl) h2 op-in-is;
        jump = both (gate NOT_JUMP refl) (gate JUMP refl) h2 op-jump-is;
        halt_0 = both (gate NOT_HALT_0 refl) (gate HALT_0 refl) h2 odd-12-to-15-is;
        halt_1 = both (gate NOT_HALT_1 refl) (gate HALT_1 refl) h2 high-12-to-15-is;
        load = both (gate NOT_OP_LOAD refl) (gate LOAD refl) ops-4-to-7-is ends-11-is;
        write = both (gate NOT_WRITE refl) (gate WRITE refl) h2 op-writes-is;
      }
