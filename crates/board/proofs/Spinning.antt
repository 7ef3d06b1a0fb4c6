-- What `spin` promises, from what its circuit_of promise: for each answer in turn.
use Rattle.std.proofs.Common.{◌≡◌, ℕ, zero, suc, ◌+◌, ◌*◌, ◌<◌, ◌≤◌, Bool, List, [], length, take, drop, Some, None, Option, Ok, Err, sym, refl, ap, ◌∙◌, subst, arith}
use Rattle.std.specs.Option.{ok_or}
use Rattle.words.specs.Words.{All, memory_size}
use Rattle.words.specs.Runs.{running}
use Rattle.circuit.specs.Circuit.{Circuit, Board, tick, ticks, input_signals, pin_count}
use Rattle.circuit.specs.Sheet.{drawn, levels}
use Rattle.board.specs.Board.{Asked, Lent, SoundCall, spun_board, SpunPost, laid}
use Rattle.board.specs.Slices.{bytes, SoundSheet, CutFrom, circuit_of, standing, Went}
use Rattle.board.specs.declared.SpinError.TheVariants.{BadSheet, NoOut}
use Rattle.board.specs.declared.cycle.Port.{Port}
use Rattle.board.proofs.Bytes.{levels_of, bytes_low}
use Rattle.board.proofs.Cuts.{fits_from, sound_from}

-- a run is the same by the sheet's circuit and by the circuit_of that the sheet is cut into
pub ticks_parts : (n f k : ℕ) (sheet wires next pins : List ℕ) (b : Board) → wires ≡ take (2 * k) (drop f sheet) → next ≡ take f (drop (f + 2 * k) sheet) → pins ≡ take pin_count (drop (2 * f + 2 * k) sheet)
    → ticks n (circuit_of wires next pins) b ≡ ticks n (drawn f k sheet) b
ticks_parts n f k sheet wires next pins b ew ex ep = ap (λ (c : Circuit). ticks n c b) (same ew ex ep) ∙ go n b
  where
    same : {w w' x x' p p' : List ℕ} → w ≡ w' → x ≡ x' → p ≡ p' → circuit_of w x p ≡ circuit_of w' x' p'
    same ew ex ep = cc

    go : (n : ℕ) (b : Board) → ticks n (circuit_of (take (2 * k) (drop f sheet)) (take f (drop (f + 2 * k) sheet)) (take pin_count (drop (2 * f + 2 * k) sheet))) b ≡ ticks n (drawn f k sheet) b
    go zero b = refl
    go (suc n) b = go n (tick (drawn f k sheet) b)

-- flip-flop bytes that were made 0 or 1 stand for the same board
laid_levels : (state state1 mem : List ℕ) (read : ℕ) (tape : List ℕ) → state1 ≡ bytes (levels state) → laid state1 mem read tape ≡ laid state mem read tape
laid_levels state state1 mem read tape e =
    ap (λ (s : List Bool). let b : Board = record { state = s; mem = mem; read = read; tape = tape; out = []; halted = running } in b) (levels_of state1 (levels state) e)

module _ (a : Asked) (before : Lent) where
  -- enough work
  abbrev Enough : Type 0
  Enough = input_signals + (a.flops + a.gates) ≤ length before.work

  bad_sheet : (SoundCall a before → ⊥) → Enough → SpunPost a before before (Err BadSheet)
  bad_sheet bad l = record {
    says = (bad, refl);
    few_work = (λ h. absurd (omega arith), λ e. absurd (let z : ◌≡◌ {A = ℕ} 0 1 = cc in omega arith));
  }

  pub not_sound : (SoundSheet a.sheet a.flops a.gates → ⊥) → Enough → SpunPost a before before (Err BadSheet)
  not_sound bad l = bad_sheet (λ fits. bad (sound_from a.sheet a.flops a.gates before.state before.mem fits)) l

  module _ (ls : length before.state ≡ a.flops) (lm : length before.mem ≡ memory_size) (l : Enough)
      (wires next pins : List ℕ) (n : ℕ) (t : CutFrom a.sheet a.flops a.gates wires next pins n) where
    fits : SoundCall a before
    fits = fits_from a.sheet a.flops a.gates before.state before.mem t.sound ls lm

    -- the board that the cut sheet comes to from levels made 0 or 1
    module _ (state1 : List ℕ) (es : state1 ≡ bytes (levels before.state)) (after : Lent) where
      abbrev came_to : Board
      came_to = ticks a.cycles (circuit_of wires next pins) (laid state1 before.mem a.read a.tape)

      same : came_to ≡ spun_board a before
      same =
          ticks_parts a.cycles a.flops a.gates a.sheet wires next pins (laid state1 before.mem a.read a.tape) t.wires_is t.next_is t.pins_is
          ∙ ap (ticks a.cycles (drawn a.flops a.gates a.sheet)) (laid_levels before.state state1 before.mem a.read a.tape es)

      ran : (p : Port) → Went came_to after.state after.mem a.tape before.out after.out (Some p)
          → SpunPost a before after (Ok p)
      ran p w =
          let b : standing after.state after.mem a.tape after.out p ≡ spun_board a before = w.0 ∙ same in
          record {
            says = record {
              fits = fits;
              stands = record {
                state_is = ap (λ (x : Board). x.state) b;
                state_bits = subst (All (λ x. x < 2)) (sym w.1) (bytes_low (levels after.state));
                mem_is = ap (λ (x : Board). x.mem) b;
                read_is = ap (λ (x : Board). x.read) b;
                tape_is = ap (λ (x : Board). x.tape) b;
                taken_there = w.2.taken;
                out_is = ap (λ (x : Board). x.out) b;
                halt_is = ap (λ (x : Board). x.halted) b;
              };
              sent_there = w.2.sent;
              past_kept = w.2.left;
            };
            few_work = (λ h. absurd (omega arith), λ e. absurd (let z : ◌≡◌ {A = ℕ} 0 1 = cc in omega arith));
          }

      no_out : length before.out < length came_to.out → SpunPost a before after (Err NoOut)
      no_out w = record {
        says = (fits, subst (λ (x : Board). length before.out < length x.out) same w);
        few_work = (λ h. absurd (omega arith), λ e. absurd (let z : ◌≡◌ {A = ℕ} 0 1 = cc in omega arith));
      }

      pub went : (r : Option Port) → Went came_to after.state after.mem a.tape before.out after.out r → SpunPost a before after (ok_or r NoOut)
      went (Some p) w = ran p w
      went None w = no_out w
