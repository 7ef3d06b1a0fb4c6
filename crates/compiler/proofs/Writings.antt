-- Writing instructions into an image: one more of a row; one piece of code after another; what all of them make of an image.
use Rattle.std.proofs.Common.{◌≡◌, ℕ, zero, suc, ◌+◌, ◌<◌, List, [], ◌∷◌, ◌++◌, map, length, get_or, drop, sym, ap, ◌∙◌, arith, drop-cons}
use Rattle.words.specs.Words.{put}
use Rattle.codegen.specs.Instructions.{Instruction, encode, WithinWidths, past}
use Rattle.compiler.specs.declared.instructions.Instruction.{Instruction as Written}
use Rattle.compiler.specs.Writing.{meaning, AllWithin, put_all, Emits}

-- One more of a row.
pub within_at : (xs : List Written) (i : ℕ) (d : Written) → AllWithin (map meaning xs) → i < length xs → WithinWidths (meaning (get_or xs i d))
within_at [] i d h b = absurd (omega arith)
within_at (x ∷ xs) zero d h b = h.0
within_at (x ∷ xs) (suc i) d h b = within_at xs i d h.1 (omega arith)

pub write_more : (xs : List Written) (i : ℕ) (d : Written) (m : List ℕ) (at w : ℕ) (rest : List Instruction) → i < length xs → w ≡ encode (meaning (get_or xs i d)) →
    put_all m at (map meaning (drop i xs) ++ rest) ≡ put_all (put m at w) (at + 1) (map meaning (drop (i + 1) xs) ++ rest)
write_more xs i d m at w rest h e =
    let next : i + 1 ≡ suc i = omega arith in
    let place : suc at ≡ at + 1 = omega arith in
    let left : List Instruction = map meaning (drop (suc i) xs) ++ rest in
    ap (λ (l : List Written). put_all m at (map meaning l ++ rest)) (drop-cons xs i d h)
    ∙ ap (λ (v : ℕ). put_all (put m at v) (suc at) left) (sym e)
    ∙ ap (λ (p : ℕ). put_all (put m at w) p left) place
    ∙ ap (λ (j : ℕ). put_all (put m at w) (at + 1) (map meaning (drop j xs) ++ rest)) (sym next)

pub past_length : (is : List Instruction) (at : ℕ) → past is at ≡ at + length is
past_length [] at = omega arith
past_length (i ∷ is) at = let e = past_length is (suc at) in omega arith

-- One piece of code after another.
pub emits_both : {first second : List Instruction → List Instruction} {end end' at p r : ℕ} {m m' m'' : List ℕ} →
    Emits first end at m p m' → Emits second end' p m' r m'' → Emits (λ rest. first (second rest)) end' at m r m''
emits_both {second = second} a b = record { ends = b.ends; words = λ rest. a.words (second rest) ∙ b.words rest }
