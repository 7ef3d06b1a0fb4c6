-- All of a program's code: one more procedure; the start before them; written over zeros it is the image.
use Rattle.std.proofs.Common.{◌≡◌, ℕ, zero, suc, ◌+◌, ◌-◌, List, [], ◌∷◌, ◌++◌, map, length, set, replicate, sym, refl, ap, ◌∙◌, arith}
use Rattle.words.specs.Words.{memory_size}
use Rattle.language.specs.Language.{Proc, Program}
use Rattle.codegen.specs.Codegen.{end_of_proc, code_proc, code_procs, start_code, first_proc, entry, code}
use Rattle.codegen.specs.Instructions.{Instruction, encode}
use Rattle.codegen.proofs.Limits.{within_limits}
use Rattle.codegen.proofs.Sizes.{code_length, end_within}
use Rattle.compiler.specs.Writing.{put_all, Emits, Writes}
use Rattle.compiler.specs.Procs.{IsImage}
use Rattle.language.specs.Held.{HeldProgram}
use Rattle.language.specs.declared.parsed.Parsed.{Parsed}

pub procs_more : (g : Program) (p : Proc) (ps qs : List Proc) (at r : ℕ) (m m' : List ℕ) → qs ≡ p ∷ ps → Emits (λ rest. code_proc g p at rest) (end_of_proc p at) at m r m' → put_all m at (code_procs g qs at) ≡ put_all m' r (code_procs g ps r)
procs_more g p ps qs at r m m' e x =
    ap (λ (z : List Proc). put_all m at (code_procs g z at)) e ∙ x.words (code_procs g ps (end_of_proc p at)) ∙ ap (λ (z : ℕ). put_all m' r (code_procs g ps z)) (sym x.ends)

pub program_whole : (g : Program) (q r : ℕ) (m m₁ m' : List ℕ) → q ≡ entry g 0 → Writes (start_code q) 0 m r m₁ → put_all m₁ r (code_procs g g.procs r) ≡ m' → m' ≡ put_all m 0 (code g)
program_whole g q r m m₁ m' e x h =
    let written : put_all m 0 (start_code q ++ code_procs g g.procs first_proc) ≡ put_all m₁ r (code_procs g g.procs first_proc) = x.words (code_procs g g.procs first_proc) in
    let all : put_all m 0 (code g) ≡ m' = ap (λ (z : ℕ). put_all m 0 (start_code z ++ code_procs g g.procs first_proc)) (sym e) ∙ written ∙ ap (λ (z : ℕ). put_all m₁ r (code_procs g g.procs z)) (sym x.ends) ∙ h in
    sym all

-- Over zeros.
pub put_front : (front : List ℕ) (w x : ℕ) (more : List ℕ) → set (front ++ (x ∷ more)) (length front) w ≡ (front ++ (w ∷ [])) ++ more
put_front [] w x more = refl
put_front (y ∷ ys) w x more = ap (λ (l : List ℕ). y ∷ l) (put_front ys w x more)

pub joined : (front : List ℕ) (w : ℕ) (more : List ℕ) → (front ++ (w ∷ [])) ++ more ≡ front ++ (w ∷ more)
joined [] w more = refl
joined (y ∷ ys) w more = ap (λ (l : List ℕ). y ∷ l) (joined ys w more)

pub longer : (front : List ℕ) (w : ℕ) → suc (length front) ≡ length (front ++ (w ∷ []))
longer [] w = refl
longer (y ∷ ys) w = ap suc (longer ys w)

pub over_zeros : (is : List Instruction) (front : List ℕ) (k n : ℕ) → k ≡ length is + n → put_all (front ++ replicate k 0) (length front) is ≡ front ++ (map encode is ++ replicate n 0)
over_zeros [] front k n e = let same : k ≡ n = omega arith in ap (λ (z : ℕ). front ++ replicate z 0) same
over_zeros (i ∷ is) front zero n e = absurd (omega arith)
over_zeros (i ∷ is) front (suc k) n e =
    let w : ℕ = encode i in
    ap (λ (m : List ℕ). put_all m (suc (length front)) is) (put_front front w 0 (replicate k 0))
    ∙ ap (λ (z : ℕ). put_all ((front ++ (w ∷ [])) ++ replicate k 0) z is) (longer front w)
    ∙ over_zeros is (front ++ (w ∷ [])) k n (omega arith)
    ∙ joined front w (map encode is ++ replicate n 0)

pub is_image : (p : Parsed) (g : Program) (n : ℕ) (m : List ℕ) → HeldProgram p g → n ≡ memory_size → m ≡ put_all (replicate n 0) 0 (code g) → IsImage g m
is_image p g n m h e x =
    let within = within_limits g h.within in
    let few = code_length g within in
    let short = end_within g within in
    x ∙ over_zeros (code g) [] n (memory_size - length (code g)) (omega arith)
