-- Where words and instructions stand: an address and the number of its word, an instruction and its bytes.
use Rattle.std.proofs.Common.{◌≡◌, ℕ, zero, suc, ◌+◌, ◌-◌, ◌*◌, ◌/◌, ◌%◌, ◌<◌, ◌≤◌, Bool, true, false, ◌&&◌, if◌then◌else◌, List, [], ◌∷◌, ◌++◌, length, take, drop, Option, Some, None, slice_get, refl, sym, ap, ◌∙◌, subst, arith, eqb, leb, ltb, eq-eqb, le-leb, lt-ltb, eqb-true, leb-true, ltb-true, take_at, drop_at, drop-drop, length-append, append_assoc, append-nil}
use Rattle.std.proofs.lemmas.Option.{slice_get_within}
use Rattle.rv_code.specs.Bytes.{bytes_of}
use Rattle.rv_code.specs.Encode.{word_of}
use Rattle.rv_code.specs.declared.instruction.Inst.{Inst}
use Rattle.rv_code.proofs.ByteLaws.{length-bytes}
use Rattle.rv_asm.specs.Conventions.{code_bytes}
use Rattle.rv_asm.specs.WordMachine.{instruction_at, word_index, Has}

pub and-true : (a b : Bool) → a && b ≡ true → (a ≡ true) × (b ≡ true)
and-true true b e = (refl, e)
and-true false b e = absurd (cc)

if-some : {X : Type 0} (b : Bool) (x : Option X) (y : X) → (if b then x else None) ≡ Some y → (b ≡ true) × (x ≡ Some y)
if-some true x y e = (refl, e)
if-some false x y e = absurd (cc)

-- ---- words

-- the word i of a region of n words at `base` stands at the address
pub record IsPlace (base n address i : ℕ) : Type 0 where
  pub even : address % 8 ≡ 0
  pub is : address ≡ base + 8 * i
  pub inside : i < n

-- at an aligned address within the region there is its word
pub word_index-inside : (base n address i : ℕ) → base % 8 ≡ 0 → address ≡ base + 8 * i → i < n → word_index base n address ≡ Some i
unfolding word_index
word_index-inside base n address i b e h =
    let x : eqb (address % 8) 0 ≡ true = eq-eqb _ _ (omega arith) in
    let y : leb base address ≡ true = le-leb _ _ (omega arith) in
    let z : ltb address (base + 8 * n) ≡ true = lt-ltb _ _ (omega arith) in
    rw (x, y, z) (ap Some (omega arith))

-- and only there
pub word_index-is : (base n address i : ℕ) → base % 8 ≡ 0 → word_index base n address ≡ Some i → IsPlace base n address i
unfolding word_index
word_index-is base n address i b e =
    let s = if-some (eqb (address % 8) 0 && leb base address && ltb address (base + 8 * n)) (Some ((address - base) / 8)) i e in
    let p = and-true (eqb (address % 8) 0 && leb base address) (ltb address (base + 8 * n)) s.0 in
    let q = and-true (eqb (address % 8) 0) (leb base address) p.0 in
    let x = eqb-true _ _ q.0 in
    let y = leb-true _ _ q.1 in
    let z = ltb-true _ _ p.1 in
    let w : (address - base) / 8 ≡ i = cc in
    record { even = x; is = omega arith; inside = omega arith }

-- ---- instructions

-- an instruction stands at the address
pub record IsInstruction (code : List Inst) (pc : ℕ) (i : Inst) : Type 0 where
  pub aligned : pc % 4 ≡ 0
  pub behind : 65536 ≤ pc
  pub is : slice_get code ((pc - 65536) / 4) ≡ Some i
  pub inside : (pc - 65536) / 4 < length code

pub instruction_at-is : (code : List Inst) (pc : ℕ) (i : Inst) → instruction_at code pc ≡ Some i → IsInstruction code pc i
instruction_at-is code pc i e =
    let s = if-some (eqb (pc % 4) 0 && leb 65536 pc) (slice_get code ((pc - 65536) / 4)) i e in
    let q = and-true (eqb (pc % 4) 0) (leb 65536 pc) s.0 in
    record { aligned = eqb-true _ _ q.0; behind = leb-true _ _ q.1; is = s.1; inside = slice_get_within code ((pc - 65536) / 4) i s.1 }

-- the instruction number k stands 4 * k bytes behind the first
pub instruction_at-number : (code : List Inst) (k : ℕ) → instruction_at code (65536 + 4 * k) ≡ slice_get code k
instruction_at-number code k =
    let x : eqb ((65536 + 4 * k) % 4) 0 ≡ true = eq-eqb _ _ (omega arith) in
    let y : leb 65536 (65536 + 4 * k) ≡ true = le-leb _ _ (omega arith) in
    let z : (65536 + 4 * k - 65536) / 4 ≡ k = omega arith in
    rw (x, y, z) refl

pub length-code_bytes : (is : List Inst) → length (code_bytes is) ≡ 4 * length is
unfolding code_bytes
length-code_bytes [] = refl
length-code_bytes (i ∷ is) = length-append (bytes_of 4 (word_of i)) (code_bytes is) ∙ omega (arith, length-bytes 4 (word_of i), length-code_bytes is)

-- the four bytes of an instruction
pub take-code_bytes : (is : List Inst) (k : ℕ) (i : Inst) → slice_get is k ≡ Some i → take 4 (drop (4 * k) (code_bytes is)) ≡ bytes_of 4 (word_of i)
unfolding code_bytes
take-code_bytes [] k i e = absurd (cc)
take-code_bytes (j ∷ is) zero i e =
    let s : j ≡ i = cc in
    take_at (bytes_of 4 (word_of j)) (code_bytes is) 4 (length-bytes 4 (word_of j)) ∙ ap (λ i. bytes_of 4 (word_of i)) s
take-code_bytes (j ∷ is) (suc k) i e =
    let m : 4 * suc k ≡ 4 + 4 * k = omega arith in
    rw m (ap (take 4) (sym (drop-drop (4 * k) 4 (bytes_of 4 (word_of j) ++ code_bytes is)) ∙ ap (drop (4 * k)) (drop_at (bytes_of 4 (word_of j)) (code_bytes is) 4 (length-bytes 4 (word_of j)))) ∙ take-code_bytes is k i e)

-- ---- instructions that stand one behind another

pub Has-front : (code : List Inst) (pc : ℕ) (a b : List Inst) → Has code pc (a ++ b) → Has code pc a
Has-front code pc [] b h = tt
Has-front code pc (i ∷ a) b h = (h.0, Has-front code (pc + 4) a b h.1)

pub Has-back : (code : List Inst) (pc : ℕ) (a b : List Inst) → Has code pc (a ++ b) → Has code (pc + 4 * length a) b
Has-back code pc [] b h = let e : pc ≡ pc + 4 * 0 = omega arith in subst (λ n. Has code n b) e h
Has-back code pc (i ∷ a) b h =
    let e : pc + 4 + 4 * length a ≡ pc + 4 * length (i ∷ a) = omega arith in
    subst (λ n. Has code n b) e (Has-back code (pc + 4) a b h.1)

pub Has-append : (code : List Inst) (pc : ℕ) (a b : List Inst) → Has code pc a → Has code (pc + 4 * length a) b → Has code pc (a ++ b)
Has-append code pc [] b h k = let e : pc + 4 * 0 ≡ pc = omega arith in subst (λ n. Has code n b) e k
Has-append code pc (i ∷ a) b h k =
    let e : pc + 4 * length (i ∷ a) ≡ pc + 4 + 4 * length a = omega arith in
    (h.0, Has-append code (pc + 4) a b h.1 (subst (λ n. Has code n b) e k))

-- code stands in itself, behind what goes before
pub Has-part : (before is behind : List Inst) → Has (before ++ (is ++ behind)) (65536 + 4 * length before) is
Has-part before [] behind = tt
Has-part before (i ∷ is) behind =
    let code = before ++ ((i ∷ is) ++ behind) in
    let first : slice_get code (length before) ≡ Some i = slice_get-behind before (is ++ behind) i in
    let e : 65536 + 4 * length (before ++ (i ∷ [])) ≡ 65536 + 4 * length before + 4 = omega (arith, length-append before (i ∷ [])) in
    let same : (before ++ (i ∷ [])) ++ (is ++ behind) ≡ code = append_assoc before (i ∷ []) (is ++ behind) in
    (instruction_at-number code (length before) ∙ first, subst (λ n. Has code n is) e (subst (λ c. Has c (65536 + 4 * length (before ++ (i ∷ []))) is) same (Has-part (before ++ (i ∷ [])) is behind)))
  where
    slice_get-behind : (before behind : List Inst) (i : Inst) → slice_get (before ++ (i ∷ behind)) (length before) ≡ Some i
    slice_get-behind [] behind i = refl
    slice_get-behind (j ∷ before) behind i = slice_get-behind before behind i

pub Has-whole : (code : List Inst) → Has code 65536 code
Has-whole code = subst (λ c. Has c 65536 code) (append-nil code) (Has-part [] code [])
