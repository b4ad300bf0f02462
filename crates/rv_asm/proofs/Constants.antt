-- A constant is in its register after its piece of code, and no other register has changed.
use Rattle.std.proofs.Common.{◌≡◌, ℕ, zero, suc, ◌+◌, ◌-◌, ◌*◌, ◌%◌, ◌^◌, ◌<◌, ◌≤◌, Bool, true, false, if◌then◌else◌, List, [], ◌∷◌, length, ℤ, All, eqb, eq-eqb, pos, negsuc, refl, ap, ap₂, ◌∙◌, subst, arith, length-append, ltb, leb, lt-ltb, ltb-true, leb-true}
use Rattle.std.proofs.lemmas.Nat.{pow-add}
use Rattle.std.proofs.lemmas.List.Elements.{All-append}
use Rattle.rv_code.specs.Encode.{is_encodable, has_bits}
use Rattle.rv_code.proofs.Integers.{has_bits-integer}
use Rattle.rv_code.specs.Arithmetic.{wrap, unsigned}
use Rattle.rv_code.specs.declared.instruction.Inst.{Inst}
use Rattle.rv_code.specs.declared.instruction.Inst.TheVariants.{OpImm, Shift}
use Rattle.rv_code.specs.declared.instruction.OpImmOp.TheVariants.{Addi}
use Rattle.rv_code.specs.declared.instruction.ShiftOp.TheVariants.{Slli}
use Rattle.rv_asm.specs.Pieces.{low_part, high_part, load_parts, parts_of, load_constant}
use Rattle.rv_asm.specs.WordMachine.{WordState, Goes, get, put, run_words, Has}
use Rattle.rv_asm.proofs.Encodings.{All-each_encodes}
use Rattle.rv_asm.proofs.Places.{Has-front, Has-back}
use Rattle.rv_asm.proofs.Registers.{get-put_same, put-put}
use Rattle.rv_asm.proofs.Stretches.{then-runs}

length-load_parts : (k rd n : ℕ) → length (load_parts k rd n) ≡ 2 * k + 2
length-load_parts zero rd n = refl
length-load_parts (suc k) rd n = length-append (load_parts k rd (high_part n)) _ ∙ omega (arith, length-load_parts k rd (high_part n))

first-value : (n : ℕ) → n < 2 ^ 30 → wrap (high_part n * 4096 + unsigned (low_part n)) ≡ wrap n
first-value n h = grind arith

next-value : (n : ℕ) → wrap (wrap (wrap (high_part n) * 2 ^ 12) + unsigned (low_part n)) ≡ wrap n
next-value n = grind arith

-- register d + 1 is set to v, and so many instructions are done
abbrev with_value : WordState → (d v instructions : ℕ) → WordState
with_value c d v instructions = record c { pc = c.pc + 4 * instructions; registers = put c.registers (suc d) v }

module _ (base : ℕ) (code : List Inst) where
  last-two :
      (c : WordState) (d n : ℕ) → get c.registers (suc d) ≡ wrap (high_part n) →
      Has code c.pc (Shift Slli (suc d) (suc d) 12 ∷ OpImm Addi (suc d) (suc d) (low_part n) ∷ []) →
      run_words base code 2 c ≡ Goes (record c { pc = c.pc + 4 + 4; registers = put c.registers (suc d) (wrap n) })
  last-two c d n g h =
      let v = wrap (get c.registers (suc d) * 2 ^ 12) in
      let x = unsigned (low_part n) in
      let e : wrap (get (put c.registers (suc d) v) (suc d) + x) ≡ wrap n =
      ap (λ y. wrap (y + x)) (get-put_same c.registers d v) ∙ ap (λ y. wrap (wrap (y * 2 ^ 12) + x)) g ∙ next-value n in
      rw (h.0, h.1.0) (ap (λ r. Goes (record c { pc = c.pc + 4 + 4; registers = r })) (ap (put (put c.registers (suc d) v) (suc d)) e ∙ put-put c.registers (suc d) v (wrap n)))

  first-two :
      (c : WordState) (d n : ℕ) → n < 2 ^ 30 → Has code c.pc (load_parts 0 (suc d) n) →
      run_words base code 2 c ≡ Goes (record c { pc = c.pc + 4 + 4; registers = put c.registers (suc d) (wrap n) })
  first-two c d n b h =
      let v = high_part n * 4096 in
      let x = unsigned (low_part n) in
      let e : wrap (get (put c.registers (suc d) v) (suc d) + x) ≡ wrap n = ap (λ y. wrap (y + x)) (get-put_same c.registers d v) ∙ first-value n b in
      rw (h.0, h.1.0) (ap (λ r. Goes (record c { pc = c.pc + 4 + 4; registers = r })) (ap (put (put c.registers (suc d) v) (suc d)) e ∙ put-put c.registers (suc d) v (wrap n)))

  load_parts-runs :
      (k d n : ℕ) (c : WordState) → n ≤ 2 ^ (28 + 12 * k) → Has code c.pc (load_parts k (suc d) n) →
      run_words base code (2 * k + 2) c ≡ Goes (with_value c d (wrap n) (2 * k + 2))
  load_parts-runs zero d n c b h =
      first-two c d n (omega arith) h ∙ ap (λ p. Goes (record c { pc = p; registers = put c.registers (suc d) (wrap n) })) (omega arith)
  load_parts-runs (suc k) d n c b h =
      let m = high_part n in
      let l : 2 * suc k + 2 ≡ 2 * k + 2 + 2 = omega arith in
      let p : 28 + 12 * suc k ≡ 28 + 12 * k + 12 = omega arith in
      let s = rw (p, pow-add) at b in
      let below : m ≤ 2 ^ (28 + 12 * k) = omega (arith, s) in
      let mid = with_value c d (wrap m) (2 * k + 2) in
      let front = load_parts-runs k d m c below (Has-front code c.pc (load_parts k (suc d) m) _ h) in
      let at2 = subst (λ l. Has code (c.pc + 4 * l) (Shift Slli (suc d) (suc d) 12 ∷ OpImm Addi (suc d) (suc d) (low_part n) ∷ [])) (length-load_parts k (suc d) m) (Has-back code c.pc (load_parts k (suc d) m) _ h) in
      let ends = last-two mid d n (get-put_same c.registers d (wrap m)) at2 in
      rw l (then-runs base code (2 * k + 2) 2 c mid _ front ends ∙ ap₂ (λ p r. Goes (record c { pc = p; registers = r })) (omega arith) (put-put c.registers (suc d) (wrap m) (wrap n)))

-- ---- the choice of a piece

if-cases : {A : Type 0} (P : A → Type 0) (b : Bool) (x y : A) → (b ≡ true → P x) → (b ≡ false → P y) → P (if b then x else y)
if-cases P true x y f g = f refl
if-cases P false x y f g = g refl

parts_of-cases : (value : ℕ) (P : ℕ → Type 0) → (value ≤ 2 ^ 28 → P 0) → (value ≤ 2 ^ 40 → P 1) → (value ≤ 2 ^ 52 → P 2) → P 3 → P (parts_of value)
parts_of-cases value P a b c d =
    if-cases P (leb value (2 ^ 28)) 0 _ (λ e. a (leb-true _ _ e))
    (λ _. if-cases P (leb value (2 ^ 40)) 1 _ (λ e. b (leb-true _ _ e)) (λ _. if-cases P (leb value (2 ^ 52)) 2 3 (λ e. c (leb-true _ _ e)) (λ _. d)))

load_constant-cases :
    (rd value : ℕ) (P : List Inst → Type 0) → (value < 2048 → P (OpImm Addi rd 0 (pos value) ∷ [])) →
    (2 ^ 64 - 2048 ≤ value → P (OpImm Addi rd 0 (negsuc (2 ^ 64 - 1 - value)) ∷ [])) → P (load_parts (parts_of value) rd value) →
    P (load_constant rd value)
load_constant-cases rd value P a b c =
    if-cases P (ltb value 2048) _ _ (λ e. a (ltb-true _ _ e))
    (λ _. if-cases P (leb (2 ^ 64 - 2048) value) _ _ (λ e. b (leb-true _ _ e)) (λ _. c))

parts_of-enough : (value : ℕ) → value < 2 ^ 64 → value ≤ 2 ^ (28 + 12 * parts_of value)
parts_of-enough value h = parts_of-cases value (λ k. value ≤ 2 ^ (28 + 12 * k)) (λ a. a) (λ b. b) (λ c. c) (omega arith)

parts_of-few : (value : ℕ) → parts_of value ≤ 3
parts_of-few value = parts_of-cases value (λ k. k ≤ 3) (λ _. omega arith) (λ _. omega arith) (λ _. omega arith) (omega arith)

-- at most 8 instructions
pub length-load_constant : (rd value : ℕ) → length (load_constant rd value) ≤ 8
length-load_constant rd value =
    load_constant-cases rd value (λ is. length is ≤ 8) (λ _. omega arith) (λ _. omega arith)
    (omega (arith, length-load_parts (parts_of value) rd value, parts_of-few value))

-- and at least one
pub length-load_constant_some : (rd value : ℕ) → 0 < length (load_constant rd value)
length-load_constant_some rd value =
    load_constant-cases rd value (λ is. 0 < length is) (λ _. omega arith) (λ _. omega arith)
    (omega (arith, length-load_parts (parts_of value) rd value))

-- ---- the piece runs

module _ (base : ℕ) (code : List Inst) where
  -- a piece puts a value into a register, and changes nothing else but the pc
  abbrev pub Puts : (rd value : ℕ) (c : WordState) → List Inst → Type 0
  Puts rd value c is = Has code c.pc is → run_words base code (length is) c ≡ Goes (record c { pc = c.pc + 4 * length is; registers = put c.registers rd value })

  one-puts : (rd value : ℕ) (z : ℤ) (c : WordState) → wrap (0 + unsigned z) ≡ value → Puts rd value c (OpImm Addi rd 0 z ∷ [])
  one-puts rd value z c e h = rw (h.0, e) (ap (λ p. Goes (record c { pc = p; registers = put c.registers rd value })) (omega arith))

  -- the constant is in its register
  pub load_constant-runs : (rd value : ℕ) (c : WordState) → 0 < rd → value < 2 ^ 64 → Puts rd value c (load_constant rd value)
  load_constant-runs zero value c some h = absurd (omega arith)
  load_constant-runs (suc d) value c some h =
      let w : wrap value ≡ value = omega arith in
      load_constant-cases (suc d) value (Puts (suc d) value c)
      (λ small. one-puts (suc d) value (pos value) c (omega arith))
      (λ large. one-puts (suc d) value (negsuc (2 ^ 64 - 1 - value)) c (omega arith))
      (λ has.
      let k = parts_of value in
      let r = load_parts-runs base code k d value c (parts_of-enough value h) has in
      let l = length-load_parts k (suc d) value in
      rw (l) (r ∙ ap (λ v. Goes (with_value c d v (2 * k + 2))) w))

-- ---- the piece encodes

-- the low part of a value is in the format of its instruction
low_part-fits : (value : ℕ) → has_bits 12 (low_part value) ≡ true
low_part-fits value = has_bits-integer 12 (value % 4096) (omega arith) (omega arith)

load_parts-encodable : (k rd value : ℕ) → rd < 32 → value ≤ 2 ^ (28 + 12 * k) → All (λ i. is_encodable i ≡ true) (load_parts k rd value)
load_parts-encodable zero rd value r h =
    let a : ltb rd 32 ≡ true = lt-ltb _ _ r in
    let b : ltb (high_part value * 4096) (2 ^ 31) ≡ true = lt-ltb _ _ (omega arith) in
    let c : eqb (high_part value * 4096 % 4096) 0 ≡ true = eq-eqb _ _ (omega arith) in
    All-each_encodes (load_parts 0 rd value) (rw (a, b, c) refl, (rw (a, low_part-fits value) refl, tt))
load_parts-encodable (suc k) rd value r h =
    let a : ltb rd 32 ≡ true = lt-ltb _ _ r in
    let p : 28 + 12 * suc k ≡ 28 + 12 * k + 12 = omega arith in
    let s = rw (p, pow-add) at h in
    let below : high_part value ≤ 2 ^ (28 + 12 * k) = omega (arith, s) in
    All-append (λ i. is_encodable i ≡ true) (load_parts k rd (high_part value)) _ (load_parts-encodable k rd (high_part value) r below)
    (All-each_encodes (Shift Slli rd rd 12 ∷ OpImm Addi rd rd (low_part value) ∷ []) (rw a refl, (rw (a, low_part-fits value) refl, tt)))

pub load_constant-encodable : (rd value : ℕ) → rd < 32 → value < 2 ^ 64 → All (λ i. is_encodable i ≡ true) (load_constant rd value)
load_constant-encodable rd value r h =
    let a : ltb rd 32 ≡ true = lt-ltb _ _ r in
    load_constant-cases rd value (All (λ i. is_encodable i ≡ true))
    (λ small. let b : ltb value (2 ^ 11) ≡ true = lt-ltb _ _ small in All-each_encodes (OpImm Addi rd 0 (pos value) ∷ []) (rw (a, b) refl, tt))
    (λ large. let b : ltb (2 ^ 64 - 1 - value) (2 ^ 11) ≡ true = lt-ltb _ _ (omega arith) in All-each_encodes (OpImm Addi rd 0 (negsuc (2 ^ 64 - 1 - value)) ∷ []) (rw (a, b) refl, tt))
    (load_parts-encodable (parts_of value) rd value r (parts_of-enough value h))
