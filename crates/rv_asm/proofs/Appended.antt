-- Pieces that are appended one behind another.
use Rattle.std.proofs.Common.{◌≡◌, ℕ, zero, suc, ◌+◌, ◌-◌, ◌*◌, ◌^◌, ◌<◌, ◌≤◌, List, [], ◌∷◌, ◌++◌, map, ℤ, pos, refl, sym, ap, ◌∙◌, arith, append_assoc, append-nil}
use Rattle.std.proofs.lemmas.List.{map-append}
use Rattle.std.proofs.lemmas.Nat.{pow-add}
use Rattle.rv_code.specs.declared.instruction.Inst.{Inst}
use Rattle.rv_code.specs.declared.instruction.Inst.TheVariants.{OpImm, Shift, Load, Store}
use Rattle.rv_code.specs.declared.instruction.LoadOp.TheVariants.{Ld}
use Rattle.rv_code.specs.declared.instruction.OpImmOp.TheVariants.{Addi}
use Rattle.rv_code.specs.declared.instruction.ShiftOp.TheVariants.{Slli}
use Rattle.rv_code.specs.declared.instruction.StoreOp.TheVariants.{Sd}
use Rattle.rv_asm.specs.Assembly.{Listing}
use Rattle.rv_asm.specs.Pieces.{appended, low_part, high_part, load_parts, copy_words}
use Rattle.rv_asm.specs.declared.item.Item.TheVariants.{Plain}

pub appended-none : (l : Listing) → appended l [] ≡ l
appended-none l = ap (λ is. record l { items = is }) (append-nil l.items)

pub appended-appended : (l : Listing) (a b : List Inst) → appended (appended l a) b ≡ appended l (a ++ b)
appended-appended l a b =
    ap (λ is. record l { items = is }) (append_assoc l.items (map Plain a) (map Plain b) ∙ ap (λ k. l.items ++ k) (sym (map-append Plain a b)))

-- what is above the low part of a value needs one part fewer
pub high_part-below : (k value : ℕ) → 0 < k → value ≤ 2 ^ (28 + 12 * k) → high_part value ≤ 2 ^ (28 + 12 * (k - 1))
high_part-below zero value some h = absurd (omega arith)
high_part-below (suc k) value some h =
    let p : 28 + 12 * suc k ≡ 28 + 12 * (suc k - 1) + 12 = omega arith in
    let s = rw (p, pow-add) at h in
    omega (arith, s)

pub load_parts-some : (k rd value : ℕ) → 0 < k → load_parts k rd value ≡ load_parts (k - 1) rd (high_part value) ++ (Shift Slli rd rd 12 ∷ OpImm Addi rd rd (low_part value) ∷ [])
load_parts-some zero rd value some = absurd (omega arith)
load_parts-some (suc k) rd value some =
    let e : suc k - 1 ≡ k = omega arith in
    rw e refl

-- the last part of a value is appended
pub appended-load_parts :
    (k rd value : ℕ) (old l l1 l2 : Listing) → 0 < k →
    l ≡ appended old (load_parts (k - 1) rd (high_part value)) →
    l1 ≡ appended l (Shift Slli rd rd 12 ∷ []) → l2 ≡ appended l1 (OpImm Addi rd rd (low_part value) ∷ []) →
    l2 ≡ appended old (load_parts k rd value)
appended-load_parts k rd value old l l1 l2 some so_far f g =
    let shift = Shift Slli rd rd 12 in
    let add = OpImm Addi rd rd (low_part value) in
    g ∙ ap (λ k. appended k (add ∷ [])) f ∙ appended-appended l (shift ∷ []) (add ∷ [])
    ∙ ap (λ k. appended k (shift ∷ add ∷ [])) so_far
    ∙ appended-appended old (load_parts (k - 1) rd (high_part value)) (shift ∷ add ∷ [])
    ∙ ap (appended old) (sym (load_parts-some k rd value some))

-- a copy is one of its first words and one of the others
pub copy_words-split :
    (i n scratch source from target to : ℕ) →
    copy_words (i + n) scratch source from target to
    ≡ copy_words i scratch source from target to ++ copy_words n scratch source (from + i) target (to + i)
copy_words-split zero n scratch source from target to =
    let m : 0 + n ≡ n = omega arith in
    let p : from + 0 ≡ from = omega arith in
    let q : to + 0 ≡ to = omega arith in
    rw (m, p, q) refl
copy_words-split (suc i) n scratch source from target to =
    let m : suc i + n ≡ suc (i + n) = omega arith in
    let p : from + suc i ≡ from + 1 + i = omega arith in
    let q : to + suc i ≡ to + 1 + i = omega arith in
    let load = Load Ld scratch source (pos (8 * from)) in
    let store = Store Sd target scratch (pos (8 * to)) in
    rw (m, p, q) (ap (λ rest. load ∷ store ∷ rest) (copy_words-split i n scratch source (from + 1) target (to + 1)))

-- the instructions of one more word
pub copy_words-more :
    (i scratch source from target to : ℕ) →
    copy_words (i + 1) scratch source from target to
    ≡ copy_words i scratch source from target to
    ++ (Load Ld scratch source (pos (8 * (from + i))) ∷ Store Sd target scratch (pos (8 * (to + i))) ∷ [])
copy_words-more i scratch source from target to = copy_words-split i 1 scratch source from target to

-- the instructions of one more word are appended
pub appended-copy_words_more :
    (old l l1 l2 : Listing) (i scratch source from target to : ℕ) (z1 z2 : ℤ) →
    z1 ≡ pos (8 * (from + i)) → z2 ≡ pos (8 * (to + i)) →
    l ≡ appended old (copy_words i scratch source from target to) →
    l1 ≡ appended l (Load Ld scratch source z1 ∷ []) → l2 ≡ appended l1 (Store Sd target scratch z2 ∷ []) →
    l2 ≡ appended old (copy_words (i + 1) scratch source from target to)
appended-copy_words_more old l l1 l2 i scratch source from target to z1 z2 e1 e2 so_far f g =
    let load = Load Ld scratch source (pos (8 * (from + i))) in
    let store = Store Sd target scratch (pos (8 * (to + i))) in
    let copied = copy_words i scratch source from target to in
    let first : l1 ≡ appended l (load ∷ []) = f ∙ ap (λ z. appended l (Load Ld scratch source z ∷ [])) e1 in
    let second : l2 ≡ appended l1 (store ∷ []) = g ∙ ap (λ z. appended l1 (Store Sd target scratch z ∷ [])) e2 in
    second ∙ ap (λ k. appended k (store ∷ [])) first ∙ appended-appended l (load ∷ []) (store ∷ [])
    ∙ ap (λ k. appended k (load ∷ store ∷ [])) so_far ∙ appended-appended old copied (load ∷ store ∷ [])
    ∙ ap (appended old) (sym (copy_words-more i scratch source from target to))
