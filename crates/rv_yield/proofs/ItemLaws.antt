-- How much code there is for a yielder, and that it places no label and calls nothing.
use Rattle.std.proofs.Common.{◌≡◌, ⊎_elim, ℕ, zero, suc, ◌+◌, ◌-◌, ◌*◌, ◌^◌, ◌≤◌, Bool, true, false, ◌||◌, if◌then◌else◌, List, [], ◌∷◌, ◌++◌, map, Option, Some, None, ℤ, pos, int_lt, refl, sym, ap, ◌∙◌, arith, append_assoc, append-nil, ltb, leb}
use Rattle.std.proofs.lemmas.List.Sums.{sum_by-append}
use Rattle.rv_code.proofs.Bools.{true-or-false}
use Rattle.rv_code.specs.declared.instruction.Inst.{Inst}
use Rattle.rv_asm.specs.Assembly.{total, is_placed, is_mark}
use Rattle.rv_asm.specs.Conventions.{integer_word, truth_word}
use Rattle.rv_asm.specs.Pieces.{high_part, load_parts, parts_of, load_constant}
use Rattle.rv_asm.specs.declared.item.Item.{Item}
use Rattle.rv_asm.specs.declared.item.Item.TheVariants.{Plain}
use Rattle.rv_asm.proofs.Constants.{length-load_constant}
use Rattle.rv_asm.proofs.Labels.{total-append}
use Rattle.rv_asm.proofs.LabelsKept.{placed-push}
use Rattle.rv_asm.proofs.Sending.{total-plain}
use Rattle.action_terms.specs.Actions.{Two, Sum, Difference, Product, Quotient, Remainder, Is, Less, BothOf, EitherOf, One, Negation, Not, Yielder, NumberLiteral, TruthLiteral, Given, GivenAt, BoundTo, StoredIn, OnTwo, OnOne, ClosureOf}
use Rattle.action_terms.specs.Need.{yielder_count}
use Rattle.rv_yield.specs.Calls.{is_call, calls}
use Rattle.rv_yield.specs.Holding.{Places, only_offset, nth_offset, slot_offset}
use Rattle.rv_yield.specs.Registers.{registers_needed}
use Rattle.rv_yield.specs.YielderCode.{operation_items, one_items, addition_items, content_items, load_items, placed_items, store_items, in_order, second_constant, first_constant, of_literal, addend_for, either_adding, value_items}
use Rattle.rv_yield.proofs.Given.{length-load}

-- no label is placed, and nothing is called
abbrev pub Unmarked : List Item → Type 0
Unmarked [] = Unit {0}
Unmarked (x ∷ xs) = ((is_mark x || is_call x) ≡ false) × Unmarked xs

unmarked-append : (a b : List Item) → Unmarked a → Unmarked b → Unmarked (a ++ b)
unmarked-append [] b h k = k
unmarked-append (x ∷ a) b h k = (h.0, unmarked-append a b h.1 k)

neither : (p q : Bool) → (p || q) ≡ false → (p ≡ false) × (q ≡ false)
neither false false h = (refl, refl)
neither true q h = absurd (let r : true ≡ false = h in cc)
neither false true h = absurd (let r : true ≡ false = h in cc)

pub placed-unmarked : (a b : List Item) (l : ℕ) → Unmarked b → is_placed (a ++ b) l ≡ is_placed a l
placed-unmarked a [] l h = ap (λ i. is_placed i l) (append-nil a)
placed-unmarked a (x ∷ b) l h =
    ap (λ i. is_placed i l) (sym (append_assoc a (x ∷ []) b)) ∙ placed-unmarked (a ++ x ∷ []) b l h.1 ∙ placed-push a x l (neither (is_mark x) (is_call x) h.0).0

no-calls : (b : List Item) → Unmarked b → calls b ≡ 0
no-calls [] h = refl
no-calls (x ∷ b) h = rw (neither (is_mark x) (is_call x) h.0).1 (no-calls b h.1)

-- behind what is unmarked there are as many calls as before
pub calls-unmarked : (a b : List Item) → Unmarked b → calls (a ++ b) ≡ calls a
calls-unmarked a b h =
    let both : calls (a ++ b) ≡ calls a + calls b = sum_by-append _ a b in
    omega (arith, both, no-calls b h)

-- ---- instructions that call nothing

abbrev pub AreQuiet : List Inst → Type 0
AreQuiet [] = Unit {0}
AreQuiet (i ∷ is) = (is_call (Plain i) ≡ false) × AreQuiet is

pub unmarked-plain : (is : List Inst) → AreQuiet is → Unmarked (map Plain is)
unmarked-plain [] h = tt
unmarked-plain (i ∷ is) h = (h.0, unmarked-plain is h.1)

pub quiet-append : (a b : List Inst) → AreQuiet a → AreQuiet b → AreQuiet (a ++ b)
quiet-append [] b h k = k
quiet-append (i ∷ a) b h k = (h.0, quiet-append a b h.1 k)

quiet-if : (b : Bool) (x y : List Inst) → AreQuiet x → AreQuiet y → AreQuiet (if b then x else y)
quiet-if true x y h k = h
quiet-if false x y h k = k

quiet-parts : (n to w : ℕ) → AreQuiet (load_parts n to w)
quiet-parts zero to w = (refl, (refl, tt))
quiet-parts (suc n) to w = quiet-append (load_parts n to (high_part w)) _ (quiet-parts n to (high_part w)) (refl, (refl, tt))

quiet-constant : (to w : ℕ) → AreQuiet (load_constant to w)
quiet-constant to w = quiet-if (ltb w 2048) _ _ (refl, tt) (quiet-if (leb (2 ^ 64 - 2048) w) _ _ (refl, tt) (quiet-parts (parts_of w) to w))

pub quiet-load : (to offset : ℕ) → AreQuiet (load_items to offset)
quiet-load to offset = quiet-if (ltb offset 256) _ _ (refl, tt) (quiet-append (load_constant to (8 * offset)) _ (quiet-constant to (8 * offset)) (refl, (refl, tt)))

pub quiet-store : (offset : ℕ) → AreQuiet (store_items offset)
quiet-store offset = quiet-if (ltb offset 256) _ _ (refl, tt) (quiet-append (load_constant 11 (8 * offset)) _ (quiet-constant 11 (8 * offset)) (refl, (refl, tt)))

-- so few instructions, no label and no call
pub record IsShort (limit : ℕ) (items : List Item) : Type 0 where
  pub few : total items ≤ limit
  pub unmarked : Unmarked items

pub short-append : (m n k : ℕ) (a b : List Item) → m + n ≤ k → IsShort m a → IsShort n b → IsShort k (a ++ b)
short-append m n k a b le h h' = record { few = omega (arith, total-append a b, h.few, h'.few, le); unmarked = unmarked-append a b h.unmarked h'.unmarked }

short-if : (n : ℕ) (b : Bool) (x y : List Item) → IsShort n x → IsShort n y → IsShort n (if b then x else y)
short-if n true x y h k = h
short-if n false x y h k = k

operation-short : (f : Two) (to a b l : ℕ) → IsShort 12 (operation_items f to a b l)
operation-short Sum to a b l =
    short-if 12 (ltb a b) _ _ (record { few = omega arith; unmarked = (refl, (refl, (refl, (refl, tt)))) }) (record { few = omega arith; unmarked = (refl, (refl, (refl, (refl, tt)))) })
operation-short Difference to a b l = record { few = omega arith; unmarked = (refl, (refl, (refl, (refl, tt)))) }
operation-short Product to a b l = record { few = omega arith; unmarked = (refl, (refl, (refl, (refl, tt)))) }
operation-short Quotient to a b l = record { few = omega arith; unmarked = (refl, (refl, (refl, (refl, (refl, (refl, (refl, (refl, tt)))))))) }
operation-short Remainder to a b l = record { few = omega arith; unmarked = (refl, (refl, tt)) }
operation-short Is to a b l = record { few = omega arith; unmarked = (refl, (refl, tt)) }
operation-short Less to a b l = record { few = omega arith; unmarked = (refl, tt) }
operation-short BothOf to a b l = record { few = omega arith; unmarked = (refl, tt) }
operation-short EitherOf to a b l = record { few = omega arith; unmarked = (refl, tt) }

one-short : (o : One) (to a l : ℕ) → IsShort 12 (one_items o to a l)
one-short Negation to a l = record { few = omega arith; unmarked = (refl, (refl, (refl, (refl, tt)))) }
one-short Not to a l = record { few = omega arith; unmarked = (refl, tt) }

content-short : (to a l : ℕ) → IsShort 12 (content_items to a l)
content-short to a l = record { few = omega arith; unmarked = (refl, (refl, (refl, tt))) }

constant-short : (to w : ℕ) → IsShort 12 (map Plain (load_constant to w))
constant-short to w = record { few = omega (arith, total-plain (load_constant to w), length-load_constant to w); unmarked = unmarked-plain (load_constant to w) (quiet-constant to w) }

placed-short : (o : Option ℕ) (to l : ℕ) → IsShort 12 (placed_items o to l)
placed-short (Some offset) to l = record { few = omega (arith, total-plain (load_items to offset), length-load to offset); unmarked = unmarked-plain (load_items to offset) (quiet-load to offset) }
placed-short None to l = record { few = omega arith; unmarked = (refl, tt) }

pub order-short :
    (m1 m2 k n : ℕ) (later : Bool) (free : ℕ) (first first_behind second second_behind : List Item) (last : ℕ → ℕ → List Item) → m1 + m2 + k ≤ n → IsShort m1 first → IsShort m1 first_behind →
    IsShort m2 second → IsShort m2 second_behind → ((a b : ℕ) → IsShort k (last a b)) → IsShort n (in_order later free first first_behind second second_behind last)
order-short m1 m2 k n true free first first_behind second second_behind last le a a' b b' c =
    short-append m2 (m1 + k) n _ _ (omega (arith, le)) b (short-append m1 k (m1 + k) _ _ (omega arith) a' (c (free + 1) free))
order-short m1 m2 k n false free first first_behind second second_behind last le a a' b b' c =
    short-append m1 (m2 + k) n _ _ (omega (arith, le)) a (short-append m2 k (m2 + k) _ _ (omega arith) b' (c free (free + 1)))

addition-short : (to a : ℕ) (z : ℤ) (l : ℕ) → IsShort 12 (addition_items to a z l)
addition-short to a z l =
    ⊎_elim (λ e. rw e (record { few = omega arith; unmarked = (refl, (refl, tt)) })) (λ e. rw e (record { few = omega arith; unmarked = (refl, (refl, tt)) })) (true-or-false (int_lt z (pos 0)))

either-short :
    (n : ℕ) (o o' : Option ℤ) (to l : ℕ) (first second both : List Item) → ((z : ℤ) → IsShort n (first ++ addition_items to (addend_for to) z l)) →
    ((z : ℤ) → IsShort n (second ++ addition_items to (addend_for to) z l)) → IsShort n both → IsShort n (either_adding o o' to l first second both)
either-short n (Some z) o' to l first second both a b c = a z
either-short n None (Some z) to l first second both a b c = b z
either-short n None None to l first second both a b c = c

pub none-short : (n : ℕ) → IsShort n []
none-short n = record { few = omega arith; unmarked = tt }

-- at most 12 instructions for each yielder
pub value-short : (places : Places) (y : Yielder) (to free l : ℕ) → IsShort (12 * yielder_count y) (value_items places to free l y)
value-short places (NumberLiteral z) to free l = constant-short to (integer_word z)
value-short places (TruthLiteral t) to free l = constant-short to (truth_word t)
value-short places (Given s) to free l = placed-short (only_offset places.given) to l
value-short places (GivenAt s k) to free l = placed-short (nth_offset places.given k) to l
value-short places (OnTwo f y1 y2) to free l =
    let c1 = yielder_count y1 in
    let c2 = yielder_count y2 in
    let n = 12 * yielder_count (OnTwo f y1 y2) in
    either-short n (of_literal (second_constant f) y2) (of_literal (first_constant f) y1) to l _ _ _
    (λ z. short-append (12 * c1) 12 n _ _ (omega arith) (value-short places y1 (addend_for to) free l) (addition-short to (addend_for to) z l))
    (λ z. short-append (12 * c2) 12 n _ _ (omega arith) (value-short places y2 (addend_for to) free l) (addition-short to (addend_for to) z l))
    (order-short (12 * c1) (12 * c2) 12 n (ltb (registers_needed y1) (registers_needed y2)) free _ _ _ _ _ (omega arith) (value-short places y1 free free l) (value-short places y1 (free + 1) (free + 1) l)
    (value-short places y2 free free l) (value-short places y2 (free + 1) (free + 1) l) (λ a b. operation-short f to a b l))
value-short places (OnOne f y) to free l =
    short-append (12 * yielder_count y) 12 (12 * yielder_count (OnOne f y)) _ _ (omega arith) (value-short places y free free l) (one-short f to free l)
value-short places (BoundTo s t) to free l = placed-short (slot_offset places.bound t) to l
value-short places (StoredIn s y) to free l =
    short-append (12 * yielder_count y) 12 (12 * yielder_count (StoredIn s y)) _ _ (omega arith) (value-short places y free free l) (content-short to free l)
value-short places (ClosureOf k) to free l = none-short _
