-- The table of alternatives, filled production by production.
use Rattle.std.proofs.Common.{◌≡◌, ◌∙◌, ℕ, zero, suc, ◌+◌, ◌<◌, Bool, true, false, ◌&&◌, List, [], ◌∷◌, ◌++◌, length, take, get_or, map, nat_eq, Option, Some, None, is_some, refl, sym, ap, ap₂, subst, arith}
use Rattle.std.specs.Prelude.{if◌then◌else◌}
use Rattle.std.specs.Borrow.{Bor}
use Rattle.std.specs.BTreeMap.{insert_entry, is_at}
use Rattle.std.specs.Map.{lookup}
use Rattle.std.specs.Option.{option_or}
use Rattle.std.specs.Ordering.{is_eq}
use Rattle.std.proofs.lemmas.Bool.{and_parts, cond-false, eqb-true, eqb-false, eq-eqb, ne_eqb}
use Rattle.gram_form.specs.declared.part.Part.{Part}
use Rattle.gram_form.specs.declared.part.Production.{Production}
use Rattle.gram_form.specs.Plain.{PlainPart, PlainProduction, plain_part, plain_alternative, plain_production}
use Rattle.meta_check.specs.Views.{place_among, same_parts}
use Rattle.meta_check.specs.Tables.{Key, Alternatives, AreAlternatives, alternatives_at, is_key, number_for, number_in}
use Rattle.meta_check.proofs.Keys.{key_cmp, keys_are}
use Rattle.meta_check.proofs.Lookups.{Agrees, is_equal, lookup_insert, lookup_same}
use Rattle.meta_check.proofs.Mapped.{take_mapped, taken}
use Rattle.meta_check.proofs.SameParts.{parts_same, parts_self}

key_parts : (n : ℕ) (parts : List PlainPart) (k : Key) → is_key n parts k ≡ true → (n ≡ k.0) × (map plain_part k.1.now ≡ parts)
key_parts n parts k h =
    let both = and_parts (nat_eq n k.0) (same_parts (map plain_part k.1.now) parts) h in
    (eqb-true n k.0 both.0, parts_same (map plain_part k.1.now) parts both.1)

key_of_parts : (n : ℕ) (parts : List PlainPart) (k : Key) → n ≡ k.0 → map plain_part k.1.now ≡ parts → is_key n parts k ≡ true
key_of_parts n parts k m p =
    ap₂ (λ b c. b && c) (eq-eqb n k.0 m) (ap (same_parts (map plain_part k.1.now)) (sym p) ∙ parts_self (map plain_part k.1.now))

keys_agree : (n : ℕ) (parts : List PlainPart) → Agrees key_cmp (is_key n parts)
keys_agree n parts = record {
  congruent = λ k q h. let e = key_parts k.0 (map plain_part k.1.now) q (sym (keys_are k q) ∙ ap is_eq h) in
      ap₂ (λ m ps. nat_eq n m && same_parts ps parts) e.0 (sym e.1);
  apart = λ k q t u. let e = key_parts n parts k t in let f = key_parts n parts q u in
      is_equal (key_cmp k q) (keys_are k q ∙ key_of_parts k.0 (map plain_part k.1.now) q (sym e.0 ∙ f.0) (f.1 ∙ sym e.1));
}

-- a look-up by a key
pub key_found : (entries : Alternatives) (k : Key) → lookup (is_at (key_cmp k)) entries ≡ number_for entries k.0 (map plain_part k.1.now)
key_found entries k = lookup_same (is_at (key_cmp k)) (is_key k.0 (map plain_part k.1.now)) (keys_are k) entries

-- a number, where the test holds
abbrev pub only : Bool → ℕ → Option ℕ
only b n = if b then Some n else None

or_none : (o : Option ℕ) → option_or o None ≡ o
or_none None = refl
or_none (Some n) = refl

or_assoc : (a b c : Option ℕ) → option_or (option_or a b) c ≡ option_or a (option_or b c)
or_assoc None b c = refl
or_assoc (Some n) b c = refl

-- a key that is new
pub key_new : (entries : Alternatives) (k : Key) (m n : ℕ) (parts : List PlainPart) → false ≡ is_some (lookup (is_at (key_cmp k)) entries)
    → number_for (insert_entry key_cmp entries k m) n parts ≡ option_or (number_for entries n parts) (only (is_key n parts k) m)
key_new entries k m n parts new =
    lookup_insert key_cmp (is_key n parts) (keys_agree n parts) entries k m ∙ pick (is_key n parts k) refl (number_for entries n parts) refl
  where
    pick : (b : Bool) → is_key n parts k ≡ b → (o : Option ℕ) → number_for entries n parts ≡ o → (if b then Some m else o) ≡ option_or o (only b m)
    pick false e o f = sym (or_none o)
    pick true e None f = refl
    pick true e (Some x) f =
        let s = key_parts n parts k e in
        let wrong : false ≡ true = new ∙ ap is_some (key_found entries k) ∙ ap₂ (λ j ps. is_some (number_for entries j ps)) (sym s.0) s.1 ∙ ap is_some f in absurd (cc)

-- a key that is there
pub key_known : (entries : Alternatives) (k : Key) (m n : ℕ) (parts : List PlainPart) → true ≡ is_some (lookup (is_at (key_cmp k)) entries)
    → number_for entries n parts ≡ option_or (number_for entries n parts) (only (is_key n parts k) m)
key_known entries k m n parts known = pick (is_key n parts k) refl (number_for entries n parts) refl
  where
    pick : (b : Bool) → is_key n parts k ≡ b → (o : Option ℕ) → number_for entries n parts ≡ o → o ≡ option_or o (only b m)
    pick b e (Some x) f = refl
    pick false e None f = refl
    pick true e None f =
        let s = key_parts n parts k e in
        let wrong : true ≡ false = known ∙ ap is_some (key_found entries k) ∙ ap₂ (λ j ps. is_some (number_for entries j ps)) (sym s.0) s.1 ∙ ap is_some f in absurd (cc)

-- the first alternative with some parts, among one more
place_append : (n : ℕ) (list : List (List PlainPart)) (a parts : List PlainPart) → place_among n (list ++ a ∷ []) parts ≡ option_or (place_among n list parts) (only (same_parts a parts) (n + length list))
place_append n [] a parts = let same : n ≡ n + 0 = omega arith in ap (only (same_parts a parts)) same
place_append n (b ∷ list) a parts = pick (same_parts b parts) (place_append (n + 1) list a parts)
  where
    pick : (c : Bool) → place_among (n + 1) (list ++ a ∷ []) parts ≡ option_or (place_among (n + 1) list parts) (only (same_parts a parts) (n + 1 + length list))
        → (if c then Some n else place_among (n + 1) (list ++ a ∷ []) parts) ≡ option_or (if c then Some n else place_among (n + 1) list parts) (only (same_parts a parts) (n + length (b ∷ list)))
    pick true rest = refl
    pick false rest = let same : n + 1 + length list ≡ n + length (b ∷ list) = omega arith in rest ∙ ap (λ m. option_or (place_among (n + 1) list parts) (only (same_parts a parts) m)) same

number_next : (own : ℕ) (list : List (Bor (List Part))) (i : ℕ) (d : Bor (List Part)) (n : ℕ) (parts : List PlainPart) → i < length list
    → number_in own (take (i + 1) (map plain_alternative list)) n parts
    ≡ option_or (number_in own (take i (map plain_alternative list)) n parts) (only (nat_eq n own && same_parts (plain_alternative (get_or list i d)) parts) i)
number_next own list i d n parts h = pick (nat_eq n own)
  where
    so_far : List (List PlainPart)
    so_far = take i (map plain_alternative list)

    count : 0 + length so_far ≡ i
    count = omega (arith, taken plain_alternative list i h)

    pick : (b : Bool) → (if b then place_among 0 (take (i + 1) (map plain_alternative list)) parts else None)
        ≡ option_or (if b then place_among 0 so_far parts else None) (only (b && same_parts (plain_alternative (get_or list i d)) parts) i)
    pick false = refl
    pick true =
        ap (λ list. place_among 0 list parts) (take_mapped plain_alternative list i d h)
        ∙ place_append 0 so_far (plain_alternative (get_or list i d)) parts
        ∙ ap (λ m. option_or (place_among 0 so_far parts) (only (same_parts (plain_alternative (get_or list i d)) parts) m)) count

-- what a table has, with some alternatives of a production
abbrev pub IsNoted : (old new : Alternatives) (own : ℕ) (list : List (List PlainPart)) → Type 0
IsNoted old new own list = (n : ℕ) (parts : List PlainPart) → number_for new n parts ≡ option_or (number_for old n parts) (number_in own list n parts)

-- with one more
pub one_noted : (old so_far new : Alternatives) (own : ℕ) (list : List (Bor (List Part))) (i : ℕ) (d : Bor (List Part)) → i < length list
    → IsNoted old so_far own (take i (map plain_alternative list))
    → ((n : ℕ) (parts : List PlainPart) → number_for new n parts ≡ option_or (number_for so_far n parts) (only (is_key n parts (own, get_or list i d)) i))
    → IsNoted old new own (take (i + 1) (map plain_alternative list))
one_noted old so_far new own list i d h before step n parts =
    step n parts
    ∙ ap (λ o. option_or o (only (is_key n parts (own, get_or list i d)) i)) (before n parts)
    ∙ or_assoc (number_for old n parts) (number_in own (take i (map plain_alternative list)) n parts) (only (is_key n parts (own, get_or list i d)) i)
    ∙ ap (option_or (number_for old n parts)) (sym (number_next own list i d n parts h))

-- none stands behind the productions
at_end : (list : List PlainProduction) → alternatives_at list (length list) ≡ []
at_end [] = refl
at_end (p ∷ list) = at_end list

one_further : (m n : ℕ) → nat_eq m n ≡ nat_eq (suc m) (suc n)
one_further m n = pick (nat_eq m n) refl
  where
    pick : (b : Bool) → nat_eq m n ≡ b → b ≡ nat_eq (suc m) (suc n)
    pick true e = sym (eq-eqb (suc m) (suc n) (ap suc (eqb-true m n e)))
    pick false e = sym (ne_eqb (suc m) (suc n) (λ s. let same : m ≡ n = omega (arith, s) in eqb-false m n e same))

at_next : (list : List PlainProduction) (p : PlainProduction) (n : ℕ) → alternatives_at (list ++ p ∷ []) n ≡ (if nat_eq n (length list) then p.alternatives else alternatives_at list n)
at_next [] p zero = refl
at_next [] p (suc n) = sym (cond-false (nat_eq (suc n) 0) p.alternatives [] (ne_eqb (suc n) 0 (λ s. absurd (omega (arith, s)))))
at_next (q ∷ list) p zero = sym (cond-false (nat_eq 0 (suc (length list))) p.alternatives q.alternatives (ne_eqb 0 (suc (length list)) (λ s. absurd (omega (arith, s)))))
at_next (q ∷ list) p (suc n) = at_next list p n ∙ ap (λ b. if b then p.alternatives else alternatives_at list n) (one_further n (length list))

production_noted : (list : List PlainProduction) (p : PlainProduction) (old new : Alternatives) → AreAlternatives list old → IsNoted old new (length list) p.alternatives → AreAlternatives (list ++ p ∷ []) new
production_noted list p old new before noted n parts =
    noted n parts
    ∙ ap (λ o. option_or o (number_in (length list) p.alternatives n parts)) (before n parts)
    ∙ pick (nat_eq n (length list)) refl
    ∙ ap (λ list. place_among 0 list parts) (sym (at_next list p n))
  where
    pick : (b : Bool) → nat_eq n (length list) ≡ b
        → option_or (place_among 0 (alternatives_at list n) parts) (if b then place_among 0 p.alternatives parts else None)
        ≡ place_among 0 (if b then p.alternatives else alternatives_at list n) parts
    pick true e = ap (λ alts. option_or (place_among 0 alts parts) (place_among 0 p.alternatives parts)) (ap (alternatives_at list) (eqb-true n (length list) e) ∙ at_end list)
    pick false e = or_none (place_among 0 (alternatives_at list n) parts)

-- the alternatives of one production more
pub alternatives_noted : (list : List Production) (i : ℕ) (d : Production) (old new : Alternatives) → i < length list → AreAlternatives (take i (map plain_production list)) old
    → IsNoted old new i (map plain_alternative (get_or list i d).alternatives.now) → AreAlternatives (take (i + 1) (map plain_production list)) new
alternatives_noted list i d old new h before noted =
    subst (λ (ps : List PlainProduction). AreAlternatives ps new) (sym (take_mapped plain_production list i d h))
    (production_noted (take i (map plain_production list)) (plain_production (get_or list i d)) old new before
    (subst (λ k. IsNoted old new k (map plain_alternative (get_or list i d).alternatives.now)) (sym (taken plain_production list i h)) noted))
