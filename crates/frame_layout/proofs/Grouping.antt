-- The nodes of each root, one node after the other.
use Rattle.std.proofs.Common.{◌≡◌, ◌≢◌, ℕ, zero, suc, ◌+◌, ◌<◌, Bool, true, false, List, [], ◌∷◌, ◌++◌, Vec, length, get_or, set, sym, ap, ◌∙◌, arith, inl, inr, length-set, length-append, get_or-set_same, get_or-set_other, add-one, add-zero, cond}
use Rattle.std.specs.Prelude.{filter, nat_eq}
use Rattle.std.specs.Global.{Global}
use Rattle.std.specs.List.{range_with_len}
use Rattle.std.proofs.lemmas.Bool.{eq-eqb}
use Rattle.std.proofs.lemmas.Bool.Decides.{eqb_tells}
use Rattle.std.proofs.lemmas.List.{append-nil}
use Rattle.std.proofs.lemmas.List.Elements.{filter-append}
use Rattle.frame_layout.specs.Roots.{AreMembers}

-- one number more
pub range-more : (a n : ℕ) → range_with_len a (n + 1) ≡ range_with_len a n ++ (a + n) ∷ []
range-more a zero = ap (λ (k : ℕ). k ∷ []) (sym (add-zero a))
range-more a (suc n) =
    let place : a + 1 + n ≡ a + suc n = omega arith in
    ap (range_with_len a) (add-one (suc n)) ∙ ap (λ (k : ℕ). a ∷ range_with_len (a + 1) k) (sym (add-one n))
    ∙ ap (λ (ks : List ℕ). a ∷ ks) (range-more (a + 1) n) ∙ ap (λ (k : ℕ). a ∷ (range_with_len (a + 1) n ++ k ∷ [])) place

-- ---- groups without nodes

pub record AreEmpty (count : ℕ) (groups : List (Vec ℕ Global)) : Type 0 where
  pub long : length groups ≡ count
  pub each : (c : ℕ) (d : Vec ℕ Global) → c < length groups → (get_or groups c d).items ≡ []

get_or-push : (groups : List (Vec ℕ Global)) (v d : Vec ℕ Global) (c : ℕ) → c < length groups + 1 → v.items ≡ [] → ((c : ℕ) → c < length groups → (get_or groups c d).items ≡ []) → (get_or (groups ++ v ∷ []) c d).items ≡ []
get_or-push [] v d zero less none each = none
get_or-push [] v d (suc c) less none each = absurd (omega arith)
get_or-push (x ∷ groups) v d zero less none each = each 0 (omega arith)
get_or-push (x ∷ groups) v d (suc c) less none each = get_or-push groups v d c (omega arith) none (λ c less. each (suc c) (omega arith))

pub empty-more : (count : ℕ) (groups : List (Vec ℕ Global)) (v : Vec ℕ Global) → v.items ≡ [] → AreEmpty count groups → AreEmpty (count + 1) (groups ++ v ∷ [])
empty-more count groups v none h = record {
  long = length-append groups (v ∷ []) ∙ omega (arith, h.long);
  each = λ c d less. get_or-push groups v d c (omega (arith, length-append groups (v ∷ []))) none (λ c less. h.each c d less);
}

-- ---- the nodes below k

abbrev pub members_below : (roots : List ℕ) (k c : ℕ) → List ℕ
members_below roots k c = filter (λ j. nat_eq (get_or roots j 0) c) (range_with_len 0 k)

pub record AreMembersBelow (roots : List ℕ) (k : ℕ) (groups : List (Vec ℕ Global)) : Type 0 where
  pub long : length groups ≡ length roots
  pub each : (c : ℕ) (d : Vec ℕ Global) → c < length roots → (get_or groups c d).items ≡ members_below roots k c

pub members-none : (roots : List ℕ) (groups : List (Vec ℕ Global)) → AreEmpty (length roots) groups → AreMembersBelow roots 0 groups
members-none roots groups h = record { long = h.long; each = λ c d less. h.each c d (omega (arith, h.long)) }

members_below-more : (roots : List ℕ) (k c : ℕ) → members_below roots (k + 1) c ≡ members_below roots k c ++ cond (nat_eq (get_or roots k 0) c) (k ∷ []) []
members_below-more roots k c =
    let test : ℕ → Bool = λ j. nat_eq (get_or roots j 0) c in
    let last : 0 + k ≡ k = omega arith in
    ap (filter test) (range-more 0 k) ∙ filter-append test (range_with_len 0 k) ((0 + k) ∷ []) ∙ ap (λ (j : ℕ). members_below roots k c ++ cond (test j) (j ∷ []) []) last

pub members-more : (roots : List ℕ) (k : ℕ) (groups : List (Vec ℕ Global)) (old new : Vec ℕ Global) → get_or roots k 0 < length roots → old ≡ get_or groups (get_or roots k 0) old → new.items ≡ old.items ++ k ∷ []
    → AreMembersBelow roots k groups → AreMembersBelow roots (k + 1) (set groups (get_or roots k 0) new)
members-more roots k groups old new within read grown h = record {
  long = length-set groups r new ∙ h.long;
  each = λ c d less. elim (eqb_tells c r) [
    | inl same ↦ (
        let put : get_or (set groups r new) c d ≡ new = ap (λ (i : ℕ). get_or (set groups r new) i d) same.1 ∙ get_or-set_same groups r new d (omega (arith, h.long)) in
        let was : old.items ≡ members_below roots k c = ap (λ (v : Vec ℕ Global). v.items) read ∙ h.each r old within ∙ ap (members_below roots k) (sym same.1) in
        let test : nat_eq r c ≡ true = eq-eqb r c (sym same.1) in
        ap (λ (v : Vec ℕ Global). v.items) put ∙ grown ∙ ap (λ (ks : List ℕ). ks ++ k ∷ []) was
        ∙ ap (λ (b : Bool). members_below roots k c ++ cond b (k ∷ []) []) (sym test) ∙ sym (members_below-more roots k c))
    | inr other ↦ (
        let put : get_or (set groups r new) c d ≡ get_or groups c d = get_or-set_other groups r c new d other.1 in
        let test : nat_eq r c ≡ false = untrue r c (λ e. other.1 (sym e)) in
        ap (λ (v : Vec ℕ Global). v.items) put ∙ h.each c d less ∙ sym (append-nil (members_below roots k c))
        ∙ ap (λ (b : Bool). members_below roots k c ++ cond b (k ∷ []) []) (sym test) ∙ sym (members_below-more roots k c))
  ];
}
  where
    r : ℕ
    r = get_or roots k 0

    untrue : (i j : ℕ) → i ≢ j → nat_eq i j ≡ false
    untrue i j ne = elim (eqb_tells i j) [ inl same ↦ absurd (ne same.1) | inr other ↦ other.0 ]

pub members-all : (roots : List ℕ) (k : ℕ) (groups : List (Vec ℕ Global)) → k ≡ length roots → AreMembersBelow roots k groups → AreMembers roots groups
members-all roots k groups e h = record { long = h.long; each = λ c d less. h.each c d less ∙ ap (λ (n : ℕ). members_below roots n c) e }
