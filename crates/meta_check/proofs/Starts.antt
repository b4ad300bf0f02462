-- The first production, and the first declaration.
use Rattle.std.proofs.Common.{◌≡◌, ◌∙◌, ℕ, zero, suc, ◌+◌, ◌<◌, ◌≤◌, Bool, true, false, not, ◌&&◌, List, [], ◌∷◌, ◌++◌, length, take, get_or, map, nat_eq, Option, Some, None, refl, sym, ap, subst, lt_of_not-le, eqb-true, arith}
use Rattle.std.specs.Prelude.{IsSomeAnd, slice_get}
use Rattle.gram_form.specs.declared.part.Production.{Production}
use Rattle.meta_terms.specs.declared.items.Declaration.{Declaration}
use Rattle.meta_terms.specs.declared.items.Item.{Item}
use Rattle.meta_terms.specs.declared.items.Item.TheVariants as item
use Rattle.meta_terms.specs.PlainItems.{PlainDeclaration, PlainItem, AProduction, ADeclaration, AnEquation, plain_item, plain_declaration}
use Rattle.meta_check.specs.Rules.{Holds, IsFirstBreach, starts_elsewhere}
use Rattle.meta_check.specs.Views.{declarations_of, nonterminals_of, is_in}
use Rattle.meta_check.proofs.Known.{nonterminals_append}
use Rattle.meta_check.proofs.Searching.{HoldsBelow, holds_more, first_breach}
use Rattle.meta_check.proofs.SoFar.{cut_here}

-- the first production, behind items that are none
pub first_name : (list : List Item) (i : ℕ) (d : Item) (p : Production) → i < length list → d ≡ get_or list i d → d ≡ item.Production p → nonterminals_of (take i (map plain_item list)) ≡ []
    → p.name.now ∷ [] ≡ take 1 (nonterminals_of (map plain_item list))
first_name list i d p h is own none =
    let c = cut_here list i d h is in
    let all : nonterminals_of (map plain_item list) ≡ p.name.now ∷ nonterminals_of c.0 =
    ap nonterminals_of c.1
    ∙ nonterminals_append (take i (map plain_item list)) (plain_item d ∷ c.0)
    ∙ ap (λ ns. ns ++ nonterminals_of (plain_item d ∷ c.0)) none
    ∙ ap (λ (x : Item). nonterminals_of (plain_item x ∷ c.0)) own in
    sym (ap (take 1) all)

false_true : false ≡ true → ⊥
false_true e = absurd (cc)

-- the first declaration is the only item that can break the rule on the start
not_first : (earlier all : List PlainItem) (x : PlainItem) → 0 < length (declarations_of earlier) → starts_elsewhere earlier all x ≡ true → ⊥
not_first earlier all (AProduction p) h b = absurd (false_true b)
not_first earlier all (AnEquation e) h b = absurd (false_true b)
not_first earlier all (ADeclaration d) h b = go (declarations_of earlier) h b
  where
    go : (ds : List PlainDeclaration) → 0 < length ds → (nat_eq (length ds) 0 && not (is_in (take 1 (nonterminals_of all)) d.nonterminal)) ≡ true → ⊥
    go [] h b = absurd (omega (arith, h))
    go (x ∷ ds) h b = pick (nat_eq (suc (length ds)) 0) refl b
      where
        pick : (c : Bool) → nat_eq (suc (length ds)) 0 ≡ c → (c && not (is_in (take 1 (nonterminals_of all)) d.nonterminal)) ≡ true → ⊥
        pick false e b = false_true b
        pick true e b = let same : suc (length ds) ≡ 0 = eqb-true (suc (length ds)) 0 e in absurd (omega (arith, same))

declared : (earlier more : List PlainItem) (d : PlainDeclaration) (k : ℕ) → length earlier < k → 0 < length (declarations_of (take k (earlier ++ ADeclaration d ∷ more)))
declared earlier more d zero h = absurd (omega (arith, h))
declared [] more d (suc k) h = omega arith
declared (AProduction p ∷ earlier) more d (suc k) h = declared earlier more d k (omega (arith, h))
declared (ADeclaration x ∷ earlier) more d (suc k) h = omega arith
declared (AnEquation e ∷ earlier) more d (suc k) h = declared earlier more d k (omega (arith, h))

taken : (list : List Item) (i : ℕ) → i < length list → length (take i (map plain_item list)) ≡ i
taken [] i h = absurd (omega (arith, h))
taken (x ∷ list) zero h = refl
taken (x ∷ list) (suc i) h = ap suc (taken list i (omega (arith, h)))

-- where the first declaration is for the start, none breaks it
pub start_holds : (list : List Item) (i : ℕ) (d : Item) (own : Declaration) → i < length list → d ≡ get_or list i d → d ≡ item.Declaration own → HoldsBelow starts_elsewhere list i
    → declarations_of (take i (map plain_item list)) ≡ [] → is_in (take 1 (nonterminals_of (map plain_item list))) own.nonterminal.now ≡ true → Holds starts_elsewhere (map plain_item list)
start_holds list i d own h is e below none start k b = pick (slice_get (map plain_item list) k) b
  where
    test : starts_elsewhere (take i (map plain_item list)) (map plain_item list) (plain_item d) ≡ false
    test =
        ap (λ (x : Item). starts_elsewhere (take i (map plain_item list)) (map plain_item list) (plain_item x)) e
        ∙ ap (λ ds. nat_eq (length ds) 0 && not (is_in (take 1 (nonterminals_of (map plain_item list))) own.nonterminal.now)) none
        ∙ ap not start

    with_this : HoldsBelow starts_elsewhere list (i + 1)
    with_this = holds_more starts_elsewhere list i d below is test

    behind : i < k → 0 < length (declarations_of (take k (map plain_item list)))
    behind less =
        let c = cut_here list i d h is in
        let all : map plain_item list ≡ take i (map plain_item list) ++ ADeclaration (plain_declaration own) ∷ c.0 = c.1 ∙ ap (λ (x : Item). take i (map plain_item list) ++ plain_item x ∷ c.0) e in
        let size = taken list i h in
        subst (λ (xs : List PlainItem). 0 < length (declarations_of (take k xs))) (sym all) (declared (take i (map plain_item list)) c.0 (plain_declaration own) k (omega (arith, less, size)))

    by_place : (k < i + 1 → ⊥) → (i < k → ⊥) → ⊥
    by_place p q = let beyond : k ≤ i → ⊥ = λ h. p (omega (arith, h)) in q (lt_of_not-le beyond)

    pick : (o : Option PlainItem) → IsSomeAnd o (λ x. starts_elsewhere (take k (map plain_item list)) (map plain_item list) x ≡ true) → ⊥
    pick None b = b
    pick (Some x) t = by_place (λ more. with_this k more b) (λ less. not_first (take k (map plain_item list)) (map plain_item list) x (behind less) t)

-- no other item is a declaration
pub no_start : (list : List Item) (i : ℕ) (d : Item) → HoldsBelow starts_elsewhere list i → d ≡ get_or list i d → ((x : Declaration) → d ≡ item.Declaration x → ⊥) → HoldsBelow starts_elsewhere list (i + 1)
no_start list i d below is other = holds_more starts_elsewhere list i d below is (pick d other)
  where
    pick : (x : Item) → ((y : Declaration) → x ≡ item.Declaration y → ⊥) → starts_elsewhere (take i (map plain_item list)) (map plain_item list) (plain_item x) ≡ false
    pick (item.Production p) h = refl
    pick (item.Declaration y) h = absurd (h y refl)
    pick (item.Equation e) h = refl

-- the first declaration is for another name
pub start_breaks : (list : List Item) (i : ℕ) (d : Item) (own : Declaration) → i < length list → d ≡ get_or list i d → d ≡ item.Declaration own → HoldsBelow starts_elsewhere list i
    → declarations_of (take i (map plain_item list)) ≡ [] → is_in (take 1 (nonterminals_of (map plain_item list))) own.nonterminal.now ≡ false → IsFirstBreach starts_elsewhere (map plain_item list) i
start_breaks list i d own h is e below none start =
    first_breach starts_elsewhere list i d below h is
    (ap (λ (x : Item). starts_elsewhere (take i (map plain_item list)) (map plain_item list) (plain_item x)) e
    ∙ ap (λ ds. nat_eq (length ds) 0 && not (is_in (take 1 (nonterminals_of (map plain_item list))) own.nonterminal.now)) none
    ∙ ap not start)
