-- The tests tell the order of parts and whether the demands at a node hold.
use Rattle.std.proofs.Common.{Bool, List, [], false, refl, subst, true, ℕ, ◌&&◌, ◌∷◌, ◌≡◌}
use Rattle.std.proofs.lemmas.Bool.{and_from}
use Rattle.action_terms.specs.Actions.{Action}
use Rattle.action_terms.specs.Information.{Token}
use Rattle.action_terms.specs.Performances.{Here, Later, OneOf}
use Rattle.sort_rules.specs.Admissible.{Holds}
use Rattle.sort_rules.specs.Demands.{Demand, Each, IsMet, MoreOf, NoneOf, demands, ◌⊒◌}
use Rattle.sort_rules.specs.Parts.{AreBelow, Below, Clash, Component, Least, Listed, Lists, Most, NoneBelow, OneBelow, Part, Unreached, same_token}
use Rattle.sort_rules.specs.Numbers.{is_listed}
use Rattle.sort_rules.specs.Sets.{ACell, AClosure, ATruth, AnInteger, Atom, Has, IsSubset, Set}
use Rattle.sort_rules.specs.Tables.{MarkedTable}
use Rattle.sort_rules.specs.Numbers.{are_listed}
use Rattle.sort_rules.specs.Tests.{are_below, are_met, holds, implies, is_below, is_subset}
use Rattle.sort_rules.proofs.Choices.{both_left, both_right}
use Rattle.sort_rules.proofs.Joins.{same_token_eq, same_token_refl}
use Rattle.sort_rules.proofs.NumberLists.{is_listed_of, listed_of}

are_listed-sound : (xs ys : List ℕ) → are_listed xs ys ≡ true → (k : ℕ) → OneOf k xs → OneOf k ys
are_listed-sound (x ∷ xs) ys e _ Here = is_listed_of x ys (both_left (is_listed x ys) (are_listed xs ys) e)
are_listed-sound (x ∷ xs) ys e k (Later m) = are_listed-sound xs ys (both_right (is_listed x ys) (are_listed xs ys) e) k m
are_listed-sound [] ys e k m = elim m [ ]

are_listed-complete : (xs ys : List ℕ) → ((k : ℕ) → OneOf k xs → OneOf k ys) → are_listed xs ys ≡ true
are_listed-complete [] ys h = refl
are_listed-complete (x ∷ xs) ys h = and_from (is_listed x ys) (are_listed xs ys) (listed_of x ys (h x Here)) (are_listed-complete xs ys (λ k m. h k (Later m)))

implies-sound : (a b : Bool) → implies a b ≡ true → a ≡ true → b ≡ true
implies-sound true b e f = e
implies-sound false b e f = absurd {0} (cc)

implies-complete : (a b : Bool) → (a ≡ true → b ≡ true) → implies a b ≡ true
implies-complete true b h = h refl
implies-complete false b h = refl

is_subset-sound : (x y : Set) → is_subset x y ≡ true → IsSubset x y
is_subset-sound x y e = record { each = go }
  where
    rest1 : (implies x.truth y.truth && (are_listed x.cells y.cells && are_listed x.abstractions y.abstractions)) ≡ true
    rest1 = both_right (implies x.integer y.integer) _ e

    rest2 : (are_listed x.cells y.cells && are_listed x.abstractions y.abstractions) ≡ true
    rest2 = both_right (implies x.truth y.truth) _ rest1

    go : (a : Atom) → Has x a → Has y a
    go AnInteger h = implies-sound x.integer y.integer (both_left _ _ e) h
    go ATruth h = implies-sound x.truth y.truth (both_left _ _ rest1) h
    go (ACell k) h = are_listed-sound x.cells y.cells (both_left _ _ rest2) k h
    go (AClosure k) h = are_listed-sound x.abstractions y.abstractions (both_right (are_listed x.cells y.cells) _ rest2) k h

is_subset-complete : (x y : Set) → IsSubset x y → is_subset x y ≡ true
is_subset-complete x y h =
    and_from _ _ (implies-complete x.integer y.integer (h.each AnInteger)) (and_from _ _ (implies-complete x.truth y.truth (h.each ATruth))
    (and_from _ _ (are_listed-complete x.cells y.cells (λ k. h.each (ACell k))) (are_listed-complete x.abstractions y.abstractions (λ k. h.each (AClosure k)))))

are_below-sound : (ps qs : List Component) → are_below ps qs ≡ true → AreBelow ps qs
are_below-sound [] [] e = NoneBelow
are_below-sound (p ∷ ps) (q ∷ qs) e =
    let f = both_right (same_token p.token q.token) (is_subset p.set q.set && are_below ps qs) e in
    OneBelow (same_token_eq p.token q.token (both_left _ _ e)) (is_subset-sound p.set q.set (both_left _ (are_below ps qs) f)) (are_below-sound ps qs (both_right (is_subset p.set q.set) _ f))
are_below-sound _ _ e = absurd {0} (cc)

are_below-complete : {ps qs : List Component} → AreBelow ps qs → are_below ps qs ≡ true
are_below-complete NoneBelow = refl
are_below-complete (OneBelow {p} {q} e f h) =
    let same : same_token p.token q.token ≡ true = subst (λ (u : Token). same_token p.token u ≡ true) e (same_token_refl p.token) in
    and_from _ _ same (and_from _ _ (is_subset-complete p.set q.set f) (are_below-complete h))

-- the test tells the order
pub is_below-sound : (x y : Part) → is_below x y ≡ true → Below x y
is_below-sound Unreached y e = Least
is_below-sound (Listed ps) (Listed qs) e = Lists (are_below-sound ps qs e)
is_below-sound (Listed ps) Clash e = Most
is_below-sound Clash Clash e = Most
is_below-sound _ _ e = absurd {0} (cc)

pub is_below-complete : {x y : Part} → Below x y → is_below x y ≡ true
is_below-complete Least = refl
is_below-complete (Lists f) = are_below-complete f
is_below-complete {x = Unreached} Most = refl
is_below-complete {x = Listed ps} Most = refl
is_below-complete {x = Clash} Most = refl

are_met-sound : (t : MarkedTable) (ds : List Demand) → are_met t ds ≡ true → Each (IsMet t) ds
are_met-sound t [] e = NoneOf
are_met-sound t ((x ⊒ v) ∷ ds) e = MoreOf (is_below-sound v (t x) (both_left (is_below v (t x)) (are_met t ds) e)) (are_met-sound t ds (both_right (is_below v (t x)) (are_met t ds) e))

are_met-complete : {t : MarkedTable} {ds : List Demand} → Each (IsMet t) ds → are_met t ds ≡ true
are_met-complete NoneOf = refl
are_met-complete {ds = (x ⊒ v) ∷ ds} (MoreOf m ms) = and_from _ _ (is_below-complete m) (are_met-complete ms)

-- the test of a node tells whether its demands hold
pub holds-sound : (a : Action) (t : MarkedTable) (k : ℕ) → holds a t k ≡ true → Holds a t k
holds-sound a t k e = are_met-sound t (demands a t k) e

pub holds-complete : (a : Action) (t : MarkedTable) (k : ℕ) → Holds a t k → holds a t k ≡ true
holds-complete a t k h = are_met-complete h
