-- The root of the procedure of each node, handed down from node to part.
use Rattle.std.proofs.Common.{◌≡◌, ℕ, zero, suc, ◌+◌, ◌<◌, ◌≤◌, Bool, true, false, List, [], ◌∷◌, length, get_or, set, refl, sym, ap, subst, ◌∙◌, arith, inl, inr, length-set, get_or-set_same, get_or-set_other}
use Rattle.std.specs.Prelude.{Option, Some, None, if◌then◌else◌, nat_eq, ◌||◌}
use Rattle.std.specs.List.{range_with_len}
use Rattle.std.proofs.lemmas.Bool.Decides.{eqb_tells}
use Rattle.std.proofs.lemmas.List.FromFn.{get_or-range_with_len, length-range_with_len}
use Rattle.action_terms.specs.Actions.{Action, node_at}
use Rattle.action_terms.specs.Performances.{OneOf}
use Rattle.sort_rules.specs.Numbers.{is_listed}
use Rattle.sort_rules.specs.Procedures.{holder_from, or_else, parts_at, procedure_of, topmost, whole_of}
use Rattle.sort_rules.proofs.NumberLists.{is_listed_of, listed_of}
use Rattle.frame_layout.specs.Roots.{AreRoots, handed_down}
use Rattle.frame_layout.proofs.GraphParts.{HasTrees}

-- ---- the node of which a node is a part

-- the node that is found has the part
record IsHolder (j : ℕ) (a : Action) (c i : ℕ) : Type 0 where
  place : ℕ
  at : i ≡ j + place
  part : OneOf c (parts_at (node_at a place))

holder-found : (j : ℕ) (a : Action) (c i : ℕ) → holder_from parts_at j a c ≡ Some i → IsHolder j a c i
holder-found j [] c i e = absurd {0} (cc)
holder-found j (n ∷ a) c i e = go (is_listed c (parts_at n)) (is_listed_of c (parts_at n)) e (holder-found (suc j) a c i)
  where
    go : (b : Bool) → (b ≡ true → OneOf c (parts_at n)) → (if b then Some j else holder_from parts_at (suc j) a c) ≡ Some i
        → (holder_from parts_at (suc j) a c ≡ Some i → IsHolder (suc j) a c i) → IsHolder j (n ∷ a) c i
    go true here e later = record { place = 0; at = (let same : j ≡ i = cc in omega (arith, same)); part = here refl }
    go false here e later = let h = later e in record { place = suc h.place; at = omega (arith, h.at); part = h.part }

holder-none : (j : ℕ) (a : Action) (c k : ℕ) → holder_from parts_at j a c ≡ None → OneOf c (parts_at (node_at a k)) → ⊥
holder-none j [] c k e m = elim m [ ]
holder-none j (n ∷ a) c zero e m = let listed = listed_of c (parts_at n) m in go (is_listed c (parts_at n)) listed e
  where
    go : (b : Bool) → b ≡ true → (if b then Some j else holder_from parts_at (suc j) a c) ≡ None → ⊥
    go true h e = cc
    go false h e = cc
holder-none j (n ∷ a) c (suc k) e m = go (is_listed c (parts_at n)) e (λ later. holder-none (suc j) a c k later m)
  where
    go : (b : Bool) → (if b then Some j else holder_from parts_at (suc j) a c) ≡ None → (holder_from parts_at (suc j) a c ≡ None → ⊥) → ⊥
    go true e later = cc
    go false e later = later e

pub whole-part : (a : Action) (c i : ℕ) → whole_of a c ≡ Some i → OneOf c (parts_at (node_at a i))
whole-part a c i e =
    let h = holder-found 0 a c i e in
    let same : h.place ≡ i = omega (arith, h.at) in
    subst (λ (k : ℕ). OneOf c (parts_at (node_at a k))) same h.part

module _ (a : Action) (trees : HasTrees a) where
  pub whole-is : (c k : ℕ) → OneOf c (parts_at (node_at a k)) → whole_of a c ≡ Some k
  whole-is c k m = go (whole_of a c) refl
    where
      go : (o : Option ℕ) → whole_of a c ≡ o → whole_of a c ≡ Some k
      go None e = absurd (holder-none 0 a c k e m)
      go (Some i) e = e ∙ ap Some (trees.one i k c (whole-part a c i e) m)

  -- ---- the root of the procedure

  -- more steps lead no further
  topmost-enough : (n m k : ℕ) → k ≤ n → k ≤ m → topmost n a k ≡ topmost m a k
  topmost-enough zero zero k low high = refl
  topmost-enough zero (suc m) k low high = go (whole_of a k) (λ j e. trees.behind j k (whole-part a k j e))
    where
      go : (o : Option ℕ) → ((j : ℕ) → o ≡ Some j → j < k) → k ≡ or_else (topmost m a) k o
      go None below = refl
      go (Some j) below = absurd (let less = below j refl in omega arith)
  topmost-enough (suc n) zero k low high = go (whole_of a k) (λ j e. trees.behind j k (whole-part a k j e))
    where
      go : (o : Option ℕ) → ((j : ℕ) → o ≡ Some j → j < k) → or_else (topmost n a) k o ≡ k
      go None below = refl
      go (Some j) below = absurd (let less = below j refl in omega arith)
  topmost-enough (suc n) (suc m) k low high = go (whole_of a k) (λ j e. trees.behind j k (whole-part a k j e)) (λ j less. topmost-enough n m j (omega arith) (omega arith))
    where
      go : (o : Option ℕ) → ((j : ℕ) → o ≡ Some j → j < k) → ((j : ℕ) → j < k → topmost n a j ≡ topmost m a j) → or_else (topmost n a) k o ≡ or_else (topmost m a) k o
      go None below same = refl
      go (Some j) below same = same j (below j refl)

  -- the root is no later node
  topmost-below : (n k : ℕ) → topmost n a k ≤ k
  topmost-below zero k = omega arith
  topmost-below (suc n) k = go (whole_of a k) (λ j e. trees.behind j k (whole-part a k j e)) (topmost-below n)
    where
      go : (o : Option ℕ) → ((j : ℕ) → o ≡ Some j → j < k) → ((j : ℕ) → topmost n a j ≤ j) → or_else (topmost n a) k o ≤ k
      go None below earlier = omega arith
      go (Some j) below earlier = omega (arith, below j refl, earlier j)

  pub procedure-below : (k : ℕ) → procedure_of a k ≤ k
  procedure-below k = topmost-below k k

  procedure-step : (c : ℕ) → procedure_of a c ≡ or_else (topmost c a) c (whole_of a c)
  procedure-step c = topmost-enough c (suc c) c (omega arith) (omega arith)

  -- a part is in the procedure of its node
  pub procedure-part : (c j : ℕ) → whole_of a c ≡ Some j → procedure_of a c ≡ procedure_of a j
  procedure-part c j e =
      let less = trees.behind j c (whole-part a c j e) in
      procedure-step c ∙ ap (or_else (topmost c a) c) e ∙ topmost-enough c j j (omega arith) (omega arith)

  -- a node that is no part is a root
  pub procedure-own : (c : ℕ) → whole_of a c ≡ None → procedure_of a c ≡ c
  procedure-own c e = procedure-step c ∙ ap (or_else (topmost c a) c) e

-- ---- the roots so far

-- the parts of the nodes below k have their roots, and every other node is its own
pub record AreRootsBelow (a : Action) (k : ℕ) (roots : List ℕ) : Type 0 where
  pub long : length roots ≡ length a
  pub found : (c j : ℕ) → c < length a → whole_of a c ≡ Some j → j < k → get_or roots c 0 ≡ procedure_of a c
  pub own : (c : ℕ) → c < length a → ((j : ℕ) → whole_of a c ≡ Some j → j < k → ⊥) → get_or roots c 0 ≡ c

pub below-none : (a : Action) (roots : List ℕ) → roots ≡ range_with_len 0 (length a) → AreRootsBelow a 0 roots
below-none a roots e = record {
  long = ap length e ∙ length-range_with_len 0 (length a);
  found = λ c j within whole less. absurd (omega arith);
  own = λ c within none. ap (λ (xs : List ℕ). get_or xs c 0) e ∙ get_or-range_with_len 0 (length a) c 0 within ∙ omega arith;
}

length-handed_down : (ks : List ℕ) (r : ℕ) (roots : List ℕ) → length (handed_down ks r roots) ≡ length roots
length-handed_down [] r roots = refl
length-handed_down (k ∷ ks) r roots = length-handed_down ks r (set roots k r) ∙ length-set roots k r

-- who gets the root
handed_down-at : (ks : List ℕ) (r : ℕ) (roots : List ℕ) (c : ℕ) → c < length roots → get_or (handed_down ks r roots) c 0 ≡ (if is_listed c ks then r else get_or roots c 0)
handed_down-at [] r roots c within = refl
handed_down-at (k ∷ ks) r roots c within =
    handed_down-at ks r (set roots k r) c (omega (arith, length-set roots k r)) ∙ elim (eqb_tells c k) [
      | inl same ↦ (let read : get_or (set roots k r) c 0 ≡ r = ap (λ (i : ℕ). get_or (set roots k r) i 0) same.1 ∙ get_or-set_same roots k r 0 (omega (arith, same.1)) in
          listed (nat_eq c k) (is_listed c ks) (get_or (set roots k r) c 0) same.0 read)
      | inr other ↦ (let read : get_or (set roots k r) c 0 ≡ get_or roots c 0 = get_or-set_other roots k c r 0 other.1 in
          unlisted (nat_eq c k) (is_listed c ks) (get_or (set roots k r) c 0) other.0 read)
    ]
  where
    listed : (b d : Bool) (x : ℕ) → b ≡ true → x ≡ r → (if d then r else x) ≡ (if b || d then r else get_or roots c 0)
    listed true true x e read = refl
    listed true false x e read = read
    listed false d x e read = absurd {0} (cc)

    unlisted : (b d : Bool) (x : ℕ) → b ≡ false → x ≡ get_or roots c 0 → (if d then r else x) ≡ (if b || d then r else get_or roots c 0)
    unlisted false true x e read = refl
    unlisted false false x e read = read
    unlisted true d x e read = absurd {0} (cc)

module _ (a : Action) (trees : HasTrees a) (k : ℕ) (roots : List ℕ) (below : AreRootsBelow a k roots) where
  -- the nodes up to number k have their roots
  root-known : (c : ℕ) → c < length a → c ≤ k → get_or roots c 0 ≡ procedure_of a c
  root-known c within early = go (whole_of a c) refl
    where
      go : (o : Option ℕ) → whole_of a c ≡ o → get_or roots c 0 ≡ procedure_of a c
      go None e = below.own c within (λ j f less. let no_node : None ≡ Some j = sym e ∙ f in cc) ∙ sym (procedure-own a trees c e)
      go (Some j) e = let before = trees.behind j c (whole-part a c j e) in below.found c j within e (omega arith)

  -- so do the parts of node k
  pub below-more : k < length a → AreRootsBelow a (k + 1) (handed_down (parts_at (node_at a k)) (get_or roots k 0) roots)
  below-more within =
      let parts = parts_at (node_at a k) in
      let at : (c : ℕ) → c < length a → get_or (handed_down parts (get_or roots k 0) roots) c 0 ≡ (if is_listed c parts then get_or roots k 0 else get_or roots c 0)
      = λ c less. handed_down-at parts (get_or roots k 0) roots c (omega (arith, below.long)) in
      record {
        long = length-handed_down parts (get_or roots k 0) roots ∙ below.long;
        found = λ c j less e early. at c less ∙ found (is_listed c parts) c j less e early (is_listed_of c parts) (λ m. listed_of c parts m);
        own = λ c less none. at c less ∙ own (is_listed c parts) c less none (is_listed_of c parts);
      }
    where
      found : (b : Bool) (c j : ℕ) → c < length a → whole_of a c ≡ Some j → j < k + 1 → (b ≡ true → OneOf c (parts_at (node_at a k))) → (OneOf c (parts_at (node_at a k)) → b ≡ true)
          → (if b then get_or roots k 0 else get_or roots c 0) ≡ procedure_of a c
      found true c j less e early part listed = root-known k within (omega arith) ∙ sym (procedure-part a trees c k (whole-is a trees c k (part refl)))
      found false c j less e early part listed = elim (eqb_tells j k) [
        | inl same ↦ absurd {0} (let found = listed (subst (λ (i : ℕ). OneOf c (parts_at (node_at a i))) same.1 (whole-part a c j e)) in cc)
        | inr other ↦ (let ne = other.1 in below.found c j less e (omega arith))
      ]

      own : (b : Bool) (c : ℕ) → c < length a → ((j : ℕ) → whole_of a c ≡ Some j → j < k + 1 → ⊥) → (b ≡ true → OneOf c (parts_at (node_at a k))) → (if b then get_or roots k 0 else get_or roots c 0) ≡ c
      own true c less none part = absurd (none k (whole-is a trees c k (part refl)) (omega arith))
      own false c less none part = below.own c less (λ j e early. none j e (omega arith))

  pub below-all : length a ≤ k → AreRoots a roots
  below-all all = record { long = below.long; each = λ c less. root-known c less (omega arith) }
