-- Tables of places, handed down from nodes to their parts, one node after the other.
use Rattle.std.proofs.Common.{◌≡◌, ℕ, ◌+◌, ◌<◌, ◌≤◌, Bool, true, false, List, [], ◌∷◌, ◌++◌, length, get_or, map, set, refl, sym, ap, subst, ◌∙◌, arith, inl, inr, length-set, get_or-set_same, get_or-set_other}
use Rattle.std.specs.Prelude.{Option, Some, None, if◌then◌else◌, nat_eq, ◌||◌}
use Rattle.std.specs.Borrow.{Bor}
use Rattle.std.proofs.lemmas.Bool.Decides.{eqb_tells}
use Rattle.std.specs.List.{range_with_len}
use Rattle.std.proofs.lemmas.List.{get_or-map, map-append, map-set}
use Rattle.std.proofs.lemmas.List.FromFn.{get_or-map-range_with_len, length-map-range_with_len, map-range_with_len_more}
use Rattle.action_terms.specs.Actions.{Action, Node, node_at}
use Rattle.action_terms.specs.Performances.{OneOf}
use Rattle.sort_rules.specs.Numbers.{is_listed}
use Rattle.sort_rules.specs.Procedures.{parts_at, whole_of}
use Rattle.sort_rules.proofs.NumberLists.{is_listed_of, listed_of}
use Rattle.frame_layout.proofs.GraphParts.{HasTrees}
use Rattle.frame_layout.proofs.ProcedureRoots.{whole-is, whole-part}
use Rattle.rv_codegen.specs.Aliases.{handed_at, handed_to, list_at, lists_of}
use Rattle.rv_codegen.proofs.AliasSteps.{handed-part, handed-root}

-- ---- one node's parts, in memory

pub one-passed : (xs : List (Bor (List ℕ))) (ks : List ℕ) (k : ℕ) (x : Bor (List ℕ)) (f : ℕ → List ℕ) → ks ≡ k ∷ [] → x.now ≡ f k → lists_of (set xs k x) ≡ handed_to ks f (lists_of xs)
one-passed xs ks k x f e is =
    map-set (λ (y : Bor (List ℕ)). y.now) xs k x ∙ ap (λ (ys : List ℕ). set (lists_of xs) k ys) is ∙ ap (λ (js : List ℕ). handed_to js f (lists_of xs)) (sym e)

pub two-passed : (xs : List (Bor (List ℕ))) (ks : List ℕ) (l r : ℕ) (x y : Bor (List ℕ)) (f : ℕ → List ℕ) → ks ≡ l ∷ r ∷ [] → x.now ≡ f l → y.now ≡ f r → lists_of (set (set xs l x) r y) ≡ handed_to ks f (lists_of xs)
two-passed xs ks l r x y f e first second =
    map-set (λ (z : Bor (List ℕ)). z.now) (set xs l x) r y ∙ ap (λ (zs : List (List ℕ)). set zs r y.now) (map-set (λ (z : Bor (List ℕ)). z.now) xs l x)
    ∙ ap (λ (zs : List ℕ). set (set (lists_of xs) l zs) r y.now) first ∙ ap (λ (zs : List ℕ). set (set (lists_of xs) l (f l)) r zs) second
    ∙ ap (λ (js : List ℕ). handed_to js f (lists_of xs)) (sym e)

-- ---- who gets which words

length-handed_to : (ks : List ℕ) (f : ℕ → List ℕ) (xs : List (List ℕ)) → length (handed_to ks f xs) ≡ length xs
length-handed_to [] f xs = refl
length-handed_to (k ∷ ks) f xs = length-handed_to ks f (set xs k (f k)) ∙ length-set xs k (f k)

handed_to-at : (ks : List ℕ) (f : ℕ → List ℕ) (xs : List (List ℕ)) (c : ℕ) → c < length xs → list_at (handed_to ks f xs) c ≡ (if is_listed c ks then f c else list_at xs c)
handed_to-at [] f xs c within = refl
handed_to-at (k ∷ ks) f xs c within =
    handed_to-at ks f (set xs k (f k)) c (omega (arith, length-set xs k (f k))) ∙ elim (eqb_tells c k) [
      | inl same ↦ (let read : list_at (set xs k (f k)) c ≡ f c = ap (λ (i : ℕ). list_at (set xs k (f k)) i) same.1 ∙ get_or-set_same xs k (f k) [] (omega (arith, same.1)) ∙ ap f (sym same.1) in
          listed (nat_eq c k) (is_listed c ks) (list_at (set xs k (f k)) c) same.0 read)
      | inr other ↦ (let read : list_at (set xs k (f k)) c ≡ list_at xs c = get_or-set_other xs k c (f k) [] other.1 in
          unlisted (nat_eq c k) (is_listed c ks) (list_at (set xs k (f k)) c) other.0 read)
    ]
  where
    listed : (b d : Bool) (x : List ℕ) → b ≡ true → x ≡ f c → (if d then f c else x) ≡ (if b || d then f c else list_at xs c)
    listed true true x e read = refl
    listed true false x e read = read
    listed false d x e read = absurd {0} (cc)

    unlisted : (b d : Bool) (x : List ℕ) → b ≡ false → x ≡ list_at xs c → (if d then f c else x) ≡ (if b || d then f c else list_at xs c)
    unlisted false true x e read = refl
    unlisted false false x e read = read
    unlisted true d x e read = absurd {0} (cc)

-- ---- the tables so far

-- the parts of the nodes below k have their words, and every other node its own
pub record AreHandedBelow (a : Action) (part : Node → List ℕ → ℕ → List ℕ) (own : ℕ → List ℕ) (k : ℕ) (xs : List (List ℕ)) : Type 0 where
  pub long : length xs ≡ length a
  pub found : (c j : ℕ) → c < length a → whole_of a c ≡ Some j → j < k → list_at xs c ≡ handed_at part own a c c
  pub kept : (c : ℕ) → c < length a → ((j : ℕ) → whole_of a c ≡ Some j → j < k → ⊥) → list_at xs c ≡ own c

-- its own words of each node
pub handed-none : (a : Action) (part : Node → List ℕ → ℕ → List ℕ) (own : ℕ → List ℕ) (xs : List (List ℕ)) → xs ≡ map own (range_with_len 0 (length a)) → AreHandedBelow a part own 0 xs
handed-none a part own xs e = record {
  long = ap length e ∙ length-map-range_with_len own 0 (length a);
  found = λ c j within whole less. absurd (omega arith);
  kept = λ c within none. ap (λ (ys : List (List ℕ)). list_at ys c) e ∙ get_or-map-range_with_len own 0 (length a) c c [] within (omega arith);
}

-- one node more
pub own-more : (own : ℕ → List ℕ) (xs : List (Bor (List ℕ))) (x : Bor (List ℕ)) (k : ℕ) → x.now ≡ own k → lists_of xs ≡ map own (range_with_len 0 k) → lists_of (xs ++ x ∷ []) ≡ map own (range_with_len 0 (k + 1))
own-more own xs x k is e =
    map-append (λ (y : Bor (List ℕ)). y.now) xs (x ∷ []) ∙ ap (λ (ys : List (List ℕ)). ys ++ x.now ∷ []) e ∙ ap (λ (ys : List ℕ). map own (range_with_len 0 k) ++ ys ∷ []) is ∙ sym (map-range_with_len_more own 0 k k (omega arith))

-- the list of a number, as it is read
pub read-list : (xs : List (Bor (List ℕ))) (k : ℕ) (x : Bor (List ℕ)) → k < length xs → x ≡ get_or xs k x → x.now ≡ list_at (lists_of xs) k
read-list xs k x less e = ap (λ (y : Bor (List ℕ)). y.now) e ∙ sym (get_or-map (λ (y : Bor (List ℕ)). y.now) xs k x [] less)

module _ (a : Action) (trees : HasTrees a) (part : Node → List ℕ → ℕ → List ℕ) (own : ℕ → List ℕ) where
  module _ (k : ℕ) (xs : List (List ℕ)) (below : AreHandedBelow a part own k xs) where
    handed-known : (c : ℕ) → c < length a → c ≤ k → list_at xs c ≡ handed_at part own a c c
    handed-known c within early = go (whole_of a c) refl
      where
        go : (o : Option ℕ) → whole_of a c ≡ o → list_at xs c ≡ handed_at part own a c c
        go None e = below.kept c within (λ j f less. let no_node : None ≡ Some j = sym e ∙ f in cc) ∙ sym (handed-root a trees part own c e)
        go (Some j) e = let before = trees.behind j c (whole-part a c j e) in below.found c j within e (omega arith)

    pub handed-more : k < length a → AreHandedBelow a part own (k + 1) (handed_to (parts_at (node_at a k)) (part (node_at a k) (list_at xs k)) xs)
    handed-more within =
        let parts = parts_at (node_at a k) in
        let f : ℕ → List ℕ = part (node_at a k) (list_at xs k) in
        let at : (c : ℕ) → c < length a → list_at (handed_to parts f xs) c ≡ (if is_listed c parts then f c else list_at xs c)
        = λ c less. handed_to-at parts f xs c (omega (arith, below.long)) in
        record {
          long = length-handed_to parts f xs ∙ below.long;
          found = λ c j less e early. at c less ∙ found (is_listed c parts) c j less e early (is_listed_of c parts) (λ m. listed_of c parts m);
          kept = λ c less none. at c less ∙ kept (is_listed c parts) c less none (is_listed_of c parts);
        }
      where
        found : (b : Bool) (c j : ℕ) → c < length a → whole_of a c ≡ Some j → j < k + 1 → (b ≡ true → OneOf c (parts_at (node_at a k))) → (OneOf c (parts_at (node_at a k)) → b ≡ true)
            → (if b then part (node_at a k) (list_at xs k) c else list_at xs c) ≡ handed_at part own a c c
        found true c j less e early is listed =
            ap (λ (os : List ℕ). part (node_at a k) os c) (handed-known k within (omega arith)) ∙ sym (handed-part a trees part own c k (whole-is a trees c k (is refl)))
        found false c j less e early is listed = elim (eqb_tells j k) [
          | inl same ↦ absurd {0} (let found = listed (subst (λ (i : ℕ). OneOf c (parts_at (node_at a i))) same.1 (whole-part a c j e)) in cc)
          | inr other ↦ (let ne = other.1 in below.found c j less e (omega arith))
        ]

        kept : (b : Bool) (c : ℕ) → c < length a → ((j : ℕ) → whole_of a c ≡ Some j → j < k + 1 → ⊥) → (b ≡ true → OneOf c (parts_at (node_at a k))) → (if b then part (node_at a k) (list_at xs k) c else list_at xs c) ≡ own c
        kept true c less none is = absurd (none k (whole-is a trees c k (is refl)) (omega arith))
        kept false c less none is = below.kept c less (λ j e early. none j e (omega arith))

    pub handed-all : length a ≤ k → (c : ℕ) → c < length a → list_at xs c ≡ handed_at part own a c c
    handed-all all c less = handed-known c less (omega arith)
