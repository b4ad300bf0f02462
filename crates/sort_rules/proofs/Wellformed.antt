-- Values and operations keep parts well-formed.
use Rattle.std.proofs.Common.{Bool, IsTrue, List, None, Option, Some, [], ap, arith, false, if◌then◌else◌, length, nat_le, nat_lt, refl, subst, suc, sym, true, zero, ℕ, ◌++◌, ◌∷◌, ◌≡◌, ◌≤◌}
use Rattle.std.proofs.lemmas.Bool.Decides.{nat_tests}
use Rattle.action_terms.specs.Actions.{BothOf, BoundTo, ClosureOf, EitherOf, Given, GivenAt, Is, Item, Less, Negation, Not, NumberLiteral, OnOne, OnTwo, One, Single, StoredIn, Them, TruthLiteral, Two, Yielder}
use Rattle.action_terms.specs.Bindings.{token_lt}
use Rattle.action_terms.specs.Information.{Token}
use Rattle.action_terms.specs.Performances.{Here, Later, OneOf}
use Rattle.action_terms.specs.Steps.{closures_in, closures_in_items}
use Rattle.action_terms.specs.declared.kinds.Sort.TheVariants as sort
use Rattle.action_terms.specs.declared.kinds.Sort.{Sort}
use Rattle.sort_rules.specs.Admissible.{is_clash}
use Rattle.sort_rules.specs.Demands.{Each, MoreOf}
use Rattle.sort_rules.specs.Parts.{Clash, Component, Listed, Part, Unreached, bind_component, components_meet, concatenation, join, joined_components, limited, lookup_set, on_list, overlaid_components, overlay, same_token, union, when, with_component}
use Rattle.sort_rules.specs.Numbers.{inserted, merged}
use Rattle.sort_rules.specs.Sets.{Set, cells_of_node, closures_of_body, inside, integers, is_empty, set_union, truths}
use Rattle.sort_rules.specs.Values.{all_contents, cells_in_set, first_set, found, items_value, nth_set, one, one_or_unreached, only_set, result_of_one, result_of_two, value}
use Rattle.sort_rules.specs.Wellformed.{AreOf, AreSorts, Ascending, ClashOf, IsPartOf, IsSetOf, IsSort, ListedOf, ListedSort, MoreNumbers, NoNumber, NoSort, NoneListed, OneListed, OneNumber, OneSort, UnreachedOf, UnreachedSort}
use Rattle.sort_rules.proofs.Choices.{either, of_choice}
use Rattle.sort_rules.proofs.EachLaws.{each_left, each_right}
use Rattle.sort_rules.proofs.NumberLists.{merged_from}
use Rattle.sort_rules.proofs.SetOrder.{empty_mono, union_left}

inserted_after : {m : ℕ} (n : ℕ) {ms : List ℕ} → IsTrue (nat_lt m n) → Ascending (m ∷ ms) → Ascending (m ∷ inserted n ms)
inserted_after n less OneNumber = MoreNumbers less OneNumber
inserted_after {m} n less (MoreNumbers {m = m2} {ms} q h) =
    of_choice (nat_lt n m2) _ _ (λ xs. Ascending (m ∷ xs)) (λ e. MoreNumbers less (MoreNumbers e h))
    (λ e. of_choice (nat_lt m2 n) _ _ (λ xs. Ascending (m ∷ xs)) (λ f. MoreNumbers q (inserted_after n f h)) (λ f. MoreNumbers q h))

inserted_ascends : (n : ℕ) {ms : List ℕ} → Ascending ms → Ascending (inserted n ms)
inserted_ascends n NoNumber = OneNumber
inserted_ascends n (OneNumber {n = m}) =
    of_choice (nat_lt n m) _ _ Ascending (λ e. MoreNumbers e OneNumber) (λ e. of_choice (nat_lt m n) _ _ Ascending (λ f. MoreNumbers f OneNumber) (λ f. OneNumber))
inserted_ascends n (MoreNumbers {n = m} q h) =
    of_choice (nat_lt n m) _ _ Ascending (λ e. MoreNumbers e (MoreNumbers q h)) (λ e. of_choice (nat_lt m n) _ _ Ascending (λ f. inserted_after n f (MoreNumbers q h)) (λ f. MoreNumbers q h))

pub merged_ascends : (xs : List ℕ) {ys : List ℕ} → Ascending ys → Ascending (merged xs ys)
merged_ascends [] h = h
merged_ascends (x ∷ xs) h = merged_ascends xs (inserted_ascends x h)

-- a set without cells and closures
set-plain : {cs bs : List ℕ} {x : Set} → x.cells ≡ [] → x.abstractions ≡ [] → IsSetOf cs bs x
set-plain {cs} {bs} {x} e f = record {
  cells_of = λ k m. none k x.cells e m;
  abstractions_of = λ k m. none k x.abstractions f m;
  cells_ascend = subst Ascending (sym e) NoNumber;
  abstractions_ascend = subst Ascending (sym f) NoNumber;
}
  where
    none : {ys : List ℕ} (k : ℕ) (xs : List ℕ) → xs ≡ [] → OneOf k xs → OneOf k ys
    none k [] e m = elim m [ ]
    none k (y ∷ ys) e m = absurd {0} (cc)

set-inside : {cs bs : List ℕ} (s : Sort) {x : Set} → IsSetOf cs bs x → IsSetOf cs bs (inside s x)
set-inside sort.Integer f = set-plain refl refl
set-inside sort.Truth f = set-plain refl refl
set-inside sort.Cell f = record { cells_of = f.cells_of; abstractions_of = λ k m. elim m [ ]; cells_ascend = f.cells_ascend; abstractions_ascend = NoNumber }
set-inside sort.Abstraction f = record { cells_of = λ k m. elim m [ ]; abstractions_of = f.abstractions_of; cells_ascend = NoNumber; abstractions_ascend = f.abstractions_ascend }

pub part-one : {cs bs : List ℕ} {x : Set} → IsSetOf cs bs x → is_empty x ≡ false → IsPartOf cs bs (one x)
part-one f e = ListedOf (OneListed f e NoneListed) (omega arith)

part-valued : {cs bs : List ℕ} {x : Set} → IsSetOf cs bs x → IsPartOf cs bs (one_or_unreached x)
part-valued {cs} {bs} {x} f = go (is_empty x) refl
  where
    go : (b : Bool) → is_empty x ≡ b → IsPartOf cs bs (if b then Unreached else one x)
    go true e = UnreachedOf
    go false e = part-one f e

pub data FindsSetOf (cs bs : List ℕ) : Option Set → Type 0 where
  FindsNone : FindsSetOf cs bs None
  FindsOne : {x : Set} → IsSetOf cs bs x → FindsSetOf cs bs (Some x)

part-found : {cs bs : List ℕ} (s : Sort) {o : Option Set} → FindsSetOf cs bs o → IsPartOf cs bs (found s o)
part-found s FindsNone = UnreachedOf
part-found s (FindsOne f) = part-valued (set-inside s f)

find-first : {cs bs : List ℕ} {ps : List Component} → AreOf cs bs ps → FindsSetOf cs bs (first_set ps)
find-first NoneListed = FindsNone
find-first (OneListed f e h) = FindsOne f

find-only : {cs bs : List ℕ} {ps : List Component} → AreOf cs bs ps → FindsSetOf cs bs (only_set ps)
find-only NoneListed = FindsNone
find-only (OneListed f e NoneListed) = FindsOne f
find-only (OneListed f e (OneListed g e2 h)) = FindsNone

find-nth : {cs bs : List ℕ} (i : ℕ) {ps : List Component} → AreOf cs bs ps → FindsSetOf cs bs (nth_set i ps)
find-nth zero h = FindsNone
find-nth (suc i) NoneListed = FindsNone
find-nth (suc zero) (OneListed f e h) = FindsOne f
find-nth (suc (suc i)) (OneListed f e h) = find-nth (suc i) h

find-lookup : {cs bs : List ℕ} (t : Token) {ps : List Component} → AreOf cs bs ps → FindsSetOf cs bs (lookup_set t ps)
find-lookup t NoneListed = FindsNone
find-lookup {cs} {bs} t (OneListed {p} f e h) = of_choice (token_lt t p.token) _ _ (FindsSetOf cs bs) (λ a. FindsNone) (λ a. of_choice (token_lt p.token t) _ _ (FindsSetOf cs bs) (λ b. find-lookup t h) (λ b. FindsOne f))

part-on_list : {cs bs : List ℕ} {f : List Component → Part} {x : Part} → ((ps : List Component) → AreOf cs bs ps → IsPartOf cs bs (f ps)) → IsPartOf cs bs x → IsPartOf cs bs (on_list f x)
part-on_list h UnreachedOf = UnreachedOf
part-on_list h (ListedOf g l) = h _ g
part-on_list h ClashOf = ClashOf

pub part-when : {cs bs : List ℕ} (c : Part) {x : Part} → IsPartOf cs bs x → IsPartOf cs bs (when c x)
part-when Unreached f = UnreachedOf
part-when (Listed ps) f = f
part-when Clash f = f

part-limited : {cs bs : List ℕ} {ps : List Component} → AreOf cs bs ps → IsPartOf cs bs (limited ps)
part-limited {cs} {bs} {ps} f = of_choice (nat_le (length ps) 64) _ _ (IsPartOf cs bs) (λ e. ListedOf f (few (length ps) e)) (λ e. ClashOf)
  where
    few : (k : ℕ) → nat_le k 64 ≡ true → k ≤ 64
    few k e = grind (arith, nat_tests)

list-append : {cs bs : List ℕ} {ps qs : List Component} → AreOf cs bs ps → AreOf cs bs qs → AreOf cs bs (ps ++ qs)
list-append NoneListed g = g
list-append (OneListed f e fs) g = OneListed f e (list-append fs g)

list-bind : {cs bs : List ℕ} (p : Component) {ps : List Component} → IsSetOf cs bs p.set → is_empty p.set ≡ false → AreOf cs bs ps → AreOf cs bs (bind_component p ps)
list-bind p f e NoneListed = OneListed f e NoneListed
list-bind {cs} {bs} p f e (OneListed {p = q} g e2 h) = of_choice (token_lt p.token q.token) _ _ (AreOf cs bs) (λ a. OneListed f e (OneListed g e2 h)) (λ a. of_choice (token_lt q.token p.token) _ _ (AreOf cs bs) (λ b. OneListed g e2 (list-bind p f e h)) (λ b. OneListed f e h))

list-overlaid : {cs bs : List ℕ} {ps qs : List Component} → AreOf cs bs ps → AreOf cs bs qs → AreOf cs bs (overlaid_components ps qs)
list-overlaid NoneListed g = g
list-overlaid (OneListed f e fs) NoneListed = OneListed f e fs
list-overlaid (OneListed f e fs) (OneListed {p} g e2 h) = list-bind p g e2 (list-overlaid (OneListed f e fs) h)

pub part-concatenation : {cs bs : List ℕ} {x y : Part} → IsPartOf cs bs x → IsPartOf cs bs y → IsPartOf cs bs (concatenation x y)
part-concatenation UnreachedOf g = UnreachedOf
part-concatenation (ListedOf f h) (ListedOf g q) = part-limited (list-append f g)
part-concatenation (ListedOf f h) UnreachedOf = UnreachedOf
part-concatenation (ListedOf f h) ClashOf = ClashOf
part-concatenation ClashOf UnreachedOf = UnreachedOf
part-concatenation ClashOf (ListedOf g q) = ClashOf
part-concatenation ClashOf ClashOf = ClashOf

pub part-overlay : {cs bs : List ℕ} {x y : Part} → IsPartOf cs bs x → IsPartOf cs bs y → IsPartOf cs bs (overlay x y)
part-overlay UnreachedOf g = UnreachedOf
part-overlay (ListedOf f h) (ListedOf g q) = part-limited (list-overlaid f g)
part-overlay (ListedOf f h) UnreachedOf = UnreachedOf
part-overlay (ListedOf f h) ClashOf = ClashOf
part-overlay ClashOf UnreachedOf = UnreachedOf
part-overlay ClashOf (ListedOf g q) = ClashOf
part-overlay ClashOf ClashOf = ClashOf

pub part-union : {cs bs : List ℕ} {x y : Part} → IsPartOf cs bs x → IsPartOf cs bs y → IsPartOf cs bs (union x y)
part-union UnreachedOf g = UnreachedOf
part-union {cs} {bs} (ListedOf {ps} f h) (ListedOf {ps = qs} g q) = of_choice (components_meet ps qs) _ _ (IsPartOf cs bs) (λ e. ClashOf) (λ e. part-limited (list-overlaid f g))
part-union (ListedOf f h) UnreachedOf = UnreachedOf
part-union (ListedOf f h) ClashOf = ClashOf
part-union ClashOf UnreachedOf = UnreachedOf
part-union ClashOf (ListedOf g q) = ClashOf
part-union ClashOf ClashOf = ClashOf

-- a join is a clash or as long as its parts
data IsAsLong (cs bs : List ℕ) (l : ℕ) : Part → Type 0 where
  LongClash : IsAsLong cs bs l Clash
  LongList : {zs : List Component} → AreOf cs bs zs → length zs ≡ l → IsAsLong cs bs l (Listed zs)

set-set_union : {cs bs : List ℕ} {x y : Set} → IsSetOf cs bs x → IsSetOf cs bs y → IsSetOf cs bs (set_union x y)
set-set_union {x} {y} f g = record {
  cells_of = λ k m. either (f.cells_of k) (g.cells_of k) (merged_from x.cells y.cells k m);
  abstractions_of = λ k m. either (f.abstractions_of k) (g.abstractions_of k) (merged_from x.abstractions y.abstractions k m);
  cells_ascend = merged_ascends x.cells g.cells_ascend;
  abstractions_ascend = merged_ascends x.abstractions g.abstractions_ascend;
}

-- a larger set isn't empty
some-united : (x y : Set) → is_empty x ≡ false → is_empty (set_union x y) ≡ false
some-united x y e = go (is_empty (set_union x y)) refl
  where
    go : (b : Bool) → is_empty (set_union x y) ≡ b → is_empty (set_union x y) ≡ false
    go false q = q
    go true q = let r : is_empty x ≡ true = empty_mono (union_left y) q in absurd {0} (cc)

long-component : {cs bs : List ℕ} {l : ℕ} (s : Component) {x : Part} → IsSetOf cs bs s.set → is_empty s.set ≡ false → IsAsLong cs bs l x → IsAsLong cs bs (suc l) (with_component s x)
long-component s f e LongClash = LongClash
long-component s f e (LongList g q) = LongList (OneListed f e g) (ap suc q)

part-joined : {cs bs : List ℕ} {ps qs : List Component} → AreOf cs bs ps → AreOf cs bs qs → IsAsLong cs bs (length ps) (joined_components ps qs)
part-joined NoneListed NoneListed = LongList NoneListed refl
part-joined NoneListed (OneListed g e gs) = LongClash
part-joined (OneListed f e fs) NoneListed = LongClash
part-joined {cs} {bs} (OneListed {p} {ps} f e fs) (OneListed {p = q} g e2 gs) = of_choice (same_token p.token q.token) _ _ (IsAsLong cs bs (suc (length ps))) (λ t. long-component (record { token = p.token; set = set_union p.set q.set }) (set-set_union f g) (some-united p.set q.set e) (part-joined fs gs)) (λ t. LongClash)

part-as_long : {cs bs : List ℕ} {l : ℕ} {x : Part} → l ≤ 64 → IsAsLong cs bs l x → IsPartOf cs bs x
part-as_long h LongClash = ClashOf
part-as_long h (LongList f e) = ListedOf f (omega arith)

pub part-join : {cs bs : List ℕ} {x y : Part} → IsPartOf cs bs x → IsPartOf cs bs y → IsPartOf cs bs (join x y)
part-join UnreachedOf g = g
part-join (ListedOf f h) UnreachedOf = ListedOf f h
part-join (ListedOf f h) (ListedOf g q) = part-as_long h (part-joined f g)
part-join (ListedOf f h) ClashOf = ClashOf
part-join ClashOf g = ClashOf

-- ---- values
part-all_contents : {cs bs : List ℕ} (c : ℕ → Part) (ks : List ℕ) → ((k : ℕ) → IsPartOf cs bs (c k)) → IsPartOf cs bs (all_contents c ks)
part-all_contents c [] h = UnreachedOf
part-all_contents c (k ∷ ks) h = part-join (h k) (part-all_contents c ks h)

pub set-integers : {cs bs : List ℕ} → IsSetOf cs bs integers
set-integers = set-plain refl refl

set-truths : {cs bs : List ℕ} → IsSetOf cs bs truths
set-truths = set-plain refl refl

set-result_of_two : {cs bs : List ℕ} (f : Two) → IsPartOf cs bs (one (result_of_two f))
set-result_of_two Is = part-one set-truths refl
set-result_of_two Less = part-one set-truths refl
set-result_of_two BothOf = part-one set-truths refl
set-result_of_two EitherOf = part-one set-truths refl
set-result_of_two _ = part-one set-integers refl

set-result_of_one : {cs bs : List ℕ} (f : One) → IsPartOf cs bs (one (result_of_one f))
set-result_of_one Negation = part-one set-integers refl
set-result_of_one Not = part-one set-truths refl

only_of : {k : ℕ} {ys : List ℕ} (i : ℕ) → OneOf i (k ∷ []) → OneOf k ys → OneOf i ys
only_of _ Here l = l
only_of i (Later m) l = elim m [ ]

pub set-closure : {cs bs : List ℕ} {k : ℕ} → OneOf k bs → IsSetOf cs bs (closures_of_body k)
set-closure l = record { cells_of = λ i m. elim m [ ]; abstractions_of = λ i m. only_of i m l; cells_ascend = NoNumber; abstractions_ascend = OneNumber }

pub set-cell : {cs bs : List ℕ} {k : ℕ} → OneOf k cs → IsSetOf cs bs (cells_of_node k)
set-cell l = record { cells_of = λ i m. only_of i m l; abstractions_of = λ i m. elim m [ ]; cells_ascend = OneNumber; abstractions_ascend = NoNumber }

pub part-value : {cs bs : List ℕ} {c : ℕ → Part} {g h : Part} → ((k : ℕ) → IsPartOf cs bs (c k)) → IsPartOf cs bs g → IsPartOf cs bs h → (y : Yielder) → Each (λ k. OneOf k bs) (closures_in y) → IsPartOf cs bs (value c g h y)
part-value gc gg gh (NumberLiteral k) q = part-one set-integers refl
part-value gc gg gh (TruthLiteral b) q = part-one set-truths refl
part-value gc gg gh (Given s) q = part-on_list (λ ps f. part-found s (find-only f)) gg
part-value gc gg gh (GivenAt s i) q = part-on_list (λ ps f. part-found s (find-nth i f)) gg
part-value gc gg gh (BoundTo s t) q = part-on_list (λ ps f. part-found s (find-lookup t f)) gh
part-value {c} gc gg gh (StoredIn s y) q = part-on_list (λ ps f. part-found s (find-first f)) (part-on_list (λ ps f. part-all_contents c (cells_in_set (first_set ps)) gc) (part-value gc gg gh y q))
part-value {c} {g} {h} gc gg gh (OnTwo f y1 y2) q = part-when (value c g h y1) (part-when (value c g h y2) (set-result_of_two f))
part-value {c} {g} {h} gc gg gh (OnOne f y) q = part-when (value c g h y) (set-result_of_one f)
part-value gc gg gh (ClosureOf k) (MoreOf l h) = part-one (set-closure l) refl

pub part-items : {cs bs : List ℕ} {c : ℕ → Part} {g h : Part} → ((k : ℕ) → IsPartOf cs bs (c k)) → IsPartOf cs bs g → IsPartOf cs bs h → (is : List Item) → Each (λ k. OneOf k bs) (closures_in_items is) → IsPartOf cs bs (items_value c g h is)
part-items gc gg gh [] q = ListedOf NoneListed (omega arith)
part-items gc gg gh (Single y ∷ is) q = part-concatenation (part-value gc gg gh y (each_left (closures_in y) (closures_in_items is) q)) (part-items gc gg gh is (each_right (closures_in y) q))
part-items gc gg gh (Them ∷ is) q = part-concatenation gg (part-items gc gg gh is q)

-- a well-formed part without a clash is one of a table
sorts_of : {cs bs : List ℕ} {ps : List Component} → AreOf cs bs ps → AreSorts ps
sorts_of NoneListed = NoSort
sorts_of (OneListed f e h) = OneSort (record { cells = f.cells_ascend; abstractions = f.abstractions_ascend }) e (sorts_of h)

pub sort_of : {cs bs : List ℕ} {x : Part} → IsPartOf cs bs x → is_clash x ≡ false → IsSort x
sort_of UnreachedOf e = UnreachedSort
sort_of (ListedOf f l) e = ListedSort (sorts_of f) l
sort_of ClashOf e = absurd {0} (cc)
