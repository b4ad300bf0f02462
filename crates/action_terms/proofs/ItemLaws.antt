-- The item that a yielder stands for, from its tree.
use Rattle.std.proofs.Common.{◌≡◌, ℕ, zero, suc, ◌+◌, ◌-◌, ◌≤◌, List, [], ◌∷◌, ◌++◌, length, drop, refl, sym, ap, subst, ◌∙◌, append_assoc, arith}
use Rattle.std.specs.Prelude.{slice_get}
use Rattle.action_terms.specs.Labels.{ActionNode, YielderNode}
use Rattle.action_terms.specs.Trees.{Tree, tree, Trees, none, more}
use Rattle.action_terms.specs.Numbering.{ListedYielder, closure_body, action_count, yielder_count, yielder_counts, yielder_roots, yielders_of, yielders_of_all}
use Rattle.action_terms.specs.Actions.{Item, Them}
use Rattle.action_terms.specs.Meaning.{item_of, item_or_them, picked, items_from}
use Rattle.action_terms.proofs.NodeCounts.{length-yielders_of}

-- an item of a tree's own, if its root is a yielder
abbrev own_item : Tree → Item → List Item
own_item (tree (ActionNode k n tk) ts) i = []
own_item (tree (YielderNode k tk) ts) i = i ∷ []

-- the item of a yielder whose first action node has number a, and the items of trees side by side
abbrev mutual
  pub item_in : (a : ℕ) → Tree → Item
  item_in a (tree (ActionNode k n tk) ts) = Them
  item_in a (tree (YielderNode k tk) ts) = item_of k tk (closure_body k a) (items_in a ts)

  pub items_in : (a : ℕ) → Trees → List Item
  items_in a none = []
  items_in a (more t ts) = own_item t (item_in a t) ++ items_in (a + action_count t) ts

-- the numbers are at least so great
abbrev pub AtLeast : ℕ → List ℕ → Type 0
AtLeast low [] = Unit {0}
AtLeast low (n ∷ ns) = (low ≤ n) × AtLeast low ns

at_least-lower : (low high : ℕ) (ns : List ℕ) → low ≤ high → AtLeast high ns → AtLeast low ns
at_least-lower low high [] less h = tt
at_least-lower low high (n ∷ ns) less h = (omega (arith, h.0), at_least-lower low high ns less h.1)

pub at_least-from : (y : ℕ) (ns : List ℕ) → AtLeast y ns → AtLeast (0 + y) ns
at_least-from y ns h = at_least-lower (0 + y) y ns (omega arith) h

pub yielder_roots-at_least : (y : ℕ) (ts : Trees) → AtLeast y (yielder_roots y ts)
yielder_roots-at_least y none = tt
yielder_roots-at_least y (more (tree (ActionNode k n tk) us) ts) = at_least-lower y (y + yielder_counts us) (yielder_roots (y + yielder_counts us) ts) (omega arith) (yielder_roots-at_least (y + yielder_counts us) ts)
yielder_roots-at_least y (more (tree (YielderNode k tk) us) ts) = (omega arith, at_least-lower y (y + suc (yielder_counts us)) (yielder_roots (y + suc (yielder_counts us)) ts) (omega arith) (yielder_roots-at_least (y + suc (yielder_counts us)) ts))

slice_get-drop : {A : Type 0} (m i : ℕ) (xs : List A) → slice_get (drop m xs) i ≡ slice_get xs (m + i)
slice_get-drop zero i xs = let e : 0 + i ≡ i = omega arith in rw e refl
slice_get-drop (suc m) i [] = refl
slice_get-drop (suc m) i (x ∷ xs) = let e : suc m + i ≡ suc (m + i) = omega arith in rw e (slice_get-drop m i xs)

-- items behind the first m are picked from what is left
pub picked-later : (y m : ℕ) (items : List Item) (ns : List ℕ) → AtLeast (y + m) ns → picked y items ns ≡ picked (y + m) (drop m items) ns
picked-later y m items [] low = refl
picked-later y m items (n ∷ ns) low =
    let place : m + (n - (y + m)) ≡ n - y = omega (arith, low.0) in
    ap (λ i. item_or_them i ∷ picked y items ns) (sym (slice_get-drop m (n - (y + m)) items ∙ ap (slice_get items) place))
    ∙ ap (λ is. item_or_them (slice_get (drop m items) (n - (y + m))) ∷ is) (picked-later y m items ns low.1)

pub items_from-drop : (y : ℕ) (xs ls : List ListedYielder) → drop (length xs) (items_from y (xs ++ ls)) ≡ items_from (y + length xs) ls
items_from-drop y [] ls = let e : y + 0 ≡ y = omega arith in rw e refl
items_from-drop y (x ∷ xs) ls = let e : y + suc (length xs) ≡ suc y + length xs = omega arith in items_from-drop (suc y) xs ls ∙ ap (λ n. items_from n ls) (sym e)

-- what follows the yielders of a tree is picked as if they weren't there
pub picked-behind : (y n : ℕ) (xs ls : List ListedYielder) (ns : List ℕ) → length xs ≡ n → AtLeast (y + n) ns → picked y (items_from y (xs ++ ls)) ns ≡ picked (y + n) (items_from (y + n) ls) ns
picked-behind y n xs ls ns is low =
    let P : ℕ → Type 0 = λ m. picked y (items_from y (xs ++ ls)) ns ≡ picked (y + m) (items_from (y + m) ls) ns in
    let Q : ℕ → Type 0 = λ m. AtLeast (y + m) ns in
    subst P is (picked-later y (length xs) (items_from y (xs ++ ls)) ns (subst Q (sym is) low) ∙ ap (λ is. picked (y + length xs) is ns) (items_from-drop y xs ls))

picked-append : (y : ℕ) (items : List Item) (ms ns : List ℕ) → picked y items (ms ++ ns) ≡ picked y items ms ++ picked y items ns
picked-append y items [] ns = refl
picked-append y items (m ∷ ms) ns = ap (λ is. item_or_them (slice_get items (m - y)) ∷ is) (picked-append y items ms ns)

yielder_roots-split : (t : Tree) (ts : Trees) (y : ℕ) → yielder_roots y (more t ts) ≡ yielder_roots y (more t none) ++ yielder_roots (y + yielder_count t) ts
yielder_roots-split (tree (ActionNode k n tk) us) ts y = refl
yielder_roots-split (tree (YielderNode k tk) us) ts y = refl

mutual
  -- the yielder at the root of a tree
  pub picked-tree : (t : Tree) (a y : ℕ) (ls : List ListedYielder) → picked y (items_from y (yielders_of a y t ++ ls)) (yielder_roots y (more t none)) ≡ own_item t (item_in a t)
  picked-tree (tree (ActionNode k n tk) ts) a y ls = refl
  picked-tree (tree (YielderNode k tk) ts) a y ls =
      let first : y - y ≡ 0 = omega arith in
      let later = items_from (suc y) (yielders_of_all a (suc y) ts ++ ls) in
      let all = item_of k tk (closure_body k a) (picked (suc y) later (yielder_roots (suc y) ts)) ∷ later in
      ap (λ n. item_or_them (slice_get all n) ∷ []) first
      ∙ ap (λ is. item_of k tk (closure_body k a) is ∷ []) (picked-trees ts a (suc y) ls)

  pub picked-trees : (ts : Trees) (a y : ℕ) (ls : List ListedYielder) → picked y (items_from y (yielders_of_all a y ts ++ ls)) (yielder_roots y ts) ≡ items_in a ts
  picked-trees none a y ls = refl
  picked-trees (more t ts) a y ls =
      let y1 = y + yielder_count t in
      let behind = yielders_of_all (a + action_count t) y1 ts ++ ls in
      ap (λ l. picked y (items_from y l) (yielder_roots y (more t ts))) (append_assoc (yielders_of a y t) (yielders_of_all (a + action_count t) y1 ts) ls)
      ∙ ap (picked y (items_from y (yielders_of a y t ++ behind))) (yielder_roots-split t ts y)
      ∙ picked-append y (items_from y (yielders_of a y t ++ behind)) (yielder_roots y (more t none)) (yielder_roots y1 ts)
      ∙ ap (λ is. is ++ picked y (items_from y (yielders_of a y t ++ behind)) (yielder_roots y1 ts)) (picked-tree t a y behind)
      ∙ ap (λ is. own_item t (item_in a t) ++ is) (picked-behind y (yielder_count t) (yielders_of a y t) behind (yielder_roots y1 ts) (length-yielders_of a y t) (yielder_roots-at_least y1 ts) ∙ picked-trees ts (a + action_count t) y1 ls)
