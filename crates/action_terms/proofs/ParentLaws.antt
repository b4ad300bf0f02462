-- A child has one parent.
use Rattle.std.proofs.Common.{◌≡◌, ℕ, zero, suc, ◌+◌, ◌<◌, List, [], ◌∷◌, ◌++◌, length, refl, sym, ap, subst, ◌∙◌, inl, inr, arith}
use Rattle.std.specs.Prelude.{Option, Some, slice_get}
use Rattle.action_terms.specs.Labels.{ActionNode, YielderNode, Wanted, operand_lengths, under}
use Rattle.action_terms.specs.Trees.{Tree, tree, Trees, none, more, Is, Are}
use Rattle.action_terms.specs.Numbering.{ListedNode, children_of, pieces, body_of, around_parts, around_arguments, action_count, action_counts, yielder_count, yielder_counts, action_roots, yielder_roots, nodes_of, nodes_of_all}
use Rattle.action_terms.proofs.Each.{Each-at, slice_get-append_cases}
use Rattle.action_terms.proofs.ChildrenLaws.{Sits, sits-tree, sits-trees, action_roots-within, child-root}

-- no child stands under a node of the one list and under a node of the other
abbrev Apart : List ListedNode → List ListedNode → Type 0
Apart xs ys = (j k h i c : ℕ) (m n : ListedNode) → slice_get xs j ≡ Some m → slice_get ys k ≡ Some n → slice_get m.children h ≡ Some c → slice_get n.children i ≡ Some c → ⊥

-- each child stands under one of the nodes
abbrev pub OneParent : List ListedNode → Type 0
OneParent xs = (j k h i c : ℕ) (m n : ListedNode) → slice_get xs j ≡ Some m → slice_get xs k ≡ Some n → slice_get m.children h ≡ Some c → slice_get n.children i ≡ Some c → j ≡ k

one_parent-append : (xs ys : List ListedNode) → OneParent xs → OneParent ys → Apart xs ys → OneParent (xs ++ ys)
one_parent-append xs ys first second apart j k h i c m n at at2 child child2 =
    elim (slice_get-append_cases xs ys j m at) [
      | inl p ↦ elim (slice_get-append_cases xs ys k n at2) [
        | inl q ↦ first j k h i c m n p.0 q.0 child child2
        | inr q ↦ absurd (apart j q.0 h i c m n p.0 q.2 child child2)
      ]
      | inr p ↦ elim (slice_get-append_cases xs ys k n at2) [
        | inl q ↦ absurd (apart k p.0 i h c n m q.0 p.2 child2 child)
        | inr q ↦ p.1 ∙ ap (λ x. length xs + x) (second p.0 q.0 h i c m n p.2 q.2 child child2) ∙ sym q.1
      ]
    ]

-- the children in a tree lie behind its first node, and before what follows it
children-within : (t : Tree) (x : Wanted) (c : Option ℕ) (a y : ℕ) → Is x t → (j i d : ℕ) (m : ListedNode) → slice_get (nodes_of c a y t) j ≡ Some m → slice_get m.children i ≡ Some d → (a < d) × (d < a + action_count t)
children-within t x c a y h j i d m at child =
    let s = Each-at (Sits (a + action_count t) (y + yielder_count t)) a (nodes_of c a y t) j m (sits-tree t x c a y (a + action_count t) (y + yielder_count t) h (omega arith) (omega arith)) at in
    let g = s.children_within i d child in
    let low : a < d = omega arith in (low, g.1)

children-within_all : (ts : Trees) (xs : List Wanted) (c : Option ℕ) (a y : ℕ) → Are xs ts → (j i d : ℕ) (m : ListedNode) → slice_get (nodes_of_all c a y ts) j ≡ Some m → slice_get m.children i ≡ Some d → (a < d) × (d < a + action_counts ts)
children-within_all ts xs c a y h j i d m at child =
    let s = Each-at (Sits (a + action_counts ts) (y + yielder_counts ts)) a (nodes_of_all c a y ts) j m (sits-trees ts xs c a y (a + action_counts ts) (y + yielder_counts ts) h (omega arith) (omega arith)) at in
    let g = s.children_within i d child in
    let low : a < d = omega arith in (low, g.1)

-- the roots of trees side by side are no children in them
roots-apart : (ts : Trees) (xs : List Wanted) (c : Option ℕ) (a y : ℕ) → Are xs ts → (j h i d : ℕ) (m : ListedNode) → slice_get (action_roots a ts) h ≡ Some d → slice_get (nodes_of_all c a y ts) j ≡ Some m → slice_get m.children i ≡ Some d → ⊥
roots-apart none xs c a y are j h i d m root at child = cc
roots-apart (more t ts) [] c a y are j h i d m root at child = elim are [ ]
roots-apart (more (tree (ActionNode k n tk) us) ts) (x ∷ xs) c a y are j zero i d m root at child =
    let same : a ≡ d = cc in
    let g = children-within_all (more (tree (ActionNode k n tk) us) ts) (x ∷ xs) c a y are j i d m at child in
    omega arith
roots-apart (more (tree (ActionNode k n tk) us) ts) (x ∷ xs) c a y are j (suc h) i d m root at child =
    let t = tree (ActionNode k n tk) us in
    elim (slice_get-append_cases (nodes_of c a y t) (nodes_of_all c (a + action_count t) (y + yielder_count t) ts) j m at) [
      | inl p ↦ (let g = children-within t x c a y are.0 j i d m p.0 child in let f = action_roots-within ts (a + action_count t) h d root in omega (arith, g.1, f.0))
      | inr p ↦ roots-apart ts xs c (a + action_count t) (y + yielder_count t) are.1 p.0 h i d m root p.2 child
    ]
roots-apart (more (tree (YielderNode k tk) us) ts) (x ∷ xs) c a y are j h i d m root at child =
    let t = tree (YielderNode k tk) us in
    elim (slice_get-append_cases (nodes_of c a y t) (nodes_of_all c (a + action_count t) (y + yielder_count t) ts) j m at) [
      | inl p ↦ (let g = children-within t x c a y are.0 j i d m p.0 child in let f = action_roots-within ts (a + action_count t) h d root in omega (arith, g.1, f.0))
      | inr p ↦ roots-apart ts xs c (a + action_count t) (y + yielder_count t) are.1 p.0 h i d m root p.2 child
    ]

one_parent-one : (n : ListedNode) → OneParent (n ∷ [])
one_parent-one n zero zero h i c m o at at2 child child2 = refl
one_parent-one n zero (suc k) h i c m o at at2 child child2 = cc
one_parent-one n (suc j) k h i c m o at at2 child child2 = cc

apart-root : (root : ListedNode) (rest : List ListedNode) → ((j h i d : ℕ) (m : ListedNode) → slice_get root.children h ≡ Some d → slice_get rest j ≡ Some m → slice_get m.children i ≡ Some d → ⊥) → Apart (root ∷ []) rest
apart-root root rest apart zero k h i c m n at at2 child child2 =
    let same : root ≡ m = cc in
    let P : ListedNode → Type 0 = λ o. slice_get o.children h ≡ Some c in
    apart k h i c n (subst P (sym same) child) at2 child2
apart-root root rest apart (suc j) k h i c m n at at2 child child2 = cc

mutual
  pub one_parent-tree : (t : Tree) (x : Wanted) (c : Option ℕ) (a y : ℕ) → Is x t → OneParent (nodes_of c a y t)
  one_parent-tree (tree (ActionNode k n tk) ts) x c a y h =
      let rest = nodes_of_all (around_parts k a c) (suc a) y ts in
      let root : ListedNode = record { kind = k; token = tk; children = children_of k (action_roots (suc a) ts); operands = pieces (operand_lengths k n) (yielder_roots y ts); body = body_of k a c } in
      one_parent-append (root ∷ []) rest (one_parent-one root) (one_parent-trees ts (under (ActionNode k n tk)) (around_parts k a c) (suc a) y h.1)
      (apart-root root rest (λ j g i d m child at child2. roots-apart ts (under (ActionNode k n tk)) (around_parts k a c) (suc a) y h.1 j g i d m (child-root k (action_roots (suc a) ts) g d child) at child2))
  one_parent-tree (tree (YielderNode k tk) ts) x c a y h = one_parent-trees ts (under (YielderNode k tk)) (around_arguments k c) a (suc y) h.1

  pub one_parent-trees : (ts : Trees) (xs : List Wanted) (c : Option ℕ) (a y : ℕ) → Are xs ts → OneParent (nodes_of_all c a y ts)
  one_parent-trees none xs c a y h = λ j k p i d m n at at2 child child2. cc
  one_parent-trees (more t ts) [] c a y h = elim h [ ]
  one_parent-trees (more t ts) (x ∷ xs) c a y h =
      let a1 = a + action_count t in
      let y1 = y + yielder_count t in
      one_parent-append (nodes_of c a y t) (nodes_of_all c a1 y1 ts) (one_parent-tree t x c a y h.0) (one_parent-trees ts xs c a1 y1 h.1)
      (λ j k g i d m n at at2 child child2.
      let f = children-within t x c a y h.0 j g d m at child in
      let e = children-within_all ts xs c a1 y1 h.1 k i d n at2 child2 in
      omega (arith, f.1, e.0))
