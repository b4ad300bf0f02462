-- Of the nodes of a tree: the body of an `unfolding` is the node behind it, which is no part of any node.
use Rattle.std.proofs.Common.{◌≡◌, ℕ, zero, suc, ◌+◌, ◌<◌, ◌≤◌, List, [], ◌∷◌, sym, ap, subst, ◌∙◌, inl, inr, arith}
use Rattle.std.specs.Prelude.{Option, Some, slice_get}
use Rattle.action_terms.specs.Labels.{ActionNode, YielderNode, Wanted, AnAction, operand_lengths, under, under_action}
use Rattle.action_terms.specs.Trees.{Tree, tree, Trees, none, more, Is, Are}
use Rattle.action_terms.specs.Numbering.{ListedNode, pieces, children_of, body_of, around_parts, around_arguments, action_count, action_counts, yielder_count, yielder_counts, action_roots, yielder_roots, nodes_of, nodes_of_all}
use Rattle.action_terms.specs.declared.kinds.Kind.{Kind}
use Rattle.action_terms.specs.declared.kinds.Kind.TheVariants as kind
use Rattle.action_terms.proofs.Each.{Each, Each-append, Each-at, slice_get-append_cases}
use Rattle.action_terms.proofs.ChildrenLaws.{Sits, sits-tree, sits-trees, action_roots-within, child-root}
use Rattle.action_terms.proofs.NodeCounts.{action_count-some, length-nodes_of}

-- ---- the body stands behind its node, within the same tree

-- an `unfolding` of number k has the body k + 1, below a bound
abbrev pub HasBody : (bound k : ℕ) → ListedNode → Type 0
HasBody bound k n = n.kind ≡ kind.Unfolding → (n.body ≡ suc k) × (suc k < bound)

one-part : (ts : Trees) → Are (AnAction ∷ []) ts → 0 < action_counts ts
one-part none h = elim h [ ]
one-part (more t ts) h = let some = action_count-some t h.0 in omega arith

unfolding-part : (k : Kind) (n : ℕ) (ts : Trees) → Are (under_action k n) ts → k ≡ kind.Unfolding → 0 < action_counts ts
unfolding-part k n ts h is = let P : Kind → Type 0 = λ m. Are (under_action m n) ts in one-part ts (subst P is h)

mutual
  pub bodies-tree : (t : Tree) (x : Wanted) (c : Option ℕ) (a y bound : ℕ) → Is x t → a + action_count t ≤ bound → Each (HasBody bound) a (nodes_of c a y t)
  bodies-tree (tree (ActionNode k n tk) ts) x c a y bound h few =
      let less : suc a + action_counts ts ≤ bound = omega arith in
      (λ e. (ap (λ m. body_of m a c) e, let some = unfolding-part k n ts h.1 e in omega arith), bodies-trees ts (under (ActionNode k n tk)) (around_parts k a c) (suc a) y bound h.1 less)
  bodies-tree (tree (YielderNode k tk) ts) x c a y bound h few = bodies-trees ts (under (YielderNode k tk)) (around_arguments k c) a (suc y) bound h.1 few

  bodies-trees : (ts : Trees) (xs : List Wanted) (c : Option ℕ) (a y bound : ℕ) → Are xs ts → a + action_counts ts ≤ bound → Each (HasBody bound) a (nodes_of_all c a y ts)
  bodies-trees none xs c a y bound h few = tt
  bodies-trees (more t ts) [] c a y bound h few = elim h [ ]
  bodies-trees (more t ts) (x ∷ xs) c a y bound h few =
      let a1 : a + action_count t ≤ bound = omega arith in
      let a2 : a + action_count t + action_counts ts ≤ bound = omega arith in
      let rest = nodes_of_all c (a + action_count t) (y + yielder_count t) ts in
      let P : ℕ → Type 0 = λ m. Each (HasBody bound) (a + m) rest in
      Each-append (HasBody bound) a (nodes_of c a y t) rest (bodies-tree t x c a y bound h.0 a1)
      (subst P (sym (length-nodes_of c a y t)) (bodies-trees ts xs c (a + action_count t) (y + yielder_count t) bound h.1 a2))

inside-tree : (t : Tree) (x : Wanted) (c : Option ℕ) (a y : ℕ) → Is x t → (k : ℕ) (m : ListedNode) → slice_get (nodes_of c a y t) k ≡ Some m → m.kind ≡ kind.Unfolding → suc (a + k) < a + action_count t
inside-tree t x c a y h k m at is = (Each-at (HasBody (a + action_count t)) a (nodes_of c a y t) k m (bodies-tree t x c a y (a + action_count t) h (omega arith)) at is).1

-- ---- it is no child

-- children in a tree lie behind its first node, and before what follows it
child-inside : (t : Tree) (x : Wanted) (c : Option ℕ) (a y : ℕ) → Is x t → (j i d : ℕ) (m : ListedNode) → slice_get (nodes_of c a y t) j ≡ Some m → slice_get m.children i ≡ Some d → d < a + action_count t
child-inside t x c a y h j i d m at child =
    ((Each-at (Sits (a + action_count t) (y + yielder_count t)) a (nodes_of c a y t) j m (sits-tree t x c a y (a + action_count t) (y + yielder_count t) h (omega arith) (omega arith)) at).children_within i d child).1

child-behind : (ts : Trees) (xs : List Wanted) (c : Option ℕ) (a y : ℕ) → Are xs ts → (j i d : ℕ) (m : ListedNode) → slice_get (nodes_of_all c a y ts) j ≡ Some m → slice_get m.children i ≡ Some d → a < d
child-behind ts xs c a y h j i d m at child =
    let low = ((Each-at (Sits (a + action_counts ts) (y + yielder_counts ts)) a (nodes_of_all c a y ts) j m (sits-trees ts xs c a y (a + action_counts ts) (y + yielder_counts ts) h (omega arith) (omega arith)) at).children_within i d child).0 in
    omega (arith, low)

-- nor a root of the trees in which its `unfolding` stands
root-other : (ts : Trees) (xs : List Wanted) (c : Option ℕ) (a y : ℕ) → Are xs ts → (k h : ℕ) (m : ListedNode) → slice_get (nodes_of_all c a y ts) k ≡ Some m → m.kind ≡ kind.Unfolding → slice_get (action_roots a ts) h ≡ Some (suc (a + k)) → ⊥
root-other none xs c a y are k h m at is root = cc
root-other (more t ts) [] c a y are k h m at is root = elim are [ ]
root-other (more (tree (ActionNode kd n tk) us) ts) (x ∷ xs) c a y are k zero m at is root = let same : a ≡ suc (a + k) = cc in omega (arith, same)
root-other (more (tree (ActionNode kd n tk) us) ts) (x ∷ xs) c a y are k (suc h) m at is root =
    let t = tree (ActionNode kd n tk) us in
    elim (slice_get-append_cases (nodes_of c a y t) (nodes_of_all c (a + action_count t) (y + yielder_count t) ts) k m at) [
      | inl p ↦ (let f = action_roots-within ts (a + action_count t) h (suc (a + k)) root in omega (arith, inside-tree t x c a y are.0 k m p.0 is, f.0))
      | inr p ↦ (let place : suc (a + k) ≡ suc (a + action_count t + p.0) = omega (arith, p.1, length-nodes_of c a y t) in
          root-other ts xs c (a + action_count t) (y + yielder_count t) are.1 p.0 h m p.2 is (subst (λ d. slice_get (action_roots (a + action_count t) ts) h ≡ Some d) place root))
    ]
root-other (more (tree (YielderNode kd tk) us) ts) (x ∷ xs) c a y are k h m at is root =
    let t = tree (YielderNode kd tk) us in
    elim (slice_get-append_cases (nodes_of c a y t) (nodes_of_all c (a + action_count t) (y + yielder_count t) ts) k m at) [
      | inl p ↦ (let f = action_roots-within ts (a + action_count t) h (suc (a + k)) root in omega (arith, inside-tree t x c a y are.0 k m p.0 is, f.0))
      | inr p ↦ (let place : suc (a + k) ≡ suc (a + action_count t + p.0) = omega (arith, p.1, length-nodes_of c a y t) in
          root-other ts xs c (a + action_count t) (y + yielder_count t) are.1 p.0 h m p.2 is (subst (λ d. slice_get (action_roots (a + action_count t) ts) h ≡ Some d) place root))
    ]

-- of nodes that are numbered from a on, none has the body of an `unfolding` among its children
abbrev pub NoChildren : (a : ℕ) → List ListedNode → Type 0
NoChildren a ns = (k j i : ℕ) (m n : ListedNode) → slice_get ns k ≡ Some m → m.kind ≡ kind.Unfolding → slice_get ns j ≡ Some n → slice_get n.children i ≡ Some (suc (a + k)) → ⊥

none-there : (k : Kind) (roots : List ℕ) (i d : ℕ) → k ≡ kind.Unfolding → slice_get (children_of k roots) i ≡ Some d → ⊥
none-there k roots i d is child =
    let none : slice_get (children_of kind.Unfolding roots) i ≡ Some d = subst (λ m. slice_get (children_of m roots) i ≡ Some d) is child in cc

mutual
  pub no_children-tree : (t : Tree) (x : Wanted) (c : Option ℕ) (a y : ℕ) → Is x t → NoChildren a (nodes_of c a y t)
  no_children-tree (tree (ActionNode kd n tk) ts) x c a y h = go (no_children-trees ts (under (ActionNode kd n tk)) (around_parts kd a c) (suc a) y h.1)
    where
      root : ListedNode
      root = record { kind = kd; token = tk; children = children_of kd (action_roots (suc a) ts); operands = pieces (operand_lengths kd n) (yielder_roots y ts); body = body_of kd a c }

      rest : List ListedNode
      rest = nodes_of_all (around_parts kd a c) (suc a) y ts

      go : NoChildren (suc a) rest → NoChildren a (root ∷ rest)
      go below zero zero i m o at is at2 child =
          let e : root ≡ m = cc in
          let f : root ≡ o = cc in
          none-there kd (action_roots (suc a) ts) i (suc (a + 0)) (ap (λ z. z.kind) e ∙ is) (subst (λ z. slice_get z.children i ≡ Some (suc (a + 0))) (sym f) child)
      go below zero (suc j) i m o at is at2 child =
          let low = child-behind ts (under (ActionNode kd n tk)) (around_parts kd a c) (suc a) y h.1 j i (suc (a + 0)) o at2 child in
          omega (arith, low)
      go below (suc k) zero i m o at is at2 child =
          let f : root ≡ o = cc in
          let place : suc (a + suc k) ≡ suc (suc a + k) = omega arith in
          let there = child-root kd (action_roots (suc a) ts) i (suc (a + suc k)) (subst (λ z. slice_get z.children i ≡ Some (suc (a + suc k))) (sym f) child) in
          root-other ts (under (ActionNode kd n tk)) (around_parts kd a c) (suc a) y h.1 k i m at is (subst (λ d. slice_get (action_roots (suc a) ts) i ≡ Some d) place there)
      go below (suc k) (suc j) i m o at is at2 child =
          let place : suc (a + suc k) ≡ suc (suc a + k) = omega arith in
          below k j i m o at is at2 (subst (λ d. slice_get o.children i ≡ Some d) place child)
  no_children-tree (tree (YielderNode kd tk) ts) x c a y h = no_children-trees ts (under (YielderNode kd tk)) (around_arguments kd c) a (suc y) h.1

  no_children-trees : (ts : Trees) (xs : List Wanted) (c : Option ℕ) (a y : ℕ) → Are xs ts → NoChildren a (nodes_of_all c a y ts)
  no_children-trees none xs c a y h = λ k j i m n at is at2 child. cc
  no_children-trees (more t ts) [] c a y h = elim h [ ]
  no_children-trees (more t ts) (x ∷ xs) c a y h = λ k j i m n at is at2 child.
      let a1 = a + action_count t in
      let y1 = y + yielder_count t in
      let these = nodes_of c a y t in
      let those = nodes_of_all c a1 y1 ts in
      elim (slice_get-append_cases these those k m at) [
        | inl p ↦ elim (slice_get-append_cases these those j n at2) [
          | inl q ↦ no_children-tree t x c a y h.0 k j i m n p.0 is q.0 child
          | inr q ↦ (let low = child-behind ts xs c a1 y1 h.1 q.0 i (suc (a + k)) n q.2 child in omega (arith, low, inside-tree t x c a y h.0 k m p.0 is))
        ]
        | inr p ↦ elim (slice_get-append_cases these those j n at2) [
          | inl q ↦ (let high = child-inside t x c a y h.0 j i (suc (a + k)) n q.0 child in omega (arith, high, p.1, length-nodes_of c a y t))
          | inr q ↦ (let place : suc (a + k) ≡ suc (a1 + p.0) = omega (arith, p.1, length-nodes_of c a y t) in
              no_children-trees ts xs c a1 y1 h.1 p.0 q.0 i m n p.2 is q.2 (subst (λ d. slice_get n.children i ≡ Some d) place child))
        ]
      ]
