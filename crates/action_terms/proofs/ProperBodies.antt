-- The body that a node of a tree names is a node of the tree.
use Rattle.std.proofs.Common.{◌≡◌, ℕ, suc, ◌+◌, ◌<◌, ◌≤◌, List, [], ◌∷◌, refl, subst, arith}
use Rattle.std.specs.Prelude.{Option, Some, IfSome, All}
use Rattle.std.proofs.lemmas.List.Elements.{All-nil, All-cons, All-append}
use Rattle.action_terms.specs.Labels.{ActionNode, YielderNode, Wanted, AnAction, operand_lengths, under_action, under_yielder}
use Rattle.action_terms.specs.Trees.{Tree, tree, Trees, none, more, Is, Are}
use Rattle.action_terms.specs.Numbering.{ListedNode, ListedYielder, pieces, children_of, body_of, around_parts, closure_body, around_arguments, action_count, action_counts, yielder_count, action_roots, yielder_roots, nodes_of, nodes_of_all, yielders_of, yielders_of_all}
use Rattle.action_terms.specs.declared.kinds.Kind.{Kind}
use Rattle.action_terms.specs.declared.kinds.Kind.TheVariants as kind
use Rattle.action_terms.specs.declared.kinds.YKind.{YKind}
use Rattle.action_terms.specs.declared.kinds.YKind.TheVariants as ykind
use Rattle.action_terms.proofs.NodeCounts.{action_count-some}

-- the body of an `unfolding` and that of a closure have a node
one_part : (ts : Trees) → Are (AnAction ∷ []) ts → 0 < action_counts ts
one_part none h = elim h [ ]
one_part (more t ts) h = let some = action_count-some t h.0 in omega arith

unfolding_part : (k : Kind) (n : ℕ) (ts : Trees) → Are (under_action k n) ts → k ≡ kind.Unfolding → 0 < action_counts ts
unfolding_part k n ts h is = let P : Kind → Type 0 = λ m. Are (under_action m n) ts in one_part ts (subst P is h)

closure_part : (k : YKind) (ts : Trees) → Are (under_yielder k) ts → k ≡ ykind.Closure → 0 < action_counts ts
closure_part k ts h is = let P : YKind → Type 0 = λ m. Are (under_yielder m) ts in one_part ts (subst P is h)

-- where the parts of the node lie below the count, so does its body, and the body of the `unfolding` around them
body_of-below : (count : ℕ) (k : Kind) (a : ℕ) (c : Option ℕ) → 0 < count → IfSome c (λ b. b < count) → (k ≡ kind.Unfolding → suc a < count) → body_of k a c < count
body_of-below count kind.Unfolding a c some around part = part refl
body_of-below count kind.Unfold a (Some b) some around part = around
body_of-below count _ a c some around part = some

around_parts-below : (count : ℕ) (k : Kind) (a : ℕ) (c : Option ℕ) → IfSome c (λ b. b < count) → (k ≡ kind.Unfolding → suc a < count) → IfSome (around_parts k a c) (λ b. b < count)
around_parts-below count kind.Unfolding a c around part = part refl
around_parts-below count _ a c around part = around

around_arguments-below : (count : ℕ) (k : YKind) (c : Option ℕ) → IfSome c (λ b. b < count) → IfSome (around_arguments k c) (λ b. b < count)
around_arguments-below count ykind.Closure c around = tt
around_arguments-below count _ c around = around

closure_body-below : (count : ℕ) (k : YKind) (a : ℕ) → 0 < count → (k ≡ ykind.Closure → a < count) → closure_body k a < count
closure_body-below count ykind.Closure a some part = part refl
closure_body-below count _ a some part = some

mutual
  pub node_bodies-tree : (t : Tree) (x : Wanted) (c : Option ℕ) (a y count : ℕ) → Is x t → 0 < count → IfSome c (λ b. b < count) → a + action_count t ≤ count → All (λ n. n.body < count) (nodes_of c a y t)
  node_bodies-tree (tree (ActionNode k n tk) ts) x c a y count h some around few =
      let part : k ≡ kind.Unfolding → suc a < count = λ is. let one = unfolding_part k n ts h.1 is in omega arith in
      let node : ListedNode = record { kind = k; token = tk; children = children_of k (action_roots (suc a) ts); operands = pieces (operand_lengths k n) (yielder_roots y ts); body = body_of k a c } in
      let less : suc a + action_counts ts ≤ count = omega arith in
      All-cons (λ n. n.body < count) node (nodes_of_all (around_parts k a c) (suc a) y ts) (body_of-below count k a c some around part)
      (node_bodies-trees ts (under_action k n) (around_parts k a c) (suc a) y count h.1 some (around_parts-below count k a c around part) less)
  node_bodies-tree (tree (YielderNode k tk) ts) x c a y count h some around few =
      node_bodies-trees ts (under_yielder k) (around_arguments k c) a (suc y) count h.1 some (around_arguments-below count k c around) few

  node_bodies-trees : (ts : Trees) (xs : List Wanted) (c : Option ℕ) (a y count : ℕ) → Are xs ts → 0 < count → IfSome c (λ b. b < count) → a + action_counts ts ≤ count → All (λ n. n.body < count) (nodes_of_all c a y ts)
  node_bodies-trees none xs c a y count h some around few = All-nil (λ n. n.body < count)
  node_bodies-trees (more t ts) [] c a y count h some around few = elim h [ ]
  node_bodies-trees (more t ts) (x ∷ xs) c a y count h some around few =
      let first : a + action_count t ≤ count = omega arith in
      let rest : a + action_count t + action_counts ts ≤ count = omega arith in
      All-append (λ n. n.body < count) (nodes_of c a y t) (nodes_of_all c (a + action_count t) (y + yielder_count t) ts)
      (node_bodies-tree t x c a y count h.0 some around first)
      (node_bodies-trees ts xs c (a + action_count t) (y + yielder_count t) count h.1 some around rest)

mutual
  pub yielder_bodies-tree : (t : Tree) (x : Wanted) (a y count : ℕ) → Is x t → 0 < count → a + action_count t ≤ count → All (λ l. l.body < count) (yielders_of a y t)
  yielder_bodies-tree (tree (ActionNode k n tk) ts) x a y count h some few =
      let less : suc a + action_counts ts ≤ count = omega arith in
      yielder_bodies-trees ts (under_action k n) (suc a) y count h.1 some less
  yielder_bodies-tree (tree (YielderNode k tk) ts) x a y count h some few =
      let part : k ≡ ykind.Closure → a < count = λ is. let one = closure_part k ts h.1 is in omega arith in
      let yielder : ListedYielder = record { kind = k; token = tk; children = yielder_roots (suc y) ts; body = closure_body k a } in
      All-cons (λ l. l.body < count) yielder (yielders_of_all a (suc y) ts) (closure_body-below count k a some part)
      (yielder_bodies-trees ts (under_yielder k) a (suc y) count h.1 some few)

  yielder_bodies-trees : (ts : Trees) (xs : List Wanted) (a y count : ℕ) → Are xs ts → 0 < count → a + action_counts ts ≤ count → All (λ l. l.body < count) (yielders_of_all a y ts)
  yielder_bodies-trees none xs a y count h some few = All-nil (λ l. l.body < count)
  yielder_bodies-trees (more t ts) [] a y count h some few = elim h [ ]
  yielder_bodies-trees (more t ts) (x ∷ xs) a y count h some few =
      let first : a + action_count t ≤ count = omega arith in
      let rest : a + action_count t + action_counts ts ≤ count = omega arith in
      All-append (λ l. l.body < count) (yielders_of a y t) (yielders_of_all (a + action_count t) (y + yielder_count t) ts)
      (yielder_bodies-tree t x a y count h.0 some first)
      (yielder_bodies-trees ts xs (a + action_count t) (y + yielder_count t) count h.1 some rest)
