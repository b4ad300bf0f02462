-- How many yielders the nodes of a graph have together: no more than the graph has.
use Rattle.std.proofs.Common.{◌≡◌, ℕ, zero, suc, ◌+◌, ◌≤◌, List, [], ◌∷◌, ◌++◌, length, map, take, drop, Option, None, append-nil, sum_by, refl, sym, ap, ◌∙◌, arith, append_assoc, length-append}
use Rattle.std.proofs.lemmas.List.Sums.{sum_by-cons}
use Rattle.action_terms.specs.Labels.{ActionNode, YielderNode, operand_lengths}
use Rattle.action_terms.specs.Trees.{Tree, tree, Trees, none, more}
use Rattle.action_terms.specs.Numbering.{Listed, IsGraph, ListedNode, ListedYielder, closure_body, action_count, yielder_count, yielder_counts, yielder_roots, yielders_of, yielders_of_all, nodes_of, nodes_of_all, action_roots, children_of, body_of, around_parts, around_arguments, pieces}
use Rattle.action_terms.specs.Actions.{Item, Single, Them, ClosureOf, Action, node_at}
use Rattle.action_terms.specs.Meaning.{item_of, picked, items_from, node_of, node_with, action_of}
use Rattle.action_terms.specs.Need.{items_yielder_count, node_yielder_count}
use Rattle.action_terms.specs.declared.kinds.Kind.{Kind}
use Rattle.action_terms.specs.declared.kinds.Kind.TheVariants as kind
use Rattle.action_terms.specs.declared.kinds.YKind.{YKind}
use Rattle.action_terms.specs.declared.kinds.YKind.TheVariants as ykind
use Rattle.action_terms.proofs.ItemLaws.{item_in, items_in}
use Rattle.action_terms.proofs.NodeCounts.{length-yielders_of}
use Rattle.action_terms.proofs.SoundNodes.{picked-among}

-- a yielder has one more than its arguments have
item-count : (k : YKind) (tk : List ℕ) (c : ℕ) (is : List Item) → items_yielder_count (item_of k tk c is ∷ []) ≤ 1 + items_yielder_count is
item-count (ykind.Number n) tk c is = omega arith
item-count (ykind.Truth b) tk c is = omega arith
item-count (ykind.Given s zero) tk c is = omega arith
item-count (ykind.Given s (suc n)) tk c is = omega arith
item-count (ykind.Bound s) tk c is = omega arith
item-count (ykind.Stored s) tk c (Single y ∷ []) = omega arith
item-count ykind.Sum tk c (Single y1 ∷ Single y2 ∷ []) = omega arith
item-count ykind.Difference tk c (Single y1 ∷ Single y2 ∷ []) = omega arith
item-count ykind.Product tk c (Single y1 ∷ Single y2 ∷ []) = omega arith
item-count ykind.Quotient tk c (Single y1 ∷ Single y2 ∷ []) = omega arith
item-count ykind.Remainder tk c (Single y1 ∷ Single y2 ∷ []) = omega arith
item-count ykind.Negation tk c (Single y ∷ []) = omega arith
item-count ykind.Is tk c (Single y1 ∷ Single y2 ∷ []) = omega arith
item-count ykind.Less tk c (Single y1 ∷ Single y2 ∷ []) = omega arith
item-count ykind.Not tk c (Single y ∷ []) = omega arith
item-count ykind.Both tk c (Single y1 ∷ Single y2 ∷ []) = omega arith
item-count ykind.Either tk c (Single y1 ∷ Single y2 ∷ []) = omega arith
item-count ykind.Closure tk c is = omega arith
item-count _ tk c is = omega arith

abbrev count_all : List (List Item) → ℕ
count_all [] = 0
count_all (is ∷ os) = items_yielder_count is + count_all os

-- a node has those of its operands, or fewer
node-count : (k : Kind) (tk : List ℕ) (c : ℕ) (ps : List ℕ) (os : List (List Item)) → node_yielder_count (node_of k tk c ps os) ≤ count_all os
node-count kind.Give tk c ps (is ∷ []) = omega arith
node-count kind.EscapeWith tk c ps (is ∷ []) = omega arith
node-count kind.Check tk c ps ((Single y ∷ []) ∷ []) = omega arith
node-count kind.Bind tk c ps ((Single y ∷ []) ∷ []) = omega arith
node-count kind.BindRec tk c ps ((Single (ClosureOf k) ∷ []) ∷ []) = omega arith
node-count kind.Branch tk c (l ∷ r ∷ []) ((Single y ∷ []) ∷ []) = omega arith
node-count kind.Store tk c ps ((Single y1 ∷ []) ∷ (Single y2 ∷ []) ∷ []) = omega arith
node-count kind.Send tk c ps ((Single y ∷ []) ∷ []) = omega arith
node-count kind.Enact tk c ps ((Single y ∷ []) ∷ []) = omega arith
node-count kind.Apply tk c ps ((Single y ∷ []) ∷ is ∷ []) = omega arith
node-count kind.Furthermore tk c (l ∷ []) os = omega arith
node-count kind.Or tk c (l ∷ r ∷ []) os = omega arith
node-count kind.And tk c (l ∷ r ∷ []) os = omega arith
node-count kind.AndThen tk c (l ∷ r ∷ []) os = omega arith
node-count kind.Then tk c (l ∷ r ∷ []) os = omega arith
node-count kind.Trap tk c (l ∷ r ∷ []) os = omega arith
node-count kind.Hence tk c (l ∷ r ∷ []) os = omega arith
node-count kind.Moreover tk c (l ∷ r ∷ []) os = omega arith
node-count kind.Before tk c (l ∷ r ∷ []) os = omega arith
node-count _ tk c ps os = omega arith

items-append : (is js : List Item) → items_yielder_count (is ++ js) ≡ items_yielder_count is + items_yielder_count js
items-append [] js = omega arith
items-append (Single y ∷ is) js = omega (arith, items-append is js)
items-append (Them ∷ is) js = omega (arith, items-append is js)

-- items that are picked in two turns
picked-split : (items : List Item) (n : ℕ) (xs : List ℕ) → items_yielder_count (picked 0 items (take n xs)) + items_yielder_count (picked 0 items (drop n xs)) ≡ items_yielder_count (picked 0 items xs)
picked-split items zero xs = omega arith
picked-split items (suc n) [] = omega arith
picked-split items (suc n) (x ∷ xs) =
    omega (
      arith,
      items-append (picked 0 items (x ∷ [])) (picked 0 items (take n xs)),
      items-append (picked 0 items (x ∷ [])) (picked 0 items xs),
      picked-split items n xs,
    )

-- operands are pieces of what is picked
pieces-count : (items : List Item) (lengths xs : List ℕ) → count_all (map (picked 0 items) (pieces lengths xs)) ≤ items_yielder_count (picked 0 items xs)
pieces-count items [] xs = omega arith
pieces-count items (n ∷ lengths) xs = omega (arith, pieces-count items lengths (drop n xs), picked-split items n xs)

-- the yielders of some nodes
abbrev nodes_count : List Item → List ListedNode → ℕ
nodes_count items [] = 0
nodes_count items (n ∷ ns) = node_yielder_count (node_with items n) + nodes_count items ns

nodes-append : (items : List Item) (ms ns : List ListedNode) → nodes_count items (ms ++ ns) ≡ nodes_count items ms + nodes_count items ns
nodes-append items [] ns = omega arith
nodes-append items (m ∷ ms) ns = omega (arith, nodes-append items ms ns)

-- the item at the root of a tree, if that is a yielder
abbrev root_count : ℕ → Tree → ℕ
root_count a (tree (ActionNode k n tk) ts) = 0
root_count a (tree (YielderNode k tk) ts) = items_yielder_count (item_in a (tree (YielderNode k tk) ts) ∷ [])

items-more : (a : ℕ) (t : Tree) (ts : Trees) → items_yielder_count (items_in a (more t ts)) ≡ root_count a t + items_yielder_count (items_in (a + action_count t) ts)
items-more a (tree (ActionNode k n tk) us) ts = omega arith
items-more a (tree (YielderNode k tk) us) ts = items-append (item_in a (tree (YielderNode k tk) us) ∷ []) (items_in (a + suc_free us) ts)
  where
    suc_free : Trees → ℕ
    suc_free us = action_count (tree (YielderNode k tk) us)

module _ (all : List ListedYielder) where
  -- the trees stand in the graph: their yielders from number y on
  abbrev StandsFrom : ℕ → List ListedYielder → Type 0
  StandsFrom y part = (front : List ListedYielder) × (ls : List ListedYielder) × (length front ≡ y) × (all ≡ front ++ (part ++ ls))

  mutual
    tree-count : (t : Tree) (around : Option ℕ) (a y : ℕ) → StandsFrom y (yielders_of a y t) → root_count a t + nodes_count (items_from 0 all) (nodes_of around a y t) ≤ yielder_count t
    tree-count (tree (ActionNode k n tk) ts) around a y (front, ls, is, split) =
        let own = node-count k tk (body_of k a around) (children_of k (action_roots (suc a) ts)) (map (picked 0 (items_from 0 all)) (pieces (operand_lengths k n) (yielder_roots y ts))) in
        let operands = pieces-count (items_from 0 all) (operand_lengths k n) (yielder_roots y ts) in
        let those = ap items_yielder_count (picked-among front ls all ts (suc a) y is split) in
        omega (arith, own, operands, those, trees-count ts (around_parts k a around) (suc a) y (front, ls, is, split))
    tree-count (tree (YielderNode k tk) ts) around a y (front, ls, is, split) =
        let own = item-count k tk (closure_body k a) (items_in a ts) in
        let l : ListedYielder = record { kind = k; token = tk; children = yielder_roots (suc y) ts; body = closure_body k a } in
        let front' : length (front ++ l ∷ []) ≡ suc y = length-append front (l ∷ []) ∙ omega (arith, is) in
        let split' : all ≡ (front ++ l ∷ []) ++ (yielders_of_all a (suc y) ts ++ ls) = split ∙ sym (append_assoc front (l ∷ []) (yielders_of_all a (suc y) ts ++ ls)) in
        omega (arith, own, trees-count ts (around_arguments k around) a (suc y) (front ++ l ∷ [], ls, front', split'))

    trees-count : (ts : Trees) (around : Option ℕ) (a y : ℕ) → StandsFrom y (yielders_of_all a y ts) → items_yielder_count (items_in a ts) + nodes_count (items_from 0 all) (nodes_of_all around a y ts) ≤ yielder_counts ts
    trees-count none around a y stands = omega arith
    trees-count (more t ts) around a y (front, ls, is, split) =
        let a1 = a + action_count t in
        let y1 = y + yielder_count t in
        let first = yielders_of a y t in
        let rest = yielders_of_all a1 y1 ts in
        let whole : all ≡ front ++ (first ++ (rest ++ ls)) = split ∙ ap (λ l. front ++ l) (append_assoc first rest ls) in
        let behind : length (front ++ first) ≡ y1 = length-append front first ∙ omega (arith, is, length-yielders_of a y t) in
        let after : all ≡ (front ++ first) ++ (rest ++ ls) = whole ∙ sym (append_assoc front first (rest ++ ls)) in
        omega (
          arith,
          items-more a t ts,
          nodes-append (items_from 0 all) (nodes_of around a y t) (nodes_of_all around a1 y1 ts),
          tree-count t around a y (front, rest ++ ls, is, whole),
          trees-count ts around a1 y1 (front ++ first, ls, behind, after),
        )

-- the nodes of a graph's action
actions-count : (items : List Item) (ns : List ListedNode) → sum_by node_yielder_count (map (node_with items) ns) ≡ nodes_count items ns
actions-count items [] = refl
actions-count items (n ∷ ns) = sum_by-cons node_yielder_count (node_with items n) (map (node_with items) ns) ∙ ap (λ m. node_yielder_count (node_with items n) + m) (actions-count items ns)

-- have no more yielders together than the graph has
pub graph-counts : (g : Listed) → IsGraph g → sum_by node_yielder_count (action_of g) ≤ length g.yielders
graph-counts g w =
    let t = w.0 in
    let ys = ap (λ l. l.yielders) w.1.numbered in
    let ns = ap (λ l. l.nodes) w.1.numbered in
    let size : length g.yielders ≡ yielder_count t = ap length ys ∙ length-yielders_of 0 0 t in
    let here : g.yielders ≡ [] ++ (yielders_of 0 0 t ++ []) = ys ∙ sym (append-nil (yielders_of 0 0 t)) in
    let nodes : sum_by node_yielder_count (action_of g) ≡ nodes_count (items_from 0 g.yielders) (nodes_of None 0 0 t) = actions-count (items_from 0 g.yielders) g.nodes ∙ ap (nodes_count (items_from 0 g.yielders)) ns in
    omega (arith, nodes, size, tree-count g.yielders t None 0 0 ([], [], refl, here))

-- so none of them has more
pub node-counts : (a : Action) (k : ℕ) → node_yielder_count (node_at a k) ≤ sum_by node_yielder_count a
node-counts [] k = omega arith
node-counts (n ∷ a) zero = omega (arith, sum_by-cons node_yielder_count n a)
node-counts (n ∷ a) (suc k) = omega (arith, sum_by-cons node_yielder_count n a, node-counts a k)
