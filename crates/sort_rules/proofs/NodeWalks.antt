-- Walks over the nodes of a graph: the bodies of the closures and the `allocate` nodes, one node after the other.
use Rattle.std.proofs.Common.{Bool, List, [], add-one, ap, append_assoc, arith, drop, false, if◌then◌else◌, length, refl, suc, sym, true, zero, ℕ, ◌++◌, ◌+◌, ◌-◌, ◌<◌, ◌∙◌, ◌∷◌, ◌≡◌, ◌≤◌}
use Rattle.std.specs.Prelude.{map, reverse}
use Rattle.std.proofs.lemmas.List.{append-nil, length-map, reverse-append}
use Rattle.action_terms.specs.Actions.{Action, Node, node_at}
use Rattle.action_terms.specs.Meaning.{action_of, items_from, node_with}
use Rattle.action_terms.specs.Nodes.{listed_node}
use Rattle.action_terms.specs.Numbering.{IsGraph, Listed}
use Rattle.action_terms.specs.declared.graph.Node.{Node as NodeInMemory}
use Rattle.action_terms.proofs.GraphLaws.{length-nodes_few}
use Rattle.sort_rules.specs.Demands.{allocates_from, closure_bodies, closures_at, is_allocate}

-- a graph's action has as many nodes as the graph
pub length-action : (g : Listed) → length g.nodes ≡ length (action_of g)
length-action g = sym (length-map g.nodes (node_with (items_from 0 g.yielders)))

-- the nodes of a graph in memory are as many as its action has
pub length-nodes : (g : Listed) (ns : List NodeInMemory) → map listed_node ns ≡ g.nodes → length ns ≡ length (action_of g)
length-nodes g ns e = sym (length-map ns listed_node) ∙ ap length e ∙ length-action g

-- and at most 65,536
pub nodes-few : (g : Listed) (ns : List NodeInMemory) → map listed_node ns ≡ g.nodes → IsGraph g → length ns ≤ 65536
nodes-few g ns e h =
    let same : length ns ≡ length g.nodes = sym (length-map ns listed_node) ∙ ap length e in
    let few = length-nodes_few g h in
    omega (arith, same, few)

-- the first of the nodes that are left
pub drop-node : (a : Action) (k : ℕ) → k < length a → drop k a ≡ node_at a k ∷ drop (suc k) a
drop-node [] k h = absurd (omega arith)
drop-node (n ∷ a) zero h = refl
drop-node (n ∷ a) (suc k) h = drop-node a k (omega arith)

-- the bodies of one node more, from the last one on
pub bodies-more : (a : Action) (i : ℕ) (before after : List ℕ) → 0 < i → i ≤ length a → before ≡ reverse (closure_bodies (drop i a)) → after ≡ before ++ reverse (closures_at (node_at a (i - 1)))
    → after ≡ reverse (closure_bodies (drop (i - 1) a))
bodies-more a i before after some within e f =
    let less : i - 1 < length a = omega arith in
    let next : suc (i - 1) ≡ i = omega arith in
    let front : drop (i - 1) a ≡ node_at a (i - 1) ∷ drop i a = drop-node a (i - 1) less ∙ ap (λ (k : ℕ). node_at a (i - 1) ∷ drop k a) next in
    f ∙ ap (λ (zs : List ℕ). zs ++ reverse (closures_at (node_at a (i - 1)))) e
    ∙ sym (reverse-append (closures_at (node_at a (i - 1))) (closure_bodies (drop i a))) ∙ ap (λ (a : Action). reverse (closure_bodies a)) (sym front)

one-cell : (b : Bool) (k : ℕ) (xs ys : List ℕ) → (xs ++ (if b then k ∷ [] else [])) ++ ys ≡ xs ++ (if b then k ∷ ys else ys)
one-cell true k xs ys = append_assoc xs (k ∷ []) ys
one-cell false k xs ys = ap (λ (zs : List ℕ). zs ++ ys) (append-nil xs)

-- the `allocate` nodes, one node on
pub cells-more : (a : Action) (k : ℕ) (before after all : List ℕ) → k < length a → before ++ allocates_from k (drop k a) ≡ all → after ≡ before ++ (if is_allocate (node_at a k) then k ∷ [] else [])
    → after ++ allocates_from (k + 1) (drop (k + 1) a) ≡ all
cells-more a k before after all less e f =
    let rest : List ℕ = allocates_from (suc k) (drop (suc k) a) in
    let n : Node = node_at a k in
    rw (add-one k) (
    ap (λ (zs : List ℕ). zs ++ rest) f ∙ one-cell (is_allocate n) k before rest
    ∙ ap (λ (a : Action). before ++ allocates_from k a) (sym (drop-node a k less)) ∙ e)
