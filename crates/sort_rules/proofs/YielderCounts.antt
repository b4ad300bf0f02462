-- How many yielders items and nodes have: item by item and node by node, from the last on.
use Rattle.std.proofs.Common.{List, [], ap, arith, drop, get_or, length, max, suc, zero, ℕ, ◌+◌, ◌-◌, ◌<◌, ◌∙◌, ◌∷◌, ◌≡◌, ◌≤◌}
use Rattle.action_terms.specs.Actions.{Action, Item, Single, Them, node_at}
use Rattle.action_terms.specs.Forms.{item_at, items_at}
use Rattle.action_terms.specs.Meaning.{action_of}
use Rattle.action_terms.specs.Need.{items_yielder_count, node_yielder_count, most_yielders}
use Rattle.action_terms.specs.Numbering.{IsGraph, Listed, ListedYielder}
use Rattle.action_terms.proofs.CountLaws.{graph-counts, node-counts}
use Rattle.action_terms.proofs.GraphLaws.{length-nodes_few, length-nodes_some}
use Rattle.sort_rules.proofs.ItemsJudged.{items-front}
use Rattle.sort_rules.proofs.NodeWalks.{drop-node}

-- those of the first item, and those of the others
count-cons : (i : Item) (is : List Item) → items_yielder_count (i ∷ is) ≡ items_yielder_count (i ∷ []) + items_yielder_count is
count-cons (Single y) is = omega arith
count-cons Them is = omega arith

-- one item more
pub data-more : (ls : List ListedYielder) (numbers : List ℕ) (i d : ℕ) → 0 < i → i ≤ length numbers
    → items_yielder_count (items_at ls (drop (i - 1) numbers)) ≡ items_yielder_count (item_at ls (get_or numbers (i - 1) d) ∷ []) + items_yielder_count (items_at ls (drop i numbers))
data-more ls numbers i d some within =
    ap items_yielder_count (items-front ls numbers i d some within) ∙ count-cons (item_at ls (get_or numbers (i - 1) d)) (items_at ls (drop i numbers))

-- the last items have no more than all
pub data-fewer : (ls : List ListedYielder) (numbers : List ℕ) (i : ℕ) → items_yielder_count (items_at ls (drop i numbers)) ≤ items_yielder_count (items_at ls numbers)
data-fewer ls numbers zero = omega arith
data-fewer ls [] (suc i) = omega arith
data-fewer ls (n ∷ numbers) (suc i) =
    let more = data-more ls (n ∷ numbers) 1 0 (omega arith) (omega arith) in omega (arith, data-fewer ls numbers i, more)

-- one node more
pub most-more : (a : Action) (k : ℕ) → k < length a → most_yielders (drop k a) ≡ max (node_yielder_count (node_at a k)) (most_yielders (drop (suc k) a))
most-more a k less = ap most_yielders (drop-node a k less)

-- a graph's nodes have fewer than it may have nodes
pub node-few : (g : Listed) → IsGraph g → (k : ℕ) → node_yielder_count (node_at (action_of g) k) < 65536
node-few g graph k = omega (arith, node-counts (action_of g) k, graph-counts g graph, length-nodes_some g graph, length-nodes_few g graph)
