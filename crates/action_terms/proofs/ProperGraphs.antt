-- The action of a graph has a root, no stray node, and names only nodes of its own.
use Rattle.std.proofs.Common.{◌≡◌, ℕ, ◌+◌, ◌<◌, ◌≤◌, List, [], ◌∷◌, length, get_or, map, refl, sym, ap, subst, ◌∙◌, arith}
use Rattle.std.specs.Prelude.{Option, Some, None, All, slice_get, option_map}
use Rattle.std.proofs.lemmas.List.{length-map}
use Rattle.std.proofs.lemmas.List.Elements.{All-get_or, All-map}
use Rattle.std.proofs.lemmas.Option.{slice_get-map, slice_get-get_or}
use Rattle.action_terms.specs.Labels.{AnAction}
use Rattle.action_terms.specs.Numbering.{ListedNode, ListedYielder, Listed, action_count, nodes_of, IsGraph}
use Rattle.action_terms.specs.Actions.{Item, Node, Unfold, Stray, node_at, node_or_stray}
use Rattle.action_terms.specs.Performances.{OneOf, Here}
use Rattle.action_terms.specs.Meaning.{picked, items_from, node_with, action_of}
use Rattle.action_terms.specs.Proper.{bodies_under, IsBody, IsProperNode, IsProper}
use Rattle.action_terms.specs.ByKind.{node_read}
use Rattle.action_terms.specs.declared.kinds.Kind.{Kind}
use Rattle.action_terms.specs.declared.kinds.Kind.TheVariants as kind
use Rattle.action_terms.proofs.NodeCounts.{length-nodes_of}
use Rattle.action_terms.proofs.Each.{Each-at_first}
use Rattle.action_terms.proofs.GraphLaws.{length-nodes_some, child_within, node_with-sound, wanted_at, node_at-kind}
use Rattle.action_terms.proofs.ReadNodes.{node_of-read}
use Rattle.action_terms.proofs.UnfoldLaws.{HasUnfolding, Repeats, repeats}
use Rattle.action_terms.proofs.ItemsHold.{picked-hold}
use Rattle.action_terms.proofs.ProperYielders.{ItemBelow, items_from-below}
use Rattle.action_terms.proofs.ProperBodies.{node_bodies-tree, yielder_bodies-tree}
use Rattle.action_terms.proofs.ProperNodes.{OperandsBelow, node_of-below}

-- the nodes of the tree are those of the graph
tree_fills : (g : Listed) (w : IsGraph g) → 0 + action_count w.0 ≤ length g.nodes
tree_fills g w =
    let count = ap (λ l. length l.nodes) w.1.numbered ∙ length-nodes_of None 0 0 w.0 in omega arith

-- the bodies of nodes and of closures are nodes of the graph
pub node_bodies : (g : Listed) → IsGraph g → All (λ n. n.body < length g.nodes) g.nodes
node_bodies g w =
    let P : Listed → Type 0 = λ l. All (λ n. n.body < length g.nodes) l.nodes in
    subst P (sym w.1.numbered) (node_bodies-tree w.0 AnAction None 0 0 (length g.nodes) w.1.action (length-nodes_some g w) tt (tree_fills g w))

pub yielder_bodies : (g : Listed) → IsGraph g → All (λ l. l.body < length g.nodes) g.yielders
yielder_bodies g w =
    let P : Listed → Type 0 = λ l. All (λ y. y.body < length g.nodes) l.yielders in
    subst P (sym w.1.numbered) (yielder_bodies-tree w.0 AnAction 0 0 (length g.nodes) w.1.action (length-nodes_some g w) (tree_fills g w))

-- so are the children of a node
children_below : (g : Listed) → IsGraph g → (k : ℕ) (n : ListedNode) → slice_get g.nodes k ≡ Some n → All (λ c. c < length g.nodes) n.children
children_below g w k n at = λ i d less. child_within g w k i (get_or n.children i d) n at (slice_get-get_or n.children i d less)

operands_below : (count : ℕ) (items : List Item) (operands : List (List ℕ)) → All (ItemBelow count) items → OperandsBelow count (map (picked 0 items) operands)
operands_below count items operands h =
    All-map (λ is. All (ItemBelow count) is) (picked 0 items) operands (λ i d less. picked-hold (ItemBelow count) tt 0 items (get_or operands i d) h)

proper_node : (g : Listed) → IsGraph g → (k : ℕ) (n : ListedNode) → slice_get g.nodes k ≡ Some n → n.body < length g.nodes → IsProperNode (length g.nodes) (node_with (items_from 0 g.yielders) n)
proper_node g w k n at body =
    let items = items_from 0 g.yielders in
    let below = items_from-below (length g.nodes) 0 g.yielders (yielder_bodies g w) in
    record {
      there = node_with-sound g w k n at;
      within = node_of-below (length g.nodes) n.kind n.token n.body n.children (map (picked 0 items) n.operands) body (children_below g w k n at) (operands_below (length g.nodes) items n.operands below);
    }

-- the node of a number that is an `unfold` is listed as one, with its body
read_unfold : (ls : List ListedYielder) (kd : Kind) (n : ListedNode) (c : ℕ) → node_read ls kd n ≡ Unfold c → (kd ≡ kind.Unfold) × (n.body ≡ c)
read_unfold ls kind.Unfold n c e = (refl, cc)
read_unfold ls _ n c e = cc

repeated-listed : (g : Listed) → IsGraph g → (k : ℕ) (n : ListedNode) → slice_get g.nodes k ≡ Some n → n.kind ≡ kind.Unfold → HasUnfolding g.nodes n.body
repeated-listed g w k n at is =
    let nodes = ap (λ l. l.nodes) w.1.numbered in
    let P : List ListedNode → Type 0 = λ all. HasUnfolding all n.body in
    subst P (sym nodes) (Each-at_first (Repeats (nodes_of None 0 0 w.0)) (nodes_of None 0 0 w.0) k n (repeats w.0 w.1.none_stray) (ap (λ l. slice_get l k) (sym nodes) ∙ at) is)

-- the body of an `unfolding` is a body of the action
unfolding-body : (g : Listed) (c : ℕ) → HasUnfolding g.nodes c → IsBody (action_of g) c
unfolding-body g c h =
    let P : ℕ → Type 0 = λ b. OneOf c (b ∷ []) in
    let Q : Node → Type 0 = λ n. OneOf c (bodies_under n) in
    (h.number, subst Q (sym (node_at-kind g h.number h.node kind.Unfolding h.listed h.kind)) (subst P (sym h.body) Here))

repeated-graph : (g : Listed) → IsGraph g → (k c : ℕ) → node_at (action_of g) k ≡ Unfold c → IsBody (action_of g) c
repeated-graph g w k c e = repeated-from (slice_get g.nodes k) refl
  where
    repeated-from : (o : Option ListedNode) → slice_get g.nodes k ≡ o → IsBody (action_of g) c
    repeated-from None at =
        let stray : node_at (action_of g) k ≡ Stray = ap node_or_stray (slice_get-map (node_with (items_from 0 g.yielders)) g.nodes k ∙ ap (option_map (node_with (items_from 0 g.yielders))) at) in absurd (cc)
    repeated-from (Some n) at =
        let h = wanted_at g w k n n.kind at refl in
        let r = read_unfold g.yielders n.kind n c (sym (node_at-kind g k n n.kind at refl ∙ node_of-read g.yielders n.kind n h) ∙ e) in
        subst (IsBody (action_of g)) r.1 (unfolding-body g n.body (repeated-listed g w k n at r.0))

pub proper-graph : (g : Listed) → IsGraph g → IsProper (action_of g)
proper-graph g w =
    let count : length g.nodes ≡ length (action_of g) = sym (length-map g.nodes (node_with (items_from 0 g.yielders))) in
    let P : ℕ → Type 0 = λ m. 0 < m in
    let Q : ℕ → Type 0 = λ m. All (IsProperNode m) (action_of g) in
    record {
      root = subst P count (length-nodes_some g w);
      nodes = subst Q count (All-map (IsProperNode (length g.nodes)) (node_with (items_from 0 g.yielders)) g.nodes (λ k d less.
          proper_node g w k (get_or g.nodes k d) (slice_get-get_or g.nodes k d less) (All-get_or (λ n. n.body < length g.nodes) g.nodes k d less (node_bodies g w))));
      repeated = repeated-graph g w;
    }
