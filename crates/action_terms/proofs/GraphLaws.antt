-- The laws of graphs that code over their nodes rests on: how many nodes there are, where the children and the operands of a node are, and that no node is stray.
use Rattle.std.proofs.Common.{◌≡◌, ℕ, zero, suc, ◌+◌, ◌<◌, ◌≤◌, List, [], ◌∷◌, length, map, refl, sym, ap, subst, ◌∙◌, arith}
use Rattle.std.specs.Prelude.{◌≢◌, Some, None, slice_get, option_map}
use Rattle.std.proofs.lemmas.Option.{slice_get-map}
use Rattle.action_terms.specs.Labels.{AnAction, operand_lengths}
use Rattle.action_terms.specs.Numbering.{ListedNode, ListedYielder, Listed, action_count, nodes_of, yielders_of, IsGraph}
use Rattle.action_terms.specs.Actions.{Node, Stray, node_or_stray, node_at}
use Rattle.action_terms.specs.Meaning.{items_from, node_of, node_with, action_of}
use Rattle.action_terms.specs.declared.kinds.Kind.{Kind}
use Rattle.action_terms.proofs.Each.{Each-at_first}
use Rattle.action_terms.proofs.NodeCounts.{length-nodes_of, length-yielders_of, action_count-some}
use Rattle.action_terms.proofs.ChildrenLaws.{Sits, sits-tree}
use Rattle.action_terms.proofs.ParentLaws.{OneParent, one_parent-tree}
use Rattle.action_terms.proofs.SoundNodes.{never_stray-tree}
use Rattle.action_terms.proofs.NodeForms.{Wanted, wanted}
use Rattle.action_terms.proofs.OperandItems.{operand_items}

-- each node stands well, and isn't stray
sits : (g : Listed) (w : IsGraph g) (k : ℕ) (n : ListedNode) → slice_get g.nodes k ≡ Some n → Sits (length g.nodes) (length g.yielders) k n
sits g w k n at =
    let nodes = ap (λ l. l.nodes) w.1.numbered in
    let count = ap length nodes ∙ length-nodes_of None 0 0 w.0 in
    let yielders = ap (λ l. length l.yielders) w.1.numbered ∙ length-yielders_of 0 0 w.0 in
    Each-at_first (Sits (length g.nodes) (length g.yielders)) (nodes_of None 0 0 w.0) k n (sits-tree w.0 AnAction None 0 0 (length g.nodes) (length g.yielders) w.1.action (omega arith) (omega arith)) (ap (λ l. slice_get l k) (sym nodes) ∙ at)

pub node_with-sound : (g : Listed) → IsGraph g → (k : ℕ) (n : ListedNode) → slice_get g.nodes k ≡ Some n → node_with (items_from 0 g.yielders) n ≢ Stray
node_with-sound g w k n at =
    let nodes = ap (λ l. l.nodes) w.1.numbered in
    let yielders = ap (λ l. l.yielders) w.1.numbered in
    let P : List ListedYielder → Type 0 = λ ys. node_with (items_from 0 ys) n ≢ Stray in
    subst P (sym yielders) (Each-at_first (λ m n. node_with (items_from 0 (yielders_of 0 0 w.0)) n ≢ Stray) (nodes_of None 0 0 w.0) k n (never_stray-tree w.0 AnAction w.1.action) (ap (λ l. slice_get l k) (sym nodes) ∙ at))

slice_get-some : {A : Type 0} (xs : List A) (k : ℕ) → k < length xs → (x : A) × (slice_get xs k ≡ Some x)
slice_get-some [] k within = absurd (omega arith)
slice_get-some (x ∷ xs) zero within = (x, refl)
slice_get-some (x ∷ xs) (suc k) within = slice_get-some xs k (omega arith)

-- the root is a node, and the limit holds
pub length-nodes_some : (g : Listed) → IsGraph g → 0 < length g.nodes
length-nodes_some g w =
    rw w.1.numbered (rw (length-nodes_of None 0 0 w.0) (action_count-some w.0 w.1.action))

pub length-nodes_few : (g : Listed) → IsGraph g → length g.nodes + length g.yielders ≤ 65536
length-nodes_few g w =
    let nodes = ap (λ l. length l.nodes) w.1.numbered ∙ length-nodes_of None 0 0 w.0 in
    let yielders = ap (λ l. length l.yielders) w.1.numbered ∙ length-yielders_of 0 0 w.0 in
    let P : ℕ → Type 0 = λ n. n ≤ 65536 in
    subst P (sym (ap (λ n. n + length g.yielders) nodes ∙ ap (λ n. action_count w.0 + n) yielders)) w.1.few

-- a child has a greater number than its parent, and is a node of the graph; so the root is no child
pub child_after : (g : Listed) → IsGraph g → (k i c : ℕ) (n : ListedNode) → slice_get g.nodes k ≡ Some n → slice_get n.children i ≡ Some c → k < c
child_after g w k i c n at child =
    ((sits g w k n at).children_within i c child).0

pub child_within : (g : Listed) → IsGraph g → (k i c : ℕ) (n : ListedNode) → slice_get g.nodes k ≡ Some n → slice_get n.children i ≡ Some c → c < length g.nodes
child_within g w k i c n at child =
    ((sits g w k n at).children_within i c child).1

-- the children of a node are in ascending order, so none stands there twice
pub children_ascend : (g : Listed) → IsGraph g → (k i j c d : ℕ) (n : ListedNode) → slice_get g.nodes k ≡ Some n → slice_get n.children i ≡ Some c → slice_get n.children j ≡ Some d → i < j → c < d
children_ascend g w k i j c d n at first second less =
    (sits g w k n at).children_ascend i j c d first second less

-- a child has one parent
pub one_parent : (g : Listed) → IsGraph g → (j k h i c : ℕ) (m n : ListedNode) → slice_get g.nodes j ≡ Some m → slice_get g.nodes k ≡ Some n → slice_get m.children h ≡ Some c → slice_get n.children i ≡ Some c → j ≡ k
one_parent g w j k h i c m n at at2 child child2 =
    let P : List ListedNode → Type 0 = OneParent in
    subst P (sym (ap (λ l. l.nodes) w.1.numbered)) (one_parent-tree w.0 AnAction None 0 0 w.1.action) j k h i c m n at at2 child child2

-- an operand names yielders of the graph, and operands have the lengths that their node's kind wants
pub operand_within : (g : Listed) → IsGraph g → (k i j y : ℕ) (n : ListedNode) (o : List ℕ) → slice_get g.nodes k ≡ Some n → slice_get n.operands i ≡ Some o → slice_get o j ≡ Some y → y < length g.yielders
operand_within g w k i j y n o at operand item =
    (sits g w k n at).operands_within i j y o operand item

pub operands_fit : (g : Listed) → IsGraph g → (k : ℕ) (n : ListedNode) → slice_get g.nodes k ≡ Some n → (items : ℕ) × (map length n.operands ≡ operand_lengths n.kind items)
operands_fit g w k n at =
    (sits g w k n at).operands_fit

-- the node of the meaning is that of the list, and none is stray
pub node_at-action_of : (g : Listed) (k : ℕ) (n : ListedNode) → slice_get g.nodes k ≡ Some n → node_at (action_of g) k ≡ node_with (items_from 0 g.yielders) n
node_at-action_of g k n at =
    ap node_or_stray (slice_get-map (node_with (items_from 0 g.yielders)) g.nodes k ∙ ap (option_map (node_with (items_from 0 g.yielders))) at)

pub never_stray : (g : Listed) → IsGraph g → (k : ℕ) → k < length g.nodes → node_at (action_of g) k ≢ Stray
never_stray g w k within =
    let found = slice_get-some g.nodes k within in
    let P : Node → Type 0 = λ n. n ≢ Stray in
    subst P (sym (node_at-action_of g k found.0 found.1)) (node_with-sound g w k found.0 found.1)

-- what is listed, and the node of the meaning, where the kind is known
pub wanted_at : (g : Listed) → IsGraph g → (k : ℕ) (n : ListedNode) (m : Kind) → slice_get g.nodes k ≡ Some n → n.kind ≡ m → Wanted m n.children (operand_items g.yielders n)
wanted_at g w k n m at is =
    subst (λ x. Wanted x n.children (operand_items g.yielders n)) is (wanted n.kind n.token n.body n.children (operand_items g.yielders n) (node_with-sound g w k n at))

pub node_at-kind : (g : Listed) (k : ℕ) (n : ListedNode) (m : Kind) → slice_get g.nodes k ≡ Some n → n.kind ≡ m → node_at (action_of g) k ≡ node_of m n.token n.body n.children (operand_items g.yielders n)
node_at-kind g k n m at is = node_at-action_of g k n at ∙ ap (λ x. node_of x n.token n.body n.children (operand_items g.yielders n)) is
