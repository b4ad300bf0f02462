-- Which frames are a layout for an action and a sort table: each part of a node has its words, and what is needed at one time is apart.
use Rattle.std.specs.Prelude.{◌≡◌, ◌≢◌, ℕ, ◌+◌, ◌<◌, ◌≤◌, List, ◌++◌, length, map, filter, All, nat_eq}
use Rattle.std.specs.List.{AllPairs, concat, range_with_len}
use Rattle.action_terms.specs.Actions.{Join, Chain, Node, Both, Phases, Either, Trapping, Action, node_at}
use Rattle.action_terms.specs.Performances.{OneOf}
use Rattle.sort_rules.specs.Tables.{DataIn, BindsIn, DataOut, BindsOut, Escaped, MarkedTable}
use Rattle.sort_rules.specs.Shapes.{part_length}
use Rattle.sort_rules.specs.Procedures.{parts_at, procedure_of}
use Rattle.sort_rules.specs.Measures.{node_numbers, slots}
use Rattle.frame_layout.specs.Places.{PlacedNode, Frame, blocks, record_words, words_of}

-- the roots of an action's procedures, ascending
abbrev pub roots_of : Action → List ℕ
roots_of a = filter (λ k. nat_eq (procedure_of a k) k) (node_numbers a)

-- the nodes of the procedure with a root, ascending
abbrev pub nodes_in : Action → (root : ℕ) → List ℕ
nodes_in a c = filter (λ k. nat_eq (procedure_of a k) c) (node_numbers a)

-- ---- one node

-- each part of a node has as many words as its row asks for
pub record FitsRow (t : MarkedTable) (n : PlacedNode) : Type 0 where
  pub data_in : length n.data_in ≡ part_length (t (DataIn n.node))
  pub binds_in : length n.binds_in ≡ part_length (t (BindsIn n.node))
  pub data_out : length n.data_out ≡ part_length (t (DataOut n.node))
  pub binds_out : length n.binds_out ≡ part_length (t (BindsOut n.node))
  pub escaped : length n.escaped ≡ part_length (t (Escaped n.node))

-- the words of a list are consecutive and ascend
abbrev pub AreConsecutive : List ℕ → Type 0
AreConsecutive xs = (x : ℕ) × (xs ≡ range_with_len x (length xs))

-- no word stands in both
abbrev pub AreApart : List ℕ → List ℕ → Type 0
AreApart xs ys = (x : ℕ) → OneOf x xs → OneOf x ys → ⊥

-- the words at the front of a frame, which are in no place: where a call goes back to, and what a step puts aside
abbrev pub front_words : ℕ
front_words = 32

-- a node is placed in a frame of so many words: as its row asks, within the frame; each list consecutive; behind the front; its parts and its record apart
pub record IsPlacedNode (t : MarkedTable) (words : ℕ) (n : PlacedNode) : Type 0 where
  pub lengths : FitsRow t n
  pub within : All (λ x. x < words) (words_of n)
  pub consecutive : All AreConsecutive (blocks n)
  pub behind : All (λ x. front_words ≤ x) (words_of n)
  pub apart : AllPairs AreApart (blocks n)

-- ---- two nodes

-- node k is node j or a part in it, at any depth
pub data IsIn (a : Action) : (j k : ℕ) → Type 0 where
  Itself : {k : ℕ} → IsIn a k k
  Deeper : {i j k : ℕ} → OneOf i (parts_at (node_at a j)) → IsIn a i k → IsIn a j k

-- the part of a node that code performs first, and the part that it may perform after it. Of a `branch` it performs one alone
pub data IsInTurn : Node → (first second : ℕ) → Type 0 where
  OfBoth : {j : Join} {l r : ℕ} → IsInTurn (Both j l r) l r
  OfPhases : {q : Chain} {l r : ℕ} → IsInTurn (Phases q l r) l r
  OfEither : {l r : ℕ} → IsInTurn (Either l r) l r
  OfTrapping : {l r : ℕ} → IsInTurn (Trapping l r) l r

-- two nodes are needed at one time: the one is beneath the other, or is performed before the part in which the other stands
pub data AreNeededTogether (a : Action) : (j k : ℕ) → Type 0 where
  Beneath : {i j k : ℕ} → OneOf i (parts_at (node_at a j)) → IsIn a i k
      → AreNeededTogether a j k
  Before : (n : ℕ) {first second k : ℕ} → IsInTurn (node_at a n) first second
      → IsIn a second k → AreNeededTogether a first k

-- ---- the frames

-- the words of two nodes are apart
abbrev pub AreNodesApart : PlacedNode → PlacedNode → Type 0
AreNodesApart m n = AreApart (words_of m) (words_of n)

-- in a frame, nodes that are needed at one time are apart
abbrev pub KeepsApart : Action → Frame → Type 0
KeepsApart a f = (m n : PlacedNode) → OneOf m f.nodes → OneOf n f.nodes
    → AreNeededTogether a m.node n.node → AreNodesApart m n

-- of the root, the data that it is given come first in the frame, and then the bindings that it receives: a call puts them there, whatever the body is
pub record HasRootFirst (n : PlacedNode) : Type 0 where
  pub data_in : n.data_in ≡ range_with_len front_words (length n.data_in)
  pub binds_in : n.binds_in
      ≡ range_with_len (front_words + length n.data_in) (length n.binds_in)

-- what the nodes of a frame complete with, node by node
abbrev pub outs_of : Frame → List ℕ
outs_of f = concat (map (λ n. n.data_out) f.nodes)

-- the words of a node for the data and the bindings that it gets
abbrev pub entry_words_of : PlacedNode → List ℕ
entry_words_of n = n.data_in ++ n.binds_in

-- those for the bindings that it completes with and the data that it escapes with, and its record
abbrev pub end_words_of : PlacedNode → List ℕ
end_words_of n = n.binds_out ++ (n.escaped ++ record_words n.keep)

-- the first word behind the data and the bindings of the root
abbrev pub behind_root : PlacedNode → ℕ
behind_root n = front_words + length n.data_in + length n.binds_in

-- right behind the data and the bindings of the root stands what all nodes complete with, node by node. All other words of the frame stand behind that
pub record IsInOrder (f : Frame) (root : PlacedNode) : Type 0 where
  pub outs : outs_of f ≡ range_with_len (behind_root root) (length (outs_of f))
  pub ends : (n : PlacedNode) → OneOf n f.nodes
      → All (λ x. behind_root root + length (outs_of f) ≤ x) (end_words_of n)
  pub entries : (n : PlacedNode) → OneOf n f.nodes → n.node ≢ f.root
      → All (λ x. behind_root root + length (outs_of f) ≤ x) (entry_words_of n)

abbrev pub HasOrder : Frame → Type 0
HasOrder f = (n : PlacedNode) → OneOf n f.nodes → n.node ≡ f.root → IsInOrder f n

-- a frame has a place for each node of its procedure, and at most as many words as the procedure has slots; an offset reaches each of them
pub record IsFrame (a : Action) (t : MarkedTable) (f : Frame) : Type 0 where
  pub listed : map (λ n. n.node) f.nodes ≡ nodes_in a f.root
  pub words : f.words ≤ slots a t f.root
  pub reached : f.words ≤ 33554432
  pub placed : All (IsPlacedNode t f.words) f.nodes
  pub needed : KeepsApart a f
  pub root : (n : PlacedNode) → OneOf n f.nodes → n.node ≡ f.root → HasRootFirst n

-- all nodes of a frame are apart, whether they are needed at one time or not
abbrev pub HasApartNodes : Frame → Type 0
HasApartNodes f = (m n : PlacedNode) → OneOf m f.nodes → OneOf n f.nodes
    → m.node ≢ n.node → AreNodesApart m n

-- a layout has a frame for each procedure of the action, in which all nodes are apart
pub record IsLayout (a : Action) (t : MarkedTable) (fs : List Frame) : Type 0 where
  pub listed : map (λ f. f.root) fs ≡ roots_of a
  pub frames : All (IsFrame a t) fs
  pub apart : All HasApartNodes fs
