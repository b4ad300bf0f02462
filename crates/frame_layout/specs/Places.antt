-- What contracts see of a layout: the frames of procedures, with the places of their nodes.
use Rattle.std.specs.Prelude.{ℕ, List, [], ◌∷◌, map}
use Rattle.std.specs.List.{concat, range_with_len}
use Rattle.frame_layout.specs.declared.places.NodePlaces.{NodePlaces}
use Rattle.frame_layout.specs.declared.places.Procedure.{Procedure}
use Rattle.frame_layout.specs.declared.places.Layout.{Layout}

-- the words of a node's parts, and the first of the eight words of its record: offsets from the first word of the frame
pub record PlacedNode : Type 0 where
  pub node : ℕ
  pub data_in : List ℕ
  pub binds_in : List ℕ
  pub data_out : List ℕ
  pub binds_out : List ℕ
  pub escaped : List ℕ
  pub keep : ℕ

-- the frame of a procedure: how many words it has, and where its nodes are placed
pub record Frame : Type 0 where
  pub root : ℕ
  pub words : ℕ
  pub nodes : List PlacedNode

-- the words of a record
abbrev pub record_words : ℕ → List ℕ
record_words keep = range_with_len keep 8

-- the parts of a node, and its record
abbrev pub blocks : PlacedNode → List (List ℕ)
blocks n = n.data_in ∷ n.binds_in ∷ n.data_out ∷ n.binds_out ∷ n.escaped ∷ record_words n.keep ∷ []

-- all words of a node
abbrev pub words_of : PlacedNode → List ℕ
words_of n = concat (blocks n)

-- places without where they lie
abbrev pub placed_node : NodePlaces → PlacedNode
placed_node n = record { node = n.node; data_in = n.g.now; binds_in = n.h.now; data_out = n.o.now; binds_out = n.p.now; escaped = n.e.now; keep = n.keep }

-- so a procedure
abbrev pub frame_of : Procedure → Frame
frame_of p = record { root = p.root; words = p.words; nodes = map placed_node p.places.now }

-- the frames of a layout
abbrev pub frames_of : Layout → List Frame
frames_of l = map frame_of l.procedures.now
