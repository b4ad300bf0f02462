-- How this crate places the nodes of a procedure: the root's data and bindings, what all nodes complete with, and the rest, node by node.
use Rattle.std.specs.Prelude.{◌≡◌, ℕ, ◌+◌, ◌≤◌, length, List, [], ◌∷◌, nat_eq, if◌then◌else◌}
use Rattle.std.specs.List.{range_with_len}
use Rattle.sort_rules.specs.Tables.{DataIn, BindsIn, DataOut, BindsOut, Escaped, MarkedTable}
use Rattle.sort_rules.specs.Shapes.{part_length}
use Rattle.sort_rules.specs.Rows.{SortTable, unmarked}
use Rattle.sort_rules.specs.Measures.{width}
use Rattle.frame_layout.specs.declared.lengths.Lengths.{Lengths}
use Rattle.frame_layout.specs.Places.{PlacedNode, Frame}

-- no part of a row is longer than 64
abbrev pub IsNarrow : SortTable → Type 0
IsNarrow t = width (length t.rows) (unmarked t) ≤ 64

-- these are the lengths of the row of node k
pub record AreLengths (t : MarkedTable) (k : ℕ) (l : Lengths) : Type 0 where
  pub data_in : l.g ≡ part_length (t (DataIn k))
  pub binds_in : l.h ≡ part_length (t (BindsIn k))
  pub data_out : l.o ≡ part_length (t (DataOut k))
  pub binds_out : l.p ≡ part_length (t (BindsOut k))
  pub escaped : l.e ≡ part_length (t (Escaped k))

-- the words of the data and of the bindings that node k gets
abbrev pub entry_words : MarkedTable → ℕ → ℕ
entry_words t k = part_length (t (DataIn k)) + part_length (t (BindsIn k))

-- the words of the data that it completes with
abbrev pub out_words : MarkedTable → ℕ → ℕ
out_words t k = part_length (t (DataOut k))

-- the words of the bindings that it completes with, of the data that it escapes with, and of its record
abbrev pub end_words : MarkedTable → ℕ → ℕ
end_words t k = part_length (t (BindsOut k)) + part_length (t (Escaped k)) + 8

-- the words of node k behind what all nodes complete with, in the procedure with root c
abbrev pub rest_words : MarkedTable → (c k : ℕ) → ℕ
rest_words t c k = if nat_eq k c then end_words t k else entry_words t k + end_words t k

-- node k, with these first words of its data, its bindings, what it completes with, and the others
abbrev pub placed_from : MarkedTable → (given received out others k : ℕ) → PlacedNode
placed_from t g h o x k =
    let p = part_length (t (BindsOut k)) in
    let e = part_length (t (Escaped k)) in
    record {
      node = k;
      data_in = range_with_len g (part_length (t (DataIn k)));
      binds_in = range_with_len h (part_length (t (BindsIn k)));
      data_out = range_with_len o (part_length (t (DataOut k)));
      binds_out = range_with_len x p;
      escaped = range_with_len (x + p) e;
      keep = x + p + e;
    }

-- the root of the procedure, in a frame of which the words from front on may be places
abbrev pub placed_root : MarkedTable → (front out rest k : ℕ) → PlacedNode
placed_root t front out rest k =
    placed_from t front (front + part_length (t (DataIn k))) out rest k

-- another node
abbrev pub placed_inner : MarkedTable → (out rest k : ℕ) → PlacedNode
placed_inner t out rest k =
    let g = part_length (t (DataIn k)) in
    placed_from t rest (rest + g) out (rest + g + part_length (t (BindsIn k))) k

-- node k of the procedure with root c
abbrev pub placed_at : MarkedTable → (front c out rest k : ℕ) → PlacedNode
placed_at t front c out rest k =
    if nat_eq k c then placed_root t front out rest k else placed_inner t out rest k

-- nodes of a procedure, one behind the other
abbrev pub placed_all : MarkedTable → (front c out rest : ℕ) → List ℕ → List PlacedNode
placed_all t front c out rest [] = []
placed_all t front c out rest (k ∷ ks) =
    placed_at t front c out rest k
    ∷ placed_all t front c (out + out_words t k) (rest + rest_words t c k) ks

-- where what they complete with ends, and where the rest ends
abbrev pub out_end : MarkedTable → (out : ℕ) → List ℕ → ℕ
out_end t out [] = out
out_end t out (k ∷ ks) = out_end t (out + out_words t k) ks

abbrev pub rest_end : MarkedTable → (c rest : ℕ) → List ℕ → ℕ
rest_end t c rest [] = rest
rest_end t c rest (k ∷ ks) = rest_end t c (rest + rest_words t c k) ks

-- where the data and the bindings of the root end
abbrev pub entry_end : MarkedTable → (front c : ℕ) → ℕ
entry_end t front c = front + entry_words t c

-- the frame of the procedure with root c and these nodes
abbrev pub placed_frame : MarkedTable → (front c : ℕ) → List ℕ → Frame
placed_frame t front c ks =
    let out = entry_end t front c in
    let rest = out_end t out ks in
    record { root = c; words = rest_end t c rest ks; nodes = placed_all t front c out rest ks }
