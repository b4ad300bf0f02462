-- The places of nodes, each put at its number.
use Rattle.std.proofs.Common.{◌≡◌, ℕ, zero, suc, ◌+◌, ◌<◌, List, [], ◌∷◌, ◌++◌, append_assoc, drop, get_or, length, map, set, refl, sym, ap, subst, ◌∙◌, arith, inl, inr, get_or-set_other, get_or-set_same, length-set}
use Rattle.std.proofs.lemmas.Bool.Decides.{eqb_tells}
use Rattle.std.specs.Borrow.{Bor}
use Rattle.std.proofs.lemmas.List.{drop_more, map-append, map-set}
use Rattle.std.specs.Prelude.{filter, nat_eq, true}
use Rattle.action_terms.specs.Actions.{Action}
use Rattle.action_terms.specs.Performances.{OneOf, Here, Later}
use Rattle.action_terms.proofs.AllLaws.{All-member}
use Rattle.sort_rules.specs.Measures.{node_numbers}
use Rattle.sort_rules.specs.Procedures.{procedure_of}
use Rattle.sort_rules.specs.Tables.{MarkedTable}
use Rattle.sort_rules.proofs.Choices.{either, eq_of_test, member_cases}
use Rattle.frame_layout.specs.declared.places.NodePlaces.{NodePlaces}
use Rattle.frame_layout.specs.declared.places.Procedure.{Procedure}
use Rattle.frame_layout.specs.Places.{Frame, PlacedNode, frame_of, placed_node}
use Rattle.frame_layout.specs.Layouts.{IsFrame, IsLayout}
use Rattle.frame_layout.proofs.NodeLists.{filter-member, node_numbers-range}
use Rattle.frame_layout.proofs.Words.{range-member}
use Rattle.rv_codegen.specs.Aliases.{AreByNumber, ArePut, lists_of, nowhere, place_at, put_each, put_frames}
use Rattle.rv_codegen.proofs.LayoutWords.{Rising, filter-rising, member-mapped, one-frame, one-with_key}

-- what a read past the end of a list of places gives
abbrev pub no_place : NodePlaces
no_place = record {
  node = 0;
  g = record { ref_ptr = (0, 0); now = [] };
  h = record { ref_ptr = (0, 0); now = [] };
  o = record { ref_ptr = (0, 0); now = [] };
  p = record { ref_ptr = (0, 0); now = [] };
  e = record { ref_ptr = (0, 0); now = [] };
  keep = 0;
}

abbrev pub no_procedure : Procedure
no_procedure = record { root = 0; words = 0; places = record { ref_ptr = (0, 0); now = [] } }

pub member-at : {A B : Type 0} (f : A → B) (xs : List A) (i : ℕ) (d : A) → i < length xs → OneOf (f (get_or xs i d)) (map f xs)
member-at f [] i d less = absurd (omega arith)
member-at f (x ∷ xs) zero d less = Here
member-at f (x ∷ xs) (suc i) d less = Later (member-at f xs i d (omega arith))

-- one place more
pub put-next : (places list : List NodePlaces) (i : ℕ) (d : NodePlaces) → i < length places
    → put_each (map placed_node (drop (i + 1) places)) (map placed_node (set list (get_or places i d).node (get_or places i d))) ≡ put_each (map placed_node (drop i places)) (map placed_node list)
put-next places list i d less =
    let x : NodePlaces = get_or places i d in
    ap (put_each (map placed_node (drop (i + 1) places))) (map-set placed_node list x.node x)
    ∙ sym (ap (λ (ps : List NodePlaces). put_each (map placed_node ps) (map placed_node list)) (drop_more places i d less))

-- one record more
pub keeps-next : (places : List NodePlaces) (ks : List ℕ) (i : ℕ) (d : NodePlaces) → i < length places
    → (ks ++ (get_or places i d).keep ∷ []) ++ map (λ (n : PlacedNode). n.keep) (map placed_node (drop (i + 1) places)) ≡ ks ++ map (λ (n : PlacedNode). n.keep) (map placed_node (drop i places))
keeps-next places ks i d less =
    append_assoc ks ((get_or places i d).keep ∷ []) (map (λ (n : PlacedNode). n.keep) (map placed_node (drop (i + 1) places)))
    ∙ ap (λ (ps : List NodePlaces). ks ++ map (λ (n : PlacedNode). n.keep) (map placed_node ps)) (sym (drop_more places i d less))

-- one row more
pub rows-next : (places : List NodePlaces) (rows : List (Bor (List ℕ))) (i : ℕ) (d : NodePlaces) → i < length places
    → lists_of (rows ++ (get_or places i d).e ∷ []) ++ map (λ (n : PlacedNode). n.escaped) (map placed_node (drop (i + 1) places)) ≡ lists_of rows ++ map (λ (n : PlacedNode). n.escaped) (map placed_node (drop i places))
rows-next places rows i d less =
    let behind = map (λ (n : PlacedNode). n.escaped) (map placed_node (drop (i + 1) places)) in
    ap (λ (xs : List (List ℕ)). xs ++ behind) (map-append (λ (x : Bor (List ℕ)). x.now) rows ((get_or places i d).e ∷ []))
    ∙ append_assoc (lists_of rows) ((get_or places i d).e.now ∷ []) behind
    ∙ ap (λ (ps : List NodePlaces). lists_of rows ++ map (λ (n : PlacedNode). n.escaped) (map placed_node ps)) (sym (drop_more places i d less))

-- one procedure more
pub put-procedure : (procedures : List Procedure) (before after : List PlacedNode) (i : ℕ) (d : Procedure) → i < length procedures
    → after ≡ put_each (map placed_node (get_or procedures i d).places.now) before
    → put_frames (map frame_of (drop (i + 1) procedures)) after ≡ put_frames (map frame_of (drop i procedures)) before
put-procedure procedures before after i d less e =
    ap (put_frames (map frame_of (drop (i + 1) procedures))) e
    ∙ sym (ap (λ (ps : List Procedure). put_frames (map frame_of ps) before) (drop_more procedures i d less))

-- ---- every place stands at its number

-- a place that is put stays, where no other has its number
kept-each : (ms ns : List PlacedNode) (n : PlacedNode) → ((m : PlacedNode) → OneOf m ms → m.node ≡ n.node → m ≡ n) → n.node < length ns → place_at ns n.node ≡ n → place_at (put_each ms ns) n.node ≡ n
kept-each [] ns n one within at = at
kept-each (m ∷ ms) ns n one within at = kept-each ms (set ns m.node m) n (λ k x. one k (Later x)) (omega (arith, within, length-set ns m.node m)) (elim (eqb_tells n.node m.node) [
  | inl same ↦ (let is = one m Here (sym same.1) in
      ap (λ (i : ℕ). get_or (set ns m.node m) i nowhere) same.1 ∙ get_or-set_same ns m.node m nowhere (omega (arith, within, same.1)) ∙ is)
  | inr other ↦ get_or-set_other ns m.node n.node m nowhere other.1 ∙ at
])

put-each : (ms ns : List PlacedNode) (n : PlacedNode) → ((m : PlacedNode) → OneOf m ms → m.node ≡ n.node → m ≡ n) → n.node < length ns → OneOf n ms → place_at (put_each ms ns) n.node ≡ n
put-each [] ns n one within x = elim x [ ]
put-each (m ∷ ms) ns n one within x =
    let long = length-set ns m.node m in
    either
    (λ e. kept-each ms (set ns m.node m) n (λ k x. one k (Later x)) (omega (arith, within, long))
    (ap (λ (i : ℕ). get_or (set ns m.node m) i nowhere) (ap (λ (k : PlacedNode). k.node) e) ∙ get_or-set_same ns m.node m nowhere (omega (arith, within, ap (λ (k : PlacedNode). k.node) e)) ∙ sym e))
    (λ later. put-each ms (set ns m.node m) n (λ k x. one k (Later x)) (omega (arith, within, long)) later) (member_cases x)

length-put_each : (ms ns : List PlacedNode) → length (put_each ms ns) ≡ length ns
length-put_each [] ns = refl
length-put_each (m ∷ ms) ns = length-put_each ms (set ns m.node m) ∙ length-set ns m.node m

pub length-put_frames : (fs : List Frame) (ns : List PlacedNode) → length (put_frames fs ns) ≡ length ns
length-put_frames [] ns = refl
length-put_frames (f ∷ fs) ns = length-put_frames fs (put_each f.nodes ns) ∙ length-put_each f.nodes ns

kept-frames : (fs : List Frame) (ns : List PlacedNode) (n : PlacedNode) → ((f : Frame) (m : PlacedNode) → OneOf f fs → OneOf m f.nodes → m.node ≡ n.node → m ≡ n) → n.node < length ns → place_at ns n.node ≡ n → place_at (put_frames fs ns) n.node ≡ n
kept-frames [] ns n one within at = at
kept-frames (f ∷ fs) ns n one within at =
    kept-frames fs (put_each f.nodes ns) n (λ g m x. one g m (Later x)) (omega (arith, within, length-put_each f.nodes ns)) (kept-each f.nodes ns n (λ m. one f m Here) within at)

put-frames : (fs : List Frame) (ns : List PlacedNode) (f : Frame) (n : PlacedNode) → ((g : Frame) (m : PlacedNode) → OneOf g fs → OneOf m g.nodes → m.node ≡ n.node → m ≡ n) → n.node < length ns → OneOf f fs → OneOf n f.nodes → place_at (put_frames fs ns) n.node ≡ n
put-frames [] ns f n one within x m = elim x [ ]
put-frames (g ∷ fs) ns f n one within x m =
    let long = length-put_each g.nodes ns in
    either
    (λ e. kept-frames fs (put_each g.nodes ns) n (λ h k y. one h k (Later y)) (omega (arith, within, long)) (put-each g.nodes ns n (λ k. one g k Here) within (subst (λ (h : Frame). OneOf n h.nodes) e m)))
    (λ later. put-frames fs (put_each g.nodes ns) f n (λ h k y. one h k (Later y)) (omega (arith, within, long)) later m) (member_cases x)

module _ (a : Action) (t : MarkedTable) (fs : List Frame) (laid : IsLayout a t fs) where
  pub roots-rise : Rising (map (λ (h : Frame). h.root) fs)
  roots-rise =
      subst Rising (sym (laid.listed ∙ ap (filter (λ k. nat_eq (procedure_of a k) k)) (node_numbers-range a))) (filter-rising (λ k. nat_eq (procedure_of a k) k) 0 (length a))

  -- a node of a frame is one of its procedure
  pub node-in : (f : Frame) (n : PlacedNode) → OneOf f fs → OneOf n f.nodes → OneOf n.node (node_numbers a) × (nat_eq (procedure_of a n.node) f.root ≡ true)
  node-in f n x m =
      let frame : IsFrame a t f = All-member (IsFrame a t) f fs x laid.frames in
      filter-member (λ k. nat_eq (procedure_of a k) f.root) (node_numbers a) n.node (subst (OneOf n.node) frame.listed (member-mapped (λ (k : PlacedNode). k.node) f.nodes n m))

  pub node-within : (f : Frame) (n : PlacedNode) → OneOf f fs → OneOf n f.nodes → n.node < length a
  node-within f n x m = let r = range-member 0 (length a) n.node (subst (OneOf n.node) (node_numbers-range a) (node-in f n x m).0) in omega (arith, r.1)

  -- no two nodes have one number
  one-node : (f g : Frame) (m n : PlacedNode) → OneOf f fs → OneOf g fs → OneOf m f.nodes → OneOf n g.nodes → m.node ≡ n.node → m ≡ n
  one-node f g m n x y mx ny e =
      let fr = eq_of_test (procedure_of a m.node) f.root (node-in f m x mx).1 in
      let gr = eq_of_test (procedure_of a n.node) g.root (node-in g n y ny).1 in
      let same : g ≡ f = one-frame fs g f roots-rise y x (sym gr ∙ ap (procedure_of a) (sym e) ∙ fr) in
      let frame : IsFrame a t f = All-member (IsFrame a t) f fs x laid.frames in
      let rise : Rising (map (λ (k : PlacedNode). k.node) f.nodes) =
      subst Rising (sym (frame.listed ∙ ap (filter (λ k. nat_eq (procedure_of a k) f.root)) (node_numbers-range a))) (filter-rising (λ k. nat_eq (procedure_of a k) f.root) 0 (length a)) in
      one-with_key (λ (k : PlacedNode). k.node) f.nodes m n rise mx (subst (λ (h : Frame). OneOf n h.nodes) same ny) e

  pub put-by_number : (ns : List PlacedNode) → ArePut (length a) fs ns → AreByNumber a fs ns
  put-by_number ns put = record {
    long = ap length put.are ∙ length-put_frames fs put.start ∙ put.long;
    each = λ f n x m. ap (λ (ks : List PlacedNode). place_at ks n.node) put.are
        ∙ put-frames fs put.start f n (λ g k y z e. one-node g f k n y x z m e) (omega (arith, put.long, node-within f n x m)) x m;
  }
