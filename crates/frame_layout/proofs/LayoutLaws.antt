-- The frames of all procedures, one after the other, are a layout.
use Rattle.std.proofs.Common.{◌≡◌, ◌≢◌, ℕ, ◌+◌, ◌<◌, ◌≤◌, Bool, false, List, [], ◌∷◌, ◌++◌, Vec, length, get_or, map, refl, sym, ap, subst, ◌∙◌, arith, inl, inr, cond}
use Rattle.std.specs.Prelude.{All, filter, nat_eq}
use Rattle.std.specs.Global.{Global}
use Rattle.std.specs.List.{range_with_len}
use Rattle.std.proofs.lemmas.Bool.{eq-eqb}
use Rattle.std.proofs.lemmas.Bool.Decides.{eqb_tells}
use Rattle.std.proofs.lemmas.List.{append-nil, get_or_default, map-append}
use Rattle.std.proofs.lemmas.List.Elements.{All-append, All-cons, All-head, All-nil, All-tail, filter-append}
use Rattle.std.proofs.lemmas.List.FromFn.{length-range_with_len}
use Rattle.action_terms.specs.Actions.{Action}
use Rattle.action_terms.specs.Performances.{OneOf, Here, Later}
use Rattle.sort_rules.specs.Measures.{node_numbers}
use Rattle.sort_rules.specs.Procedures.{procedure_of}
use Rattle.sort_rules.specs.Tables.{MarkedTable}
use Rattle.sort_rules.proofs.Choices.{eq_of_test}
use Rattle.frame_layout.specs.Places.{Frame}
use Rattle.frame_layout.specs.Layouts.{HasApartNodes, HasOrder, IsFrame, IsLayout, front_words, nodes_in}
use Rattle.frame_layout.specs.Placing.{placed_frame}
use Rattle.frame_layout.specs.Roots.{AreMembers, AreRoots}
use Rattle.frame_layout.proofs.FrameLaws.{frame-apart, frame-is, frame-order}
use Rattle.frame_layout.proofs.GraphParts.{HasTrees}
use Rattle.frame_layout.proofs.Grouping.{range-more}
use Rattle.frame_layout.proofs.NodeLists.{filter-member, filter-same, length-filter_most, node_numbers-range}
use Rattle.frame_layout.proofs.ProcedureRoots.{procedure-below}
use Rattle.frame_layout.proofs.Words.{all-members, range-member}

-- ---- the nodes of a procedure

-- the roots are nodes
pub roots-within : (a : Action) (roots : List ℕ) → HasTrees a → AreRoots a roots → (k : ℕ) → k < length roots → get_or roots k 0 < length roots
roots-within a roots trees are k less = omega (arith, are.long, are.each k (omega (arith, are.long)), procedure-below a trees k)

pub group-is : (a : Action) (roots : List ℕ) (groups : List (Vec ℕ Global)) (c : ℕ) (d : Vec ℕ Global) → AreRoots a roots → AreMembers roots groups → c < length a → (get_or groups c d).items ≡ nodes_in a c
group-is a roots groups c d are members within =
    members.each c d (omega (arith, are.long))
    ∙ ap (λ (n : ℕ). filter (λ k. nat_eq (get_or roots k 0) c) (range_with_len 0 n)) are.long
    ∙ filter-same (λ k. nat_eq (get_or roots k 0) c) (λ k. nat_eq (procedure_of a k) c) (range_with_len 0 (length a))
    (λ k m. ap (λ (r : ℕ). nat_eq r c) (are.each k (omega (arith, (range-member 0 (length a) k m).1))))
    ∙ ap (filter (λ k. nat_eq (procedure_of a k) c)) (sym (node_numbers-range a))

pub nodes_in-within : (a : Action) (c : ℕ) → All (λ k. k < length a) (nodes_in a c)
nodes_in-within a c = all-members (λ k. k < length a) (nodes_in a c) (λ k m.
    let number = (filter-member (λ k. nat_eq (procedure_of a k) c) (node_numbers a) k m).0 in
    let r = range-member 0 (length a) k (subst (OneOf k) (node_numbers-range a) number) in
    omega (arith, r.1))

pub nodes_in-few : (a : Action) (c : ℕ) → length (nodes_in a c) ≤ length a
nodes_in-few a c = omega (arith, length-filter_most (λ k. nat_eq (procedure_of a k) c) (node_numbers a), ap length (node_numbers-range a), length-range_with_len 0 (length a))

-- ---- the frames so far

abbrev is_root : Action → ℕ → Bool
is_root a k = nat_eq (procedure_of a k) k

abbrev frame_at : Action → MarkedTable → (front c : ℕ) → Frame
frame_at a t front c = placed_frame t front c (nodes_in a c)

abbrev pub frames_below : Action → MarkedTable → (front k : ℕ) → List Frame
frames_below a t front k = map (frame_at a t front) (filter (is_root a) (range_with_len 0 k))

pub record AreFramesBelow (a : Action) (t : MarkedTable) (front k : ℕ) (fs : List Frame) : Type 0 where
  pub frames : fs ≡ frames_below a t front k
  pub reached : All (λ f. f.words ≤ 33554432) fs

-- frames by another way
pub frames-same : (a : Action) (t : MarkedTable) (front k : ℕ) (fs gs : List Frame) → gs ≡ fs → AreFramesBelow a t front k fs → AreFramesBelow a t front k gs
frames-same a t front k fs gs e h = subst (AreFramesBelow a t front k) (sym e) h

pub frames-none : (a : Action) (t : MarkedTable) (front : ℕ) → AreFramesBelow a t front 0 []
frames-none a t front = record { frames = refl; reached = All-nil (λ f. f.words ≤ 33554432) }

frames_below-more : (a : Action) (t : MarkedTable) (front k : ℕ) → frames_below a t front (k + 1) ≡ frames_below a t front k ++ map (frame_at a t front) (cond (is_root a k) (k ∷ []) [])
frames_below-more a t front k =
    let last : 0 + k ≡ k = omega arith in
    ap (λ (ks : List ℕ). map (frame_at a t front) (filter (is_root a) ks)) (range-more 0 k)
    ∙ ap (map (frame_at a t front)) (filter-append (is_root a) (range_with_len 0 k) ((0 + k) ∷ []))
    ∙ map-append (frame_at a t front) (filter (is_root a) (range_with_len 0 k)) (cond (is_root a (0 + k)) ((0 + k) ∷ []) [])
    ∙ ap (λ (j : ℕ). frames_below a t front k ++ map (frame_at a t front) (cond (is_root a j) (j ∷ []) [])) last

pub frames-other : (a : Action) (t : MarkedTable) (front k : ℕ) (fs : List Frame) → is_root a k ≡ false → AreFramesBelow a t front k fs → AreFramesBelow a t front (k + 1) fs
frames-other a t front k fs e h = record {
  frames = h.frames ∙ sym (append-nil (frames_below a t front k)) ∙ ap (λ (b : Bool). frames_below a t front k ++ map (frame_at a t front) (cond b (k ∷ []) [])) (sym e) ∙ sym (frames_below-more a t front k);
  reached = h.reached;
}

pub frames-more : (a : Action) (t : MarkedTable) (front k : ℕ) (fs : List Frame) (f : Frame) → procedure_of a k ≡ k → f ≡ frame_at a t front k → f.words ≤ 33554432 → AreFramesBelow a t front k fs → AreFramesBelow a t front (k + 1) (fs ++ f ∷ [])
frames-more a t front k fs f root is reached h = record {
  frames = ap (λ (gs : List Frame). gs ++ f ∷ []) h.frames ∙ ap (λ (g : Frame). frames_below a t front k ++ g ∷ []) is
      ∙ ap (λ (b : Bool). frames_below a t front k ++ map (frame_at a t front) (cond b (k ∷ []) [])) (sym (eq-eqb (procedure_of a k) k root)) ∙ sym (frames_below-more a t front k);
  reached = All-append (λ f. f.words ≤ 33554432) fs (f ∷ []) h.reached (All-cons (λ f. f.words ≤ 33554432) f [] reached (All-nil (λ f. f.words ≤ 33554432)));
}

-- ---- all frames

map-roots : (a : Action) (t : MarkedTable) (cs : List ℕ) → map (λ (f : Frame). f.root) (map (frame_at a t front_words) cs) ≡ cs
map-roots a t [] = refl
map-roots a t (c ∷ cs) = ap (λ (ds : List ℕ). c ∷ ds) (map-roots a t cs)

-- what holds of the frame of each root
each-frame : (a : Action) (t : MarkedTable) (P : Frame → Type 0) (cs : List ℕ) → ((c : ℕ) → OneOf c cs → (frame_at a t front_words c).words ≤ 33554432 → P (frame_at a t front_words c))
    → All (λ f. f.words ≤ 33554432) (map (frame_at a t front_words) cs) → All P (map (frame_at a t front_words) cs)
each-frame a t P [] h reached = All-nil P
each-frame a t P (c ∷ cs) h reached =
    All-cons P (frame_at a t front_words c) (map (frame_at a t front_words) cs) (h c Here (All-head (λ f. f.words ≤ 33554432) (frame_at a t front_words c) (map (frame_at a t front_words) cs) reached))
    (each-frame a t P cs (λ d m. h d (Later m)) (All-tail (λ f. f.words ≤ 33554432) (frame_at a t front_words c) (map (frame_at a t front_words) cs) reached))

module _ (a : Action) (trees : HasTrees a) (t : MarkedTable) (fs : List Frame) (all : AreFramesBelow a t front_words (length a) fs) where
  cs : List ℕ
  cs = filter (is_root a) (range_with_len 0 (length a))

  each : (P : Frame → Type 0) → ((c : ℕ) → c < length a → procedure_of a c ≡ c → (frame_at a t front_words c).words ≤ 33554432 → P (frame_at a t front_words c)) → All P fs
  each P h = subst (All P) (sym all.frames) (each-frame a t P (filter (is_root a) (range_with_len 0 (length a)))
      (λ c m reached.
      let r = filter-member (is_root a) (range_with_len 0 (length a)) c m in
      h c (omega (arith, (range-member 0 (length a) c r.0).1)) (eq_of_test (procedure_of a c) c r.1) reached)
      (subst (All (λ f. f.words ≤ 33554432)) all.frames all.reached))

  pub frames-layout : IsLayout a t fs
  frames-layout = record {
    listed = ap (map (λ (f : Frame). f.root)) all.frames ∙ map-roots a t (filter (is_root a) (range_with_len 0 (length a))) ∙ ap (filter (is_root a)) (sym (node_numbers-range a));
    frames = each (IsFrame a t) (λ c within root reached. frame-is a trees t c within root reached);
    apart = each HasApartNodes (λ c within root reached. frame-apart a trees t c within root);
  }

  pub frames-order : All HasOrder fs
  frames-order = each HasOrder (λ c within root reached. frame-order a trees t c within root)

-- ---- what code reads

pub nodes-read : (a : Action) (roots : List ℕ) (groups : List (Vec ℕ Global)) (c : ℕ) (v : Vec ℕ Global) (ks : List ℕ) → AreRoots a roots → AreMembers roots groups → c < length a → v ≡ get_or groups c v → ks ≡ v.items → ks ≡ nodes_in a c
nodes-read a roots groups c v ks are members within read same = same ∙ ap (λ (w : Vec ℕ Global). w.items) read ∙ group-is a roots groups c v are members within

pub root-read : (a : Action) (roots : List ℕ) (k r : ℕ) → AreRoots a roots → k < length a → r ≡ get_or roots k r → r ≡ procedure_of a k
root-read a roots k r are within read = read ∙ get_or_default roots k r 0 (omega (arith, are.long)) ∙ are.each k within

pub nodes-within : (a : Action) (c n : ℕ) (ks : List ℕ) → length a ≡ n → ks ≡ nodes_in a c → All (λ k. k < n) ks
nodes-within a c n ks e same = subst (λ (m : ℕ). All (λ k. k < m) ks) e (subst (All (λ k. k < length a)) (sym same) (nodes_in-within a c))

pub not-root : (a : Action) (k r : ℕ) → r ≡ procedure_of a k → r ≢ k → is_root a k ≡ false
not-root a k r e other = elim (eqb_tells (procedure_of a k) k) [ inl same ↦ absurd (other (e ∙ same.1)) | inr no_root ↦ no_root.0 ]
