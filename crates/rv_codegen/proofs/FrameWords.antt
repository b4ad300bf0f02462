-- How many words the frame has in which a node is performed, in a table by the numbers of nodes.
use Rattle.std.proofs.Common.{◌≡◌, ℕ, ◌+◌, ◌<◌, List, [], ◌∷◌, drop, get_or, length, map, replicate, set, refl, sym, ap, subst, ◌∙◌, arith, inl, inr, get_or-set_other, get_or-set_same, length-set}
use Rattle.std.proofs.lemmas.Bool.Decides.{eqb_tells}
use Rattle.std.proofs.lemmas.List.{drop_more, length-replicate}
use Rattle.std.specs.Prelude.{All}
use Rattle.action_terms.specs.Actions.{Action}
use Rattle.action_terms.specs.Performances.{OneOf, Here, Later}
use Rattle.sort_rules.specs.Procedures.{procedure_of}
use Rattle.sort_rules.specs.Tables.{MarkedTable}
use Rattle.sort_rules.proofs.Choices.{either, eq_of_test, member_cases}
use Rattle.frame_layout.specs.declared.places.NodePlaces.{NodePlaces}
use Rattle.frame_layout.specs.declared.places.Procedure.{Procedure}
use Rattle.frame_layout.specs.Places.{Frame, PlacedNode, frame_of, placed_node}
use Rattle.frame_layout.specs.Layouts.{HasApartNodes, IsLayout}
use Rattle.frame_layout.proofs.GraphParts.{HasTrees}
use Rattle.rv_codegen.specs.Aliases.{AreByNumber, put_frame_words, put_words, words_at}
use Rattle.rv_codegen.proofs.LayoutWords.{has-frame, words-are}
use Rattle.rv_codegen.proofs.PuttingPlaces.{node-in, roots-rise}

-- ---- as they are put

-- one node more
pub words-next : (places : List NodePlaces) (words : ℕ) (list : List ℕ) (i : ℕ) (d : NodePlaces) → i < length places
    → put_words (map placed_node (drop (i + 1) places)) words (set list (get_or places i d).node words) ≡ put_words (map placed_node (drop i places)) words list
words-next places words list i d less = sym (ap (λ (ps : List NodePlaces). put_words (map placed_node ps) words list) (drop_more places i d less))

-- one procedure more
pub words-procedure : (procedures : List Procedure) (before after : List ℕ) (i : ℕ) (d : Procedure) → i < length procedures
    → after ≡ put_words (map placed_node (get_or procedures i d).places.now) (get_or procedures i d).words before
    → put_frame_words (map frame_of (drop (i + 1) procedures)) after ≡ put_frame_words (map frame_of (drop i procedures)) before
words-procedure procedures before after i d less e =
    ap (put_frame_words (map frame_of (drop (i + 1) procedures))) e
    ∙ sym (ap (λ (ps : List Procedure). put_frame_words (map frame_of ps) before) (drop_more procedures i d less))

length-put_words : (ms : List PlacedNode) (words : ℕ) (xs : List ℕ) → length (put_words ms words xs) ≡ length xs
length-put_words [] words xs = refl
length-put_words (m ∷ ms) words xs = length-put_words ms words (set xs m.node words) ∙ length-set xs m.node words

-- ---- each node has the words of its frame

-- what is put at a number stays, where the same is put there
kept-words : (ms : List PlacedNode) (words : ℕ) (xs : List ℕ) (k w : ℕ) → ((m : PlacedNode) → OneOf m ms → m.node ≡ k → words ≡ w) → k < length xs → get_or xs k 0 ≡ w → get_or (put_words ms words xs) k 0 ≡ w
kept-words [] words xs k w one within at = at
kept-words (m ∷ ms) words xs k w one within at = kept-words ms words (set xs m.node words) k w (λ n x. one n (Later x)) (omega (arith, within, length-set xs m.node words)) (elim (eqb_tells k m.node) [
  | inl same ↦ (ap (λ (i : ℕ). get_or (set xs m.node words) i 0) same.1 ∙ get_or-set_same xs m.node words 0 (omega (arith, within, same.1)) ∙ one m Here (sym same.1))
  | inr other ↦ get_or-set_other xs m.node k words 0 other.1 ∙ at
])

put-words : (ms : List PlacedNode) (words : ℕ) (xs : List ℕ) (n : PlacedNode) → n.node < length xs → OneOf n ms → get_or (put_words ms words xs) n.node 0 ≡ words
put-words [] words xs n within x = elim x [ ]
put-words (m ∷ ms) words xs n within x =
    let long = length-set xs m.node words in
    either
    (λ e. kept-words ms words (set xs m.node words) n.node words (λ k y f. refl) (omega (arith, within, long))
    (ap (λ (i : ℕ). get_or (set xs m.node words) i 0) (ap (λ (k : PlacedNode). k.node) e) ∙ get_or-set_same xs m.node words 0 (omega (arith, within, ap (λ (k : PlacedNode). k.node) e))))
    (λ later. put-words ms words (set xs m.node words) n (omega (arith, within, long)) later) (member_cases x)

kept-frame_words : (fs : List Frame) (xs : List ℕ) (k w : ℕ) → ((f : Frame) (m : PlacedNode) → OneOf f fs → OneOf m f.nodes → m.node ≡ k → f.words ≡ w) → k < length xs → get_or xs k 0 ≡ w → get_or (put_frame_words fs xs) k 0 ≡ w
kept-frame_words [] xs k w one within at = at
kept-frame_words (f ∷ fs) xs k w one within at =
    kept-frame_words fs (put_words f.nodes f.words xs) k w (λ g m x. one g m (Later x)) (omega (arith, within, length-put_words f.nodes f.words xs)) (kept-words f.nodes f.words xs k w (λ m. one f m Here) within at)

put-frame_words : (fs : List Frame) (xs : List ℕ) (f : Frame) (n : PlacedNode) (w : ℕ) → ((g : Frame) (m : PlacedNode) → OneOf g fs → OneOf m g.nodes → m.node ≡ n.node → g.words ≡ w) → n.node < length xs → OneOf f fs → OneOf n f.nodes → get_or (put_frame_words fs xs) n.node 0 ≡ w
put-frame_words [] xs f n w one within x m = elim x [ ]
put-frame_words (g ∷ fs) xs f n w one within x m =
    let long = length-put_words g.nodes g.words xs in
    either
    (λ e. let there : OneOf n g.nodes = subst (λ (h : Frame). OneOf n h.nodes) e m in
    kept-frame_words fs (put_words g.nodes g.words xs) n.node w (λ h k y. one h k (Later y)) (omega (arith, within, long)) (put-words g.nodes g.words xs n within there ∙ one g n Here there refl))
    (λ later. put-frame_words fs (put_words g.nodes g.words xs) f n w (λ h k y. one h k (Later y)) (omega (arith, within, long)) later m) (member_cases x)

module _ (a : Action) (trees : HasTrees a) (t : MarkedTable) (fs : List Frame) (laid : IsLayout a t fs) (apart : All HasApartNodes fs) (ns : List PlacedNode) (by_number : AreByNumber a fs ns) where
  pub frame-words : (k : ℕ) → k < length a → get_or (put_frame_words fs (replicate (length a) 0)) k 0 ≡ words_at fs (procedure_of a k)
  frame-words k within =
      let h = has-frame a trees t fs laid apart ns by_number k within in
      let n = h.member in
      let same : (g : Frame) (m : PlacedNode) → OneOf g fs → OneOf m g.nodes → m.node ≡ k → g.words ≡ words_at fs (procedure_of a k) = λ g m x y e.
      let root : procedure_of a m.node ≡ g.root = eq_of_test (procedure_of a m.node) g.root (node-in a t fs laid g m x y).1 in
      sym (ap (words_at fs) (ap (procedure_of a) (sym e) ∙ root) ∙ words-are fs g (roots-rise a t fs laid) x) in
      subst (λ i. get_or (put_frame_words fs (replicate (length a) 0)) i 0 ≡ words_at fs (procedure_of a k)) h.node
      (put-frame_words fs (replicate (length a) 0) h.frame _ (words_at fs (procedure_of a k)) (λ g m x y e. same g m x y (e ∙ h.node)) (omega (arith, h.node, within, length-replicate {A = ℕ} (length a) 0)) h.listed n)
