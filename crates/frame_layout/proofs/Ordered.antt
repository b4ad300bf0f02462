-- The order within a frame: what all nodes complete with stands behind what the root gets, and all else behind that.
use Rattle.std.proofs.Common.{◌≡◌, ℕ, ◌+◌, ◌≤◌, List, [], ◌∷◌, ◌++◌, length, map, refl, sym, ap, subst, ◌∙◌, arith}
use Rattle.std.specs.Prelude.{All}
use Rattle.std.specs.List.{concat, range_with_len}
use Rattle.std.proofs.lemmas.List.FromFn.{length-range_with_len}
use Rattle.action_terms.specs.Performances.{OneOf}
use Rattle.sort_rules.specs.Tables.{DataIn, BindsIn, MarkedTable}
use Rattle.sort_rules.specs.Shapes.{part_length}
use Rattle.frame_layout.specs.Places.{Frame, PlacedNode}
use Rattle.frame_layout.specs.Layouts.{IsInOrder, behind_root, end_words_of, entry_words_of, front_words, outs_of}
use Rattle.frame_layout.specs.Placing.{entry_end, out_end, out_words, placed_all, placed_frame, rest_words}
use Rattle.frame_layout.proofs.Placed.{all-in_frame, at-placed}
use Rattle.frame_layout.proofs.Placing.{out_end-from}
use Rattle.frame_layout.proofs.Words.{range-append}

-- what the nodes complete with stands one behind the other
outs-placed : (t : MarkedTable) (c out rest : ℕ) (ks : List ℕ) → concat (map (λ (n : PlacedNode). n.data_out) (placed_all t front_words c out rest ks)) ≡ range_with_len out (out_end t 0 ks)
outs-placed t c out rest [] = refl
outs-placed t c out rest (k ∷ ks) =
    let o : ℕ = out_words t k in
    let first : 0 + o ≡ o + 0 = omega arith in
    let sum : out_end t 0 (k ∷ ks) ≡ o + out_end t 0 ks = ap (λ (x : ℕ). out_end t x ks) first ∙ out_end-from t o 0 ks in
    ap (λ (xs : List ℕ). xs ++ concat (map (λ (n : PlacedNode). n.data_out) (placed_all t front_words c (out + o) (rest + rest_words t c k) ks))) (at-placed t c out rest k).outs
    ∙ ap (λ (xs : List ℕ). range_with_len out o ++ xs) (outs-placed t c (out + o) (rest + rest_words t c k) ks)
    ∙ range-append out o (out_end t 0 ks) ∙ ap (range_with_len out) (sym sum)

module _ (t : MarkedTable) (c : ℕ) (ks : List ℕ) where
  start : ℕ
  start = entry_end t front_words c

  rest : ℕ
  rest = out_end t (entry_end t front_words c) ks

  frame : Frame
  frame = placed_frame t front_words c ks

  outs : outs_of (placed_frame t front_words c ks) ≡ range_with_len (entry_end t front_words c) (out_end t 0 ks)
  outs = outs-placed t c (entry_end t front_words c) (out_end t (entry_end t front_words c) ks) ks

  long : length (outs_of (placed_frame t front_words c ks)) ≡ out_end t 0 ks
  long = ap length outs ∙ length-range_with_len (entry_end t front_words c) (out_end t 0 ks)

  outs-end : entry_end t front_words c + length (outs_of (placed_frame t front_words c ks)) ≡ out_end t (entry_end t front_words c) ks
  outs-end =
      let x : ℕ = entry_end t front_words c in
      let more : x ≡ x + 0 = omega arith in
      omega (arith, long, ap (λ (n : ℕ). out_end t n ks) more, out_end-from t x 0 ks)

  behind-root : (n : PlacedNode) → OneOf n (placed_frame t front_words c ks).nodes → n.node ≡ c → behind_root n ≡ entry_end t front_words c
  behind-root n m e =
      let p = all-in_frame t c (entry_end t front_words c) (out_end t (entry_end t front_words c) ks) ks n (omega arith) (omega arith) m in
      let given = p.fits.data_in ∙ ap (λ k. part_length (t (DataIn k))) e in
      let received = p.fits.binds_in ∙ ap (λ k. part_length (t (BindsIn k))) e in
      omega (arith, given, received)

  pub frame-ordered : (n : PlacedNode) → OneOf n (placed_frame t front_words c ks).nodes → n.node ≡ c → IsInOrder (placed_frame t front_words c ks) n
  frame-ordered n m e =
      let x : ℕ = entry_end t front_words c in
      let y : ℕ = out_end t (entry_end t front_words c) ks in
      let root = behind-root n m e in
      let end : behind_root n + length (outs_of (placed_frame t front_words c ks)) ≡ y = omega (arith, root, outs-end) in
      let each = λ (o : PlacedNode) (q : OneOf o (placed_frame t front_words c ks).nodes). all-in_frame t c x y ks o (omega arith) (omega arith) q in
      record {
        outs = outs ∙ ap (λ (w : ℕ). range_with_len w (out_end t 0 ks)) (sym root) ∙ ap (range_with_len (behind_root n)) (sym long);
        ends = λ o q. subst (λ (b : ℕ). All (λ w. b ≤ w) (end_words_of o)) (sym end) (each o q).ends;
        entries = λ o q other. subst (λ (b : ℕ). All (λ w. b ≤ w) (entry_words_of o)) (sym end) ((each o q).entry other);
      }
