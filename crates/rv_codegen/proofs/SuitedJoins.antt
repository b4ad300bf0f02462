-- Where two parts of a node have completed, the node's words are those of both, or of the second: as the lengths of their data say, by an admissible sort table.
use Rattle.std.proofs.Common.{◌≡◌, ℕ, ◌+◌, ◌<◌, ℤ, List, ◌++◌, length, sym, subst, ◌∙◌, arith, length-append}
use Rattle.std.specs.Prelude.{All}
use Rattle.action_terms.specs.Information.{Binds, Data, World}
use Rattle.action_terms.specs.Actions.{Action, AndThen, Before, Both, Chain, Hence, Join, Phases, Then, Trapping, node_at}
use Rattle.action_terms.specs.Acting.{Done, Ended, Esc, First, Par, Second, Trap, Tree}
use Rattle.action_terms.specs.Frames.{Frame as ActingFrame, plug}
use Rattle.action_terms.specs.Performances.{Here, Later, OneOf, State}
use Rattle.action_terms.specs.Steps.{Step}
use Rattle.action_terms.proofs.Parts.{Reaches}
use Rattle.sort_rules.specs.Admissible.{IsAdmissible}
use Rattle.sort_rules.specs.Demands.{chained_data}
use Rattle.sort_rules.specs.Fitting.{DataFit, DoneFits, Ends, EscFits, FirstFits, ParFits, SecondFits, Sorted, StateFits, TrapFits, TreeFits, sorted}
use Rattle.sort_rules.specs.Parts.{Below, Part, concatenation}
use Rattle.sort_rules.specs.Procedures.{parts_at}
use Rattle.sort_rules.specs.Shapes.{part_length}
use Rattle.sort_rules.specs.Tables.{DataOut, Escaped, MarkedTable}
use Rattle.sort_rules.proofs.EachLaws.{each_head, each_tail}
use Rattle.sort_rules.proofs.Fitted.{data_more}
use Rattle.sort_rules.proofs.FittedFrames.{frames_fit}
use Rattle.sort_rules.proofs.FittedOperations.{concatenation_in}
use Rattle.sort_rules.proofs.Shapes.{data_in_shape}
use Rattle.sort_rules.proofs.SoundStates.{part_fits, stands}
use Rattle.sort_rules.proofs.Standing.{demands_at}
use Rattle.frame_layout.specs.Layouts.{HasApartNodes, IsLayout}
use Rattle.frame_layout.specs.Places.{Frame, PlacedNode}
use Rattle.frame_layout.proofs.GraphParts.{HasTrees}
use Rattle.rv_codegen.specs.Aliases.{AreByNumber, out_of, place_at}
use Rattle.rv_codegen.proofs.AliasRules.{Passes, both-joined, phases-joined, then-ends}
use Rattle.rv_codegen.proofs.LayoutWords.{out-fits}
use Rattle.rv_codegen.proofs.SuitedPlaces.{out-length}

-- what two parts in order complete with, of the data of each
abbrev pub both_left : Chain → (d1 d2 : Data) → Data
both_left Then d1 d2 = d2
both_left _ d1 d2 = d1 ++ d2

chained_in : {c : Sorted} {w : List ℕ} (q : Chain) {d1 d2 : Data} {x y : Part} → DataFit c w d1 x → DataFit c w d2 y → DataFit c w (both_left q d1 d2) (chained_data q x y)
chained_in Then f g = g
chained_in AndThen f g = concatenation_in f g
chained_in Hence f g = concatenation_in f g
chained_in Before f g = concatenation_in f g

done-data : {c : Sorted} {a : Action} {w : List ℕ} {d : Data} {b : Binds} {z : Ends} → TreeFits c a w (Ended (Done d b)) z → DataFit c w d z.data_out
done-data (DoneFits f g) = f

escaped-data : {c : Sorted} {a : Action} {w : List ℕ} {d : Data} {z : Ends} → TreeFits c a w (Ended (Esc d)) z → DataFit c w d z.escaped
escaped-data (EscFits f) = f

-- the data of the parts of a node and of the node have the lengths of their rows
pub record HaveLengths (t : MarkedTable) (n l r : ℕ) (d1 d2 e : Data) : Type 0 where
  pub left : length d1 ≡ part_length (t (DataOut l))
  pub right : length d2 ≡ part_length (t (DataOut r))
  pub whole : length e ≡ part_length (t (DataOut n))

module _ (a : Action) (t : MarkedTable) (admissible : IsAdmissible a t) (input : List ℤ) (steps : List Step) (fs : List ActingFrame) (w : World) where
  abbrev S : Sorted
  S = sorted a t

  record Fits (x : Tree) : Type 0 where
    nodes : List ℕ
    ends : Ends
    tree : TreeFits S a nodes x ends

  fits : (x : Tree) → Reaches a input steps (plug fs x) w → Fits x
  fits x reached =
      let s : State = record { tree = plug fs x; world = w } in
      let f : StateFits S a s = part_fits a t input steps s admissible reached in
      let part = frames_fit S a f.nodes fs x f.tree in
      record { nodes = f.nodes; ends = part.0; tree = part.2 }

  out-shape : (v : List ℕ) (k : ℕ) (d : Data) → DataFit S v d (t (DataOut k)) → length d ≡ part_length (t (DataOut k))
  out-shape v k d f = (data_in_shape {c = S} f (admissible.clear k).data_out).1

  have-lengths : (v : List ℕ) (n l r : ℕ) (d1 d2 e : Data) (z : Part) → Below z (t (DataOut n)) → DataFit S v d1 (t (DataOut l)) → DataFit S v d2 (t (DataOut r)) → DataFit S v e z → HaveLengths t n l r d1 d2 e
  have-lengths v n l r d1 d2 e z less f g h = record { left = out-shape v l d1 f; right = out-shape v r d2 g; whole = out-shape v n e (data_more h less) }

  -- two parts in order have completed
  pub second-lengths : (n l r : ℕ) (q : Chain) (d1 : Data) (b1 : Binds) (d2 : Data) (b2 : Binds) → node_at a n ≡ Phases q l r → Reaches a input steps (plug fs (Second n d1 b1 (Ended (Done d2 b2)))) w → HaveLengths t n l r d1 d2 (both_left q d1 d2)
  second-lengths n l r q d1 b1 d2 b2 e reached = let f = fits (Second n d1 b1 (Ended (Done d2 b2))) reached in go f.nodes f.ends f.tree
    where
      go : (v : List ℕ) (z : Ends) → TreeFits S a v (Second n d1 b1 (Ended (Done d2 b2))) z → HaveLengths t n l r d1 d2 (both_left q d1 d2)
      go v z (SecondFits {l = l2} {r = r2} e2 f1 f2 g le) =
          let m = demands_at n (stands a t admissible) e in
          let same : l2 ≡ l = cc in
          let same2 : r2 ≡ r = cc in
          let f : DataFit S v d1 (t (DataOut l)) = subst (λ i. DataFit S v d1 (t (DataOut i))) same f1 in
          let h : DataFit S v d2 (t (DataOut r)) = subst (λ i. DataFit S v d2 (t (DataOut i))) same2 (done-data g) in
          have-lengths v n l r d1 d2 (both_left q d1 d2) (chained_data q (t (DataOut l)) (t (DataOut r))) (each_head (each_tail (each_tail (each_tail (each_tail m))))) f h (chained_in q f h)

  -- two parts in either order have completed
  pub both-lengths : (n l r : ℕ) (j : Join) (d1 : Data) (b1 : Binds) (d2 : Data) (b2 : Binds) → node_at a n ≡ Both j l r → Reaches a input steps (plug fs (Par n (Ended (Done d1 b1)) (Ended (Done d2 b2)))) w → HaveLengths t n l r d1 d2 (d1 ++ d2)
  both-lengths n l r j d1 b1 d2 b2 e reached = let f = fits (Par n (Ended (Done d1 b1)) (Ended (Done d2 b2))) reached in go f.nodes f.ends f.tree
    where
      go : (v : List ℕ) (z : Ends) → TreeFits S a v (Par n (Ended (Done d1 b1)) (Ended (Done d2 b2))) z → HaveLengths t n l r d1 d2 (d1 ++ d2)
      go v z (ParFits {l = l2} {r = r2} e2 f1 f2 le) =
          let m = demands_at n (stands a t admissible) e in
          let same : l2 ≡ l = cc in
          let same2 : r2 ≡ r = cc in
          let f : DataFit S v d1 (t (DataOut l)) = subst (λ i. DataFit S v d1 (t (DataOut i))) same (done-data f1) in
          let h : DataFit S v d2 (t (DataOut r)) = subst (λ i. DataFit S v d2 (t (DataOut i))) same2 (done-data f2) in
          have-lengths v n l r d1 d2 (d1 ++ d2) (concatenation (t (DataOut l)) (t (DataOut r))) (each_head (each_tail (each_tail (each_tail (each_tail m))))) f h (concatenation_in f h)

  -- the first part has completed, and the second is to begin
  pub first-length : (n l r : ℕ) (q : Chain) (d1 : Data) (b1 : Binds) (d : Data) (b : Binds) → node_at a n ≡ Phases q l r → Reaches a input steps (plug fs (First n (Ended (Done d1 b1)) d b)) w → length d1 ≡ part_length (t (DataOut l))
  first-length n l r q d1 b1 d b e reached = let f = fits (First n (Ended (Done d1 b1)) d b) reached in go f.nodes f.ends f.tree
    where
      go : (v : List ℕ) (z : Ends) → TreeFits S a v (First n (Ended (Done d1 b1)) d b) z → length d1 ≡ part_length (t (DataOut l))
      go v z (FirstFits {l = l2} e2 f en le) =
          let same : l2 ≡ l = cc in
          out-shape v l d1 (subst (λ i. DataFit S v d1 (t (DataOut i))) same (done-data f))

  -- the left part of a trap has escaped
  pub trap-length : (n l r : ℕ) (d : Data) (b : Binds) → node_at a n ≡ Trapping l r → Reaches a input steps (plug fs (Trap n (Ended (Esc d)) b)) w → length d ≡ part_length (t (Escaped l))
  trap-length n l r d b e reached = let f = fits (Trap n (Ended (Esc d)) b) reached in go f.nodes f.ends f.tree
    where
      go : (v : List ℕ) (z : Ends) → TreeFits S a v (Trap n (Ended (Esc d)) b) z → length d ≡ part_length (t (Escaped l))
      go v z (TrapFits {l = l2} e2 f bf le) =
          let same : l2 ≡ l = cc in
          (data_in_shape {c = S} (subst (λ i. DataFit S v d (t (Escaped i))) same (escaped-data f)) (admissible.clear l).escaped).1

  -- ---- the words of the node, where the parts and the node have places

  module _ (trees : HasTrees a) (frames : List Frame) (laid : IsLayout a t frames) (apart : All HasApartNodes frames) (ns : List PlacedNode) (by_number : AreByNumber a frames ns) where
    abbrev outs : ℕ → List ℕ
    outs k = out_of (place_at ns) a k

    fits-own : (k : ℕ) → k < length a → length (place_at ns k).data_out ≡ part_length (t (DataOut k))
    fits-own k within = out-fits a trees t frames laid apart ns by_number k within

    fits-out : (k : ℕ) → k < length a → length (outs k) ≡ part_length (t (DataOut k))
    fits-out k within = out-length a trees t frames laid apart ns by_number k within

    module _ (n l r : ℕ) (left : OneOf l (parts_at (node_at a n))) (right : OneOf r (parts_at (node_at a n))) where
      node-within : n < length a
      node-within = omega (arith, trees.behind n l left, trees.within n l left)

      sum-of : (d1 d2 : Data) → HaveLengths t n l r d1 d2 (d1 ++ d2) → length (place_at ns l).data_out + length (place_at ns r).data_out ≡ length (outs n)
      sum-of d1 d2 h = omega (arith, fits-own l (trees.within n l left), fits-own r (trees.within n r right), fits-out n node-within, h.left, h.right, h.whole, length-append d1 d2)

    part-first : (n l r : ℕ) (q : Chain) → node_at a n ≡ Phases q l r → OneOf l (parts_at (node_at a n))
    part-first n l r q e = subst (λ m. OneOf l (parts_at m)) (sym e) Here

    part-second : (n l r : ℕ) (q : Chain) → node_at a n ≡ Phases q l r → OneOf r (parts_at (node_at a n))
    part-second n l r q e = subst (λ m. OneOf r (parts_at m)) (sym e) (Later Here)

    -- `and then`, `hence` and `before`: the node has the words of both parts
    pub second-joins : (n l r : ℕ) (q : Chain) (d1 : Data) (b1 : Binds) (d2 : Data) (b2 : Binds) → Passes a trees (place_at ns) q → node_at a n ≡ Phases q l r → Reaches a input steps (plug fs (Second n d1 b1 (Ended (Done d2 b2)))) w → outs n ≡ outs l ++ outs r
    second-joins n l r q d1 b1 d2 b2 passes e reached =
        phases-joined a trees (place_at ns) n l r q passes e
        (sum-of n l r (part-first n l r q e) (part-second n l r q e) d1 d2 (joined q passes (second-lengths n l r q d1 b1 d2 b2 e reached)))
      where
        joined : (q : Chain) → Passes a trees (place_at ns) q → HaveLengths t n l r d1 d2 (both_left q d1 d2) → HaveLengths t n l r d1 d2 (d1 ++ d2)
        joined Then p h = absurd p
        joined AndThen p h = h
        joined Hence p h = h
        joined Before p h = h

    -- `then`: those of the second
    pub second-hands : (n l r : ℕ) (d1 : Data) (b1 : Binds) (d2 : Data) (b2 : Binds) → node_at a n ≡ Phases Then l r → Reaches a input steps (plug fs (Second n d1 b1 (Ended (Done d2 b2)))) w → outs n ≡ outs r
    second-hands n l r d1 b1 d2 b2 e reached =
        let h = second-lengths n l r Then d1 b1 d2 b2 e reached in
        let right = part-second n l r Then e in
        then-ends a trees (place_at ns) n l r e
        (fits-own r (trees.within n r right) ∙ sym h.right ∙ h.whole ∙ sym (fits-out n (node-within n l r (part-first n l r Then e) right)))

    -- `and` and `moreover`: those of both
    pub both-joins : (n l r : ℕ) (j : Join) (d1 : Data) (b1 : Binds) (d2 : Data) (b2 : Binds) → node_at a n ≡ Both j l r → Reaches a input steps (plug fs (Par n (Ended (Done d1 b1)) (Ended (Done d2 b2)))) w → outs n ≡ outs l ++ outs r
    both-joins n l r j d1 b1 d2 b2 e reached =
        both-joined a trees (place_at ns) n l r j e
        (sum-of n l r (subst (λ m. OneOf l (parts_at m)) (sym e) Here) (subst (λ m. OneOf r (parts_at m)) (sym e) (Later Here)) d1 d2 (both-lengths n l r j d1 b1 d2 b2 e reached))
