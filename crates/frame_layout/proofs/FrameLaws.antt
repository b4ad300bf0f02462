-- The frame of a procedure, as it is placed, is one of a layout.
use Rattle.std.proofs.Common.{◌≡◌, ℕ, ◌+◌, ◌<◌, ◌≤◌, Bool, true, false, List, [], ◌∷◌, length, refl, sym, ap, subst, ◌∙◌, arith, cond}
use Rattle.std.specs.Prelude.{filter, nat_eq, if◌then◌else◌}
use Rattle.std.proofs.lemmas.Bool.{eq-eqb}
use Rattle.action_terms.specs.Actions.{Action}
use Rattle.action_terms.specs.Performances.{OneOf}
use Rattle.sort_rules.specs.Measures.{node_numbers, row_slots, rows_slots, slots}
use Rattle.sort_rules.specs.Procedures.{procedure_of}
use Rattle.sort_rules.specs.Tables.{MarkedTable}
use Rattle.sort_rules.proofs.Choices.{either, member_cases}
use Rattle.frame_layout.specs.Layouts.{AreNeededTogether, Beneath, Before, Deeper, HasApartNodes, HasOrder, IsFrame, IsIn, IsPlacedNode, Itself, front_words, nodes_in}
use Rattle.frame_layout.specs.Placing.{end_words, entry_end, entry_words, out_end, out_words, placed_frame, rest_end, rest_words}
use Rattle.frame_layout.proofs.GraphParts.{HasTrees}
use Rattle.frame_layout.proofs.NodeLists.{member-filter, member-range, node_numbers-range}
use Rattle.frame_layout.proofs.Ordered.{frame-ordered}
use Rattle.frame_layout.proofs.Placed.{all-apart, in_frame-placed, in_frame-root, placed-listed}
use Rattle.frame_layout.proofs.Placing.{out_end-from, rest_words-most}
use Rattle.frame_layout.proofs.Words.{all-members}

-- ---- nodes that are needed at one time

module _ (a : Action) (trees : HasTrees a) where
  pub in-behind : (j k : ℕ) → IsIn a j k → j ≤ k
  in-behind j _ Itself = omega arith
  in-behind j k (Deeper {i} part deeper) = omega (arith, trees.behind j i part, in-behind i k deeper)

  needed-behind : (j k : ℕ) → AreNeededTogether a j k → j < k
  needed-behind j k (Beneath {i} part deeper) = omega (arith, trees.behind j i part, in-behind i k deeper)
  needed-behind j k (Before n {first} {second} turn deeper) = omega (arith, trees.in_turn n first second turn, in-behind second k deeper)

-- ---- words and slots

-- the slots of nodes
row_sum : MarkedTable → List ℕ → ℕ
row_sum t [] = 0
row_sum t (k ∷ ks) = row_slots t k + row_sum t ks

rest_end-from : (t : MarkedTable) (c x y : ℕ) (ks : List ℕ) → rest_end t c (x + y) ks ≡ x + rest_end t c y ks
rest_end-from t c x y [] = refl
rest_end-from t c x y (k ∷ ks) =
    let more : x + y + rest_words t c k ≡ x + (y + rest_words t c k) = omega arith in
    ap (λ (n : ℕ). rest_end t c n ks) more ∙ rest_end-from t c x (y + rest_words t c k) ks

-- the words of a node's outs and rest, before those of the others
ends-first : (t : MarkedTable) (c k : ℕ) (ks : List ℕ) → out_end t 0 (k ∷ ks) + rest_end t c 0 (k ∷ ks) ≡ out_words t k + rest_words t c k + (out_end t 0 ks + rest_end t c 0 ks)
ends-first t c k ks =
    let outs : 0 + out_words t k ≡ out_words t k + 0 = omega arith in
    let rests : 0 + rest_words t c k ≡ rest_words t c k + 0 = omega arith in
    omega (arith, ap (λ (n : ℕ). out_end t n ks) outs, out_end-from t (out_words t k) 0 ks, ap (λ (n : ℕ). rest_end t c n ks) rests, rest_end-from t c (rest_words t c k) 0 ks)

sum-most : (t : MarkedTable) (c : ℕ) (ks : List ℕ) → out_end t 0 ks + rest_end t c 0 ks ≤ row_sum t ks
unfolding row_sum
sum-most t c [] = omega arith
sum-most t c (k ∷ ks) = omega (arith, ends-first t c k ks, rest_words-most t c k, sum-most t c ks)

rest_words-root : (t : MarkedTable) (c k : ℕ) → c ≡ k → rest_words t c k ≡ end_words t k
rest_words-root t c k e = go (nat_eq k c) (eq-eqb k c (sym e))
  where
    go : (b : Bool) → b ≡ true → (if b then end_words t k else entry_words t k + end_words t k) ≡ end_words t k
    go true h = refl
    go false h = absurd {0} (cc)

sum-root : (t : MarkedTable) (c : ℕ) (ks : List ℕ) → OneOf c ks → entry_words t c + (out_end t 0 ks + rest_end t c 0 ks) ≤ row_sum t ks
unfolding row_sum
sum-root t c [] m = elim m [ ]
sum-root t c (k ∷ ks) m = either
    (λ e. omega (arith, ends-first t c k ks, rest_words-root t c k e, ap (entry_words t) e, sum-most t c ks))
    (λ later. omega (arith, ends-first t c k ks, rest_words-most t c k, sum-root t c ks later))
    (member_cases m)

row_sum-filter : (a : Action) (t : MarkedTable) (c : ℕ) (ks : List ℕ) → row_sum t (filter (λ k. nat_eq (procedure_of a k) c) ks) ≡ rows_slots a t c ks
unfolding row_sum
row_sum-filter a t c [] = refl
row_sum-filter a t c (k ∷ ks) = go (nat_eq (procedure_of a k) c) (row_sum-filter a t c ks)
  where
    go : (b : Bool) → row_sum t (filter (λ k. nat_eq (procedure_of a k) c) ks) ≡ rows_slots a t c ks
        → row_sum t (cond b (k ∷ filter (λ k. nat_eq (procedure_of a k) c) ks) (filter (λ k. nat_eq (procedure_of a k) c) ks)) ≡ (if b then row_slots t k else 0) + rows_slots a t c ks
    go true h = ap (λ (n : ℕ). row_slots t k + n) h
    go false h = omega (arith, h)

-- ---- the frame

module _ (a : Action) (trees : HasTrees a) (t : MarkedTable) (c : ℕ) (within : c < length a) (root : procedure_of a c ≡ c) where
  root-listed : OneOf c (nodes_in a c)
  root-listed =
      let numbers = subst (OneOf c) (sym (node_numbers-range a)) (member-range 0 (length a) c (omega arith) (omega arith)) in
      member-filter (λ k. nat_eq (procedure_of a k) c) (node_numbers a) c numbers (eq-eqb (procedure_of a c) c root)

  slots-are : slots a t c ≡ 32 + rows_slots a t c (node_numbers a)
  slots-are = go (nat_eq (procedure_of a c) c) (eq-eqb (procedure_of a c) c root)
    where
      go : (b : Bool) → b ≡ true → (if b then 32 + rows_slots a t c (node_numbers a) else 0) ≡ 32 + rows_slots a t c (node_numbers a)
      go true h = refl
      go false h = absurd {0} (cc)

  words-within : (placed_frame t front_words c (nodes_in a c)).words ≤ slots a t c
  words-within =
      let ks = nodes_in a c in
      let start : ℕ = entry_end t front_words c in
      let start_more : start ≡ start + 0 = omega arith in
      let outs : ℕ = out_end t start ks in
      let outs_more : outs ≡ outs + 0 = omega arith in
      omega (
        arith,
        ap (λ (n : ℕ). out_end t n ks) start_more,
        out_end-from t start 0 ks,
        ap (λ (n : ℕ). rest_end t c n ks) outs_more,
        rest_end-from t c outs 0 ks,
        sum-root t c ks root-listed,
        row_sum-filter a t c (node_numbers a),
        slots-are,
      )

  pub frame-apart : HasApartNodes (placed_frame t front_words c (nodes_in a c))
  frame-apart m n x y other = all-apart t c (entry_end t front_words c) (out_end t (entry_end t front_words c) (nodes_in a c)) (nodes_in a c) m n (omega arith) (omega arith) x y other

  pub frame-order : HasOrder (placed_frame t front_words c (nodes_in a c))
  frame-order n m e = frame-ordered t c (nodes_in a c) n m e

  pub frame-is : (placed_frame t front_words c (nodes_in a c)).words ≤ 33554432 → IsFrame a t (placed_frame t front_words c (nodes_in a c))
  frame-is reached =
      let ks = nodes_in a c in
      let start : ℕ = entry_end t front_words c in
      let rest : ℕ = out_end t start ks in
      record {
        listed = placed-listed t c start rest ks;
        words = words-within;
        reached = reached;
        placed = all-members (IsPlacedNode t (rest_end t c rest ks)) (placed_frame t front_words c ks).nodes (λ n m. in_frame-placed t c start rest ks n (omega arith) (omega arith) m);
        needed = λ m n x y together. frame-apart m n x y (λ e. let less = needed-behind a trees m.node n.node together in omega arith);
        root = λ n m e. in_frame-root t c start rest ks n (omega arith) (omega arith) m e;
      }
