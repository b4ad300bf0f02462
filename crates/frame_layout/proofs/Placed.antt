-- The nodes of a procedure, placed one behind the other: all are apart.
use Rattle.std.proofs.Common.{◌≡◌, ◌≢◌, ◌⊎◌, ℕ, ◌+◌, ◌<◌, ◌≤◌, Bool, true, false, List, [], ◌∷◌, refl, sym, ap, ◌∙◌, subst, arith, inl, inr, map}
use Rattle.std.specs.Prelude.{All, length, nat_eq, if◌then◌else◌}
use Rattle.std.specs.List.{AllPairs, range_with_len}
use Rattle.std.proofs.lemmas.Bool.{eq-eqb}
use Rattle.std.proofs.lemmas.List.FromFn.{length-range_with_len}
use Rattle.action_terms.specs.Performances.{OneOf}
use Rattle.sort_rules.specs.Tables.{DataIn, BindsIn, MarkedTable}
use Rattle.sort_rules.specs.Shapes.{part_length}
use Rattle.sort_rules.proofs.Choices.{either, eq_of_test, member_cases}
use Rattle.frame_layout.specs.Places.{PlacedNode, blocks, words_of}
use Rattle.frame_layout.specs.Layouts.{AreApart, AreConsecutive, AreNodesApart, FitsRow, HasRootFirst, IsPlacedNode, end_words_of, entry_words_of, front_words}
use Rattle.frame_layout.specs.Placing.{end_words, entry_end, entry_words, out_end, out_words, placed_all, placed_at, placed_inner, placed_root, rest_end, rest_words}
use Rattle.frame_layout.proofs.Words.{IsFrom, all-above, all-members, placed-apart, placed-behind, placed-consecutive, placed-entry-behind, placed-fits, placed-word}

-- node k is placed in the procedure with root c, and the rest of it takes so many words
pub record IsPlacedAt (t : MarkedTable) (c out rest k words : ℕ) (n : PlacedNode) : Type 0 where
  pub node : n.node ≡ k
  pub fits : FitsRow t n
  pub consecutive : All AreConsecutive (blocks n)
  pub zone : (w : ℕ) → OneOf w (words_of n) → ((k ≡ c) × IsFrom front_words (entry_words t c) w) ⊎ (IsFrom out (out_words t k) w ⊎ IsFrom rest words w)
  pub apart : entry_end t front_words c ≤ out → out + out_words t k ≤ rest → AllPairs AreApart (blocks n)
  pub root : k ≡ c → HasRootFirst n
  pub outs : n.data_out ≡ range_with_len out (out_words t k)
  pub ends : All (λ w. rest ≤ w) (end_words_of n)
  pub entry : k ≢ c → All (λ w. rest ≤ w) (entry_words_of n)

module _ (t : MarkedTable) (c out rest k : ℕ) where
  root-placed : k ≡ c → IsPlacedAt t c out rest k (end_words t k) (placed_root t front_words out rest k)
  root-placed e =
      let g : ℕ = part_length (t (DataIn k)) in
      let same : entry_words t k ≡ entry_words t c = ap (entry_words t) e in
      record {
        node = refl;
        fits = placed-fits t front_words (front_words + g) out rest k;
        consecutive = placed-consecutive t front_words (front_words + g) out rest k;
        zone = λ w m. either
            (λ r. inl (e, (r.0, omega (arith, r.1))))
            (λ m. either (λ r. inl (e, (omega (arith, r.0), omega (arith, r.1)))) inr m)
            (placed-word t front_words (front_words + g) out rest k w m);
        apart = λ low high. placed-apart t front_words (front_words + g) out rest k (omega arith) (omega arith) (inr (omega arith, high));
        root = λ e. record {
          data_in = ap (range_with_len front_words) (sym (length-range_with_len front_words g));
          binds_in = ap (λ n. range_with_len (front_words + n) (part_length (t (BindsIn k)))) (sym (length-range_with_len front_words g))
              ∙ ap (range_with_len (front_words + length (range_with_len front_words g))) (sym (length-range_with_len (front_words + g) (part_length (t (BindsIn k)))));
        };
        outs = refl;
        ends = placed-behind t front_words (front_words + g) out rest k rest (omega arith);
        entry = λ other. absurd (other e);
      }

  inner-placed : k ≢ c → IsPlacedAt t c out rest k (entry_words t k + end_words t k) (placed_inner t out rest k)
  inner-placed other =
      let g : ℕ = part_length (t (DataIn k)) in
      let h : ℕ = part_length (t (BindsIn k)) in
      record {
        node = refl;
        fits = placed-fits t rest (rest + g) out (rest + g + h) k;
        consecutive = placed-consecutive t rest (rest + g) out (rest + g + h) k;
        zone = λ w m. either
            (λ r. inr (inr (r.0, omega (arith, r.1))))
            (λ m. either
            (λ r. inr (inr (omega (arith, r.0), omega (arith, r.1))))
            (λ m. either (λ r. inr (inl r)) (λ r. inr (inr (omega (arith, r.0), omega (arith, r.1)))) m) m)
            (placed-word t rest (rest + g) out (rest + g + h) k w m);
        apart = λ low high. placed-apart t rest (rest + g) out (rest + g + h) k (omega arith) (omega arith) (inl high);
        root = λ e. absurd (other e);
        outs = refl;
        ends = placed-behind t rest (rest + g) out (rest + g + h) k rest (omega arith);
        entry = λ other. placed-entry-behind t rest (rest + g) out (rest + g + h) k rest (omega arith) (omega arith);
      }

  pub at-placed : IsPlacedAt t c out rest k (rest_words t c k) (placed_at t front_words c out rest k)
  at-placed = go (nat_eq k c) (eq_of_test k c) (λ e same. absurd {0} (let found = eq-eqb k c same in cc))
    where
      go : (b : Bool) → (b ≡ true → k ≡ c) → (b ≡ false → k ≢ c)
          → IsPlacedAt t c out rest k (if b then end_words t k else entry_words t k + end_words t k) (if b then placed_root t front_words out rest k else placed_inner t out rest k)
      go true equal other = root-placed (equal refl)
      go false equal other = inner-placed (other refl)

-- where the next node's rest begins
pub placed-ends : (t : MarkedTable) (front c out rest k : ℕ) → (placed_at t front c out rest k).keep + 8 ≡ rest + rest_words t c k
placed-ends t front c out rest k = go (nat_eq k c)
  where
    go : (b : Bool) → (if b then placed_root t front out rest k else placed_inner t out rest k).keep + 8 ≡ rest + (if b then end_words t k else entry_words t k + end_words t k)
    go true = omega arith
    go false = omega arith

-- what a node of a frame keeps to
pub record IsInFrame (t : MarkedTable) (c out outs rest words : ℕ) (n : PlacedNode) : Type 0 where
  pub fits : FitsRow t n
  pub consecutive : All AreConsecutive (blocks n)
  pub zone : (w : ℕ) → OneOf w (words_of n) → ((n.node ≡ c) × IsFrom front_words (entry_words t c) w) ⊎ (((out ≤ w) × (w < outs)) ⊎ ((rest ≤ w) × (w < words)))
  pub apart : AllPairs AreApart (blocks n)
  pub root : n.node ≡ c → HasRootFirst n
  pub ends : All (λ w. rest ≤ w) (end_words_of n)
  pub entry : n.node ≢ c → All (λ w. rest ≤ w) (entry_words_of n)

out_end-above : (t : MarkedTable) (out : ℕ) (ks : List ℕ) → out ≤ out_end t out ks
out_end-above t out [] = omega arith
out_end-above t out (k ∷ ks) = omega (arith, out_end-above t (out + out_words t k) ks)

rest_end-above : (t : MarkedTable) (c rest : ℕ) (ks : List ℕ) → rest ≤ rest_end t c rest ks
rest_end-above t c rest [] = omega arith
rest_end-above t c rest (k ∷ ks) = omega (arith, rest_end-above t c (rest + rest_words t c k) ks)

-- the first node
first-in_frame : (t : MarkedTable) (c out rest k : ℕ) (ks : List ℕ) (n : PlacedNode) → entry_end t front_words c ≤ out → out_end t (out + out_words t k) ks ≤ rest → n ≡ placed_at t front_words c out rest k
    → IsInFrame t c out (out_end t (out + out_words t k) ks) rest (rest_end t c (rest + rest_words t c k) ks) n
first-in_frame t c out rest k ks n low high e =
    let p = subst (IsPlacedAt t c out rest k (rest_words t c k)) (sym e) (at-placed t c out rest k) in
    let a = out_end-above t (out + out_words t k) ks in
    let b = rest_end-above t c (rest + rest_words t c k) ks in
    record {
      fits = p.fits;
      consecutive = p.consecutive;
      zone = λ w m. either (λ r. inl (p.node ∙ r.0, r.1)) (λ r. either (λ r. inr (inl (r.0, omega (arith, r.1)))) (λ r. inr (inr (r.0, omega (arith, r.1)))) r) (p.zone w m);
      apart = p.apart low (omega arith);
      root = λ same. p.root (sym p.node ∙ same);
      ends = p.ends;
      entry = λ other. p.entry (λ same. other (p.node ∙ same));
    }

-- a later one
later-in_frame : (t : MarkedTable) (c out outs rest words k : ℕ) (n : PlacedNode) → IsInFrame t c (out + out_words t k) outs (rest + rest_words t c k) words n → IsInFrame t c out outs rest words n
later-in_frame t c out outs rest words k n p = record {
  fits = p.fits;
  consecutive = p.consecutive;
  zone = λ w m. either inl (λ r. either (λ r. inr (inl (omega (arith, r.0), r.1))) (λ r. inr (inr (omega (arith, r.0), r.1))) r) (p.zone w m);
  apart = p.apart;
  root = p.root;
  ends = all-above (rest + rest_words t c k) rest (end_words_of n) (omega arith) p.ends;
  entry = λ other. all-above (rest + rest_words t c k) rest (entry_words_of n) (omega arith) (p.entry other);
}

-- each node
pub all-in_frame : (t : MarkedTable) (c out rest : ℕ) (ks : List ℕ) (n : PlacedNode) → entry_end t front_words c ≤ out → out_end t out ks ≤ rest → OneOf n (placed_all t front_words c out rest ks)
    → IsInFrame t c out (out_end t out ks) rest (rest_end t c rest ks) n
all-in_frame t c out rest [] n low high m = elim m [ ]
all-in_frame t c out rest (k ∷ ks) n low high m = either
    (λ e. first-in_frame t c out rest k ks n low high e)
    (λ later. later-in_frame t c out _ rest _ k n (all-in_frame t c (out + out_words t k) (rest + rest_words t c k) ks n (omega arith) (omega arith) later))
    (member_cases m)

-- the first node is apart from a later one
first-apart : (t : MarkedTable) (c out rest k outs words : ℕ) (m n : PlacedNode) → entry_end t front_words c ≤ out → outs ≤ rest → m.node ≢ n.node → IsPlacedAt t c out rest k (rest_words t c k) m
    → out + out_words t k ≤ outs → IsInFrame t c (out + out_words t k) outs (rest + rest_words t c k) words n → AreNodesApart m n
first-apart t c out rest k outs words m n low high other p within q w x y = either
    (λ a. either (λ b. other (p.node ∙ a.0 ∙ sym b.0)) (λ b. either (λ b. omega (arith, a.1.1, b.0)) (λ b. omega (arith, a.1.1, b.0)) b) (q.zone w y))
    (λ a. either
    (λ a. either (λ b. omega (arith, a.0, b.1.1)) (λ b. either (λ b. omega (arith, a.1, b.0)) (λ b. omega (arith, a.1, b.0)) b) (q.zone w y))
    (λ a. either (λ b. omega (arith, a.0, b.1.1)) (λ b. either (λ b. omega (arith, a.0, b.1)) (λ b. omega (arith, a.1, b.0)) b) (q.zone w y)) a)
    (p.zone w x)

-- each two nodes
pub all-apart : (t : MarkedTable) (c out rest : ℕ) (ks : List ℕ) (m n : PlacedNode) → entry_end t front_words c ≤ out → out_end t out ks ≤ rest → OneOf m (placed_all t front_words c out rest ks) → OneOf n (placed_all t front_words c out rest ks)
    → m.node ≢ n.node → AreNodesApart m n
all-apart t c out rest [] m n low high x y other = elim x [ ]
all-apart t c out rest (k ∷ ks) m n low high x y other =
    let out2 = out + out_words t k in
    let rest2 = rest + rest_words t c k in
    let above = out_end-above t out2 ks in
    let here : (n : PlacedNode) → n ≡ placed_at t front_words c out rest k → IsPlacedAt t c out rest k (rest_words t c k) n = λ n e. subst (IsPlacedAt t c out rest k (rest_words t c k)) (sym e) (at-placed t c out rest k) in
    let there : (n : PlacedNode) → OneOf n (placed_all t front_words c out2 rest2 ks) → IsInFrame t c out2 (out_end t out2 ks) rest2 (rest_end t c rest2 ks) n = λ n z. all-in_frame t c out2 rest2 ks n (omega arith) (omega arith) z in
    either
    (λ d. either
    (λ e. absurd (other (ap (λ n. n.node) (d ∙ sym e))))
    (λ z. first-apart t c out rest k (out_end t out2 ks) (rest_end t c rest2 ks) m n low high other (here m d) above (there n z)) (member_cases y))
    (λ z. either
    (λ e w a b. first-apart t c out rest k (out_end t out2 ks) (rest_end t c rest2 ks) n m low high (λ same. other (sym same)) (here n e) above (there m z) w b a)
    (λ y. all-apart t c out2 rest2 ks m n (omega arith) (omega arith) z y other) (member_cases y))
    (member_cases x)

-- a node of a frame is placed in it
pub in_frame-placed : (t : MarkedTable) (c out rest : ℕ) (ks : List ℕ) (n : PlacedNode) → entry_end t front_words c ≤ out → out_end t out ks ≤ rest → OneOf n (placed_all t front_words c out rest ks) → IsPlacedNode t (rest_end t c rest ks) n
in_frame-placed t c out rest ks n low high m =
    let p = all-in_frame t c out rest ks n low high m in
    let a = out_end-above t out ks in
    let b = rest_end-above t c rest ks in
    record {
      lengths = p.fits;
      within = all-members (λ x. x < rest_end t c rest ks) (words_of n) (λ w x. either (λ r. omega (arith, r.1.1)) (λ r. either (λ r. omega (arith, r.1)) (λ r. r.1) r) (p.zone w x));
      consecutive = p.consecutive;
      behind = all-members (λ x. front_words ≤ x) (words_of n) (λ w x. either (λ r. r.1.0) (λ r. either (λ r. omega (arith, r.0)) (λ r. omega (arith, r.0)) r) (p.zone w x));
      apart = p.apart;
    }

pub in_frame-root : (t : MarkedTable) (c out rest : ℕ) (ks : List ℕ) (n : PlacedNode) → entry_end t front_words c ≤ out → out_end t out ks ≤ rest → OneOf n (placed_all t front_words c out rest ks) → n.node ≡ c → HasRootFirst n
in_frame-root t c out rest ks n low high m e = (all-in_frame t c out rest ks n low high m).root e

-- the nodes that are placed
pub placed-listed : (t : MarkedTable) (c out rest : ℕ) (ks : List ℕ) → map (λ (n : PlacedNode). n.node) (placed_all t front_words c out rest ks) ≡ ks
placed-listed t c out rest [] = refl
placed-listed t c out rest (k ∷ ks) =
    ap (λ (j : ℕ). j ∷ map (λ (n : PlacedNode). n.node) (placed_all t front_words c (out + out_words t k) (rest + rest_words t c k) ks)) (at-placed t c out rest k).node
    ∙ ap (λ (js : List ℕ). k ∷ js) (placed-listed t c (out + out_words t k) (rest + rest_words t c k) ks)
