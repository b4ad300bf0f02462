-- What a layout tells of the words of nodes, where their places stand by their numbers.
use Rattle.std.proofs.Common.{◌≡◌, ◌≢◌, ◌⊎◌, ℕ, zero, suc, ◌+◌, ◌<◌, ◌≤◌, Bool, true, false, List, [], ◌∷◌, length, map, refl, sym, ap, subst, ◌∙◌, arith, inl, inr, cond}
use Rattle.std.specs.Prelude.{All, Option, Some, None, filter, nat_eq, if◌then◌else◌}
use Rattle.std.specs.List.{range_with_len}
use Rattle.std.proofs.lemmas.Bool.{cases_lt, eq-eqb}
use Rattle.std.proofs.lemmas.Bool.Decides.{eqb_tells}
use Rattle.action_terms.specs.Actions.{Action}
use Rattle.action_terms.specs.Performances.{OneOf, Here, Later}
use Rattle.action_terms.proofs.AllLaws.{All-member}
use Rattle.sort_rules.specs.Procedures.{procedure_of, whole_of}
use Rattle.sort_rules.specs.Measures.{node_numbers, slots}
use Rattle.sort_rules.specs.Tables.{DataIn, DataOut, Escaped, MarkedTable}
use Rattle.sort_rules.specs.Shapes.{part_length}
use Rattle.sort_rules.proofs.Choices.{either, member_cases}
use Rattle.frame_layout.specs.Places.{Frame, PlacedNode, record_words, words_of}
use Rattle.frame_layout.specs.Layouts.{AreConsecutive, HasApartNodes, IsFrame, IsLayout, IsPlacedNode, front_words}
use Rattle.frame_layout.proofs.GraphParts.{HasTrees}
use Rattle.frame_layout.proofs.NodeLists.{filter-member, member-filter, member-range, node_numbers-range}
use Rattle.frame_layout.proofs.ProcedureRoots.{procedure-below, procedure-own, procedure-part, whole-part}
use Rattle.frame_layout.proofs.Words.{range-member}
use Rattle.rv_codegen.specs.Aliases.{AreByNumber, nowhere, place_at, words_at}
use Rattle.rv_codegen.proofs.AliasPlaces.{HasOwnWords}
use Rattle.rv_codegen.proofs.AliasWords.{own-word}

-- ---- of lists

record IsMapped {A B : Type 0} (f : A → B) (xs : List A) (y : B) : Type 0 where
  from : A
  member : OneOf from xs
  is : f from ≡ y

mapped-member : {A B : Type 0} (f : A → B) (xs : List A) (y : B) → OneOf y (map f xs) → IsMapped f xs y
mapped-member f [] y m = elim m [ ]
mapped-member f (x ∷ xs) y m = either (λ e. record { from = x; member = Here; is = sym e }) (λ later. let r = mapped-member f xs y later in record { from = r.from; member = Later r.member; is = r.is }) (member_cases m)

pub member-mapped : {A B : Type 0} (f : A → B) (xs : List A) (x : A) → OneOf x xs → OneOf (f x) (map f xs)
member-mapped f [] x m = elim m [ ]
member-mapped f (y ∷ xs) x m = either (λ e. subst (λ z. OneOf (f x) (z ∷ map f xs)) (ap f e) Here) (λ later. Later (member-mapped f xs x later)) (member_cases m)

-- each number is below all behind it
pub Rising : List ℕ → Type 0
Rising [] = Unit {0}
Rising (x ∷ xs) = ((y : ℕ) → OneOf y xs → x < y) × Rising xs

pub filter-rising : (test : ℕ → Bool) (a n : ℕ) → Rising (filter test (range_with_len a n))
unfolding Rising
filter-rising test a zero = tt
filter-rising test a (suc n) = go (test a) (filter-rising test (a + 1) n)
  where
    go : (b : Bool) → Rising (filter test (range_with_len (a + 1) n)) → Rising (cond b (a ∷ filter test (range_with_len (a + 1) n)) (filter test (range_with_len (a + 1) n)))
    go true rest = (λ y m. let r = range-member (a + 1) n y (filter-member test (range_with_len (a + 1) n) y m).0 in omega (arith, r.0), rest)
    go false rest = rest

-- of a list whose keys rise, two elements with one key are one
pub one-with_key : {A : Type 0} (key : A → ℕ) (xs : List A) (f g : A) → Rising (map key xs) → OneOf f xs → OneOf g xs → key f ≡ key g → f ≡ g
unfolding Rising
one-with_key key [] f g rising m k e = elim m [ ]
one-with_key {A} key (h ∷ xs) f g rising m k e =
    let later : (i : A) → OneOf i xs → key h < key i = λ i x. rising.0 (key i) (member-mapped key xs i x) in
    either
    (λ p. either (λ q. p ∙ sym q) (λ q. absurd (let less = later g q in omega (arith, less, e, ap key p))) (member_cases k))
    (λ p. either (λ q. absurd (let less = later f p in omega (arith, less, e, ap key q))) (λ q. one-with_key key xs f g rising.1 p q e) (member_cases k))
    (member_cases m)

-- frames with one root are one
pub one-frame : (fs : List Frame) (f g : Frame) → Rising (map (λ (h : Frame). h.root) fs) → OneOf f fs → OneOf g fs → f.root ≡ g.root → f ≡ g
one-frame fs f g rising m k e = one-with_key (λ (h : Frame). h.root) fs f g rising m k e

pub words-are : (fs : List Frame) (f : Frame) → Rising (map (λ (h : Frame). h.root) fs) → OneOf f fs → words_at fs f.root ≡ f.words
unfolding Rising
words-are [] f rising m = elim m [ ]
words-are (h ∷ fs) f rising m = either
    (λ e. go (nat_eq h.root f.root) (eq-eqb h.root f.root (ap (λ (h : Frame). h.root) (sym e))) (ap (λ (h : Frame). h.words) (sym e)))
    (λ later. behind (nat_eq h.root f.root) (eqb_tells h.root f.root) (rising.0 f.root (member-mapped (λ (h : Frame). h.root) fs f later)) (words-are fs f rising.1 later))
    (member_cases m)
  where
    go : (b : Bool) → b ≡ true → h.words ≡ f.words → (if b then h.words else words_at fs f.root) ≡ f.words
    go true e w = w
    go false e w = absurd {0} (cc)

    behind : (b : Bool) → ((b ≡ true) × (h.root ≡ f.root)) ⊎ ((b ≡ false) × (h.root ≢ f.root)) → h.root < f.root → words_at fs f.root ≡ f.words → (if b then h.words else words_at fs f.root) ≡ f.words
    behind true (inl e) less w = absurd (omega (arith, less, e.1))
    behind true (inr e) less w = absurd {0} (let no_test = e.0 in cc)
    behind false e less w = w

pub past-nowhere : (ns : List PlacedNode) (k : ℕ) → length ns ≤ k → place_at ns k ≡ nowhere
past-nowhere [] k past = refl
past-nowhere (n ∷ ns) zero past = absurd (omega arith)
past-nowhere (n ∷ ns) (suc k) past = past-nowhere ns k (omega arith)

-- ---- the frame of a node

module _ (a : Action) (trees : HasTrees a) where
  -- the root of a procedure is in it
  root-below : (b k : ℕ) → k < b → procedure_of a (procedure_of a k) ≡ procedure_of a k
  root-below zero k less = absurd (omega arith)
  root-below (suc b) k less = go (whole_of a k) refl (λ j before. root-below b j (omega arith))
    where
      go : (o : Option ℕ) → whole_of a k ≡ o → ((j : ℕ) → j < k → procedure_of a (procedure_of a j) ≡ procedure_of a j) → procedure_of a (procedure_of a k) ≡ procedure_of a k
      go None e earlier = ap (procedure_of a) (procedure-own a trees k e)
      go (Some j) e earlier =
          let same = procedure-part a trees k j e in
          ap (procedure_of a) same ∙ earlier j (trees.behind j k (whole-part a k j e)) ∙ sym same

  module _ (t : MarkedTable) (fs : List Frame) (laid : IsLayout a t fs) (apart : All HasApartNodes fs) (ns : List PlacedNode) (by_number : AreByNumber a fs ns) where
    rising : Rising (map (λ (h : Frame). h.root) fs)
    rising =
        subst Rising (sym (laid.listed ∙ ap (filter (λ k. nat_eq (procedure_of a k) k)) (node_numbers-range a))) (filter-rising (λ k. nat_eq (procedure_of a k) k) 0 (length a))

    number : (k : ℕ) → k < length a → OneOf k (node_numbers a)
    number k within = subst (OneOf k) (sym (node_numbers-range a)) (member-range 0 (length a) k (omega arith) (omega arith))

    -- node k is placed in a frame
    pub record HasFrame (k : ℕ) : Type 0 where
      pub frame : Frame
      pub listed : OneOf frame fs
      pub root : frame.root ≡ procedure_of a k
      pub member : OneOf (place_at ns k) frame.nodes
      pub node : (place_at ns k).node ≡ k

    pub has-frame : (k : ℕ) → k < length a → HasFrame k
    has-frame k within =
        let c = procedure_of a k in
        let c_within : c < length a = omega (arith, procedure-below a trees k) in
        let is_root = member-filter (λ k. nat_eq (procedure_of a k) k) (node_numbers a) c (number c c_within) (eq-eqb (procedure_of a c) c (root-below (suc k) k (omega arith))) in
        let f = mapped-member (λ (h : Frame). h.root) fs c (subst (OneOf c) (sym laid.listed) is_root) in
        let frame : IsFrame a t f.from = All-member (IsFrame a t) f.from fs f.member laid.frames in
        let in_procedure = member-filter (λ k. nat_eq (procedure_of a k) f.from.root) (node_numbers a) k (number k within) (eq-eqb (procedure_of a k) f.from.root (sym f.is)) in
        let n = mapped-member (λ (n : PlacedNode). n.node) f.from.nodes k (subst (OneOf k) (sym frame.listed) in_procedure) in
        let at : place_at ns k ≡ n.from = ap (place_at ns) (sym n.is) ∙ by_number.each f.from n.from f.member n.member in
        record {
          frame = f.from;
          listed = f.member;
          root = f.is;
          member = subst (λ m. OneOf m f.from.nodes) (sym at) n.member;
          node = ap (λ (m : PlacedNode). m.node) at ∙ n.is;
        }

    placed-node : (k : ℕ) (within : k < length a) (h : HasFrame k) → IsPlacedNode t h.frame.words (place_at ns k)
    placed-node k within h = All-member (IsPlacedNode t h.frame.words) (place_at ns k) h.frame.nodes h.member (All-member (IsFrame a t) h.frame fs h.listed laid.frames).placed

    pub layout-words : HasOwnWords a (place_at ns) (words_at fs)
    layout-words = record {
      apart = λ j k x lj lk same m n.
          let f = has-frame j lj in
          let g = has-frame k lk in
          let one : g.frame ≡ f.frame = one-frame fs g.frame f.frame rising g.listed f.listed (g.root ∙ sym same ∙ sym f.root) in
          let member : OneOf (place_at ns k) f.frame.nodes = subst (λ (h : Frame). OneOf (place_at ns k) h.nodes) one g.member in
          either (λ e. e.1)
          (λ e. absurd (All-member HasApartNodes f.frame fs f.listed apart (place_at ns j) (place_at ns k) f.member member (λ q. e.1 (sym f.node ∙ q ∙ g.node)) x m n)) (eqb_tells j k);
      blocks_apart = λ k within. (placed-node k within (has-frame k within)).apart;
      within = λ k x within m.
          let f = has-frame k within in
          let placed = placed-node k within f in
          let words : words_at fs (procedure_of a k) ≡ f.frame.words = ap (words_at fs) (sym f.root) ∙ words-are fs f.frame rising f.listed in
          (All-member (λ y. front_words ≤ y) x (words_of (place_at ns k)) m placed.behind, omega (arith, All-member (λ y. y < f.frame.words) x (words_of (place_at ns k)) m placed.within, words));
      consecutive = λ k within. (placed-node k within (has-frame k within)).consecutive 2 [] (omega arith);
      none_in = λ k past. ap (λ (n : PlacedNode). n.data_in) (past-nowhere ns k (omega (arith, by_number.long)));
      none_out = λ k past. ap (λ (n : PlacedNode). n.data_out) (past-nowhere ns k (omega (arith, by_number.long)));
    }

    -- the words of a frame are within the slots of its procedure, and at least those at its front
    pub words-within : (k : ℕ) → k < length a → words_at fs (procedure_of a k) ≤ slots a t (procedure_of a k)
    words-within k within =
        let f = has-frame k within in
        let words : words_at fs (procedure_of a k) ≡ f.frame.words = ap (words_at fs) (sym f.root) ∙ words-are fs f.frame rising f.listed in
        omega (arith, words, (All-member (IsFrame a t) f.frame fs f.listed laid.frames).words, ap (slots a t) f.root)

    pub words-reached : (k : ℕ) → k < length a → words_at fs (procedure_of a k) ≤ 33554432
    words-reached k within =
        let f = has-frame k within in
        let words : words_at fs (procedure_of a k) ≡ f.frame.words = ap (words_at fs) (sym f.root) ∙ words-are fs f.frame rising f.listed in
        omega (arith, words, (All-member (IsFrame a t) f.frame fs f.listed laid.frames).reached)

    pub words-some : (k : ℕ) → k < length a → front_words ≤ words_at fs (procedure_of a k)
    words-some k within =
        let record_word : OneOf (place_at ns k).keep (record_words (place_at ns k).keep) = Here in
        let r = layout-words.within k (place_at ns k).keep within (own-word (place_at ns k) (place_at ns k).keep (inr (inr (inr record_word)))) in
        omega (arith, r.0, r.1)

    -- the record of a node stands in its frame
    pub keep-within : (k : ℕ) → k < length a → (place_at ns k).keep + 8 ≤ words_at fs (procedure_of a k)
    keep-within k within =
        let last = (place_at ns k).keep + 7 in
        let word : OneOf last (record_words (place_at ns k).keep) = member-range (place_at ns k).keep 8 last (omega arith) (omega arith) in
        let r = layout-words.within k last within (own-word (place_at ns k) last (inr (inr (inr word)))) in
        omega (arith, r.1)

    pub keep-reached : (k : ℕ) → (place_at ns k).keep < 33554432
    keep-reached k =
        either (λ within. let a_frame = keep-within k within in let reached = words-reached k within in omega (arith, a_frame, reached))
        (λ past. let none : (place_at ns k).keep ≡ 0 = ap (λ (n : PlacedNode). n.keep) (past-nowhere ns k (omega (arith, by_number.long, past))) in omega (arith, none))
        (cases_lt k (length a))

    -- a node leaves its data in as many words as its row asks for
    pub out-fits : (k : ℕ) → k < length a → length (place_at ns k).data_out ≡ part_length (t (DataOut k))
    out-fits k within =
        let f = has-frame k within in
        (placed-node k within f).lengths.data_out ∙ ap (λ j. part_length (t (DataOut j))) f.node

    pub in-fits : (k : ℕ) → k < length a → length (place_at ns k).data_in ≡ part_length (t (DataIn k))
    in-fits k within =
        let f = has-frame k within in
        (placed-node k within f).lengths.data_in ∙ ap (λ j. part_length (t (DataIn j))) f.node

    pub escaped-fits : (k : ℕ) → k < length a → length (place_at ns k).escaped ≡ part_length (t (Escaped k))
    escaped-fits k within =
        let f = has-frame k within in
        (placed-node k within f).lengths.escaped ∙ ap (λ j. part_length (t (Escaped j))) f.node

    -- the words of its data, and of what it escapes with, are consecutive
    pub in-row : (k : ℕ) → k < length a → AreConsecutive (place_at ns k).data_in
    in-row k within = (placed-node k within (has-frame k within)).consecutive 0 [] (omega arith)

    pub escaped-row : (k : ℕ) → k < length a → AreConsecutive (place_at ns k).escaped
    escaped-row k within = (placed-node k within (has-frame k within)).consecutive 4 [] (omega arith)
