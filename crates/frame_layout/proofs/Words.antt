-- Consecutive words, and the words of one placed node.
use Rattle.std.proofs.Common.{◌≡◌, ◌⊎◌, ℕ, zero, suc, ◌+◌, ◌<◌, ◌≤◌, List, [], ◌∷◌, ◌++◌, sym, ap, ◌∙◌, arith, inl, inr, add-zero}
use Rattle.std.specs.Prelude.{All}
use Rattle.std.specs.List.{AllByRecursion, AllPairs, range_with_len}
use Rattle.std.proofs.lemmas.List.Elements.{All-append, All-nil, All-cons, All-from_recursion}
use Rattle.std.proofs.lemmas.List.FromFn.{length-range_with_len}
use Rattle.std.proofs.lemmas.List.Kept.{AllPairs-cons}
use Rattle.action_terms.specs.Performances.{OneOf, Here, Later}
use Rattle.sort_rules.specs.Tables.{DataIn, BindsIn, DataOut, BindsOut, Escaped, MarkedTable}
use Rattle.sort_rules.specs.Shapes.{part_length}
use Rattle.sort_rules.proofs.Choices.{either, member_cases}
use Rattle.sort_rules.proofs.SoundSteps.{append_cases}
use Rattle.frame_layout.specs.Places.{blocks, record_words, words_of}
use Rattle.frame_layout.specs.Layouts.{AreApart, AreConsecutive, FitsRow, end_words_of, entry_words_of}
use Rattle.frame_layout.specs.Placing.{end_words, out_words, placed_from}

-- what holds of each member
pub all-members : {A : Type 0} (P : A → Type 0) (xs : List A) → ((x : A) → OneOf x xs → P x) → All P xs
all-members P [] h = All-nil P
all-members P (x ∷ xs) h = All-cons P x xs (h x Here) (all-members P xs (λ y m. h y (Later m)))

-- ---- consecutive words

-- the word is one of n from a on
abbrev pub IsFrom : (a n w : ℕ) → Type 0
IsFrom a n w = (a ≤ w) × (w < a + n)

pub range-member : (a n w : ℕ) → OneOf w (range_with_len a n) → IsFrom a n w
range-member a zero w m = elim m [ ]
range-member a (suc n) w m = either
    (λ e. (omega (arith, e), omega (arith, e)))
    (λ later. let r = range-member (a + 1) n w later in (omega (arith, r.0), omega (arith, r.1)))
    (member_cases m)

pub range-consecutive : (a n : ℕ) → AreConsecutive (range_with_len a n)
range-consecutive a n = (a, ap (range_with_len a) (sym (length-range_with_len a n)))

-- words from a on, and others behind them
pub range-append : (a n m : ℕ) → range_with_len a n ++ range_with_len (a + n) m ≡ range_with_len a (n + m)
range-append a zero m =
    let none : m ≡ 0 + m = omega arith in
    ap (λ (b : ℕ). range_with_len b m) (add-zero a) ∙ ap (range_with_len a) none
range-append a (suc n) m =
    let place : a + suc n ≡ a + 1 + n = omega arith in
    let count : suc (n + m) ≡ suc n + m = omega arith in
    ap (λ (b : ℕ). a ∷ (range_with_len (a + 1) n ++ range_with_len b m)) place
    ∙ ap (λ (xs : List ℕ). a ∷ xs) (range-append (a + 1) n m) ∙ ap (range_with_len a) count

-- the words are not below one
pub range-above : (a n x : ℕ) → x ≤ a → All (λ w. x ≤ w) (range_with_len a n)
range-above a n x h = all-members (λ w. x ≤ w) (range_with_len a n) (λ w m. omega (arith, (range-member a n w m).0))

-- nor below one that is lower
pub all-above : (x y : ℕ) (ws : List ℕ) → y ≤ x → All (λ w. x ≤ w) ws → All (λ w. y ≤ w) ws
all-above x y ws h all = λ i d less. omega (arith, all i d less)

-- words before others
pub before-apart : (a n b m : ℕ) → a + n ≤ b → AreApart (range_with_len a n) (range_with_len b m)
before-apart a n b m h w x y =
    let p = range-member a n w x in
    let q = range-member b m w y in
    omega (arith, p.1, q.0)

-- words behind others
pub behind-apart : (a n b m : ℕ) → b + m ≤ a → AreApart (range_with_len a n) (range_with_len b m)
behind-apart a n b m h w x y =
    let p = range-member a n w x in
    let q = range-member b m w y in
    omega (arith, p.0, q.1)

-- ---- a placed node

-- a relation of each element to all behind it, by recursion on the list
abbrev PairsByRecursion : {A : Type 0} → (A → A → Type 0) → List A → Type 0
PairsByRecursion R [] = Unit {0}
PairsByRecursion R (x ∷ xs) = AllByRecursion (R x) xs × PairsByRecursion R xs

pairs-from_recursion : {A : Type 0} (R : A → A → Type 0) (xs : List A) → PairsByRecursion R xs → AllPairs R xs
pairs-from_recursion R [] h = λ i j d less within. absurd (omega arith)
pairs-from_recursion R (x ∷ xs) h = AllPairs-cons R x xs (All-from_recursion (R x) xs h.0) (pairs-from_recursion R xs h.1)

module _ (t : MarkedTable) (g h o x k : ℕ) where
  pub placed-fits : FitsRow t (placed_from t g h o x k)
  placed-fits = record {
    data_in = length-range_with_len g (part_length (t (DataIn k)));
    binds_in = length-range_with_len h (part_length (t (BindsIn k)));
    data_out = length-range_with_len o (part_length (t (DataOut k)));
    binds_out = length-range_with_len x (part_length (t (BindsOut k)));
    escaped = length-range_with_len (x + part_length (t (BindsOut k))) (part_length (t (Escaped k)));
  }

  pub placed-consecutive : All AreConsecutive (blocks (placed_from t g h o x k))
  placed-consecutive = All-from_recursion AreConsecutive (blocks (placed_from t g h o x k)) (
    range-consecutive g (part_length (t (DataIn k))),
    (
      range-consecutive h (part_length (t (BindsIn k))),
      (
        range-consecutive o (part_length (t (DataOut k))),
        (
          range-consecutive x (part_length (t (BindsOut k))),
          (
            range-consecutive (x + part_length (t (BindsOut k))) (part_length (t (Escaped k))),
            (
              range-consecutive (x + part_length (t (BindsOut k)) + part_length (t (Escaped k))) 8,
              tt,
            ),
          ),
        ),
      ),
    ),
  )

  -- a word of the node is one of its data, of its bindings, of what it completes with, or of the others
  pub placed-word : (w : ℕ) → OneOf w (words_of (placed_from t g h o x k))
      → IsFrom g (part_length (t (DataIn k))) w ⊎ (IsFrom h (part_length (t (BindsIn k))) w ⊎ (IsFrom o (out_words t k) w ⊎ IsFrom x (end_words t k) w))
  placed-word w m =
      let p = part_length (t (BindsOut k)) in
      let e = part_length (t (Escaped k)) in
      either (λ (a : OneOf w (range_with_len g (part_length (t (DataIn k))))). inl (range-member g _ w a))
      (λ m. either (λ (a : OneOf w (range_with_len h (part_length (t (BindsIn k))))). inr (inl (range-member h _ w a)))
      (λ m. either (λ (a : OneOf w (range_with_len o (out_words t k))). inr (inr (inl (range-member o _ w a))))
      (λ m. either (λ (a : OneOf w (range_with_len x p)). inr (inr (inr (let r = range-member x p w a in (r.0, omega (arith, r.1))))))
      (λ m. either (λ (a : OneOf w (range_with_len (x + p) e)). inr (inr (inr (let r = range-member (x + p) e w a in (omega (arith, r.0), omega (arith, r.1))))))
      (λ m. either (λ (a : OneOf w (record_words (x + p + e))). inr (inr (inr (let r = range-member (x + p + e) 8 w a in (omega (arith, r.0), omega (arith, r.1))))))
      (λ (m : OneOf w []). elim m [ ])
      (append_cases (record_words (x + p + e)) [] m))
      (append_cases (range_with_len (x + p) e) _ m))
      (append_cases (range_with_len x p) _ m))
      (append_cases (range_with_len o (out_words t k)) _ m))
      (append_cases (range_with_len h (part_length (t (BindsIn k)))) _ m))
      (append_cases (range_with_len g (part_length (t (DataIn k)))) _ m)

  -- the parts and the record are apart, where what it completes with is before or behind the others
  pub placed-apart : (g + part_length (t (DataIn k)) ≤ h) → (h + part_length (t (BindsIn k)) ≤ x) → (o + out_words t k ≤ g) ⊎ ((h + part_length (t (BindsIn k)) ≤ o) × (o + out_words t k ≤ x)) → AllPairs AreApart (blocks (placed_from t g h o x k))
  placed-apart gh hx os =
      let gs = part_length (t (DataIn k)) in
      let hs = part_length (t (BindsIn k)) in
      let ps = part_length (t (BindsOut k)) in
      let es = part_length (t (Escaped k)) in
      let os_g : AreApart (range_with_len g gs) (range_with_len o (out_words t k)) = either (λ b. behind-apart g gs o _ b) (λ b. before-apart g gs o _ (omega (arith, b.0))) os in
      let os_h : AreApart (range_with_len h hs) (range_with_len o (out_words t k)) = either (λ b. behind-apart h hs o _ (omega (arith, b))) (λ b. before-apart h hs o _ b.0) os in
      let o_x : o + out_words t k ≤ x = either (λ b. omega (arith, b)) (λ b. b.1) os in
      pairs-from_recursion AreApart (blocks (placed_from t g h o x k)) (
        (before-apart g gs h hs gh, (os_g, (before-apart g gs x ps (omega arith), (before-apart g gs (x + ps) es (omega arith), (before-apart g gs (x + ps + es) 8 (omega arith), tt))))),
        (
          (os_h, (before-apart h hs x ps hx, (before-apart h hs (x + ps) es (omega arith), (before-apart h hs (x + ps + es) 8 (omega arith), tt)))),
          (
            (before-apart o _ x ps o_x, (before-apart o _ (x + ps) es (omega arith), (before-apart o _ (x + ps + es) 8 (omega arith), tt))),
            (
              (before-apart x ps (x + ps) es (omega arith), (before-apart x ps (x + ps + es) 8 (omega arith), tt)),
              (
                (before-apart (x + ps) es (x + ps + es) 8 (omega arith), tt),
                (tt, tt),
              ),
            ),
          ),
        ),
      )

  -- what it gets is not below a word
  pub placed-entry-behind : (w : ℕ) → w ≤ g → w ≤ h → All (λ v. w ≤ v) (entry_words_of (placed_from t g h o x k))
  placed-entry-behind w low high = All-append (λ v. w ≤ v) (range_with_len g (part_length (t (DataIn k)))) (range_with_len h (part_length (t (BindsIn k)))) (range-above g _ w low) (range-above h _ w high)

  -- nor are the bindings and the data that it ends with, and its record
  pub placed-behind : (w : ℕ) → w ≤ x → All (λ v. w ≤ v) (end_words_of (placed_from t g h o x k))
  placed-behind w low =
      let ps = part_length (t (BindsOut k)) in
      let es = part_length (t (Escaped k)) in
      All-append (λ v. w ≤ v) (range_with_len x ps) (range_with_len (x + ps) es ++ record_words (x + ps + es)) (range-above x ps w low)
      (All-append (λ v. w ≤ v) (range_with_len (x + ps) es) (record_words (x + ps + es)) (range-above (x + ps) es w (omega arith)) (range-above (x + ps + es) 8 w (omega arith)))
