-- Walks from the last node to the first: the node that each is a part of, and by it the root of its procedure.
use Rattle.std.proofs.Common.{Bool, List, [], Option, Some, None, ap, arith, drop, false, if◌then◌else◌, length, length-set, get_or, get_or-set_same, nat_eq, refl, set, subst, suc, sym, true, zero, ℕ, ◌+◌, ◌<◌, ◌||◌, ◌∙◌, ◌∷◌, ◌≡◌, ◌≢◌, ◌≤◌}
use Rattle.std.proofs.lemmas.Bool.Decides.{nat_tests}
use Rattle.std.proofs.lemmas.List.{drop_all, get_or-set_other}
use Rattle.action_terms.specs.Actions.{Action, node_at}
use Rattle.action_terms.specs.Forms.{NamesNodes, node_viewed}
use Rattle.action_terms.specs.Numbering.{ListedYielder}
use Rattle.action_terms.specs.declared.view.NodeView.{NodeView}
use Rattle.action_terms.specs.declared.view.NodeView.TheVariants as node
use Rattle.sort_rules.specs.Filling.{AreWholes, with_whole}
use Rattle.sort_rules.specs.Numbers.{is_listed}
use Rattle.sort_rules.specs.Procedures.{holder_from, or_else, parts_at, procedure_of, topmost, whole_of}
use Rattle.sort_rules.proofs.Choices.{eq_of_test, of_choice}
use Rattle.sort_rules.proofs.NodeWalks.{drop-node}

-- ---- a node is written down for its parts

length-with_whole : (k : ℕ) (ps ws : List ℕ) → length (with_whole k ps ws) ≡ length ws
length-with_whole k [] ws = refl
length-with_whole k (p ∷ ps) ws = length-with_whole k ps (set ws p k) ∙ length-set ws p k

pub other_of_test : (x y : ℕ) → nat_eq x y ≡ false → x ≢ y
other_of_test x y h = λ e. grind (arith, nat_tests)

one-whole : (ws : List ℕ) (p j k : ℕ) → j < length ws → get_or (set ws p k) j 0 ≡ (if nat_eq j p then k else get_or ws j 0)
one-whole ws p j k less =
    of_choice (nat_eq j p) k (get_or ws j 0) (λ (x : ℕ). get_or (set ws p k) j 0 ≡ x)
    (λ e. let same : j ≡ p = eq_of_test j p e in subst (λ (i : ℕ). get_or (set ws i k) j 0 ≡ k) same (get_or-set_same ws j k 0 less))
    (λ e. get_or-set_other ws p j k 0 (other_of_test j p e))

two-choices : (a b : Bool) (x y : ℕ) → (if a then x else (if b then x else y)) ≡ (if b || a then x else y)
two-choices true true x y = refl
two-choices true false x y = refl
two-choices false true x y = refl
two-choices false false x y = refl

with_whole-at : (k : ℕ) (ps ws : List ℕ) (j : ℕ) → j < length ws → get_or (with_whole k ps ws) j 0 ≡ (if is_listed j ps then k else get_or ws j 0)
with_whole-at k [] ws j less = refl
with_whole-at k (p ∷ ps) ws j less =
    let long : length (set ws p k) ≡ length ws = length-set ws p k in
    with_whole-at k ps (set ws p k) j (omega (arith, long, less))
    ∙ ap (λ (n : ℕ). if is_listed j ps then k else n) (one-whole ws p j k less)
    ∙ two-choices (is_listed j ps) (nat_eq j p) k (get_or ws j 0)

-- a node itself, or the one that it is a part of
abbrev or_own : ℕ → Option ℕ → ℕ
or_own j o = or_else (λ i. i) j o

own-choice : (b : Bool) (j k : ℕ) (o : Option ℕ) → (if b then k else or_own j o) ≡ or_own j (if b then Some k else o)
own-choice true j k o = refl
own-choice false j k o = refl

-- no node is written down yet
pub wholes-none : (a : Action) (ws : List ℕ) → length ws ≡ length a → ((j : ℕ) → j < length a → get_or ws j 0 ≡ j) → AreWholes a (length a) ws
wholes-none a ws long own =
    let past : drop (length a) a ≡ [] = drop_all (length a) a (omega arith) in
    let none = λ (j : ℕ). ap (λ (b : Action). holder_from parts_at (length a) b j) past in
    record {
      long = long;
      each = λ j less. own j less ∙ sym (ap (or_own j) (none j));
      before = λ j i e. absurd (let wrong : None ≡ Some i = sym (none j) ∙ e in cc);
    }

-- the parts of a node stand behind it
two-behind : (k l r j : ℕ) → k < l → l < r → is_listed j (l ∷ r ∷ []) ≡ true → k < j
two-behind k l r j h h2 e = first_of (grind (arith, nat_tests))

pub parts-behind : (ls : List ListedYielder) (k count : ℕ) (v : NodeView) → NamesNodes k count v → (j : ℕ) → is_listed j (parts_at (node_viewed ls v)) ≡ true → k < j
parts-behind ls k count (node.Furthermore l) names j e = two-behind k l (suc l) j names.0 (omega arith) (grind (arith, nat_tests))
parts-behind ls k count (node.Both q l r) names j e = two-behind k l r j names.0 names.1 e
parts-behind ls k count (node.Phases q l r) names j e = two-behind k l r j names.0 names.1 e
parts-behind ls k count (node.Either l r) names j e = two-behind k l r j names.0 names.1 e
parts-behind ls k count (node.Trapping l r) names j e = two-behind k l r j names.0 names.1 e
parts-behind ls k count (node.Branch y l r) names j e = two-behind k l r j names.0 names.1 e
parts-behind ls k count (node.Simple p) names j e = absurd (cc)
parts-behind ls k count (node.Enact y) names j e = absurd (cc)
parts-behind ls k count (node.Apply y is) names j e = absurd (cc)
parts-behind ls k count (node.Unfolding c) names j e = absurd (cc)
parts-behind ls k count (node.Unfold c) names j e = absurd (cc)

-- one node more
pub wholes-more : (a : Action) (k : ℕ) (ws after : List ℕ) → k < length a → ((j : ℕ) → is_listed j (parts_at (node_at a k)) ≡ true → k < j)
    → AreWholes a (suc k) ws → after ≡ with_whole k (parts_at (node_at a k)) ws → AreWholes a k after
wholes-more a k ws after less behind are e =
    let ps = parts_at (node_at a k) in
    let front = λ (j : ℕ). ap (λ (b : Action). holder_from parts_at k b j) (drop-node a k less) in
    record {
      long = ap length e ∙ length-with_whole k ps ws ∙ are.long;
      each = λ j within.
          ap (λ (zs : List ℕ). get_or zs j 0) e
          ∙ with_whole-at k ps ws j (omega (arith, within, are.long))
          ∙ ap (λ (n : ℕ). if is_listed j ps then k else n) (are.each j within)
          ∙ own-choice (is_listed j ps) j k (holder_from parts_at (suc k) (drop (suc k) a) j)
          ∙ sym (ap (or_own j) (front j));
      before = λ j i f.
          of_choice (is_listed j ps) (Some k) (holder_from parts_at (suc k) (drop (suc k) a) j) (λ (o : Option ℕ). o ≡ Some i → i < j)
          (λ h q. let same : k ≡ i = cc in subst (λ (n : ℕ). n < j) same (behind j h))
          (λ h q. are.before j i q)
          (sym (front j) ∙ f);
    }

-- ---- the root of a procedure

-- what a node is a part of has a smaller number
abbrev IsBefore : Action → Type 0
IsBefore a = (j i : ℕ) → whole_of a j ≡ Some i → i < j

same-else : (f g : ℕ → ℕ) (j : ℕ) (o : Option ℕ) → ((i : ℕ) → o ≡ Some i → f i ≡ g i) → or_else f j o ≡ or_else g j o
same-else f g j None h = refl
same-else f g j (Some i) h = h i refl

-- so many steps upward are enough
topmost-zero : (a : Action) → IsBefore a → (m : ℕ) → topmost m a 0 ≡ 0
topmost-zero a before zero = refl
topmost-zero a before (suc m) = go (whole_of a 0) refl
  where
    go : (o : Option ℕ) → whole_of a 0 ≡ o → or_else (topmost m a) 0 o ≡ 0
    go None e = refl
    go (Some i) e = absurd (let less = before 0 i e in omega arith)

topmost-same : (a : Action) → IsBefore a → (m n j : ℕ) → j ≤ m → j ≤ n → topmost m a j ≡ topmost n a j
topmost-same a before zero n j h h2 =
    let e : j ≡ 0 = omega arith in
    subst (λ (i : ℕ). topmost 0 a i ≡ topmost n a i) (sym e) (sym (topmost-zero a before n))
topmost-same a before (suc m) zero j h h2 =
    let e : j ≡ 0 = omega arith in
    subst (λ (i : ℕ). topmost (suc m) a i ≡ topmost 0 a i) (sym e) (topmost-zero a before (suc m))
topmost-same a before (suc m) (suc n) j h h2 =
    same-else (topmost m a) (topmost n a) j (whole_of a j) (λ i e. let less = before j i e in topmost-same a before m n i (omega arith) (omega arith))

-- the procedure of a part is that of its whole
procedure-whole : (a : Action) → IsBefore a → (k i : ℕ) → whole_of a k ≡ Some i → procedure_of a k ≡ procedure_of a i
procedure-whole a before zero i e = absurd (let less = before 0 i e in omega arith)
procedure-whole a before (suc k) i e =
    let less = before (suc k) i e in
    ap (or_else (topmost k a) (suc k)) e ∙ topmost-same a before k i i (omega arith) (omega arith)

-- a node that is no part is a root
procedure-root : (a : Action) (k : ℕ) → whole_of a k ≡ None → procedure_of a k ≡ k
procedure-root a zero e = refl
procedure-root a (suc k) e = ap (or_else (topmost k a) (suc k)) e

-- for the first nodes stand there the roots, and for the others what they are parts of
pub record AreRoots (a : Action) (k : ℕ) (roots : List ℕ) : Type 0 where
  pub long : length roots ≡ length a
  pub done : (j : ℕ) → j < k → get_or roots j 0 ≡ procedure_of a j
  pub left : (j : ℕ) → k ≤ j → j < length a → get_or roots j 0 ≡ or_own j (whole_of a j)
  pub small : (j : ℕ) → j < length a → get_or roots j 0 ≤ j
  pub before : IsBefore a

pub roots-none : (a : Action) (ws : List ℕ) → AreWholes a 0 ws → AreRoots a 0 ws
roots-none a ws are = record {
  long = are.long;
  done = λ j less. absurd (omega arith);
  left = λ j more less. are.each j less;
  small = λ j less. go j (whole_of a j) refl (are.each j less);
  before = are.before;
}
  where
    go : (j : ℕ) (o : Option ℕ) → whole_of a j ≡ o → get_or ws j 0 ≡ or_own j (whole_of a j) → get_or ws j 0 ≤ j
    go j None e f = let same : get_or ws j 0 ≡ j = f ∙ ap (or_own j) e in omega (arith, same)
    go j (Some i) e f = let same : get_or ws j 0 ≡ i = f ∙ ap (or_own j) e in omega (arith, same, are.before j i e)

-- one node more
pub roots-more : (a : Action) (k : ℕ) (roots after : List ℕ) → k < length a → AreRoots a k roots → after ≡ set roots k (get_or roots (get_or roots k 0) 0) → AreRoots a (k + 1) after
roots-more a k roots after less are e =
    let here = get_or roots (get_or roots k 0) 0 in
    let within : k < length roots = omega (arith, less, are.long) in
    let at : get_or after k 0 ≡ here = ap (λ (zs : List ℕ). get_or zs k 0) e ∙ get_or-set_same roots k here 0 within in
    let other = λ (j : ℕ) (n : j ≢ k). ap (λ (zs : List ℕ). get_or zs j 0) e ∙ get_or-set_other roots k j here 0 n in
    let root : here ≡ procedure_of a k = go (whole_of a k) refl (are.left k (omega arith) less) in
    let low : here ≤ k = omega (arith, are.small (get_or roots k 0) (omega (arith, are.small k less, less)), are.small k less) in
    record {
      long = ap length e ∙ length-set roots k here ∙ are.long;
      done = λ j l. by-number j k (λ j. get_or after j 0 ≡ procedure_of a j) (at ∙ root) (λ n. other j n ∙ are.done j (omega (arith, l, n)));
      left = λ j m l. other j (λ q. omega (arith, q, m)) ∙ are.left j (omega (arith, m)) l;
      small = λ j l. by-number j k (λ j. get_or after j 0 ≤ j) (omega (arith, at, low)) (λ n. omega (arith, other j n, are.small j l));
      before = are.before;
    }
  where
    go : (o : Option ℕ) → whole_of a k ≡ o → get_or roots k 0 ≡ or_own k (whole_of a k) → get_or roots (get_or roots k 0) 0 ≡ procedure_of a k
    go None q f =
        let same : get_or roots k 0 ≡ k = f ∙ ap (or_own k) q in
        ap (λ (n : ℕ). get_or roots n 0) same ∙ same ∙ sym (procedure-root a k q)
    go (Some i) q f =
        let same : get_or roots k 0 ≡ i = f ∙ ap (or_own k) q in
        ap (λ (n : ℕ). get_or roots n 0) same ∙ are.done i (are.before k i q) ∙ sym (procedure-whole a are.before k i q)

    by-number : (j k : ℕ) (P : ℕ → Type 0) → P k → (j ≢ k → P j) → P j
    by-number j k P p q = of_choice (nat_eq j k) 0 0 (λ (n : ℕ). P j) (λ e. subst P (sym (eq_of_test j k e)) p) (λ e. q (other_of_test j k e))
