-- What a look at the next node changes.
use Rattle.std.proofs.Common.{◌≡◌, ◌∙◌, ◌⊎◌, inl, inr, ℕ, ◌+◌, ◌<◌, true, List, [], ◌∷◌, ◌++◌, length, nat_eq, Ok, Err, sym, ap, subst, arith}
use Rattle.std.specs.Prelude.{◌&&◌, IfErr, Result}
use Rattle.std.specs.List.{list_any}
use Rattle.std.specs.Str.{bytes_eq}
use Rattle.std.proofs.lemmas.Bool.{and_parts, eqb-true}
use Rattle.std.proofs.lemmas.List.{length-append}
use Rattle.std.proofs.lemmas.Slice.Eq.{bytes_eq-Decides}
use Rattle.action_terms.specs.Labels.{Label}
use Rattle.gram_form.specs.Trees.{PlainTree, Node, plain_tree}
use Rattle.gram_form.specs.declared.tree.Tree.{Tree}
use Rattle.source_lex.specs.Uniform.{Holds, HaveSameSpan, IsUniform}
use Rattle.equation_expand.specs.Meaning.{Gap, Meaning, joined}
use Rattle.equation_expand.specs.Seen.{IsGapError}
use Rattle.equation_expand.specs.Sources.{PlainSource, expansion_of, meaning_in}
use Rattle.equation_expand.specs.Frames.{AreDone, HasNoGap, IsFillError, IsOpen, IsPushError, IsSpanOf, Passes, left_of, rest_after, rest_of, same_work}
use Rattle.equation_expand.specs.declared.covering.Work.{Work}
use Rattle.equation_expand.specs.declared.errors.ExpandError.{ExpandError}
use Rattle.equation_expand.specs.declared.errors.ExpandError.TheVariants as error
use Rattle.equation_expand.specs.declared.frames.Open.{Open}
use Rattle.equation_expand.proofs.HeldTrees.{holds-below}
use Rattle.equation_expand.proofs.Joins.{error-passes, joined-assoc, nothing-before, nothing-behind, passes-front}
use Rattle.equation_expand.proofs.Standing.{IsAfter, left-of-top, rest-is}

-- ---- what is done

same-parts : (x y : Work) → same_work x y ≡ true → (x.function.now ≡ y.function.now) × (x.production ≡ y.production) × (x.start ≡ y.start) × (x.end ≡ y.end)
same-parts x y h =
    let a = and_parts (bytes_eq x.function.now y.function.now) (nat_eq x.production y.production && (nat_eq x.start y.start && nat_eq x.end y.end)) h in
    let b = and_parts (nat_eq x.production y.production) (nat_eq x.start y.start && nat_eq x.end y.end) a.1 in
    let c = and_parts (nat_eq x.start y.start) (nat_eq x.end y.end) b.1 in
    ((bytes_eq-Decides x.function.now y.function.now).0 a.0, eqb-true x.production y.production b.0, eqb-true x.start y.start c.0, eqb-true x.end y.end c.1)

spans-same : (x y : Work) (t u : PlainTree) → x.production ≡ y.production → x.start ≡ y.start → x.end ≡ y.end → IsSpanOf x t → IsSpanOf y u → HaveSameSpan t u
spans-same x y (Node p a ps i j) (Node q b qs k l) e f g s z = (sym s.0 ∙ e ∙ z.0, sym s.1 ∙ f ∙ z.1, sym s.2 ∙ g ∙ z.2)

-- the work of a phrase
pub record IsWorkOf (w : Work) (f : List ℕ) (t : Tree) : Type 0 where
  pub function : w.function.now ≡ f
  pub production : w.production ≡ t.production
  pub start : w.start ≡ t.start
  pub end : w.end ≡ t.end

pub span-of : (w : Work) (f : List ℕ) (t : Tree) → IsWorkOf w f t → IsSpanOf w (plain_tree t)
span-of w f t is = (is.production, is.start, is.end)

-- a phrase of which nothing is left
pub no-gap-left : (s : PlainSource) (o : Open) → IsOpen s o → rest_of s o ≡ Ok [] → HasNoGap (meaning_in s (plain_tree o.tree.now) o.function.now)
no-gap-left s o opened e = (opened.nodes ++ [], opened.left ∙ ap (joined (Ok opened.nodes)) e)

-- one more that is done
pub done-more : (s : PlainSource) (old new : List Work) (w : Work) (f : List ℕ) (t : Tree) → IsUniform s.tree → AreDone s old → IsWorkOf w f t → Holds s.tree (plain_tree t) → HasNoGap (meaning_in s (plain_tree t) f)
    → ((x : Work) → list_any (same_work x) new ≡ true → (list_any (same_work x) old ≡ true) ⊎ (same_work x w ≡ true)) → AreDone s new
done-more s old new w f t uniform done is held good more x h u holds span = go (more x h)
  where
    go : (list_any (same_work x) old ≡ true) ⊎ (same_work x w ≡ true) → HasNoGap (meaning_in s u x.function.now)
    go (inl e) = done x e u holds span
    go (inr e) =
        let p = same-parts x w e in
        let same : u ≡ plain_tree t = uniform u (plain_tree t) holds held (spans-same x w u (plain_tree t) p.1 p.2 p.3 span (span-of w f t is)) in
        (good.0, ap (λ v. meaning_in s v x.function.now) same ∙ ap (meaning_in s (plain_tree t)) (p.0 ∙ is.function) ∙ good.1)

-- ---- a phrase below

pub opened-below : (s : PlainSource) (o p : Open) (t : Tree) (f : List ℕ) → IsOpen s o → Holds (plain_tree o.tree.now) (plain_tree t) → p.tree.now ≡ t → p.function.now ≡ f → meaning_in s (plain_tree t) f ≡ rest_of s p
    → rest_of s o ≡ joined (meaning_in s (plain_tree t) f) (rest_after s o) → IsOpen s p × Passes (rest_of s p) (rest_of s o)
opened-below s o p t f opened held tree function left e = (
  record {
    held = holds-below s.tree (plain_tree o.tree.now) (plain_tree p.tree.now) opened.held (subst (λ u. Holds (plain_tree o.tree.now) (plain_tree u)) (sym tree) held);
    nodes = [];
    left = ap (λ u. meaning_in s (plain_tree u) p.function.now) tree ∙ ap (meaning_in s (plain_tree t)) function ∙ left ∙ sym (nothing-before (rest_of s p));
  },
  passes-front (rest_of s p) (rest_after s o) (rest_of s o) (e ∙ ap (λ m. joined m (rest_after s o)) left),
)

-- ---- what is left when nodes are pushed

pub left-none : (s : PlainSource) (m : Meaning) (b : List Label) (o : Open) (os : List Open) → m ≡ joined (Ok b) (joined (rest_of s o) (left_of s os)) → rest_of s o ≡ Ok [] → m ≡ joined (Ok b) (left_of s os)
left-none s m b o os h e = h ∙ ap (λ r. joined (Ok b) (joined r (left_of s os))) e ∙ ap (joined (Ok b)) (nothing-before (left_of s os))

pub left-node : (s : PlainSource) (m : Meaning) (b : List Label) (o p : Open) (os : List Open) (l : Label) → m ≡ joined (Ok b) (joined (rest_of s o) (left_of s os)) → rest_of s o ≡ joined (Ok (l ∷ [])) (rest_after s o) → IsAfter o p
    → m ≡ joined (Ok (b ++ l ∷ [])) (left_of s (os ++ p ∷ []))
left-node s m b o p os l h e a =
    h ∙ ap (λ r. joined (Ok b) (joined r (left_of s os))) e
    ∙ ap (joined (Ok b)) (joined-assoc (Ok (l ∷ [])) (rest_after s o) (left_of s os))
    ∙ sym (joined-assoc (Ok b) (Ok (l ∷ [])) (joined (rest_after s o) (left_of s os)))
    ∙ ap (λ r. joined (Ok (b ++ l ∷ [])) (joined r (left_of s os))) (sym (rest-is s o p a))
    ∙ ap (joined (Ok (b ++ l ∷ []))) (sym (left-of-top s os p))

-- a gap in what is left is one of the whole
pub left-gap : (s : PlainSource) (m : Meaning) (b : List Label) (o : Open) (os : List Open) → m ≡ joined (Ok b) (joined (rest_of s o) (left_of s os)) → Passes (rest_of s o) m
left-gap s m b o os h gap e = h ∙ ap (λ r. joined (Ok b) (joined r (left_of s os))) e

longer : (nodes b : List Label) (l : Label) (rest : Meaning) → (let m : Meaning = Ok nodes in m) ≡ joined (Ok b) (joined (Ok (l ∷ [])) rest) → length b < length nodes
longer nodes b l (Ok ys) h =
    let same : nodes ≡ b ++ (l ∷ ys) = cc in
    let count : length nodes ≡ length b + length (l ∷ ys) = ap length same ∙ length-append b (l ∷ ys) in
    omega (arith, count)
longer nodes b l (Err gap) h = absurd (cc)

-- one node more than there may be
pub too-many : (s : PlainSource) (b : List Label) (o : Open) (os : List Open) (l : Label) → HasNoGap (expansion_of s) → expansion_of s ≡ joined (Ok b) (joined (rest_of s o) (left_of s os))
    → rest_of s o ≡ joined (Ok (l ∷ [])) (rest_after s o) → (e : ExpandError) → IsPushError b e → IsFillError s e
too-many s b o os l covered h e error.Memory full = tt
too-many s b o os l covered h e (error.Uncovered f p a) full = absurd full
too-many s b o os l covered h e (error.BigNumeral offset) full = absurd full
too-many s b o os l covered h e (error.StrayUnfold node) full = absurd full
too-many s b o os l covered h e error.Nodes full =
    let more : length b < length covered.0 =
    longer covered.0 b l (joined (rest_after s o) (left_of s os))
    (sym covered.1 ∙ h ∙ ap (λ r. joined (Ok b) (joined r (left_of s os))) e ∙ ap (joined (Ok b)) (joined-assoc (Ok (l ∷ [])) (rest_after s o) (left_of s os))) in
    (covered.0, covered.1, omega (arith, more, full))

-- a gap's error is one of filling
pub fill-error : (s : PlainSource) (e : ExpandError) → IsGapError (expansion_of s) e → IsFillError s e
fill-error s error.Memory h = tt
fill-error s (error.Uncovered f p a) h = h
fill-error s (error.BigNumeral offset) h = h
fill-error s error.Nodes h = absurd h
fill-error s (error.StrayUnfold node) h = h

pub fill-errors : {T : Type 0} (s : PlainSource) (r : Result T ExpandError) → IfErr r (IsGapError (expansion_of s)) → IfErr r (IsFillError s)
fill-errors s (Ok x) h = tt
fill-errors s (Err e) h = fill-error s e h

pub no-gap : (m : Meaning) (gap : Gap) → HasNoGap m → m ≡ Err gap → ⊥
no-gap m gap good h = let wrong : (let x : Meaning = Ok good.0 in x) ≡ Err gap = sym good.1 ∙ h in cc

pub fill-passes : {T : Type 0} (s : PlainSource) (m : Meaning) (r : Result T ExpandError) → Passes m (expansion_of s) → IfErr r (IsGapError m) → IfErr r (IsFillError s)
fill-passes s m (Ok x) passes h = tt
fill-passes s m (Err e) passes h = fill-error s e (error-passes m (expansion_of s) passes e h)

-- a phrase and one below it, put on a stack
pub left-put : (s : PlainSource) (n : Meaning) (o p q : Open) (os : List Open) → rest_of s o ≡ joined n (rest_after s o) → IsAfter o p → n ≡ rest_of s q → left_of s ((os ++ p ∷ []) ++ q ∷ []) ≡ joined (rest_of s o) (left_of s os)
left-put s n o p q os e a is =
    left-of-top s (os ++ p ∷ []) q
    ∙ ap (λ r. joined r (left_of s (os ++ p ∷ []))) (sym is)
    ∙ ap (joined n) (left-of-top s os p ∙ ap (λ r. joined r (left_of s os)) (rest-is s o p a))
    ∙ sym (joined-assoc n (rest_after s o) (left_of s os))
    ∙ ap (λ r. joined r (left_of s os)) (sym e)

-- nothing is left
pub left-nothing : (s : PlainSource) (m : Meaning) (b : List Label) (os : List Open) → m ≡ joined (Ok b) (left_of s os) → os ≡ [] → m ≡ Ok b
left-nothing s m b os h e = h ∙ ap (λ xs. joined (Ok b) (left_of s xs)) e ∙ nothing-behind (Ok b)

-- the phrase on top, and those below it
pub left-top : (s : PlainSource) (m : Meaning) (b : List Label) (os rest : List Open) (o : Open) → m ≡ joined (Ok b) (left_of s os) → os ≡ rest ++ o ∷ [] → m ≡ joined (Ok b) (joined (rest_of s o) (left_of s rest))
left-top s m b os rest o h e = h ∙ ap (λ xs. joined (Ok b) (left_of s xs)) e ∙ ap (joined (Ok b)) (left-of-top s rest o)

-- the whole is left
pub left-whole : (s : PlainSource) (m : Meaning) (b : List Label) (os : List Open) (o : Open) → m ≡ rest_of s o → b ≡ [] → os ≡ o ∷ [] → m ≡ joined (Ok b) (left_of s os)
left-whole s m b os o h none e =
    h ∙ sym (nothing-before (rest_of s o)) ∙ sym (nothing-before (joined (Ok []) (rest_of s o)))
    ∙ ap (λ xs. joined (Ok xs) (joined (Ok []) (rest_of s o))) (sym none) ∙ ap (λ xs. joined (Ok b) (left_of s xs)) (sym e)
