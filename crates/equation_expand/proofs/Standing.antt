-- Phrases one inside another, the last one on top.
use Rattle.std.proofs.Common.{◌≡◌, ◌∙◌, ◌+◌, List, [], ◌∷◌, ◌++◌, Ok, refl, sym, ap, subst}
use Rattle.action_terms.specs.Labels.{Label}
use Rattle.gram_form.specs.Trees.{plain_tree}
use Rattle.equation_expand.specs.Meaning.{Meaning, joined}
use Rattle.equation_expand.specs.Sources.{PlainSource, meaning_in}
use Rattle.equation_expand.specs.Frames.{IsOpen, Passes, Stand, left_of, rest_after, rest_at, rest_of}
use Rattle.equation_expand.specs.declared.frames.Open.{Open}
use Rattle.equation_expand.proofs.Joins.{joined-assoc, nothing-before, nothing-behind, passes-nodes}

-- the phrase on top: its gap is that of all
pub on-top : (s : PlainSource) (m : Meaning) (os : List Open) (o : Open) → Stand s m (os ++ o ∷ []) → IsOpen s o × Passes (rest_of s o) m
on-top s m [] o h = (h.0, h.1)
on-top s m (b ∷ os) o h = let r = on-top s (rest_of s b) os o h.2 in (r.0, λ gap e. h.1 gap (r.1 gap e))

-- those below it
pub below-top : (s : PlainSource) (m : Meaning) (os : List Open) (o : Open) → Stand s m (os ++ o ∷ []) → Stand s m os
below-top s m [] o h = tt
below-top s m (b ∷ os) o h = (h.0, h.1, below-top s (rest_of s b) os o h.2)

-- another one in its place
pub top-changed : (s : PlainSource) (m : Meaning) (os : List Open) (o p : Open) → Stand s m (os ++ o ∷ []) → IsOpen s p × Passes (rest_of s p) (rest_of s o) → Stand s m (os ++ p ∷ [])
top-changed s m [] o p h opened = (opened.0, λ gap e. h.1 gap (opened.1 gap e), tt)
top-changed s m (b ∷ os) o p h opened = (h.0, h.1, top-changed s (rest_of s b) os o p h.2 opened)

-- one more
pub one-more : (s : PlainSource) (m : Meaning) (os : List Open) (o p : Open) → Stand s m (os ++ o ∷ []) → IsOpen s p × Passes (rest_of s p) (rest_of s o) → Stand s m ((os ++ o ∷ []) ++ p ∷ [])
one-more s m [] o p h opened = (h.0, h.1, (opened.0, opened.1, tt))
one-more s m (b ∷ os) o p h opened = (h.0, h.1, one-more s (rest_of s b) os o p h.2 opened)

-- what is left, from the top on
pub left-of-top : (s : PlainSource) (os : List Open) (o : Open) → left_of s (os ++ o ∷ []) ≡ joined (rest_of s o) (left_of s os)
left-of-top s [] o = nothing-before (rest_of s o) ∙ sym (nothing-behind (rest_of s o))
left-of-top s (b ∷ os) o =
    ap (λ m. joined m (rest_of s b)) (left-of-top s os o) ∙ joined-assoc (rest_of s o) (left_of s os) (rest_of s b)

-- ---- one node more is filled

pub record IsAfter (o p : Open) : Type 0 where
  pub equation : p.equation ≡ o.equation
  pub function : p.function.now ≡ o.function.now
  pub tree : p.tree.now ≡ o.tree.now
  pub next : p.next ≡ o.next + 1

pub rest-is : (s : PlainSource) (o p : Open) → IsAfter o p → rest_of s p ≡ rest_after s o
rest-is s o p a =
    ap (λ e. rest_at s e p.tree.now p.next) a.equation
    ∙ ap (λ t. rest_at s o.equation t p.next) a.tree
    ∙ ap (rest_at s o.equation o.tree.now) a.next

pub stepped : (s : PlainSource) (o p : Open) (m : Meaning) (xs : List Label) → IsAfter o p → m ≡ Ok xs → rest_of s o ≡ joined m (rest_after s o) → IsOpen s o → IsOpen s p × Passes (rest_of s p) (rest_of s o)
stepped s o p m xs a is e opened =
    let rest = rest-is s o p a in
    let here : rest_of s o ≡ joined (Ok xs) (rest_of s p) = e ∙ ap (λ x. joined x (rest_after s o)) is ∙ ap (joined (Ok xs)) (sym rest) in (
      record {
        held = subst (λ t. Rattle.source_lex.specs.Uniform.Holds s.tree (plain_tree t)) (sym a.tree) opened.held;
        nodes = opened.nodes ++ xs;
        left =
            ap (λ t. meaning_in s (plain_tree t) p.function.now) a.tree
            ∙ ap (meaning_in s (plain_tree o.tree.now)) a.function
            ∙ opened.left ∙ ap (joined (Ok opened.nodes)) here ∙ sym (joined-assoc (Ok opened.nodes) (Ok xs) (rest_of s p));
      },
      passes-nodes (Ok xs) (rest_of s p) (rest_of s o) xs refl here,
    )
