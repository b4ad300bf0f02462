-- The phrases whose templates are being filled: what is left of each, and what is done.
use Rattle.std.specs.Prelude.{◌≡◌, ◌<◌, ◌≤◌, ◌+◌, ℕ, Bool, true, ◌&&◌, List, [], ◌∷◌, Option, Some, None, Ok, Err, drop, length, map, nat_eq, slice_get}
use Rattle.std.specs.List.{list_any}
use Rattle.std.specs.Str.{bytes_eq}
use Rattle.action_terms.specs.Labels.{Label}
use Rattle.action_terms.specs.Numbering.{node_limit}
use Rattle.action_terms.specs.Pushed as pushed
use Rattle.gram_form.specs.Trees.{PlainTree, Node, plain_tree}
use Rattle.gram_form.specs.declared.tree.Tree.{Tree}
use Rattle.gram_form.specs.declared.tree.TreePart.{TreePart}
use Rattle.source_lex.specs.Uniform.{Holds}
use Rattle.meta_terms.specs.Nodes.{label_of}
use Rattle.meta_terms.specs.declared.items.Equation.{Equation}
use Rattle.equation_expand.specs.Meaning.{Gap, Meaning, filled, joined}
use Rattle.equation_expand.specs.Seen.{IsGapError, part_by}
use Rattle.equation_expand.specs.Sources.{PlainSource, expansion_of, meaning_in}
use Rattle.equation_expand.specs.declared.errors.ExpandError.{ExpandError}
use Rattle.equation_expand.specs.declared.errors.ExpandError.TheVariants as error
use Rattle.equation_expand.specs.declared.filled.Filled.{Filled}
use Rattle.equation_expand.specs.declared.filled.Filled.TheVariants as item
use Rattle.equation_expand.specs.declared.frames.Open.{Open}
use Rattle.equation_expand.specs.declared.covering.Work.{Work}

-- the part stands directly under the phrase
abbrev pub IsPartOf : Tree → TreePart → Type 0
IsPartOf t x = (k : ℕ) × (slice_get t.parts.now k ≡ Some x)

-- the phrase whose meaning is put in stands under the phrase
abbrev pub IsUnder : Tree → Filled → Type 0
IsUnder t (item.Node n) = Unit {0}
IsUnder t (item.Meaning f u) = Holds (plain_tree t) (plain_tree u.now)

-- what the nodes of a template mean from the one with the number on
abbrev pub rest_at : PlainSource → Equation → Tree → ℕ → Meaning
rest_at s e t n = filled (part_by s e t) (drop n (map label_of e.action.list.now))

-- what is left to be filled of a phrase, and what then is left after the next node
abbrev pub rest_of : PlainSource → Open → Meaning
rest_of s o = rest_at s o.equation o.tree.now o.next

abbrev pub rest_after : PlainSource → Open → Meaning
rest_after s o = rest_at s o.equation o.tree.now (o.next + 1)

-- this is the next of what is left: nothing, a node, or the meaning of a phrase below
abbrev pub IsNext : PlainSource → Open → Option Filled → Type 0
IsNext s o None = rest_of s o ≡ Ok []
IsNext s o (Some (item.Node n)) =
    (rest_of s o ≡ joined (Ok (pushed.label_of n ∷ [])) (rest_after s o))
    × (o.next < length o.equation.action.list.now)
IsNext s o (Some (item.Meaning f t)) =
    (rest_of s o ≡ joined (meaning_in s (plain_tree t.now) f.now) (rest_after s o))
    × (o.next < length o.equation.action.list.now)
    × Holds (plain_tree o.tree.now) (plain_tree t.now)

-- the phrase is the tree of the source or below it, and what is left behind some nodes is its meaning
pub record IsOpen (s : PlainSource) (o : Open) : Type 0 where
  pub held : Holds s.tree (plain_tree o.tree.now)
  pub nodes : List Label
  pub left : meaning_in s (plain_tree o.tree.now) o.function.now ≡ joined (Ok nodes) (rest_of s o)

-- each gap of the first meaning is that of the second
abbrev pub Passes : Meaning → Meaning → Type 0
Passes inner outer = (gap : Gap) → inner ≡ Err gap → outer ≡ Err gap

-- phrases one inside another: a gap in what is left of one is a gap in what is left of that around it
abbrev pub Stand : PlainSource → Meaning → List Open → Type 0
Stand s around [] = Unit {0}
Stand s around (o ∷ os) = IsOpen s o × Passes (rest_of s o) around × Stand s (rest_of s o) os

-- what is left of phrases, the last one first
abbrev pub left_of : PlainSource → List Open → Meaning
left_of s [] = Ok []
left_of s (o ∷ os) = joined (left_of s os) (rest_of s o)

-- the meaning has no gap
abbrev pub HasNoGap : Meaning → Type 0
HasNoGap m = (nodes : List Label) × (m ≡ Ok nodes)

-- the function and the span are the same
abbrev pub same_work : Work → Work → Bool
same_work x y =
    bytes_eq x.function.now y.function.now
    && (nat_eq x.production y.production && (nat_eq x.start y.start && nat_eq x.end y.end))

-- the phrase is of the production and has the span
abbrev pub IsSpanOf : Work → PlainTree → Type 0
IsSpanOf x (Node production alternative parts start end) =
    (x.production ≡ production) × (x.start ≡ start) × (x.end ≡ end)

-- what is done has no gap
abbrev pub AreDone : PlainSource → List Work → Type 0
AreDone s done =
    (x : Work) → list_any (same_work x) done ≡ true → (t : PlainTree) → Holds s.tree t → IsSpanOf x t
    → HasNoGap (meaning_in s t x.function.now)

-- why not all nodes are pushed: a gap, or more nodes than the limit
abbrev pub IsFillError : PlainSource → ExpandError → Type 0
IsFillError s error.Nodes =
    (nodes : List Label) × (expansion_of s ≡ Ok nodes) × (node_limit < length nodes)
IsFillError s e = IsGapError (expansion_of s) e

-- why a node isn't pushed behind these: want of memory, or as many nodes as may be
abbrev pub IsPushError : List Label → ExpandError → Type 0
IsPushError nodes error.Memory = Unit {0}
IsPushError nodes error.Nodes = node_limit ≤ length nodes
IsPushError nodes _ = ⊥
