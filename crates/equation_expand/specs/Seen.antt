-- What stands for a node of a template, as the call sees it.
use Rattle.std.specs.Prelude.{◌≡◌, ℕ, List, [], ◌∷◌, Option, Some, None, Ok, Err, map, slice_get}
use Rattle.std.specs.Borrow.{Bor}
use Rattle.action_terms.specs.Labels as plain
use Rattle.action_terms.specs.Pushed.{label_of}
use Rattle.gram_form.specs.Trees.{Node, pieces, plain_pieces, plain_tree}
use Rattle.gram_form.specs.declared.tree.Tree.{Tree}
use Rattle.gram_form.specs.declared.tree.TreePart as tree_part
use Rattle.gram_form.specs.declared.tree.TreePart.{TreePart}
use Rattle.meta_terms.specs.Nodes as template
use Rattle.meta_terms.specs.PlainItems.{plain_pattern_part}
use Rattle.meta_terms.specs.declared.items.Equation.{Equation}
use Rattle.meta_terms.specs.declared.template.TemplateNode.{TemplateNode}
use Rattle.equation_expand.specs.Meaning.{Meaning, NoEquation, LargeNumeral, Misfit, Part, Word, Phrase, node_filled, part_of, parts_of}
use Rattle.equation_expand.specs.Sources.{PlainSource, meaning_in}
use Rattle.equation_expand.specs.declared.errors.ExpandError.{ExpandError}
use Rattle.equation_expand.specs.declared.errors.ExpandError.TheVariants as error
use Rattle.equation_expand.specs.declared.filled.Filled.{Filled}
use Rattle.equation_expand.specs.declared.filled.Filled.TheVariants as filled

-- what a part in an arena is for a template
abbrev pub seen_part : PlainSource → TreePart → Part
seen_part s (tree_part.Word n) = Word (slice_get s.lexemes n)
seen_part s (tree_part.Sub' pointer p a q shape row i j) = Phrase (meaning_in s (Node p a (pieces row) i j))

-- the parts of a phrase, by the variables of an equation
abbrev pub part_by : PlainSource → Equation → Tree → List ℕ → Option Part
part_by s e t v =
    part_of (map plain_pattern_part e.pattern.now) (parts_of s.description s.lexemes (plain_pieces t.parts.now)) v

-- what a node of the template of an equation means for a phrase
abbrev pub node_meaning : PlainSource → Equation → Tree → TemplateNode → Meaning
node_meaning s e t n = node_filled (part_by s e t) (template.label_of n)

-- the node has the bytes in the place of its token, and it is amiss where there are none
abbrev pub named_as : Option (Bor (List ℕ)) → (List ℕ → plain.Label) → Meaning
named_as None node = Err Misfit
named_as (Some bytes) node = Ok (node bytes.now ∷ [])

-- the gap of the meaning is the error's cause; want of memory is free to come
abbrev pub IsGapError : Meaning → ExpandError → Type 0
IsGapError m error.Memory = Unit {0}
IsGapError m (error.Uncovered function production alternative) =
    m ≡ Err (NoEquation function production alternative)
IsGapError m (error.BigNumeral offset) = m ≡ Err (LargeNumeral offset)
IsGapError m error.Nodes = ⊥
IsGapError m (error.StrayUnfold node) = ⊥

-- this is what stands there: a node, the meaning of a phrase, or nothing that may stand there
abbrev pub IsFilled : PlainSource → Meaning → Option Filled → Type 0
IsFilled s m None = m ≡ Err Misfit
IsFilled s m (Some (filled.Node n)) = m ≡ Ok (label_of n ∷ [])
IsFilled s m (Some (filled.Meaning f t)) = m ≡ meaning_in s (plain_tree t.now) f.now
