-- From what covering and filling answer to what expansion does.
use Rattle.std.proofs.Common.{◌≡◌, ◌∙◌, ℕ, ◌<◌, ◌≤◌, List, length, map, Some, Ok, sym, ap, subst}
use Rattle.std.specs.Prelude.{slice_get}
use Rattle.action_terms.specs.Labels.{Label}
use Rattle.action_terms.specs.Numbering.{IsGraphOf, Listed, node_limit, strays}
use Rattle.action_terms.specs.Trees as action
use Rattle.gram_form.specs.Trees.{PlainTree, plain_tree}
use Rattle.gram_form.specs.declared.tree.Tree.{Tree}
use Rattle.source_lex.specs.Lexemes.{PlainLexeme, plain_lexeme}
use Rattle.meta_check.specs.Checked.{PlainDescription}
use Rattle.equation_expand.specs.Expanded.{IsExpandError, IsExpanded, Means}
use Rattle.equation_expand.specs.Frames.{IsFillError}
use Rattle.equation_expand.specs.Meaning.{Meaning, expansion}
use Rattle.equation_expand.specs.PlainSources.{plain_source}
use Rattle.equation_expand.specs.Seen.{IsGapError}
use Rattle.equation_expand.specs.Sources.{expansion_of}
use Rattle.equation_expand.specs.declared.errors.ExpandError.{ExpandError}
use Rattle.equation_expand.specs.declared.errors.ExpandError.TheVariants as error
use Rattle.equation_expand.specs.declared.source.Source.{Source}

pub same-expansion : (s : Source) (d : PlainDescription) (ls : List PlainLexeme) (t : Tree) → s.description.now ≡ d → map plain_lexeme s.lexemes.now ≡ ls → s.tree.now ≡ t → expansion_of (plain_source s) ≡ expansion d ls (plain_tree t)
same-expansion s d ls t e f g =
    ap (λ x. expansion x (map plain_lexeme s.lexemes.now) (plain_tree s.tree.now)) e
    ∙ ap (λ x. expansion d x (plain_tree s.tree.now)) f
    ∙ ap (λ (x : Tree). expansion d ls (plain_tree x)) g

pub gap-error : (m : Meaning) (d : PlainDescription) (ls : List PlainLexeme) (t : PlainTree) → m ≡ expansion d ls t → (e : ExpandError) → IsGapError m e → IsExpandError d ls t e
gap-error m d ls t is error.Memory h = tt
gap-error m d ls t is (error.Uncovered f p a) h = sym is ∙ h
gap-error m d ls t is (error.BigNumeral offset) h = sym is ∙ h
gap-error m d ls t is error.Nodes h = absurd h
gap-error m d ls t is (error.StrayUnfold node) h = absurd h

-- the action that some nodes are
abbrev pub IsActionOf : PlainDescription → List PlainLexeme → PlainTree → List Label → Type 0
IsActionOf d ls t nodes = (a : action.Tree) × Means d ls t a × (action.preorder a ≡ nodes)

pub filling-error : (s : Source) (d : PlainDescription) (ls : List PlainLexeme) (t : PlainTree) → expansion_of (plain_source s) ≡ expansion d ls t → ((nodes : List Label) → expansion d ls t ≡ Ok nodes → IsActionOf d ls t nodes)
    → (e : ExpandError) → IsFillError (plain_source s) e → IsExpandError d ls t e
filling-error s d ls t is means error.Memory h = tt
filling-error s d ls t is means (error.Uncovered f p a) h = sym is ∙ h
filling-error s d ls t is means (error.BigNumeral offset) h = sym is ∙ h
filling-error s d ls t is means (error.StrayUnfold node) h = absurd h
filling-error s d ls t is means error.Nodes h =
    let a = means h.0 (sym is ∙ h.1) in
    (a.0, a.1, subst (λ (ns : List Label). node_limit < length ns) (sym a.2) h.2)

pub whole-nodes : (d : PlainDescription) (ls : List PlainLexeme) (t : PlainTree) (nodes : List Label) → IsActionOf d ls t nodes → action.IsWhole nodes
whole-nodes d ls t nodes a = (a.0, a.1.action_is, a.2)

pub graph-expanded : (d : PlainDescription) (ls : List PlainLexeme) (t : PlainTree) (nodes : List Label) (g : Listed) → IsActionOf d ls t nodes → ((a : action.Tree) → action.IsAction a → action.preorder a ≡ nodes → IsGraphOf g a) → IsExpanded d ls t g
graph-expanded d ls t nodes g a graph = (a.0, a.1, graph a.0 a.1.action_is a.2)

pub stray-expanded : (d : PlainDescription) (ls : List PlainLexeme) (t : PlainTree) (nodes : List Label) (node : ℕ) → IsActionOf d ls t nodes → length nodes ≤ node_limit
    → ((a : action.Tree) → action.IsAction a → action.preorder a ≡ nodes → slice_get (strays a) 0 ≡ Some node) → IsExpandError d ls t (error.StrayUnfold node)
stray-expanded d ls t nodes node a few stray = (a.0, a.1, subst (λ (ns : List Label). length ns ≤ node_limit) (sym a.2) few, stray a.0 a.1.action_is a.2)
