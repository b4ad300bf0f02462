-- The text of a graph without a branch is read as that graph.
use Rattle.std.proofs.Common.{◌≡◌, ◌≢◌, ℕ, ◌+◌, ◌<◌, List, [], ◌∷◌, ◌++◌, length, map, drop, None, refl, sym, ap, subst, ◌∙◌, arith}
use Rattle.std.proofs.lemmas.List.{drop_more, length-map}
use Rattle.std.specs.Prelude.{All}
use Rattle.std.proofs.lemmas.List.Elements.{All-head, All-tail}
use Rattle.action_terms.specs.declared.view.YielderView.{YielderView}
use Rattle.action_terms.specs.declared.kinds.YKind.TheVariants as ykind
use Rattle.action_terms.specs.Forms.{IsYielderView}
use Rattle.action_terms.specs.declared.kinds.Kind.{Kind}
use Rattle.action_terms.specs.declared.kinds.Kind.TheVariants as kind
use Rattle.action_terms.specs.Labels.{Label, ActionNode, YielderNode, AnAction}
use Rattle.action_terms.specs.Trees.{Tree, tree, Trees, none, more}
use Rattle.action_terms.specs.Numbering.{Listed, ListedNode, IsGraph, IsGraphOf}
use Rattle.action_text.specs.Answers.{IsTextOf, IsReadAs}
use Rattle.action_text.specs.Canonical.{canonical_text, IsReadableLabel, IsReadable, AreReadable, HasNoBranch}
use Rattle.action_text.specs.Printing.{items_in, node_label, yielder_label}
use Rattle.action_text.specs.ViewLabels.{yielder_view_label}
use Rattle.action_text.proofs.ViewLabels.{yielder_view_fits}
use Rattle.action_text.proofs.LabelsOfNodes.{action_labels, action_labels_all, yielder_labels, yielder_labels_all, node_labels, labels_of_yielders}
use Rattle.action_text.proofs.PrintableTexts.{canonical_is_text}
use Rattle.action_text.proofs.PrintedGraphs.{yielder_labels_at, yielder_there}

-- labels that a text can give
abbrev pub AllReadable : List Label → Type 0
AllReadable [] = Unit {0}
AllReadable (l ∷ ls) = IsReadableLabel l × AllReadable ls

front_readable : (ls ms : List Label) → AllReadable (ls ++ ms) → AllReadable ls
front_readable [] ms h = tt
front_readable (l ∷ ls) ms h = (h.0, front_readable ls ms h.1)

back_readable : (ls ms : List Label) → AllReadable (ls ++ ms) → AllReadable ms
back_readable [] ms h = h
back_readable (l ∷ ls) ms h = back_readable ls ms h.1

mutual
  tree_readable : (t : Tree) → AllReadable (action_labels t) → AllReadable (yielder_labels t) → IsReadable t
  tree_readable (tree (ActionNode k n q) ts) a y = (a.0, trees_readable ts a.1 y)
  tree_readable (tree (YielderNode k q) ts) a y = (y.0, trees_readable ts a y.1)

  trees_readable : (ts : Trees) → AllReadable (action_labels_all ts) → AllReadable (yielder_labels_all ts) → AreReadable ts
  trees_readable none a y = tt
  trees_readable (more t ts) a y = (
    tree_readable t (front_readable (action_labels t) (action_labels_all ts) a) (front_readable (yielder_labels t) (yielder_labels_all ts) y),
    trees_readable ts (back_readable (action_labels t) (action_labels_all ts) a) (back_readable (yielder_labels t) (yielder_labels_all ts) y),
  )

no_branch : (k : Kind) (n : ℕ) (q : List ℕ) → k ≢ kind.Branch → IsReadableLabel (ActionNode k n q)
no_branch kind.Branch n q h = h refl
no_branch _ n q h = tt

actions_readable : (ns : List ListedNode) → All (λ (n : ListedNode). n.kind ≢ kind.Branch) ns → AllReadable (map node_label ns)
actions_readable [] h = tt
actions_readable (n ∷ ns) h = (
  no_branch n.kind (items_in n.kind n.operands) n.token (All-head (λ (m : ListedNode). m.kind ≢ kind.Branch) n ns h),
  actions_readable ns (All-tail (λ (m : ListedNode). m.kind ≢ kind.Branch) n ns h),
)

-- one label more can be read
pub readable_more : (g : Listed) → IsGraph g → (yielder : ℕ) (v : YielderView) → yielder < length g.yielders → IsYielderView g yielder v → IsReadableLabel (yielder_view_label v)
    → (AllReadable (drop yielder (yielder_labels_at g)) → AllReadable (yielder_labels_at g)) → AllReadable (drop (yielder + 1) (yielder_labels_at g)) → AllReadable (yielder_labels_at g)
readable_more g w yielder v h is fits so rest =
    let same = length-map g.yielders yielder_label in
    let lt : yielder < length (yielder_labels_at g) = omega (arith, same) in
    let there = yielder_there g yielder h in
    let here = subst IsReadableLabel (sym there.2) (yielder_view_fits g w yielder there.0 v there.1 is fits) in
    so (subst AllReadable (sym (drop_more (yielder_labels_at g) yielder (YielderNode ykind.Them []) lt)) (here, rest))

-- the text of a graph without a branch is read as that graph
pub text_read : (g : Listed) (t : Tree) (text : List ℕ) → IsGraphOf g t → HasNoBranch g → AllReadable (yielder_labels_at g) → text ≡ canonical_text t → IsReadAs text g
text_read g t text is none_branch fits same =
    let a : AllReadable (action_labels t) = subst AllReadable (ap (λ (l : Listed). map node_label l.nodes) is.numbered ∙ node_labels t AnAction is.action None 0 0) (actions_readable g.nodes none_branch) in
    let y : AllReadable (yielder_labels t) = subst AllReadable (ap (λ (l : Listed). map yielder_label l.yielders) is.numbered ∙ labels_of_yielders t 0 0) fits in
    (t, subst (λ bytes. IsTextOf bytes t) (sym same) (canonical_is_text t is.action (tree_readable t a y)), is)
