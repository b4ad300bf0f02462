-- The walk over the nodes of a graph in memory, with the text so far.
use Rattle.std.proofs.Common.{◌≡◌, ℕ, zero, suc, ◌+◌, ◌<◌, List, [], ◌∷◌, ◌++◌, length, map, drop, get_or, Option, None, Some, sym, ap, subst, ◌∙◌, arith}
use Rattle.std.proofs.Math.ListN.{get_or-map}
use Rattle.std.proofs.lemmas.List.{length-map}
use Rattle.std.specs.Prelude.{IfNone}
use Rattle.std.specs.Prelude.{slice_get}
use Rattle.std.proofs.lemmas.Option.{slice_get-get_or}
use Rattle.action_terms.specs.declared.kinds.Kind.TheVariants as kind
use Rattle.action_terms.specs.declared.kinds.YKind.TheVariants as ykind
use Rattle.action_terms.specs.declared.view.NodeView.{NodeView}
use Rattle.action_terms.specs.declared.view.YielderView.{YielderView}
use Rattle.action_terms.specs.Forms.{IsNodeView, IsYielderView}
use Rattle.action_terms.specs.Labels.{Label, YielderNode, AnAction}
use Rattle.action_terms.specs.Trees.{Tree}
use Rattle.action_terms.specs.Numbering.{Listed, ListedNode, ListedYielder, IsGraph, IsGraphOf}
use Rattle.action_terms.proofs.GraphLaws.{length-nodes_few}
use Rattle.action_text.specs.declared.print_jobs.Side.{Side}
use Rattle.action_text.specs.declared.print_jobs.Side.TheVariants.{Whole}
use Rattle.action_text.specs.declared.print_jobs.Part.{Part}
use Rattle.action_text.specs.declared.print_jobs.Part.TheVariants as part
use Rattle.action_text.specs.declared.print_jobs.Job.{Job}
use Rattle.action_text.specs.declared.print_jobs.Job.TheVariants as job
use Rattle.action_text.specs.declared.unfinished.Text.{Text}
use Rattle.action_text.specs.Canonical.{action_tokens}
use Rattle.action_text.specs.Printing as due
use Rattle.action_text.specs.Printing.{Says, Due, Token, due_on, part_due, action_due, shape_due, items_in, node_label, yielder_label}
use Rattle.action_text.specs.ViewLabels.{view_label, yielder_view_label}
use Rattle.action_text.proofs.ViewLabels.{view_due, yielder_view_due}
use Rattle.action_text.proofs.LabelsOfNodes.{action_labels, yielder_labels, node_labels, labels_of_yielders}
use Rattle.action_text.proofs.PrintWalk.{Walk, walk_starts, walk_says, walk_ends, next_action, next_yielder}

-- the labels of the nodes of a graph, and of its yielders
abbrev pub labels_at : Listed → List Label
labels_at g = map node_label g.nodes

abbrev pub yielder_labels_at : Listed → List Label
yielder_labels_at g = map yielder_label g.yielders

-- so many nodes are printed, and these jobs are left
pub record Prints (g : Listed) (dues : List Due) (text : Text) (action yielder : ℕ) (t : Tree) : Type 0 where
  pub said : List (List ℕ)
  pub says : Says text said
  pub walk : Walk (drop action (labels_at g)) (drop yielder (yielder_labels_at g)) said dues t

pub printing_starts : (g : Listed) (t : Tree) (text : Text) (stack : List Job) → IsGraphOf g t → Says text []
    → stack ≡ job.Part (part.Action Whole) ∷ [] → Prints g (due_on stack) text 0 0 t
printing_starts g t text stack is says s = record {
  said = [];
  says = says;
  walk =
      let as_listed : labels_at g ≡ action_labels t = ap (λ (l : Listed). map node_label l.nodes) is.numbered ∙ node_labels t AnAction is.action None 0 0 in
      let ys_listed : yielder_labels_at g ≡ yielder_labels t = ap (λ (l : Listed). map yielder_label l.yielders) is.numbered ∙ labels_of_yielders t 0 0 in
      subst (λ l. Walk l (yielder_labels_at g) [] (due_on stack) t) (sym as_listed)
      (subst (λ l. Walk (action_labels t) l [] (due_on stack) t) (sym ys_listed)
      (subst (λ l. Walk (action_labels t) (yielder_labels t) [] (due_on l) t) (sym s) (walk_starts t is.action)));
}

-- what printing tokens answers
abbrev pub Printed : (old new : Text) → (before after : List Due) → Option Part → Type 0
Printed old new before after next = (said : List (List ℕ)) → Says old said → (words : List (List ℕ)) × Says new (said ++ words) × (before ≡ map Token words ++ (part_due next ++ after))

-- the tokens before the next node are printed
pub tokens_printed : (g : Listed) (old new : Text) (before after : List Due) (next : Option Part) (action yielder : ℕ) (t : Tree) → Printed old new before after next
    → Prints g before old action yielder t → Prints g (part_due next ++ after) new action yielder t
tokens_printed g old new before after next action yielder t printed h =
    let p = printed h.said h.says in record {
      said = h.said ++ p.0;
      says = p.1;
      walk = walk_says p.0 (drop action (labels_at g)) (drop yielder (yielder_labels_at g)) h.said (part_due next ++ after) t
          (subst (λ ds. Walk (drop action (labels_at g)) (drop yielder (yielder_labels_at g)) h.said ds t) p.2 h.walk);
    }

-- a node is due
pub node_due : (g : Listed) (old new : Text) (before after : List Due) (next : Option Part) (p : Part) (action yielder : ℕ) (t : Tree) → next ≡ Some p → Printed old new before after next
    → Prints g before old action yielder t → Prints g (due.Node p ∷ after) new action yielder t
node_due g old new before after next p action yielder t e printed h =
    subst (λ o. Prints g (part_due o ++ after) new action yielder t) e (tokens_printed g old new before after next action yielder t printed h)

-- the element behind so many
record StandsAt (xs : List Label) (i : ℕ) (x : Label) (rest : List Label) : Type 0 where
  inside : i < length xs
  there : (d : Label) → get_or xs i d ≡ x
  others : drop (i + 1) xs ≡ rest

stands_at : (xs : List Label) (i : ℕ) (x : Label) (rest : List Label) → drop i xs ≡ x ∷ rest → StandsAt xs i x rest
stands_at [] zero x rest e = absurd (cc)
stands_at [] (suc i) x rest e = absurd (cc)
stands_at (y ∷ xs) zero x rest e = record { inside = omega arith; there = λ d. cc; others = cc }
stands_at (y ∷ xs) (suc i) x rest e =
    let h = stands_at xs i x rest e in
    let n : i < length xs = h.inside in
    let more : suc i + 1 ≡ suc (i + 1) = omega arith in
    record { inside = omega (arith, n); there = h.there; others = ap (λ m. drop m (y ∷ xs)) more ∙ h.others }

node_there : (g : Listed) (i : ℕ) (x : Label) (rest : List Label) → StandsAt (labels_at g) i x rest → (n : ListedNode) × (slice_get g.nodes i ≡ Some n) × (x ≡ node_label n)
node_there g i x rest at =
    let d : ListedNode = record { kind = kind.Fail; token = []; children = []; operands = []; body = 0 } in
    let inside = at.inside in
    let same = length-map g.nodes node_label in
    (get_or g.nodes i d, slice_get-get_or g.nodes i d (omega (arith, inside, same)), sym (at.there (node_label d)) ∙ get_or-map node_label g.nodes i d)

pub yielder_there : (g : Listed) (i : ℕ) → i < length g.yielders → (l : ListedYielder) × (slice_get g.yielders i ≡ Some l) × (get_or (yielder_labels_at g) i (YielderNode ykind.Them []) ≡ yielder_label l)
yielder_there g i lt =
    let d : ListedYielder = record { kind = ykind.Them; token = []; children = []; body = 0 } in
    (get_or g.yielders i d, slice_get-get_or g.yielders i d lt, get_or-map yielder_label g.yielders i d)

-- a node of a graph that is due is there
pub action_found : {g : Listed} {old new : Text} {before : List Due} {next : Option Part} {s : Side} {action yielder : ℕ}
    → (after : List Due) → ((t : Tree) → IsGraphOf g t → Prints g before old action yielder t) → Printed old new before after next → next ≡ Some (part.Action s) → IsGraph g → (action < length g.nodes) × (action < 65536)
action_found {g = g} {old = old} {new = new} {before = before} {next = next} {s = s} {action = action} {yielder = yielder} after h printed f graph =
    let due_now = node_due g old new before after next (part.Action s) action yielder graph.0 f printed (h graph.0 graph.1) in
    let n = next_action (drop action (labels_at g)) (drop yielder (yielder_labels_at g)) due_now.said s after graph.0 due_now.walk in
    let at = stands_at (labels_at g) action n.label n.rest n.first in
    let lt : action < length (labels_at g) = at.inside in
    let same = length-map g.nodes node_label in
    let few = length-nodes_few g graph in
    (omega (arith, lt, same), omega (arith, lt, same, few))

pub yielder_found : {g : Listed} {old new : Text} {before : List Due} {next : Option Part} {action yielder : ℕ}
    → (after : List Due) → ((t : Tree) → IsGraphOf g t → Prints g before old action yielder t) → Printed old new before after next → next ≡ Some part.Yielder → IsGraph g → (yielder < length g.yielders) × (yielder < 65536)
yielder_found {g = g} {old = old} {new = new} {before = before} {next = next} {action = action} {yielder = yielder} after h printed f graph =
    let due_now = node_due g old new before after next part.Yielder action yielder graph.0 f printed (h graph.0 graph.1) in
    let n = next_yielder (drop action (labels_at g)) (drop yielder (yielder_labels_at g)) due_now.said after graph.0 due_now.walk in
    let at = stands_at (yielder_labels_at g) yielder n.label n.rest n.first in
    let lt : yielder < length (yielder_labels_at g) = at.inside in
    let same = length-map g.yielders yielder_label in
    let few = length-nodes_few g graph in
    (omega (arith, lt, same), omega (arith, lt, same, few))

-- an action node is printed
pub action_printed : (g : Listed) → IsGraph g → (s : Side) (after now : List Due) (text : Text) (action yielder : ℕ) (v : NodeView) (t : Tree) → IsNodeView g action v → Prints g (due.Node (part.Action s) ∷ after) text action yielder t
    → now ≡ action_due s (view_label v) ++ after → Prints g now text (action + 1) yielder t
action_printed g w s after now text action yielder v t is h e =
    let n = next_action (drop action (labels_at g)) (drop yielder (yielder_labels_at g)) h.said s after t h.walk in
    let at = stands_at (labels_at g) action n.label n.rest n.first in
    let there = node_there g action n.label n.rest at in
    let due_is : now ≡ action_due s n.label ++ after = e ∙ ap (λ ds. ds ++ after) (view_due g w action there.0 v there.1 is s ∙ ap (action_due s) (sym there.2)) in
    record {
      said = h.said;
      says = h.says;
      walk = subst (λ ls. Walk ls (drop yielder (yielder_labels_at g)) h.said now t) (sym at.others)
          (subst (λ ds. Walk n.rest (drop yielder (yielder_labels_at g)) h.said ds t) (sym due_is) n.walk);
    }

-- a yielder is printed
pub yielder_printed : (g : Listed) → IsGraph g → (after now : List Due) (text : Text) (action yielder : ℕ) (v : YielderView) (t : Tree) → IsYielderView g yielder v → Prints g (due.Node part.Yielder ∷ after) text action yielder t
    → now ≡ shape_due (yielder_view_label v) ++ after → Prints g now text action (yielder + 1) t
yielder_printed g w after now text action yielder v t is h e =
    let n = next_yielder (drop action (labels_at g)) (drop yielder (yielder_labels_at g)) h.said after t h.walk in
    let at = stands_at (yielder_labels_at g) yielder n.label n.rest n.first in
    let inside = at.inside in
    let same = length-map g.yielders yielder_label in
    let there = yielder_there g yielder (omega (arith, inside, same)) in
    let label : n.label ≡ yielder_label there.0 = sym (at.there (YielderNode ykind.Them [])) ∙ there.2 in
    let due_is : now ≡ shape_due n.label ++ after = e ∙ ap (λ ds. ds ++ after) (yielder_view_due g w yielder there.0 v there.1 is ∙ ap shape_due (sym label)) in
    record {
      said = h.said;
      says = h.says;
      walk = subst (λ ls. Walk (drop action (labels_at g)) ls h.said now t) (sym at.others)
          (subst (λ ds. Walk (drop action (labels_at g)) n.rest h.said ds t) (sym due_is) n.walk);
    }

-- where no node is due all is printed
pub all_printed : (g : Listed) (old new : Text) (before : List Due) (stack : List Job) (next : Option Part) (action yielder : ℕ) (t : Tree) → next ≡ None → IfNone next (stack ≡ [])
    → Printed old new before (due_on stack) next → Prints g before old action yielder t → (drop yielder (yielder_labels_at g) ≡ []) × Says new (action_tokens t)
all_printed g old new before stack next action yielder t is_none done printed h =
    let empty : stack ≡ [] = subst (λ o. IfNone o (stack ≡ [])) is_none done in
    let over = tokens_printed g old new before (due_on stack) next action yielder t printed h in
    let nothing : part_due next ++ due_on stack ≡ [] = ap (λ o. part_due o ++ due_on stack) is_none ∙ ap due_on empty in
    let e = walk_ends (drop action (labels_at g)) (drop yielder (yielder_labels_at g)) over.said t
    (subst (λ ds. Walk (drop action (labels_at g)) (drop yielder (yielder_labels_at g)) over.said ds t) nothing over.walk) in
    (e.1, subst (λ ts. Says new ts) e.2 over.says)
