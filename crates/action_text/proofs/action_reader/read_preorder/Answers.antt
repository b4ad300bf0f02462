use Rattle.std.proofs.Common.{false, ◌∙◌, ap, map, sym}
use Rattle.action_terms.specs.Trees.{preorder}
use Rattle.action_terms.specs.Pushed.{label_of}
use Rattle.action_text.specs.declared.reading.PlaceError.TheVariants.{At}
use Rattle.action_text.specs.Reading.{FailsAt}
use Rattle.meta_terms.specs.Templates.{as_label}
use Rattle.meta_terms.specs.Nodes.{label_of as template_label}
use Rattle.action_text.proofs.EmbeddedActions.{spelled_as}
use Rattle.action_text.proofs.ActionTemplates.{all_plain, first_bad_action, preorder_as, labels_back, map_map}
use Rattle.action_text.specs.Texts.{texts}
use Rattle.action_text.proofs.TextAnswers.{is_text, is_bad}
use Rattle.action_text.proofs.action_reader.read_preorder.Goals as goal

pub returns-in-Err-At-clause-error : goal.returns-in-Err-At-clause-error
returns-in-Err-At-clause-error c =
    let bad : FailsAt false (texts c.read.inside.list.now) (At c.in-Err-At.place) = rw c.in-Err-At.field-0-is at c.in-Err-At.ensures in
    is_bad c.args.bytes.now c.read.inside.list.now c.in-Ok.read c.in-Err-At.place c.offset_at-offset.result c.read.view_is c.in-Ok.ensures.tokens (first_bad_action _ _ bad) (rw c.in-Err-At.field-0-is at c.offset_at-offset.ensures)

pub returns-clause-labels : goal.returns-clause-labels
returns-clause-labels c =
    let l = c.in-Ok-read_labels.ensures in
    let a = spelled_as l.0 (texts c.read.inside.list.now) l.1 in
    let ordered = c.in_ok-ordered.ensures l.0 l.1.1.0 (ap (map template_label) c.as_slice.ensures.value ∙ l.2) in (
      a.0,
      is_text c.args.bytes.now c.read.inside.list.now c.in-Ok.read a.0 c.read.view_is c.in-Ok.ensures.tokens a.2,
      labels_back _ (preorder a.0) (sym (map_map as_label label_of _) ∙ c.in_ok-action_labels.ensures ∙ ap (map template_label) c.as_slice-2.ensures.value ∙ ordered ∙ ap preorder a.1 ∙ preorder_as a.0),
    )

pub action_labels-requires : goal.action_labels-requires
action_labels-requires c =
    let l = c.in-Ok-read_labels.ensures in
    let a = spelled_as l.0 (texts c.read.inside.list.now) l.1 in
    let ordered = c.in_ok-ordered.ensures l.0 l.1.1.0 (ap (map template_label) c.as_slice.ensures.value ∙ l.2) in
    all_plain _ (preorder a.0) (ap (map template_label) c.as_slice-2.ensures.value ∙ ordered ∙ ap preorder a.1 ∙ preorder_as a.0)
