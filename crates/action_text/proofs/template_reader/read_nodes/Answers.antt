use Rattle.std.proofs.Common.{◌∙◌, ap, map, true}
use Rattle.action_text.specs.Texts.{texts}
use Rattle.meta_terms.specs.Nodes.{label_of}
use Rattle.action_text.proofs.OneTree.{one_template}
use Rattle.action_text.proofs.template_reader.read_nodes.Goals as goal

pub returns-clause-nodes : goal.returns-clause-nodes
returns-clause-nodes c =
    let l = c.in_ok-labels.ensures in
    record {
      template = l.0;
      spells = l.1;
      labels_are = c.in_ok-preorder_of.ensures l.0 l.1.0 (ap (map label_of) c.as_slice.ensures.value ∙ l.2);
      no_other = λ u other. one_template true u l.0 (texts c.args.tokens.now) other l.1;
    }
