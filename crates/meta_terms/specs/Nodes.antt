-- What contracts see of the nodes of a template.
use Rattle.meta_terms.specs.Templates.{Label, ActionNode, YielderNode, Applied, ValueOf as ValueOfPart, ActionTokenOf as TokenOfAction, YielderTokenOf as TokenOfYielder}
use Rattle.meta_terms.specs.declared.template.TemplateNode.{TemplateNode}
use Rattle.meta_terms.specs.declared.template.TemplateNode.TheVariants.{Action, Yielder, ActionTokenOf, YielderTokenOf, Apply, ValueOf}

-- the label of a node
abbrev pub label_of : TemplateNode → Label
label_of (Action n) = ActionNode n.kind n.items n.token.now
label_of (Yielder n) = YielderNode n.kind n.token.now
label_of (ActionTokenOf n v) = TokenOfAction n.kind n.items n.token.now v.now
label_of (YielderTokenOf n v) = TokenOfYielder n.kind n.token.now v.now
label_of (Apply f v) = Applied f.now v.now
label_of (ValueOf v) = ValueOfPart v.now
