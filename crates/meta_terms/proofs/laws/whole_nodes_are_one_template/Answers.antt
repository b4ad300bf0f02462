use Rattle.meta_terms.proofs.WholeTemplates.{one_template, template-of}
use Rattle.meta_terms.proofs.laws.whole_nodes_are_one_template.Goals as goal

pub returns : goal.returns
returns c = record { some = template-of; one = one_template }
