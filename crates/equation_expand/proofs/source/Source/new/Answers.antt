use Rattle.std.proofs.Common.{List, ap, subst}
use Rattle.meta_terms.specs.PlainItems.{PlainEquation}
use Rattle.meta_check.specs.Checked.{PlainDescription}
use Rattle.equation_expand.specs.Kept.{HasWholeTemplates}
use Rattle.equation_expand.proofs.Roots.{templates-whole}
use Rattle.equation_expand.proofs.source.Source.new.Goals as goal

pub returns-clause-templates : goal.returns-clause-templates
returns-clause-templates c =
    subst (λ (es : List PlainEquation). HasWholeTemplates es) (ap (λ (d : PlainDescription). d.equations) c.description.view_is) (templates-whole c.description.inside.equations.now)
