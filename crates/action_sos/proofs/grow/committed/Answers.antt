use Rattle.std.proofs.Common.{◌∙◌, ap, sym}
use Rattle.action_sos.specs.Parts.{closes}
use Rattle.action_sos.specs.Views.{part_of}
use Rattle.action_sos.proofs.PartsClosed.{closes-false}
use Rattle.action_sos.proofs.grow.committed.Goals as goal

pub returns-else-does_commit-clause-part : goal.returns-else-does_commit-clause-part
returns-else-does_commit-clause-part c =
    sym (closes-false (part_of c.args.part)) ∙ ap (λ q. closes q (part_of c.args.part)) (sym c.if-does_commit.false ∙ c.does_commit.ensures)
