use Rattle.std.proofs.Common.{◌∙◌, sym, ap, codes}
use Rattle.meta_reader.specs.Parsing.{begins_with}
use Rattle.meta_reader.proofs.Walking.{one_token}
use Rattle.meta_reader.proofs.runs.is_end.Goals as goal

pub returns-then-run-eq1 : goal.returns-then-run-eq1
returns-then-run-eq1 c = (
  λ h. one_token c.args.run.now (codes "end") c.if-run-eq1.true (sym c.begins_with.ensures ∙ h),
  λ e. c.begins_with.ensures ∙ ap (begins_with (codes "end")) e,
)
