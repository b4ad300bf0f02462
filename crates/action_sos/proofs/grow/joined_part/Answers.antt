use Rattle.std.proofs.Common.{sym, ◌∙◌}
use Rattle.action_sos.proofs.Joining.{joined-is, beside-one, other-counted}
use Rattle.action_sos.proofs.grow.joined_part.Goals as goal

pub beside-requires-clause-inner_counted : goal.beside-requires-clause-inner_counted
beside-requires-clause-inner_counted c = other-counted c.args.outer.now c.in-Some.other c.requires (sym c.other_part.ensures ∙ c.in-Some.is)

pub returns : goal.returns
returns c = record {
  part = λ y e.
      joined-is _ c.args.outer.now c.in-Parts.node c.args.end c.in_ok-joined-in-Some.joined c.committed-part.result c.in-Some.other y c.in-Parts.is c.committed-part.ensures.part
      (beside-one c.args.outer.now c.in-Some.other y (sym c.other_part.ensures ∙ c.in-Some.is) e) c.in_ok-joined-in-Some.ensures.part;
  counted = c.in_ok-joined-in-Some.ensures.counted;
}
