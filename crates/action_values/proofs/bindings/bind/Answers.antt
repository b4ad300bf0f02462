use Rattle.std.proofs.Common.{◌≡◌, ◌∙◌, ap, [], ◌∷◌, ◌++◌, take, drop, arith}
use Rattle.std.proofs.lemmas.Grind.{common_steps}
use Rattle.action_values.specs.Values.{bindings_of}
use Rattle.action_values.proofs.Laying.{bound_into}
use Rattle.action_values.specs.declared.datum.Binding.{Binding}
use Rattle.action_values.proofs.bindings.bind.Goals as goal

pub returns : goal.returns
returns c =
    let b : Binding = record { token = c.args.token; datum = c.args.datum } in
    let e : c.into_bump_slice.result.now ≡ (take c.gap-end.result.0 c.args.bound.now ++ b ∷ []) ++ drop c.gap-end.result.1 c.args.bound.now = grind (arith, common_steps) in
    ap bindings_of e ∙ bound_into c.args.bound.now b c.gap-end.result.0 c.gap-end.result.1 c.gap-end.ensures.puts
