use Rattle.std.proofs.Common.{List, ap, append_assoc, ◌++◌, ◌∙◌, ◌≡◌}
use Rattle.sort_rules.specs.Demands.{Demand, ends_like, handed}
use Rattle.sort_rules.specs.MarkedRows.{marked_table}
use Rattle.sort_rules.specs.Tables.{BindsIn, DataIn}
use Rattle.sort_rules.proofs.combining.ask_either.Goals as goal

behind : (old mid new xs ys zs : List Demand) → mid ≡ old ++ (xs ++ ys) → new ≡ mid ++ zs → new ≡ old ++ (xs ++ (ys ++ zs))
behind old mid new xs ys zs e f =
    f ∙ ap (λ (ds : List Demand). ds ++ zs) e ∙ append_assoc old (xs ++ ys) zs ∙ ap (λ (ds : List Demand). old ++ ds) (append_assoc xs ys zs)

pub returns : goal.returns
returns c = λ cells bodies.
    let t = marked_table c.args.rows.now in
    let k = c.args.node in
    behind _ _ _ (handed c.args.left (t (DataIn k)) (t (BindsIn k))) (handed c.args.right (t (DataIn k)) (t (BindsIn k))) (ends_like t k c.args.left ++ ends_like t k c.args.right)
    c.in_ok-hand_both.ensures c.in_ok-end_like_both.ensures
