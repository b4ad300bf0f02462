use Rattle.std.proofs.Common.{Bool, List, subst, sym, ◌≡◌}
use Rattle.std.specs.Prelude.{IsTrue, ◌↔◌}
use Rattle.std.proofs.lemmas.Result.{IfOk-weaker}
use Rattle.action_terms.specs.Meaning.{action_of}
use Rattle.sort_rules.specs.Admissible.{Holds}
use Rattle.sort_rules.specs.MarkedRows.{marked_table}
use Rattle.sort_rules.specs.Rows.{unmarked}
use Rattle.sort_rules.specs.Tables.{Entry}
use Rattle.sort_rules.specs.Tests.{holds}
use Rattle.sort_rules.specs.declared.rows.MarkedRow.{MarkedRow}
use Rattle.sort_rules.proofs.HoldLaws.{holds-tell}
use Rattle.sort_rules.proofs.holding.node_holds.Goals as goal

pub returns : goal.returns
returns c =
    let a = action_of c.args.graph.now in
    let u = unmarked c.args.table.now in
    let t = marked_table c.as_slice.result.now in
    let k = c.args.node in
    let same : (x : Entry) → t x ≡ u x = subst (λ (rows : List MarkedRow). (x : Entry) → marked_table rows x ≡ u x) (sym c.as_slice.ensures.value) c.in_ok-rows.ensures.rows in
    record { holds = IfOk-weaker c.holds_at.result (λ (b : Bool). b ≡ holds a t k) (λ (b : Bool). IsTrue b ↔ Holds a u k) (λ b. holds-tell a t u k b same) c.holds_at.ensures }
