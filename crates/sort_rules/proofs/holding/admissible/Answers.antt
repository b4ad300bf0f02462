use Rattle.std.proofs.Common.{Bool, List, length, subst, sym, true, ◌∙◌, ◌≡◌}
use Rattle.std.specs.Prelude.{IsTrue, ◌↔◌}
use Rattle.std.proofs.lemmas.Result.{IfOk-weaker}
use Rattle.action_terms.specs.Meaning.{action_of}
use Rattle.sort_rules.specs.Admissible.{IsAdmissible}
use Rattle.sort_rules.specs.MarkedRows.{marked_table}
use Rattle.sort_rules.specs.Rows.{unmarked}
use Rattle.sort_rules.specs.Tables.{Entry}
use Rattle.sort_rules.specs.Tests.{all_hold, root_is_met}
use Rattle.sort_rules.specs.declared.rows.MarkedRow.{MarkedRow}
use Rattle.sort_rules.proofs.HoldLaws.{admissible-not, admissible-tell}
use Rattle.sort_rules.proofs.holding.admissible.Goals as goal

pub returns-then-not-root_holds : goal.returns-then-not-root_holds
returns-then-not-root_holds c =
    let u = unmarked c.args.table.now in
    let same : (x : Entry) → marked_table c.as_slice.result.now x ≡ u x = subst (λ (rows : List MarkedRow). (x : Entry) → marked_table rows x ≡ u x) (sym c.as_slice.ensures.value) c.in_ok-rows.ensures.rows in
    record { admissible = admissible-not (action_of c.args.graph.now) (marked_table c.as_slice.result.now) c.args.table.now same (sym c.root_holds.ensures ∙ c.if-not-root_holds.true) }

pub returns : goal.returns
returns c =
    let a = action_of c.args.graph.now in
    let u = unmarked c.args.table.now in
    let t = marked_table c.as_slice-2.result.now in
    let same : (x : Entry) → t x ≡ u x = subst (λ (rows : List MarkedRow). (x : Entry) → marked_table rows x ≡ u x) (sym c.as_slice-2.ensures.value) c.in_ok-rows.ensures.rows in
    let root : root_is_met t ≡ true =
    subst (λ (rows : List MarkedRow). root_is_met (marked_table rows) ≡ true) (c.as_slice.ensures.value ∙ sym c.as_slice-2.ensures.value) (sym c.root_holds.ensures ∙ c.if-not-root_holds.false) in
    record {
      admissible = IfOk-weaker c.all_hold.result (λ (b : Bool). b ≡ all_hold a t (length a)) (λ (b : Bool). IsTrue b ↔ IsAdmissible a u) (λ b. admissible-tell a t c.args.table.now b c.in_ok-rows.ensures.table same root) c.all_hold.ensures;
    }
