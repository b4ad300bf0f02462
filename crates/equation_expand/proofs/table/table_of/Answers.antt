use Rattle.std.proofs.Common.{◌∙◌, Some, None, ap}
use Rattle.std.specs.Map.{lookup}
use Rattle.meta_check.proofs.Filling.{none_of}
use Rattle.equation_expand.specs.Sources.{is_key}
use Rattle.equation_expand.proofs.EquationTable.{alternative-is, equation-noted, equation-passed, key-known, key-new}
use Rattle.equation_expand.proofs.table.table_of.Goals as goal
use Rattle.equation_expand.proofs.table.table_of.Goals.{in-Some+then-not-contains_key+in_ok-insert, in-Some+else-not-contains_key, in_default}

pub loop-number-preserved : goal.loop-number-preserved
loop-number-preserved c d same numbers =
    let list = c.args.equations.now in
    let i = c.loop-number.number in
    let own = c.index-equations-number.result in
    let old = c.loop-number.table.entries in
    let new = c.match-alternatives-number.table.entries in
    let lt = c.loop-number-test.true in
    let there = c.index-equations-number.is in
    let before = c.loop-number.invariant d same numbers in
    elim c.match-alternatives-number.branch [
      | in-Some+then-not-contains_key+in_ok-insert w ↦
          equation-noted d list i own old new w.in-Some.alternative lt there (alternative-is d list c.args.alternatives.now i own _ (Some w.in-Some.alternative) lt there same numbers w.in-Some.is) before
          (λ f b. ap (λ m. lookup (is_key f b) m.entries) w.table-is ∙ ap (lookup (is_key f b)) w.in_ok-insert.ensures.entries
          ∙ key-new old (own.function, w.in-Some.alternative) own f b w.if-not-contains_key.ensures)
      | in-Some+else-not-contains_key w ↦
          equation-noted d list i own old new w.in-Some.alternative lt there (alternative-is d list c.args.alternatives.now i own _ (Some w.in-Some.alternative) lt there same numbers w.in-Some.is) before
          (λ f b. ap (λ m. lookup (is_key f b) m.entries) w.table-is
          ∙ key-known old (own.function, w.in-Some.alternative) own f b w.if-not-contains_key.ensures)
      | in_default w ↦
          let passed = equation-passed d list i own old lt there (alternative-is d list c.args.alternatives.now i own _ None lt there same numbers (none_of _ w.in_default.not-Some)) before in
          λ f b. ap (λ m. Rattle.std.specs.Prelude.option_map Rattle.meta_terms.specs.PlainItems.plain_equation (lookup (is_key f b) m.entries)) w.table-is ∙ passed f b
    ]
