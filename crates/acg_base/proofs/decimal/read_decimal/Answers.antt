use Rattle.std.proofs.Common.{◌≢◌, get_or, sym, ap, ◌∙◌, rules}
use Rattle.acg_base.specs.Decimals.{spelled_i64}
use Rattle.acg_base.proofs.ReadingLemmas.{spelled_i64-from_parse, spelled_i64-no_text, no_plus}
use Rattle.acg_base.proofs.decimal.read_decimal.Goals as goal
use Rattle.acg_base.proofs.decimal.read_decimal.Goals.{else-not-is_empty-via-then-not-is_empty+else-bytes-eq43, else-not-is_empty-via-else-not-is_empty}

pub returns-in-Ok : goal.returns-in-Ok
returns-in-Ok c =
    let plain : get_or c.args.bytes.now 0 0 ≢ 43 =
    elim c.else-not-is_empty.branch [
      | else-not-is_empty-via-then-not-is_empty+else-bytes-eq43 w ↦ w.if-bytes-eq43.false
      | else-not-is_empty-via-else-not-is_empty w ↦ no_plus c.args.bytes.now (search rules)
    ] in
    c.ok.ensures.value ∙ spelled_i64-from_parse c.in-Ok.text.now c.parse.result c.parse.ensures.value.0 (rw c.in-Ok.ensures.cases.0 plain) ∙ ap spelled_i64 c.in-Ok.ensures.cases.0

pub returns-in-Err : goal.returns-in-Err
returns-in-Err c = sym (spelled_i64-no_text c.args.bytes.now c.in-Err.ensures.cases.0)
