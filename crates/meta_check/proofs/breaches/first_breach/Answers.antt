use Rattle.std.proofs.Common.{map, arith}
use Rattle.meta_terms.specs.PlainItems.{plain_item}
use Rattle.meta_check.proofs.RulesBelow.{numbered_finds}
use Rattle.meta_check.proofs.breaches.first_breach.Goals as goal

pub returns : goal.returns
returns c =
    let all = map plain_item c.args.items.now in
    let below8 = rw c.in_default-2.is at c.in_ok-found-2.ensures in
    numbered_finds all 9 c.misplaced_start.result c.numbered.result (omega arith) below8 c.misplaced_start.ensures c.numbered.ensures
