use Rattle.std.proofs.Common.{arith}
use Rattle.meta_lex.proofs.Counting.{token_count}
use Rattle.acg_driver.proofs.DescriptionSizes.{items_small}
use Rattle.acg_driver.proofs.descriptions.read_description.Goals as goal

pub read-requires : goal.read-requires
read-requires c =
    let count = token_count c.args.bytes.now c.in-Ok.tokens c.in-Ok.ensures.tokens in
    omega (arith, c.if-bytes.false, count)

pub check-requires-clause-few : goal.check-requires-clause-few
check-requires-clause-few c =
    let small = items_small c.args.bytes.now c.in-Ok.tokens c.in-Ok-read.items (omega (arith, c.if-bytes.false)) c.in-Ok.ensures.tokens c.in-Ok-read.ensures.items in
    small.items_few

pub check-requires-clause-numbered : goal.check-requires-clause-numbered
check-requires-clause-numbered c =
    let small = items_small c.args.bytes.now c.in-Ok.tokens c.in-Ok-read.items (omega (arith, c.if-bytes.false)) c.in-Ok.ensures.tokens c.in-Ok-read.ensures.items in
    small.productions_few

pub check-requires-clause-productions : goal.check-requires-clause-productions
check-requires-clause-productions c =
    let small = items_small c.args.bytes.now c.in-Ok.tokens c.in-Ok-read.items (omega (arith, c.if-bytes.false)) c.in-Ok.ensures.tokens c.in-Ok-read.ensures.items in
    small.both.0

pub check-requires-clause-rules : goal.check-requires-clause-rules
check-requires-clause-rules c =
    let small = items_small c.args.bytes.now c.in-Ok.tokens c.in-Ok-read.items (omega (arith, c.if-bytes.false)) c.in-Ok.ensures.tokens c.in-Ok-read.ensures.items in
    small.both.1
