use Rattle.std.proofs.Common.{◌<◌, length, map, arith}
use Rattle.std.proofs.lemmas.List.{length-map}
use Rattle.meta_lex.proofs.Counting.{token_count}
use Rattle.meta_lex.specs.Tokens.{PlainToken}
use Rattle.meta_reader.proofs.ItemCounts.{description_few}
use Rattle.meta_reader.proofs.Numbering.{description_some}
use Rattle.meta_check_tests.proofs.verdicts.verdict_on.Goals as goal

pub read-requires : goal.read-requires
read-requires c =
    let count = token_count c.args.text.now c.in-Ok.list c.in-Ok.ensures.tokens in
    omega (arith, count, c.if-text-ge4294967295.false)

pub check-requires : goal.check-requires
check-requires c =
    let count = token_count c.args.text.now c.in-Ok.list c.in-Ok.ensures.tokens in
    let size = length-map c.in-Ok.list (λ (t : PlainToken). t.bytes) in
    let texts = map (λ (t : PlainToken). t.bytes) c.in-Ok.list in
    let fits : length texts < 4294967295 = omega (arith, count, size, c.if-text-ge4294967295.false) in
    let few = description_few texts c.in-Ok-read.items c.in-Ok-read.ensures.items fits in
    let some = description_some texts c.in-Ok-read.items c.in-Ok-read.ensures.items in
    record { few = few.0; numbered = few.1; productions = some.0; rules = some.1 }
