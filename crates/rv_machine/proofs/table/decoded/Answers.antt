use Rattle.std.proofs.Common.{◌≡◌, ◌+◌, ◌*◌, ◌^◌, ◌≤◌, ◌∷◌, [], ◌++◌, length, length-append, rules, arith}
use Rattle.rv_machine.proofs.TableLaws.{table-push}
use Rattle.rv_machine.proofs.table.decoded.Goals as goal

pub loop-k-preserved : goal.loop-k-preserved
loop-k-preserved c =
    let before = c.loop-k.invariant in
    let items : c.push.new.self.items ≡ c.loop-k.code.items ++ c.in-Some.entry ∷ [] = search rules in
    let address = c.code_place-address.result.0 in
    let low : address + 4 * (length c.loop-k.code.items + 1) ≤ 2 ^ 64 =
    omega (arith, before.count, c.loop-k-test.true, c.if-address-ge4294967296.false, c.if-words-gt-MOST.false)
    in
    rw items
    (record {
      right = table-push c.args.blocks.now address c.loop-k.code.items c.in-Some.entry before.right low (rw before.count c.in-Some.ensures);
      count = omega (arith, length-append c.loop-k.code.items (c.in-Some.entry ∷ []), before.count);
    })
