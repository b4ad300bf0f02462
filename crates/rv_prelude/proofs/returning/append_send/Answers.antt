-- Behind the entry, the next label is to be placed.
use Rattle.std.proofs.Common.{◌≡◌, ◌++◌, ◌∷◌, OnOk, map, arith, rules}
use Rattle.std.proofs.lemmas.Grind.{common_steps}
use Rattle.rv_asm.specs.declared.item.Item.TheVariants.{Plain, Mark}
use Rattle.rv_prelude.specs.Items.{extended}
use Rattle.rv_prelude.proofs.Fresh.{entry-fresh_ok, plain-none}
use Rattle.rv_asm.specs.Pieces.{send_word}
use Rattle.rv_prelude.specs.Pieces.{commit, go_back}
use Rattle.rv_prelude.proofs.returning.append_send.Goals as goal

pub returns-clause-fresh : goal.returns-clause-fresh
returns-clause-fresh c =
    let ok : OnOk c.append_return.result (c.append_return.new.asm ≡ extended c.args.asm.now (Mark c.args.entries.now.send ∷ (map Plain (send_word 10 0 ++ (commit ++ go_back))))) = first_of (search rules, grind (arith, common_steps)) in
    entry-fresh_ok c.append_return.result c.args.entries.now.send c.args.asm.now c.append_return.new.asm (map Plain (send_word 10 0 ++ (commit ++ go_back))) (plain-none (send_word 10 0 ++ (commit ++ go_back))) c.requires.fresh ok
