-- Behind the entry, the next label is to be placed.
use Rattle.std.proofs.Common.{◌≡◌, ◌++◌, ◌∷◌, OnOk, map, refl, arith, rules}
use Rattle.std.proofs.lemmas.Grind.{common_steps}
use Rattle.rv_asm.specs.declared.item.Item.TheVariants.{Plain, Mark, BranchTo}
use Rattle.rv_prelude.specs.Items.{extended}
use Rattle.rv_prelude.proofs.Fresh.{entry-fresh_ok}
use Rattle.rv_code.specs.declared.instruction.BranchOp.TheVariants.{Bne}
use Rattle.rv_prelude.specs.Pieces.{commit, go_back, receive_bytes, load_message}
use Rattle.rv_prelude.proofs.returning.append_receive.Goals as goal

pub returns-clause-fresh : goal.returns-clause-fresh
returns-clause-fresh c =
    let ok : OnOk c.append_return.result (c.append_return.new.asm ≡ extended c.args.asm.now (Mark c.args.entries.now.receive ∷ (map Plain receive_bytes ++ (BranchTo Bne 10 5 c.args.entries.now.fail ∷ map Plain (load_message ++ (commit ++ go_back)))))) = first_of (search rules, grind (arith, common_steps)) in
    entry-fresh_ok c.append_return.result c.args.entries.now.receive c.args.asm.now c.append_return.new.asm (map Plain receive_bytes ++ (BranchTo Bne 10 5 c.args.entries.now.fail ∷ map Plain (load_message ++ (commit ++ go_back)))) (λ l. refl) c.requires.fresh ok
