-- Behind the entry, the next label is to be placed.
use Rattle.std.proofs.Common.{◌≡◌, ◌∷◌, OnOk, map, arith, rules}
use Rattle.std.proofs.lemmas.Grind.{common_steps}
use Rattle.rv_asm.specs.declared.item.Item.TheVariants.{Plain, Mark}
use Rattle.rv_prelude.specs.Items.{extended}
use Rattle.rv_prelude.proofs.Fresh.{entry-fresh_ok, plain-none}
use Rattle.rv_asm.specs.Pieces.{exit_with}
use Rattle.rv_prelude.proofs.resuming.append_exit.Goals as goal

pub returns-clause-fresh : goal.returns-clause-fresh
returns-clause-fresh c =
    let ok : OnOk c.exit_with.result (c.exit_with.new.asm ≡ extended c.args.asm.now (Mark c.args.label ∷ (map Plain (exit_with c.args.code)))) = first_of (search rules, grind (arith, common_steps)) in
    entry-fresh_ok c.exit_with.result c.args.label c.args.asm.now c.exit_with.new.asm (map Plain (exit_with c.args.code)) (plain-none (exit_with c.args.code)) c.requires.fresh ok
