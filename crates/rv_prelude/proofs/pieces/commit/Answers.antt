-- Three instructions commit.
use Rattle.std.proofs.Common.{◌≡◌, OnOk, map, arith, rules}
use Rattle.std.proofs.lemmas.Grind.{common_steps}
use Rattle.rv_asm.specs.Pieces.{appended}
use Rattle.rv_asm.specs.declared.item.Item.TheVariants.{Plain}
use Rattle.rv_prelude.specs.Pieces.{commit}
use Rattle.rv_prelude.proofs.PieceFacts.{commits-ok}
use Rattle.rv_prelude.proofs.Fresh.{placed-ok, short-ok, plain-none}
use Rattle.rv_prelude.proofs.pieces.commit.Goals as goal

pub returns-clause-commits : goal.returns-clause-commits
returns-clause-commits c =
    let ok : OnOk c.store-2.result (c.store-2.new.asm ≡ appended c.args.asm.now (commit)) = first_of (search rules, grind (arith, common_steps)) in
    commits-ok c.store-2.result c.args.asm.now c.store-2.new.asm ok

pub returns-clause-short : goal.returns-clause-short
returns-clause-short c =
    let ok : OnOk c.store-2.result (c.store-2.new.asm ≡ appended c.args.asm.now (commit)) = first_of (search rules, grind (arith, common_steps)) in
    short-ok c.store-2.result c.args.asm.now c.store-2.new.asm (map Plain commit) 3 (omega arith) ok

pub returns-clause-placed : goal.returns-clause-placed
returns-clause-placed c =
    let ok : OnOk c.store-2.result (c.store-2.new.asm ≡ appended c.args.asm.now (commit)) = first_of (search rules, grind (arith, common_steps)) in
    placed-ok c.store-2.result c.args.asm.now c.store-2.new.asm (map Plain commit) (plain-none commit) ok
