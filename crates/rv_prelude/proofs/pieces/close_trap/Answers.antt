-- A trap is closed.
use Rattle.std.proofs.Common.{◌≡◌, OnOk, map, arith, rules}
use Rattle.std.proofs.lemmas.Grind.{common_steps}
use Rattle.rv_asm.specs.Pieces.{appended}
use Rattle.rv_asm.specs.declared.item.Item.TheVariants.{Plain}
use Rattle.rv_prelude.specs.Pieces.{close_trap}
use Rattle.rv_prelude.proofs.PieceFacts.{closes-trap_ok, close_trap-short}
use Rattle.rv_prelude.proofs.Fresh.{placed-ok, short-ok, plain-none}
use Rattle.rv_prelude.proofs.pieces.close_trap.Goals as goal

pub returns-clause-closes : goal.returns-clause-closes
returns-clause-closes c =
    let ok : OnOk c.store-2.result (c.store-2.new.asm ≡ appended c.args.asm.now (close_trap c.args.keep)) = first_of (search rules, grind (arith, common_steps)) in
    closes-trap_ok c.store-2.result c.args.asm.now c.store-2.new.asm c.args.keep c.requires ok

pub returns-clause-short : goal.returns-clause-short
returns-clause-short c =
    let ok : OnOk c.store-2.result (c.store-2.new.asm ≡ appended c.args.asm.now (close_trap c.args.keep)) = first_of (search rules, grind (arith, common_steps)) in
    short-ok c.store-2.result c.args.asm.now c.store-2.new.asm (map Plain (close_trap c.args.keep)) 15 (close_trap-short c.args.keep) ok

pub returns-clause-placed : goal.returns-clause-placed
returns-clause-placed c =
    let ok : OnOk c.store-2.result (c.store-2.new.asm ≡ appended c.args.asm.now (close_trap c.args.keep)) = first_of (search rules, grind (arith, common_steps)) in
    placed-ok c.store-2.result c.args.asm.now c.store-2.new.asm (map Plain (close_trap c.args.keep)) (plain-none (close_trap c.args.keep)) ok
