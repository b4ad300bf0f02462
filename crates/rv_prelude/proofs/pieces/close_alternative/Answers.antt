-- An alternative is closed.
use Rattle.std.proofs.Common.{◌≡◌, OnOk, map, arith, rules}
use Rattle.std.proofs.lemmas.Grind.{common_steps}
use Rattle.rv_asm.specs.Pieces.{appended}
use Rattle.rv_asm.specs.declared.item.Item.TheVariants.{Plain}
use Rattle.rv_prelude.specs.Pieces.{close_alternative}
use Rattle.rv_prelude.proofs.PieceFacts.{closes-alternative_ok, leaves-alternative_ok, close_alternative-short}
use Rattle.rv_prelude.proofs.Fresh.{placed-ok, short-ok, plain-none}
use Rattle.rv_prelude.proofs.pieces.close_alternative.Goals as goal

pub returns-clause-closes : goal.returns-clause-closes
returns-clause-closes c =
    let ok : OnOk c.store.result (c.store.new.asm ≡ appended c.args.asm.now (close_alternative c.args.keep)) = first_of (search rules, grind (arith, common_steps)) in
    closes-alternative_ok c.store.result c.args.asm.now c.store.new.asm c.args.keep c.requires ok

pub returns-clause-leaves : goal.returns-clause-leaves
returns-clause-leaves c =
    let ok : OnOk c.store.result (c.store.new.asm ≡ appended c.args.asm.now (close_alternative c.args.keep)) = first_of (search rules, grind (arith, common_steps)) in
    leaves-alternative_ok c.store.result c.args.asm.now c.store.new.asm c.args.keep c.requires ok

pub returns-clause-short : goal.returns-clause-short
returns-clause-short c =
    let ok : OnOk c.store.result (c.store.new.asm ≡ appended c.args.asm.now (close_alternative c.args.keep)) = first_of (search rules, grind (arith, common_steps)) in
    short-ok c.store.result c.args.asm.now c.store.new.asm (map Plain (close_alternative c.args.keep)) 13 (close_alternative-short c.args.keep) ok

pub returns-clause-placed : goal.returns-clause-placed
returns-clause-placed c =
    let ok : OnOk c.store.result (c.store.new.asm ≡ appended c.args.asm.now (close_alternative c.args.keep)) = first_of (search rules, grind (arith, common_steps)) in
    placed-ok c.store.result c.args.asm.now c.store.new.asm (map Plain (close_alternative c.args.keep)) (plain-none (close_alternative c.args.keep)) ok
