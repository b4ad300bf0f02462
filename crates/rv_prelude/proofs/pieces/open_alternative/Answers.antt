-- An alternative is opened.
use Rattle.std.proofs.Common.{◌≡◌, OnOk, arith, rules}
use Rattle.std.proofs.lemmas.Grind.{common_steps}
use Rattle.rv_prelude.specs.Items.{extended}
use Rattle.rv_prelude.specs.Pieces.{open_alternative_items}
use Rattle.rv_prelude.proofs.PieceFacts.{opens-alternative_ok, open_alternative-none, open_alternative-short}
use Rattle.rv_prelude.proofs.Fresh.{placed-ok, short-ok}
use Rattle.rv_prelude.proofs.pieces.open_alternative.Goals as goal

pub returns-clause-opens : goal.returns-clause-opens
returns-clause-opens c =
    let ok : OnOk c.store.result (c.store.new.asm ≡ extended c.args.asm.now (open_alternative_items c.args.keep c.args.arm)) = first_of (search rules, grind (arith, common_steps)) in
    opens-alternative_ok c.store.result c.args.asm.now c.store.new.asm c.args.keep c.requires.keep c.args.arm ok

pub returns-clause-short : goal.returns-clause-short
returns-clause-short c =
    let ok : OnOk c.store.result (c.store.new.asm ≡ extended c.args.asm.now (open_alternative_items c.args.keep c.args.arm)) = first_of (search rules, grind (arith, common_steps)) in
    short-ok c.store.result c.args.asm.now c.store.new.asm (open_alternative_items c.args.keep c.args.arm) 20 (open_alternative-short c.args.keep c.args.arm) ok

pub returns-clause-placed : goal.returns-clause-placed
returns-clause-placed c =
    let ok : OnOk c.store.result (c.store.new.asm ≡ extended c.args.asm.now (open_alternative_items c.args.keep c.args.arm)) = first_of (search rules, grind (arith, common_steps)) in
    placed-ok c.store.result c.args.asm.now c.store.new.asm (open_alternative_items c.args.keep c.args.arm) (open_alternative-none c.args.keep c.args.arm) ok
