-- Units are taken.
use Rattle.std.proofs.Common.{◌≡◌, OnOk, arith, rules}
use Rattle.std.proofs.lemmas.Grind.{common_steps}
use Rattle.rv_prelude.specs.Items.{extended}
use Rattle.rv_prelude.specs.Pieces.{take_items}
use Rattle.rv_prelude.proofs.PieceFacts.{takes-units_ok, passes-units_ok, take-none, take-short}
use Rattle.rv_prelude.proofs.Fresh.{placed-ok, short-ok}
use Rattle.rv_prelude.proofs.pieces.take_units.Goals as goal

pub returns-clause-takes : goal.returns-clause-takes
returns-clause-takes c =
    let ok : OnOk c.store.result (c.store.new.asm ≡ extended c.args.asm.now (take_items c.args.n c.args.full)) = first_of (search rules, grind (arith, common_steps)) in
    takes-units_ok c.store.result c.args.asm.now c.store.new.asm c.args.n c.args.full c.requires.few ok

pub returns-clause-passes : goal.returns-clause-passes
returns-clause-passes c =
    let ok : OnOk c.store.result (c.store.new.asm ≡ extended c.args.asm.now (take_items c.args.n c.args.full)) = first_of (search rules, grind (arith, common_steps)) in
    passes-units_ok c.store.result c.args.asm.now c.store.new.asm c.args.n c.args.full c.requires.few ok

pub returns-clause-short : goal.returns-clause-short
returns-clause-short c =
    let ok : OnOk c.store.result (c.store.new.asm ≡ extended c.args.asm.now (take_items c.args.n c.args.full)) = first_of (search rules, grind (arith, common_steps)) in
    short-ok c.store.result c.args.asm.now c.store.new.asm (take_items c.args.n c.args.full) 11 (take-short c.args.n c.args.full) ok

pub returns-clause-placed : goal.returns-clause-placed
returns-clause-placed c =
    let ok : OnOk c.store.result (c.store.new.asm ≡ extended c.args.asm.now (take_items c.args.n c.args.full)) = first_of (search rules, grind (arith, common_steps)) in
    placed-ok c.store.result c.args.asm.now c.store.new.asm (take_items c.args.n c.args.full) (take-none c.args.n c.args.full) ok
