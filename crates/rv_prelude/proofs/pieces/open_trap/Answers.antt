-- A trap is opened.
use Rattle.std.proofs.Common.{◌≡◌, OnOk, arith, rules}
use Rattle.std.proofs.lemmas.Grind.{common_steps}
use Rattle.rv_prelude.specs.Items.{extended}
use Rattle.rv_prelude.specs.Pieces.{open_trap_items}
use Rattle.rv_prelude.proofs.PieceFacts.{opens-trap_ok, open_trap-none, open_trap-short}
use Rattle.rv_prelude.proofs.Fresh.{placed-ok, short-ok}
use Rattle.rv_prelude.proofs.pieces.open_trap.Goals as goal

pub returns-clause-opens : goal.returns-clause-opens
returns-clause-opens c =
    let ok : OnOk c.append_head_trap.result (c.append_head_trap.new.asm ≡ extended c.args.asm.now (open_trap_items c.args.keep c.args.handler)) = first_of (search rules, grind (arith, common_steps)) in
    opens-trap_ok c.append_head_trap.result c.args.asm.now c.append_head_trap.new.asm c.args.keep c.requires.keep c.args.handler ok

pub returns-clause-short : goal.returns-clause-short
returns-clause-short c =
    let ok : OnOk c.append_head_trap.result (c.append_head_trap.new.asm ≡ extended c.args.asm.now (open_trap_items c.args.keep c.args.handler)) = first_of (search rules, grind (arith, common_steps)) in
    short-ok c.append_head_trap.result c.args.asm.now c.append_head_trap.new.asm (open_trap_items c.args.keep c.args.handler) 21 (open_trap-short c.args.keep c.args.handler) ok

pub returns-clause-placed : goal.returns-clause-placed
returns-clause-placed c =
    let ok : OnOk c.append_head_trap.result (c.append_head_trap.new.asm ≡ extended c.args.asm.now (open_trap_items c.args.keep c.args.handler)) = first_of (search rules, grind (arith, common_steps)) in
    placed-ok c.append_head_trap.result c.args.asm.now c.append_head_trap.new.asm (open_trap_items c.args.keep c.args.handler) (open_trap-none c.args.keep c.args.handler) ok
