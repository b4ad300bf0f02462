-- What was appended is the constant's piece, which loads it.
use Rattle.std.proofs.Common.{◌≡◌, OnOk, rules, arith}
use Rattle.std.proofs.lemmas.Grind.{common_steps}
use Rattle.rv_asm.specs.Pieces.{appended, load_constant}
use Rattle.rv_asm.proofs.PieceLeads.{loads-ok}
use Rattle.rv_asm.proofs.pieces.load_constant.Goals as goal

pub returns-then-value-lt2048-clause-loads : goal.returns-then-value-lt2048-clause-loads
returns-then-value-lt2048-clause-loads c =
    let ok : OnOk c.add.result (c.add.new.asm ≡ appended c.args.asm.now (load_constant c.args.rd c.args.value)) = first_of (search rules, grind (arith, common_steps)) in
    loads-ok c.add.result c.args.asm.now c.add.new.asm c.args.rd c.args.value (omega arith) ok

pub returns-then-value-clause-loads : goal.returns-then-value-clause-loads
returns-then-value-clause-loads c =
    let ok : OnOk c.add-then-value.result (c.add-then-value.new.asm ≡ appended c.args.asm.now (load_constant c.args.rd c.args.value)) = first_of (search rules, grind (arith, common_steps)) in
    loads-ok c.add-then-value.result c.args.asm.now c.add-then-value.new.asm c.args.rd c.args.value (omega arith) ok

pub returns-else-value-clause-loads : goal.returns-else-value-clause-loads
returns-else-value-clause-loads c =
    let ok : OnOk c.parts_into.result (c.parts_into.new.asm ≡ appended c.args.asm.now (load_constant c.args.rd c.args.value)) = first_of (search rules, grind (arith, common_steps)) in
    loads-ok c.parts_into.result c.args.asm.now c.parts_into.new.asm c.args.rd c.args.value (omega arith) ok
