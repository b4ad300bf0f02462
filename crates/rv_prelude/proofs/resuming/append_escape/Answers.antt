-- Behind the entry, the next label is to be placed.
use Rattle.std.proofs.Common.{◌≡◌, ◌∷◌, OnOk, map, refl, arith, rules, pos}
use Rattle.std.proofs.lemmas.Grind.{common_steps}
use Rattle.rv_asm.specs.declared.item.Item.TheVariants.{Plain, Mark, BranchTo}
use Rattle.rv_prelude.specs.Items.{extended}
use Rattle.rv_prelude.proofs.Fresh.{entry-fresh_ok}
use Rattle.rv_code.specs.declared.instruction.Inst.TheVariants.{Load}
use Rattle.rv_code.specs.declared.instruction.LoadOp.TheVariants.{Ld}
use Rattle.rv_code.specs.declared.instruction.BranchOp.TheVariants.{Beq}
use Rattle.rv_prelude.specs.Pieces.{restore_trap}
use Rattle.rv_prelude.proofs.resuming.append_escape.Goals as goal

pub returns-clause-fresh : goal.returns-clause-fresh
returns-clause-fresh c =
    let ok : OnOk c.append_restore_trap.result (c.append_restore_trap.new.asm ≡ extended c.args.asm.now (Mark c.args.entries.now.escape ∷ (Plain (Load Ld 5 3 (pos 16)) ∷ BranchTo Beq 5 0 c.args.entries.now.escaped ∷ map Plain restore_trap))) = first_of (search rules, grind (arith, common_steps)) in
    entry-fresh_ok c.append_restore_trap.result c.args.entries.now.escape c.args.asm.now c.append_restore_trap.new.asm (Plain (Load Ld 5 3 (pos 16)) ∷ BranchTo Beq 5 0 c.args.entries.now.escaped ∷ map Plain restore_trap) (λ l. refl) c.requires.fresh ok
