-- A constant or a jump; the other steps are pieces, which say how long they are.
use Rattle.std.proofs.Common.{◌%◌, map, arith, refl}
use Rattle.rv_asm.specs.Pieces.{load_constant}
use Rattle.rv_asm.specs.declared.item.Item.TheVariants.{Plain}
use Rattle.rv_prelude.proofs.Fresh.{placed-ok, plain-none, short-ok}
use Rattle.rv_prelude_tests.proofs.Pieces.{constant-short}
use Rattle.rv_prelude_tests.proofs.programs.append_step.Goals as goal

pub returns-in-Set-clause-short : goal.returns-in-Set-clause-short
returns-in-Set-clause-short c =
    let few = constant-short (c.in-Set.rd % 32) c.in-Set.number in
    short-ok c.load_constant.result c.args.asm.now c.load_constant.new.asm (map Plain (load_constant (c.in-Set.rd % 32) c.in-Set.number)) 21 (omega (arith, few)) c.load_constant.ensures.ok

pub returns-in-Set-clause-placed : goal.returns-in-Set-clause-placed
returns-in-Set-clause-placed c =
    placed-ok c.load_constant.result c.args.asm.now c.load_constant.new.asm (map Plain (load_constant (c.in-Set.rd % 32) c.in-Set.number)) (plain-none (load_constant (c.in-Set.rd % 32) c.in-Set.number)) c.load_constant.ensures.ok

pub returns-in-Go-clause-short : goal.returns-in-Go-clause-short
returns-in-Go-clause-short c = short-ok c.jump.result c.args.asm.now c.jump.new.self _ 21 (omega arith) c.jump.ensures.ok

pub returns-in-Go-clause-placed : goal.returns-in-Go-clause-placed
returns-in-Go-clause-placed c = placed-ok c.jump.result c.args.asm.now c.jump.new.self _ (λ l. refl) c.jump.ensures.ok
