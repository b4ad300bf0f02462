use Rattle.std.proofs.Common.{ap, arith}
use Rattle.rv_asm.specs.Assembly.{total}
use Rattle.rv_codegen.proofs.Emitting.{call-short, kept-short, mark-short}
use Rattle.rv_codegen.proofs.fetches.append_fetches.Goals as goal

pub returns-clause-short : goal.returns-clause-short
returns-clause-short c =
    omega (
      arith,
      call-short c.args.asm.now c.address.new.self c.jump.new.self c.place.new.self _ _ c.in_ok-address.ensures.ok c.in_ok-jump.ensures.ok c.place.ensures,
      kept-short c.place.new.self c.append_kept.new.asm c.out_at.result.now c.in_ok-append_kept.ensures.items,
      mark-short c.append_kept.new.asm c.place-2.new.self _ c.place-2.ensures,
    )
