-- The instructions so far were appended.
use Rattle.std.proofs.Common.{◌≡◌, take, map}
use Rattle.rv_asm.specs.declared.item.Item.TheVariants.{Plain}
use Rattle.rv_yield.specs.Fronts.{extended}
use Rattle.rv_yield.proofs.emitting.append_all.Given as goal

abbrev pub invariant-loop-inst : goal.invariant-loop-inst
invariant-loop-inst l = l.asm ≡ extended l.initial.asm (map Plain (take l.inst-index l.insts))
