use Rattle.std.proofs.Common.{◌≡◌, ◌++◌, drop, map}
use Rattle.rv_asm.specs.declared.item.Item.TheVariants.{Plain}
use Rattle.rv_codegen.specs.GivenItems.{moves_items}
use Rattle.rv_codegen.proofs.data.append_moves.Given as goal

-- with what is left all words are moved
abbrev pub invariant-loop-i : goal.invariant-loop-i
invariant-loop-i l = record {
  items : l.asm.items ++ map Plain (moves_items (drop l.i l.from) (drop l.i l.to)) ≡ l.fn.asm.items ++ map Plain (moves_items l.from l.to);
  labels : l.asm.labels ≡ l.fn.asm.labels;
}
