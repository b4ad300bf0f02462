-- A mark, units that are taken, and instructions behind them are the entry. Behind it, the next label is to be placed.
use Rattle.std.proofs.Common.{◌++◌, map, refl}
use Rattle.std.proofs.lemmas.Result.{on_ok_weaker}
use Rattle.rv_asm.specs.declared.item.Item.TheVariants.{Plain}
use Rattle.rv_prelude.specs.Pieces.{commit, go_back, make_cell, take_items}
use Rattle.rv_prelude.proofs.Fresh.{entry-fresh_ok, three-appended}
use Rattle.rv_prelude.proofs.returning.append_allocate.Goals as goal

pub returns-clause-items : goal.returns-clause-items
returns-clause-items c =
    on_ok_weaker c.append_return.result
    (λ e. three-appended c.args.asm.now c.place.new.self c.take_units.new.asm c.append_make_cell.new.asm c.append_return.new.asm c.args.entries.now.allocate (take_items 1 c.args.entries.now.full) make_cell (commit ++ go_back) c.place.ensures c.in_ok-take_units.ensures.ok c.in_ok-append_make_cell.ensures e)
    c.append_return.ensures

pub returns-clause-fresh : goal.returns-clause-fresh
returns-clause-fresh c =
    entry-fresh_ok c.append_return.result c.args.entries.now.allocate c.args.asm.now c.append_return.new.asm (take_items 1 c.args.entries.now.full ++ map Plain (make_cell ++ (commit ++ go_back))) (λ l. refl) c.requires.fresh (returns-clause-items c)
