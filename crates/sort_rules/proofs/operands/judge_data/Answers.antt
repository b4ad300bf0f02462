use Rattle.std.proofs.Common.{arith, length, ◌<◌, ◌≤◌}
use Rattle.sort_rules.specs.MarkedRows.{contents_in}
use Rattle.sort_rules.specs.Judgements.{misfit_unless}
use Rattle.sort_rules.specs.Views.{marked_binds_of, marked_tuple_of}
use Rattle.sort_rules.proofs.ItemsJudged.{closures-more, value-more, wrong-more}
use Rattle.sort_rules.proofs.operands.judge_data.Goals as goal

pub loop-i-preserved : goal.loop-i-preserved
loop-i-preserved c =
    let ls = c.args.graph.now.yielders in
    let numbers = c.args.numbers.now in
    let i = c.loop-i.i in
    let context = c.args.context.now in
    let contents = contents_in context.rows.now in
    let g = marked_tuple_of context.g in
    let h = marked_binds_of context.h in
    let inv = c.loop-i.invariant in
    let item = c.in_ok-item.ensures in
    let some : 0 < c.loop-i.i = omega (arith, c.loop-i-test.true) in
    let within : c.loop-i.i ≤ length c.args.numbers.now = omega (arith, c.loop-i.auto.i) in
    record {
      value = value-more ls numbers i 0 some within contents g h (marked_tuple_of c.in_ok-item.item.value) (marked_tuple_of c.loop-i.value) (marked_tuple_of c.in_ok-value.value) item.value inv.value c.in_ok-value.ensures;
      wrong = wrong-more ls numbers i 0 some within contents g h (misfit_unless c.in_ok-item.item.fits) (misfit_unless c.loop-i.fits) (misfit_unless c.both_fit-fits.result) item.wrong inv.wrong c.both_fit-fits.ensures;
      closures = closures-more ls numbers i 0 some within c.args.closures.now.items c.loop-i.closures.items c.judge_item.new.closures.items inv.closures item.closures;
    }
