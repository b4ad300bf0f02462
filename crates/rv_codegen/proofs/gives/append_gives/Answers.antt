use Rattle.std.proofs.Common.{ap, arith, ◌∙◌}
use Rattle.rv_asm.specs.Assembly.{is_placed}
use Rattle.action_terms.specs.Forms.{items_at}
use Rattle.rv_codegen.specs.GivenItems.{give_items}
use Rattle.rv_codegen.proofs.Emitting.{piece-keeps, piece-short, piece-unplaced}
use Rattle.rv_codegen.proofs.ItemLengths.{give-short}
use Rattle.rv_codegen.proofs.gives.append_gives.Goals as goal

pub returns-clause-marks : goal.returns-clause-marks
returns-clause-marks c =
    let is = items_at c.args.plan.graph.now.yielders c.args.items.now in
    let given = c.given_at.result.now in
    let out = c.out_at.result.now in
    let short = give-short given out c.args.plan.entries.now.fail is c.given_at.ensures.reached c.out_at.ensures.reached in
    piece-keeps c.args.asm.now c.append_data.new.asm c.place.new.self (give_items given out c.args.plan.entries.now.fail is) _ c.stop.result short c.in_ok-append_data.ensures c.place.ensures c.args.k c.stop.ensures

pub returns-clause-short : goal.returns-clause-short
returns-clause-short c =
    let is = items_at c.args.plan.graph.now.yielders c.args.items.now in
    let given = c.given_at.result.now in
    let out = c.out_at.result.now in
    let short = give-short given out c.args.plan.entries.now.fail is c.given_at.ensures.reached c.out_at.ensures.reached in
    omega (arith, piece-short c.args.asm.now c.append_data.new.asm c.place.new.self (give_items given out c.args.plan.entries.now.fail is) _ c.stop.result short c.in_ok-append_data.ensures c.place.ensures)

pub place-requires-clause-once : goal.place-requires-clause-once
place-requires-clause-once c =
    let is = items_at c.args.plan.graph.now.yielders c.args.items.now in
    let given = c.given_at.result.now in
    let out = c.out_at.result.now in
    let short = give-short given out c.args.plan.entries.now.fail is c.given_at.ensures.reached c.out_at.ensures.reached in
    piece-unplaced c.args.asm.now c.append_data.new.asm (give_items given out c.args.plan.entries.now.fail is) _ c.stop.result short c.in_ok-append_data.ensures (ap (is_placed c.args.asm.now.items) c.stop.ensures ∙ c.requires.stop)
