use Rattle.std.proofs.Common.{[], arith, get_or, length, take, ◌<◌, ◌∷◌}
use Rattle.std.proofs.lemmas.List.{take_more}
use Rattle.sort_rules.specs.Asked.{any_cell}
use Rattle.sort_rules.specs.DemandViews.{demands_of}
use Rattle.sort_rules.specs.Views.{value_part}
use Rattle.sort_rules.proofs.ValueMembers.{stores-more}
use Rattle.sort_rules.proofs.members.ask_stored_in.Goals as goal

pub loop-i-preserved : goal.loop-i-preserved
loop-i-preserved c =
    let nodes = c.args.nodes.now in
    let i = c.loop-i.i in
    let less : c.loop-i.i < length c.args.nodes.now = omega (arith, c.loop-i-test.true) in
    stores-more (value_part c.args.stored) (any_cell c.args.cells.now) (demands_of c.args.out.now.items) (demands_of c.loop-i.out.items) (demands_of c.ask_stored.new.out.items) (take i nodes) (get_or nodes i 0 ∷ []) _
    (take_more nodes i 0 less) c.loop-i.invariant c.in_ok-ask_stored.ensures
