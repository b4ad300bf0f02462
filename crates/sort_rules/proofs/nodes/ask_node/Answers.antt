use Rattle.std.proofs.Common.{List, ap, subst, sym, ℕ, ◌++◌, ◌≡◌}
use Rattle.std.proofs.lemmas.Result.{on_ok_weaker}
use Rattle.action_terms.specs.Actions.{Apply, Both, Branch, Either, Enact, Furthermore, Node, Phases, Simple, Trapping, Unfold, Unfolding}
use Rattle.action_terms.specs.Forms.{chain_viewed, items_at, join_viewed, node_viewed, primitive_viewed, yielder_at}
use Rattle.sort_rules.specs.DemandViews.{demands_of}
use Rattle.sort_rules.specs.Demands.{Demand, node_demands}
use Rattle.sort_rules.specs.MarkedRows.{marked_table}
use Rattle.sort_rules.specs.Reached.{Adds}
use Rattle.sort_rules.specs.Tables.{MarkedTable}
use Rattle.sort_rules.proofs.Reaches.{adds_all}
use Rattle.sort_rules.proofs.nodes.ask_node.Goals as goal

-- the demands of a node are those of its view
of_view : (cells bodies : List ℕ) (t : MarkedTable) (k : ℕ) (n v : Node) (old new : List Demand) → v ≡ n → Adds old (node_demands cells bodies t k n) new → Adds old (node_demands cells bodies t k v) new
of_view cells bodies t k n v old new e h = subst (λ (n : Node). Adds old (node_demands cells bodies t k n) new) (sym e) h

-- those that are asked whatever the cells and the bodies are, all of them
of_view_all : (cells bodies : List ℕ) (t : MarkedTable) (k : ℕ) (n v : Node) (old new : List Demand) → v ≡ n → ((cells bodies : List ℕ) → new ≡ old ++ node_demands cells bodies t k n) → Adds old (node_demands cells bodies t k v) new
of_view_all cells bodies t k n v old new e h = of_view cells bodies t k n v old new e (adds_all old (node_demands cells bodies t k n) new (h cells bodies))

pub returns-in-Simple : goal.returns-in-Simple
returns-in-Simple c =
    let ls = c.args.graph.now.yielders in
    let site = c.args.site.now in
    let cells = site.cells.now in
    let bodies = site.bodies.now in
    on_ok_weaker c.ask_simple.result
    (λ (h : (bodies : List ℕ) → Adds (demands_of c.args.out.now.items) (node_demands c.args.site.now.cells.now bodies (marked_table c.args.site.now.rows.now) c.args.site.now.node (Simple (primitive_viewed c.args.graph.now.yielders c.in-Simple.primitive))) (demands_of c.ask_simple.new.out.items)). of_view cells bodies (marked_table site.rows.now) site.node (Simple (primitive_viewed ls c.in-Simple.primitive)) (node_viewed ls c.args.view) (demands_of c.args.out.now.items) (demands_of c.ask_simple.new.out.items) (ap (node_viewed ls) c.in-Simple.is) (h bodies))
    c.ask_simple.ensures

pub returns-in-Enact : goal.returns-in-Enact
returns-in-Enact c =
    let ls = c.args.graph.now.yielders in
    let site = c.args.site.now in
    let cells = site.cells.now in
    let bodies = site.bodies.now in
    on_ok_weaker c.ask_enact.result
    (λ (h : (cells : List ℕ) → Adds (demands_of c.args.out.now.items) (node_demands cells c.args.site.now.bodies.now (marked_table c.args.site.now.rows.now) c.args.site.now.node (Enact (yielder_at c.args.graph.now.yielders c.in-Enact.yielder))) (demands_of c.ask_enact.new.out.items)). of_view cells bodies (marked_table site.rows.now) site.node (Enact (yielder_at ls c.in-Enact.yielder)) (node_viewed ls c.args.view) (demands_of c.args.out.now.items) (demands_of c.ask_enact.new.out.items) (ap (node_viewed ls) c.in-Enact.is) (h cells))
    c.ask_enact.ensures

pub returns-in-Apply : goal.returns-in-Apply
returns-in-Apply c =
    let ls = c.args.graph.now.yielders in
    let site = c.args.site.now in
    let cells = site.cells.now in
    let bodies = site.bodies.now in
    on_ok_weaker c.ask_apply.result
    (λ (h : (cells : List ℕ) → Adds (demands_of c.args.out.now.items) (node_demands cells c.args.site.now.bodies.now (marked_table c.args.site.now.rows.now) c.args.site.now.node (Apply (yielder_at c.args.graph.now.yielders c.in-Apply.yielder) (items_at c.args.graph.now.yielders c.in-Apply.items.now))) (demands_of c.ask_apply.new.out.items)). of_view cells bodies (marked_table site.rows.now) site.node (Apply (yielder_at ls c.in-Apply.yielder) (items_at ls c.in-Apply.items.now)) (node_viewed ls c.args.view) (demands_of c.args.out.now.items) (demands_of c.ask_apply.new.out.items) (ap (node_viewed ls) c.in-Apply.is) (h cells))
    c.ask_apply.ensures

pub returns-in-Unfolding : goal.returns-in-Unfolding
returns-in-Unfolding c =
    let ls = c.args.graph.now.yielders in
    let site = c.args.site.now in
    let cells = site.cells.now in
    let bodies = site.bodies.now in
    on_ok_weaker c.ask_unfolding.result
    (of_view_all cells bodies (marked_table site.rows.now) site.node (Unfolding c.in-Unfolding.body) (node_viewed ls c.args.view) (demands_of c.args.out.now.items) (demands_of c.ask_unfolding.new.out.items) (ap (node_viewed ls) c.in-Unfolding.is))
    c.ask_unfolding.ensures

pub returns-in-Unfold : goal.returns-in-Unfold
returns-in-Unfold c =
    let ls = c.args.graph.now.yielders in
    let site = c.args.site.now in
    let cells = site.cells.now in
    let bodies = site.bodies.now in
    on_ok_weaker c.ask_unfold.result
    (λ (h : (cells bodies : List ℕ) → Adds (demands_of c.args.out.now.items) (node_demands cells bodies (marked_table c.args.site.now.rows.now) c.args.site.now.node (Unfold c.in-Unfold.body)) (demands_of c.ask_unfold.new.out.items)). of_view cells bodies (marked_table site.rows.now) site.node (Unfold c.in-Unfold.body) (node_viewed ls c.args.view) (demands_of c.args.out.now.items) (demands_of c.ask_unfold.new.out.items) (ap (node_viewed ls) c.in-Unfold.is) (h cells bodies))
    c.ask_unfold.ensures

pub returns-in-Furthermore : goal.returns-in-Furthermore
returns-in-Furthermore c =
    let ls = c.args.graph.now.yielders in
    let site = c.args.site.now in
    let cells = site.cells.now in
    let bodies = site.bodies.now in
    on_ok_weaker c.ask_furthermore.result
    (of_view_all cells bodies (marked_table site.rows.now) site.node (Furthermore c.in-Furthermore.part) (node_viewed ls c.args.view) (demands_of c.args.out.now.items) (demands_of c.ask_furthermore.new.out.items) (ap (node_viewed ls) c.in-Furthermore.is))
    c.ask_furthermore.ensures

pub returns-in-Both : goal.returns-in-Both
returns-in-Both c =
    let ls = c.args.graph.now.yielders in
    let site = c.args.site.now in
    let cells = site.cells.now in
    let bodies = site.bodies.now in
    on_ok_weaker c.ask_both.result
    (of_view_all cells bodies (marked_table site.rows.now) site.node (Both (join_viewed c.in-Both.join) c.in-Both.left c.in-Both.right) (node_viewed ls c.args.view) (demands_of c.args.out.now.items) (demands_of c.ask_both.new.out.items) (ap (node_viewed ls) c.in-Both.is))
    c.ask_both.ensures

pub returns-in-Phases : goal.returns-in-Phases
returns-in-Phases c =
    let ls = c.args.graph.now.yielders in
    let site = c.args.site.now in
    let cells = site.cells.now in
    let bodies = site.bodies.now in
    on_ok_weaker c.ask_phases.result
    (of_view_all cells bodies (marked_table site.rows.now) site.node (Phases (chain_viewed c.in-Phases.chain) c.in-Phases.left c.in-Phases.right) (node_viewed ls c.args.view) (demands_of c.args.out.now.items) (demands_of c.ask_phases.new.out.items) (ap (node_viewed ls) c.in-Phases.is))
    c.ask_phases.ensures

pub returns-in-Either : goal.returns-in-Either
returns-in-Either c =
    let ls = c.args.graph.now.yielders in
    let site = c.args.site.now in
    let cells = site.cells.now in
    let bodies = site.bodies.now in
    on_ok_weaker c.ask_either.result
    (of_view_all cells bodies (marked_table site.rows.now) site.node (Either c.in-Either.left c.in-Either.right) (node_viewed ls c.args.view) (demands_of c.args.out.now.items) (demands_of c.ask_either.new.out.items) (ap (node_viewed ls) c.in-Either.is))
    c.ask_either.ensures

pub returns-in-Trapping : goal.returns-in-Trapping
returns-in-Trapping c =
    let ls = c.args.graph.now.yielders in
    let site = c.args.site.now in
    let cells = site.cells.now in
    let bodies = site.bodies.now in
    on_ok_weaker c.ask_trapping.result
    (of_view_all cells bodies (marked_table site.rows.now) site.node (Trapping c.in-Trapping.left c.in-Trapping.right) (node_viewed ls c.args.view) (demands_of c.args.out.now.items) (demands_of c.ask_trapping.new.out.items) (ap (node_viewed ls) c.in-Trapping.is))
    c.ask_trapping.ensures

pub returns-in-Branch : goal.returns-in-Branch
returns-in-Branch c =
    let ls = c.args.graph.now.yielders in
    let site = c.args.site.now in
    let cells = site.cells.now in
    let bodies = site.bodies.now in
    on_ok_weaker c.ask_branch.result
    (λ (h : (cells bodies : List ℕ) → Adds (demands_of c.args.out.now.items) (node_demands cells bodies (marked_table c.args.site.now.rows.now) c.args.site.now.node (Branch (yielder_at c.args.graph.now.yielders c.in-Branch.yielder) c.in-Branch.left c.in-Branch.right)) (demands_of c.ask_branch.new.out.items)). of_view cells bodies (marked_table site.rows.now) site.node (Branch (yielder_at ls c.in-Branch.yielder) c.in-Branch.left c.in-Branch.right) (node_viewed ls c.args.view) (demands_of c.args.out.now.items) (demands_of c.ask_branch.new.out.items) (ap (node_viewed ls) c.in-Branch.is) (h cells bodies))
    c.ask_branch.ensures
