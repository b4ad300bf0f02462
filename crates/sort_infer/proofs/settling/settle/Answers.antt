use Rattle.std.proofs.Common.{All, List, length, subst, sym, ℕ, ◌<◌}
use Rattle.std.proofs.lemmas.Bool.{false≢true}
use Rattle.action_terms.specs.Meaning.{action_of}
use Rattle.action_terms.specs.Performances.{OneOf}
use Rattle.action_terms.proofs.AllLaws.{All-member}
use Rattle.sort_rules.specs.Admissible.{Holds}
use Rattle.sort_rules.specs.MarkedRows.{marked_table}
use Rattle.sort_rules.specs.declared.rows.MarkedRow.{MarkedRow}
use Rattle.sort_rules.proofs.Raises.{raised_refl, raised_trans}
use Rattle.sort_infer.proofs.Growing.{round_less}
use Rattle.sort_infer.proofs.Tours.{nodes-count}
use Rattle.sort_infer.proofs.settling.settle.Goals as goal

pub loop-grew-init : goal.loop-grew-init
loop-grew-init c = record { raised = raised_refl; proper = c.requires.table; hold = λ e. absurd (false≢true (sym e)) }

pub drain-requires-clause-order : goal.drain-requires-clause-order
drain-requires-clause-order c = subst (λ (zs : List ℕ). All (λ k. k < length c.args.task.now.graph.now.nodes) zs) (sym c.as_slice-in-loop-grew.ensures.value) c.in_ok-tour.ensures

pub drain-requires-clause-table : goal.drain-requires-clause-table
drain-requires-clause-table c = c.loop-grew.invariant.proper

pub round-requires-clause-order : goal.round-requires-clause-order
round-requires-clause-order c = subst (λ (zs : List ℕ). All (λ k. k < length c.args.task.now.graph.now.nodes) zs) (sym c.as_slice-in-loop-grew-2.ensures.value) c.in_ok-nodes.ensures.within

pub round-requires-clause-table : goal.round-requires-clause-table
round-requires-clause-table c = c.in_ok-drain.ensures.proper

pub loop-grew-preserved : goal.loop-grew-preserved
loop-grew-preserved c =
    let a = action_of c.args.task.now.graph.now in
    let mid = c.drain.new.rows.items in
    let grows = c.in_ok-grew.ensures.grows in
    record {
      raised = raised_trans c.loop-grew.invariant.raised (raised_trans c.in_ok-drain.ensures.raised grows.raised);
      proper = grows.proper;
      hold = λ e k less.
          let within : k < length c.args.task.now.graph.now.nodes = subst (λ (n : ℕ). k < n) (nodes-count c.args.task.now.graph.now) less in
          let listed : OneOf k c.as_slice-in-loop-grew-2.result.now = subst (λ (zs : List ℕ). OneOf k zs) (sym c.as_slice-in-loop-grew-2.ensures.value) (c.in_ok-nodes.ensures.each k within) in
          let held = All-member (Holds a (marked_table mid)) k c.as_slice-in-loop-grew-2.result.now listed (c.in_ok-grew.ensures.hold e) in
          subst (λ (rows : List MarkedRow). Holds a (marked_table rows) k) (sym (grows.same e)) held;
    }

pub loop-grew-smaller : goal.loop-grew-smaller
loop-grew-smaller c =
    round_less (action_of c.args.task.now.graph.now) c.loop-grew.grew _ c.in_ok-grew.grew c.loop-grew.rows.items c.drain.new.rows.items c.round.new.rows.items c.loop-grew-test.true c.in_ok-drain.ensures c.in_ok-grew.ensures.grows

pub returns : goal.returns
returns c = record { raised = c.loop-grew.invariant.raised; proper = c.loop-grew.invariant.proper; holds = c.loop-grew.invariant.hold c.loop-grew-test.false }
