use Rattle.std.proofs.Common.{List, ap, subst, sym, ℕ}
use Rattle.std.proofs.lemmas.Result.{on_ok_weaker}
use Rattle.sort_rules.specs.Asked.{any_closure}
use Rattle.sort_rules.specs.DemandViews.{demands_of}
use Rattle.sort_rules.specs.Demands.{enacts}
use Rattle.sort_rules.specs.MarkedRows.{marked_table}
use Rattle.sort_rules.specs.Parts.{Clash, Part, Unreached}
use Rattle.sort_rules.specs.Reached.{Adds}
use Rattle.sort_rules.specs.Values.{one}
use Rattle.sort_rules.specs.Views.{marked_tuple_of, set_of, value_part}
use Rattle.sort_rules.proofs.Reaches.{adds-none, adds-same}
use Rattle.sort_rules.proofs.SameMembers.{enacts-any, enacts-members, enacts-nothing}
use Rattle.sort_rules.proofs.members.ask_enacts.Goals as goal

pub returns-in-Unreached : goal.returns-in-Unreached
returns-in-Unreached c =
    let site = c.args.site.now in
    let t = marked_table site.rows.now in
    let d = marked_tuple_of c.args.given in
    let old = demands_of c.args.out.now.items in
    let bodies = site.bodies.now in
    subst (λ (v : Part). Adds old (enacts t site.node v d bodies) old) (sym (ap value_part c.in-Unreached.is)) (adds-none old (enacts t site.node Unreached d bodies) (enacts-nothing t site.node d bodies))

pub returns-in-One : goal.returns-in-One
returns-in-One c =
    let site = c.args.site.now in
    let t = marked_table site.rows.now in
    let d = marked_tuple_of c.args.given in
    let old = demands_of c.args.out.now.items in
    let new = demands_of c.ask_enacted_in.new.out.items in
    let bodies = site.bodies.now in
    let x = set_of c.in-One.set in
    on_ok_weaker c.ask_enacted_in.result
    (λ (h : Adds (demands_of c.args.out.now.items) (enacts (marked_table c.args.site.now.rows.now) c.args.site.now.node (any_closure c.args.site.now.bodies.now) (marked_tuple_of c.args.given) c.in-One.set.abstractions.now) (demands_of c.ask_enacted_in.new.out.items)).
    subst (λ (v : Part). Adds old (enacts t site.node v d bodies) new) (sym (ap value_part c.in-One.is))
    (adds-same old (enacts t site.node (any_closure bodies) d x.abstractions) (enacts t site.node (one x) d bodies) new (enacts-members t site.node d x bodies) h))
    c.ask_enacted_in.ensures

pub returns-in-Clash : goal.returns-in-Clash
returns-in-Clash c =
    let site = c.args.site.now in
    let t = marked_table site.rows.now in
    let d = marked_tuple_of c.args.given in
    let old = demands_of c.args.out.now.items in
    let new = demands_of c.ask_enacted_in-in-Clash.new.out.items in
    let bodies = site.bodies.now in
    on_ok_weaker c.ask_enacted_in-in-Clash.result
    (λ (h : Adds (demands_of c.args.out.now.items) (enacts (marked_table c.args.site.now.rows.now) c.args.site.now.node (any_closure c.args.site.now.bodies.now) (marked_tuple_of c.args.given) c.numbers.result.now) (demands_of c.ask_enacted_in-in-Clash.new.out.items)).
    subst (λ (v : Part). Adds old (enacts t site.node v d bodies) new) (sym (ap value_part c.in-Clash.is))
    (adds-same old (enacts t site.node (any_closure bodies) d bodies) (enacts t site.node Clash d bodies) new (enacts-any t site.node d bodies)
    (subst (λ (ns : List ℕ). Adds old (enacts t site.node (any_closure bodies) d ns) new) c.numbers.ensures h)))
    c.ask_enacted_in-in-Clash.ensures
