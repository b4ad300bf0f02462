use Rattle.std.proofs.Common.{Bool, List, [], ap, sym, ◌++◌, ◌∙◌, ◌∷◌, ◌≡◌}
use Rattle.sort_rules.specs.Asked.{any_closure}
use Rattle.sort_rules.specs.DemandViews.{demands_of}
use Rattle.sort_rules.specs.Demands.{Demand, closure_in, enacts, reached_if}
use Rattle.sort_rules.specs.MarkedRows.{marked_table}
use Rattle.sort_rules.specs.Parts.{Part, Unreached, when}
use Rattle.sort_rules.specs.Views.{marked_binds_of, marked_tuple_of}
use Rattle.sort_rules.proofs.Reaches.{adds_all}
use Rattle.sort_rules.proofs.ValueMembers.{enacts-none, enacts-one}
use Rattle.sort_rules.proofs.members.ask_enacted.Goals as goal

pub returns-in_ok-ask : goal.returns-in_ok-ask
returns-in_ok-ask c =
    let t = marked_table c.args.site.now.rows.now in
    let v = any_closure c.args.site.now.bodies.now in
    let d = marked_tuple_of c.args.given in
    let old = demands_of c.args.out.now.items in
    let is_one : (x : Part) → x ≡ when (closure_in c.args.body (any_closure c.args.site.now.bodies.now)) x = λ x. ap (λ (b : Bool). when (reached_if b) x) (sym c.if-has.true ∙ c.has.ensures) in
    adds_all old (enacts t c.args.site.now.node v d (c.args.body ∷ [])) _
    (c.in_ok-ask.ensures
    ∙ ap (λ (ds : List Demand). old ++ ds)
    (enacts-one t c.args.site.now.node v d (marked_tuple_of c.data_out.result) (marked_binds_of c.binds_out.result) (marked_tuple_of c.escaped.result) c.args.body is_one c.data_out.ensures c.binds_out.ensures c.escaped.ensures))

pub returns-else-has : goal.returns-else-has
returns-else-has c =
    let is_none : (x : Part) → Unreached ≡ when (closure_in c.args.body (any_closure c.args.site.now.bodies.now)) x = λ x. ap (λ (b : Bool). when (reached_if b) x) (sym c.if-has.false ∙ c.has.ensures) in
    enacts-none (marked_table c.args.site.now.rows.now) c.args.site.now.node (any_closure c.args.site.now.bodies.now) (marked_tuple_of c.args.given) c.args.body (demands_of c.args.out.now.items) is_none
