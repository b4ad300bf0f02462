use Rattle.std.proofs.Common.{Bool, List, [], ap, sym, ◌++◌, ◌∙◌, ◌∷◌, ◌≡◌}
use Rattle.sort_rules.specs.Asked.{any_cell}
use Rattle.sort_rules.specs.DemandViews.{demands_of}
use Rattle.sort_rules.specs.Demands.{Demand, cell_in, reached_if, stores}
use Rattle.sort_rules.specs.Parts.{Part, Unreached, when}
use Rattle.sort_rules.specs.Views.{value_part}
use Rattle.sort_rules.proofs.Reaches.{adds_all}
use Rattle.sort_rules.proofs.ValueMembers.{stores-none, stores-one}
use Rattle.sort_rules.proofs.members.ask_stored.Goals as goal

pub returns-in_ok-ask : goal.returns-in_ok-ask
returns-in_ok-ask c =
    let v = value_part c.args.stored in
    let w = any_cell c.args.cells.now in
    let old = demands_of c.args.out.now.items in
    let is_one : (x : Part) → x ≡ when (cell_in c.args.node (any_cell c.args.cells.now)) x = λ x. ap (λ (b : Bool). when (reached_if b) x) (sym c.if-has.true ∙ c.has.ensures) in
    adds_all old (stores v w (c.args.node ∷ [])) _ (c.in_ok-ask.ensures ∙ ap (λ (ds : List Demand). old ++ ds) (stores-one v w c.args.node is_one))

pub returns-else-has : goal.returns-else-has
returns-else-has c =
    let is_none : (x : Part) → Unreached ≡ when (cell_in c.args.node (any_cell c.args.cells.now)) x = λ x. ap (λ (b : Bool). when (reached_if b) x) (sym c.if-has.false ∙ c.has.ensures) in
    stores-none (value_part c.args.stored) (any_cell c.args.cells.now) c.args.node (demands_of c.args.out.now.items) is_none
