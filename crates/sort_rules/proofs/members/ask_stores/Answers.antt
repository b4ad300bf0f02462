use Rattle.std.proofs.Common.{List, ap, subst, sym, ℕ}
use Rattle.std.proofs.lemmas.Result.{on_ok_weaker}
use Rattle.sort_rules.specs.Asked.{any_cell}
use Rattle.sort_rules.specs.DemandViews.{demands_of}
use Rattle.sort_rules.specs.Demands.{stores}
use Rattle.sort_rules.specs.Parts.{Clash, Part, Unreached}
use Rattle.sort_rules.specs.Reached.{Adds}
use Rattle.sort_rules.specs.Values.{one}
use Rattle.sort_rules.specs.Views.{set_of, value_part}
use Rattle.sort_rules.proofs.Reaches.{adds-none, adds-same}
use Rattle.sort_rules.proofs.SameMembers.{stores-any, stores-members, stores-nothing}
use Rattle.sort_rules.proofs.members.ask_stores.Goals as goal

pub returns-in-Unreached : goal.returns-in-Unreached
returns-in-Unreached c =
    let v = value_part c.args.stored in
    let old = demands_of c.args.out.now.items in
    let cells = c.args.site.now.cells.now in
    subst (λ (w : Part). Adds old (stores v w cells) old) (sym (ap value_part c.in-Unreached.is)) (adds-none old (stores v Unreached cells) (stores-nothing v cells))

pub returns-in-One : goal.returns-in-One
returns-in-One c =
    let v = value_part c.args.stored in
    let old = demands_of c.args.out.now.items in
    let new = demands_of c.ask_stored_in.new.out.items in
    let cells = c.args.site.now.cells.now in
    let x = set_of c.in-One.set in
    on_ok_weaker c.ask_stored_in.result
    (λ (h : Adds (demands_of c.args.out.now.items) (stores (value_part c.args.stored) (any_cell c.args.site.now.cells.now) c.in-One.set.cells.now) (demands_of c.ask_stored_in.new.out.items)).
    subst (λ (w : Part). Adds old (stores v w cells) new) (sym (ap value_part c.in-One.is)) (adds-same old (stores v (any_cell cells) x.cells) (stores v (one x) cells) new (stores-members v x cells) h))
    c.ask_stored_in.ensures

pub returns-in-Clash : goal.returns-in-Clash
returns-in-Clash c =
    let v = value_part c.args.stored in
    let old = demands_of c.args.out.now.items in
    let new = demands_of c.ask_stored_in-in-Clash.new.out.items in
    let cells = c.args.site.now.cells.now in
    on_ok_weaker c.ask_stored_in-in-Clash.result
    (λ (h : Adds (demands_of c.args.out.now.items) (stores (value_part c.args.stored) (any_cell c.args.site.now.cells.now) c.numbers.result.now) (demands_of c.ask_stored_in-in-Clash.new.out.items)).
    subst (λ (w : Part). Adds old (stores v w cells) new) (sym (ap value_part c.in-Clash.is))
    (adds-same old (stores v (any_cell cells) cells) (stores v Clash cells) new (stores-any v cells) (subst (λ (ns : List ℕ). Adds old (stores v (any_cell cells) ns) new) c.numbers.ensures h)))
    c.ask_stored_in-in-Clash.ensures
