use Rattle.std.proofs.Common.{List, ap, sym, ℕ, ◌++◌, ◌∙◌, ◌≡◌}
use Rattle.std.proofs.lemmas.Result.{on_ok_weaker}
use Rattle.action_terms.specs.Actions.{Allocate, Bind, BindRec, Check, EscapeWith, Give, Primitive, Receive, Send}
use Rattle.action_terms.specs.Forms.{items_at, primitive_viewed, yielder_at}
use Rattle.sort_rules.specs.DemandViews.{demands_of}
use Rattle.sort_rules.specs.Demands.{Demand, primitive_demands}
use Rattle.sort_rules.specs.MarkedRows.{marked_table}
use Rattle.sort_rules.specs.Reached.{Adds}
use Rattle.sort_rules.specs.Tables.{MarkedTable}
use Rattle.sort_rules.proofs.Reaches.{adds_all}
use Rattle.sort_rules.proofs.primitives.ask_primitive.Goals as goal

-- what is asked whatever the cells are
with_cells : (cells : List ℕ) (t : MarkedTable) (k : ℕ) (p q : Primitive) (old new : List Demand) → q ≡ p → ((cells : List ℕ) → new ≡ old ++ primitive_demands cells t k p) → Adds old (primitive_demands cells t k q) new
with_cells cells t k p q old new e h = adds_all old (primitive_demands cells t k q) new (h cells ∙ ap (λ (p : Primitive). old ++ primitive_demands cells t k p) (sym e))

pub returns-in-Give : goal.returns-in-Give
returns-in-Give c =
    let ls = c.args.graph.now.yielders in
    let site = c.args.site.now in
    on_ok_weaker c.ask_give.result (with_cells site.cells.now (marked_table site.rows.now) site.node (Give (items_at ls c.in-Give.items.now)) (primitive_viewed ls c.args.primitive)
    (demands_of c.args.out.now.items) (demands_of c.ask_give.new.out.items) (ap (primitive_viewed ls) c.in-Give.is)) c.ask_give.ensures

pub returns-in-EscapeWith : goal.returns-in-EscapeWith
returns-in-EscapeWith c =
    let ls = c.args.graph.now.yielders in
    let site = c.args.site.now in
    on_ok_weaker c.ask_escape_with.result (with_cells site.cells.now (marked_table site.rows.now) site.node (EscapeWith (items_at ls c.in-EscapeWith.items.now)) (primitive_viewed ls c.args.primitive)
    (demands_of c.args.out.now.items) (demands_of c.ask_escape_with.new.out.items) (ap (primitive_viewed ls) c.in-EscapeWith.is)) c.ask_escape_with.ensures

pub returns-in-Check : goal.returns-in-Check
returns-in-Check c =
    let ls = c.args.graph.now.yielders in
    let site = c.args.site.now in
    on_ok_weaker c.ask_check.result (with_cells site.cells.now (marked_table site.rows.now) site.node (Check (yielder_at ls c.in-Check.yielder)) (primitive_viewed ls c.args.primitive)
    (demands_of c.args.out.now.items) (demands_of c.ask_check.new.out.items) (ap (primitive_viewed ls) c.in-Check.is)) c.ask_check.ensures

pub returns-in-Bind : goal.returns-in-Bind
returns-in-Bind c =
    let ls = c.args.graph.now.yielders in
    let site = c.args.site.now in
    on_ok_weaker c.ask_bind.result (with_cells site.cells.now (marked_table site.rows.now) site.node (Bind c.in-Bind.token.now (yielder_at ls c.in-Bind.yielder)) (primitive_viewed ls c.args.primitive)
    (demands_of c.args.out.now.items) (demands_of c.ask_bind.new.out.items) (ap (primitive_viewed ls) c.in-Bind.is)) c.ask_bind.ensures

pub returns-in-BindRec : goal.returns-in-BindRec
returns-in-BindRec c =
    let ls = c.args.graph.now.yielders in
    let site = c.args.site.now in
    on_ok_weaker c.ask_bind_rec.result (with_cells site.cells.now (marked_table site.rows.now) site.node (BindRec c.in-BindRec.token.now c.in-BindRec.body) (primitive_viewed ls c.args.primitive)
    (demands_of c.args.out.now.items) (demands_of c.ask_bind_rec.new.out.items) (ap (primitive_viewed ls) c.in-BindRec.is)) c.ask_bind_rec.ensures

pub returns-in-Allocate : goal.returns-in-Allocate
returns-in-Allocate c =
    let ls = c.args.graph.now.yielders in
    let site = c.args.site.now in
    on_ok_weaker c.ask_allocate.result (with_cells site.cells.now (marked_table site.rows.now) site.node (Allocate) (primitive_viewed ls c.args.primitive)
    (demands_of c.args.out.now.items) (demands_of c.ask_allocate.new.out.items) (ap (primitive_viewed ls) c.in-Allocate.is)) c.ask_allocate.ensures

pub returns-in-Receive : goal.returns-in-Receive
returns-in-Receive c =
    let ls = c.args.graph.now.yielders in
    let site = c.args.site.now in
    on_ok_weaker c.ask_receive.result (with_cells site.cells.now (marked_table site.rows.now) site.node (Receive) (primitive_viewed ls c.args.primitive)
    (demands_of c.args.out.now.items) (demands_of c.ask_receive.new.out.items) (ap (primitive_viewed ls) c.in-Receive.is)) c.ask_receive.ensures

pub returns-in-Send : goal.returns-in-Send
returns-in-Send c =
    let ls = c.args.graph.now.yielders in
    let site = c.args.site.now in
    on_ok_weaker c.ask_send.result (with_cells site.cells.now (marked_table site.rows.now) site.node (Send (yielder_at ls c.in-Send.yielder)) (primitive_viewed ls c.args.primitive)
    (demands_of c.args.out.now.items) (demands_of c.ask_send.new.out.items) (ap (primitive_viewed ls) c.in-Send.is)) c.ask_send.ensures
