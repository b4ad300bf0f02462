use Rattle.std.proofs.Common.{List, ap, sym, ℕ, ◌++◌, ◌∙◌, ◌≡◌}
use Rattle.std.specs.Prelude.{map}
use Rattle.sort_rules.specs.DemandViews.{demands_of}
use Rattle.sort_rules.specs.Demands.{Demand, ends_like, handed, live_at, only_when, reached_if}
use Rattle.sort_rules.specs.MarkedRows.{marked_table}
use Rattle.sort_rules.specs.Parts.{Part}
use Rattle.sort_rules.specs.Tables.{BindsIn, DataIn}
use Rattle.sort_rules.proofs.Reaches.{adds-dead, adds-live, adds-more, adds_all}
use Rattle.sort_rules.proofs.nodes.ask_unfold.Goals as goal

-- what the body is handed
handed_both : (l : ℕ) (g g2 h h2 : Part) (old new zs : List Demand) → new ≡ old ++ zs → zs ≡ handed l g h → g ≡ g2 → h ≡ h2 → new ≡ old ++ handed l g2 h2
handed_both l g g2 h h2 old new zs e q p r = e ∙ ap (λ (ds : List Demand). old ++ ds) (q ∙ ap (λ (g : Part). handed l g h) p ∙ ap (handed l g2) r)

pub returns-in_ok-ask-2 : goal.returns-in_ok-ask-2
returns-in_ok-ask-2 c = λ cells bodies.
    let site = c.args.site.now in
    let t = marked_table site.rows.now in
    let k = site.node in
    let body = c.args.body in
    let old = demands_of c.args.out.now.items in
    let mid = demands_of c.ask.new.out.items in
    let new = demands_of c.ask-then-is_live.new.out.items in
    let given = handed body (t (DataIn k)) (t (BindsIn k)) in
    let ends = c.in_ok-ask-2.ensures ∙ ap (λ (ds : List Demand). mid ++ ds) c.ends_like.ensures in
    adds-more old given mid (map (only_when (live_at t k)) (ends_like t k body)) new
    (adds_all old given mid (handed_both body _ (t (DataIn k)) _ (t (BindsIn k)) old mid _ c.in_ok-ask.ensures c.handed.ensures c.data_in-g.ensures c.binds_in-h.ensures))
    (adds-live (live_at t k) mid (ends_like t k body) new (sym (ap reached_if c.if-is_live.true) ∙ c.is_live.ensures) (adds_all mid (ends_like t k body) new ends))

pub returns-else-is_live : goal.returns-else-is_live
returns-else-is_live c = λ cells bodies.
    let site = c.args.site.now in
    let t = marked_table site.rows.now in
    let k = site.node in
    let body = c.args.body in
    let old = demands_of c.args.out.now.items in
    let mid = demands_of c.ask.new.out.items in
    let given = handed body (t (DataIn k)) (t (BindsIn k)) in
    adds-more old given mid (map (only_when (live_at t k)) (ends_like t k body)) mid
    (adds_all old given mid (handed_both body _ (t (DataIn k)) _ (t (BindsIn k)) old mid _ c.in_ok-ask.ensures c.handed.ensures c.data_in-g.ensures c.binds_in-h.ensures))
    (adds-dead (live_at t k) mid (ends_like t k body) (sym (ap reached_if c.if-is_live.false) ∙ c.is_live.ensures))
