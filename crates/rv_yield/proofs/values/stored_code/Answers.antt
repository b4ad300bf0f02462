-- The value is stored behind the code that leaves it in a register.
use Rattle.std.proofs.Common.{map, ap, ◌∙◌, sym, subst, arith, rules}
use Rattle.std.proofs.lemmas.Result.{on_ok_weaker, on_err_weaker}
use Rattle.rv_asm.specs.Assembly.{total, is_placed}
use Rattle.rv_asm.specs.declared.item.Item.TheVariants.{Plain}
use Rattle.rv_asm.proofs.Labels.{total-append}
use Rattle.rv_asm.proofs.Sending.{total-plain}
use Rattle.action_terms.specs.Forms.{yielder_at}
use Rattle.rv_yield.specs.Calls.{calls}
use Rattle.rv_yield.specs.Evaluates.{Stores}
use Rattle.rv_yield.specs.Fronts.{extended}
use Rattle.rv_yield.specs.YielderCode.{value_items, store_items}
use Rattle.rv_yield.specs.Sources.{places_of}
use Rattle.rv_yield.proofs.Fronts.{extended-twice, front-first, front-second}
use Rattle.rv_yield.proofs.ItemLaws.{placed-unmarked, calls-unmarked, unmarked-plain, quiet-store}
use Rattle.rv_yield.proofs.NeedLaws.{registers-enough}
use Rattle.rv_yield.proofs.Stored.{length-store}
use Rattle.rv_yield.proofs.Storing.{stores}
use Rattle.rv_yield.proofs.Targets.{some-count}
use Rattle.rv_yield.proofs.values.stored_code.Goals as goal

pub value_code-requires-clause-room : goal.value_code-requires-clause-room
value_code-requires-clause-room c = omega (arith, registers-enough (yielder_at c.args.source.now.graph.now.yielders c.args.yielder) c.requires.few)

pub returns-in_err-value_code-clause-err : goal.returns-in_err-value_code-clause-err
returns-in_err-value_code-clause-err c =
    let s = c.args.source.now in
    let y = yielder_at c.args.source.now.graph.now.yielders c.args.yielder in
    let front = front-first (value_items (places_of s) 10 10 s.nothing y) (map Plain (store_items c.args.target)) c.args.asm.now c.value_code.new.asm c.in_err-value_code.ensures.err in
    search rules

pub returns-clause-stores : goal.returns-clause-stores
returns-clause-stores c =
    let s = c.args.source.now in
    let y = yielder_at c.args.source.now.graph.now.yielders c.args.yielder in
    let value = value_items (places_of s) 10 10 s.nothing y in
    let store = map Plain (store_items c.args.target) in
    on_ok_weaker c.append_store.result
    (λ e.
    let all = e ∙ ap (λ i. extended i store) c.in_ok-value_code.ensures.items ∙ extended-twice c.args.asm.now value store in
    subst (Stores (places_of s) c.args.target s.nothing y c.args.asm.now) (sym all)
    (stores (places_of s) c.args.target s.nothing y c.args.asm.now (record { given = s.near; bound = s.slots_near }) c.requires.built c.in_ok-value_code.ensures.words (registers-enough y c.requires.few) c.requires.target))
    c.append_store.ensures.ok

pub returns-clause-short : goal.returns-clause-short
returns-clause-short c =
    let y = yielder_at c.args.source.now.graph.now.yielders c.args.yielder in
    let offset = c.args.target in
    let mid = c.value_code.new.asm in
    let piece = store_items offset in
    on_ok_weaker c.append_store.result
    (λ e. omega (arith, ap (λ s. total s.items) e, total-append mid.items (map Plain piece), total-plain piece, length-store offset, some-count y, c.in_ok-value_code.ensures.short))
    c.append_store.ensures.ok

pub returns-clause-placed : goal.returns-clause-placed
returns-clause-placed c =
    let mid = c.value_code.new.asm in
    let piece = store_items c.args.target in
    on_ok_weaker c.append_store.result
    (λ e l. ap (λ s. is_placed s.items l) e ∙ placed-unmarked mid.items (map Plain piece) l (unmarked-plain piece (quiet-store c.args.target)) ∙ c.in_ok-value_code.ensures.placed l)
    c.append_store.ensures.ok

pub returns-clause-quiet : goal.returns-clause-quiet
returns-clause-quiet c =
    let mid = c.value_code.new.asm in
    let piece = store_items c.args.target in
    on_ok_weaker c.append_store.result
    (λ e. ap (λ s. calls s.items) e ∙ calls-unmarked mid.items (map Plain piece) (unmarked-plain piece (quiet-store c.args.target)) ∙ c.in_ok-value_code.ensures.quiet)
    c.append_store.ensures.ok

pub returns-clause-err : goal.returns-clause-err
returns-clause-err c =
    let s = c.args.source.now in
    let y = yielder_at c.args.source.now.graph.now.yielders c.args.yielder in
    on_err_weaker c.append_store.result
    (λ f. front-second (value_items (places_of s) 10 10 s.nothing y) (map Plain (store_items c.args.target)) c.args.asm.now c.value_code.new.asm c.append_store.new.asm c.in_ok-value_code.ensures.items f)
    c.append_store.ensures.err
