-- Each kind of condition has its items.
use Rattle.std.proofs.Common.{◌≡◌, arith, rules, sym, subst}
use Rattle.std.proofs.lemmas.Grind.{common_steps}
use Rattle.std.proofs.lemmas.Result.{on_err_weaker}
use Rattle.action_terms.specs.Forms.{yielder_at}
use Rattle.rv_yield.specs.Conditions.{compared, tested, condition_items}
use Rattle.rv_yield.specs.Fronts.{AppendsFrontOf}
use Rattle.rv_yield.specs.Sources.{places_of}
use Rattle.rv_yield.proofs.conditions.append_condition.Goals as goal

pub returns-in-OnTwo-Is-default-default-clause-err : goal.returns-in-OnTwo-Is-default-default-clause-err
returns-in-OnTwo-Is-default-default-clause-err c =
    let s = c.args.source.now in
    let ls = s.graph.now.yielders in
    let w = c.args.wanted in
    let v = c.in-OnTwo-Is-default-default in
    let same : condition_items (places_of s) w.value c.args.otherwise s.nothing (yielder_at ls w.yielder) ≡ compared (places_of s) c.turned-op.result c.args.otherwise s.nothing (yielder_at ls v.first) (yielder_at ls v.second) = first_of (search rules, grind (arith, common_steps)) in
    on_err_weaker c.append_comparison.result (λ f. subst (λ i. AppendsFrontOf i c.args.asm.now c.append_comparison.new.asm) (sym same) f) c.append_comparison.ensures.err

pub returns-in-OnTwo-Less-default-default-clause-err : goal.returns-in-OnTwo-Less-default-default-clause-err
returns-in-OnTwo-Less-default-default-clause-err c =
    let s = c.args.source.now in
    let ls = s.graph.now.yielders in
    let w = c.args.wanted in
    let v = c.in-OnTwo-Less-default-default in
    let r = c.append_comparison-in-OnTwo-Less-default-default in
    let same : condition_items (places_of s) w.value c.args.otherwise s.nothing (yielder_at ls w.yielder) ≡ compared (places_of s) c.turned-op-in-OnTwo-Less-default-default.result c.args.otherwise s.nothing (yielder_at ls v.first) (yielder_at ls v.second) = first_of (search rules, grind (arith, common_steps)) in
    on_err_weaker r.result (λ f. subst (λ i. AppendsFrontOf i c.args.asm.now r.new.asm) (sym same) f) r.ensures.err

pub returns-in_default-clause-err : goal.returns-in_default-clause-err
returns-in_default-clause-err c =
    let s = c.args.source.now in
    let w = c.args.wanted in
    let y = yielder_at s.graph.now.yielders w.yielder in
    let same : condition_items (places_of s) w.value c.args.otherwise s.nothing y ≡ tested (places_of s) w.value c.args.otherwise s.nothing y = first_of (search rules, grind (arith, common_steps)) in
    on_err_weaker c.append_test.result (λ f. subst (λ i. AppendsFrontOf i c.args.asm.now c.append_test.new.asm) (sym same) f) c.append_test.ensures.err
