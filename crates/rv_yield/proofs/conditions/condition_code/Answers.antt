-- The code of the condition is that of what is behind its negations.
use Rattle.std.proofs.Common.{Ok, Err, OnOk, true, ap, ◌∙◌, sym, subst, arith}
use Rattle.std.proofs.lemmas.Result.{on_ok_weaker, on_err_weaker}
use Rattle.std.specs.declared.result.Result.{Result}
use Rattle.rv_asm.specs.Assembly.{total, is_placed}
use Rattle.rv_asm.proofs.Labels.{total-append}
use Rattle.action_terms.specs.Forms.{yielder_at}
use Rattle.rv_yield.specs.Calls.{calls}
use Rattle.rv_yield.specs.Conditions.{condition_items}
use Rattle.rv_yield.specs.Evaluates.{Decides}
use Rattle.rv_yield.specs.Fronts.{extended, AppendsFrontOf}
use Rattle.rv_yield.specs.Sources.{places_of}
use Rattle.rv_yield.proofs.ConditionLaws.{condition-short}
use Rattle.rv_yield.proofs.Decided.{decides}
use Rattle.rv_yield.proofs.ItemLaws.{placed-unmarked, calls-unmarked}
use Rattle.rv_yield.proofs.NeedLaws.{registers-enough}
use Rattle.rv_yield.proofs.conditions.condition_code.Goals as goal

on_ok_two : {T E P Q R : Type 0} (r : Result T E) → (P → Q → R) → OnOk r P → OnOk r Q → OnOk r R
on_ok_two (Ok v) f p q = f p q
on_ok_two (Err e) f p q = tt

pub returns-clause-decides : goal.returns-clause-decides
returns-clause-decides c =
    let s = c.args.source.now in
    let o = c.args.otherwise in
    let y = yielder_at s.graph.now.yielders c.args.yielder in
    on_ok_two c.append_condition.result
    (λ e w.
    let all = e ∙ ap (extended c.args.asm.now) (sym (c.without_negations-wanted.ensures.items o)) in
    subst (Decides (places_of s) o s.nothing y c.args.asm.now) (sym all)
    (decides (places_of s) o s.nothing y c.args.asm.now (record { given = s.near; bound = s.slots_near }) c.requires.built (c.without_negations-wanted.ensures.words w) (registers-enough y c.requires.few)))
    c.append_condition.ensures.ok c.append_condition.ensures.words

pub returns-clause-short : goal.returns-clause-short
returns-clause-short c =
    let s = c.args.source.now in
    let o = c.args.otherwise in
    let y = yielder_at s.graph.now.yielders c.args.yielder in
    let piece = condition_items (places_of s) true o s.nothing y in
    on_ok_weaker c.append_condition.result
    (λ e.
    let all = e ∙ ap (extended c.args.asm.now) (sym (c.without_negations-wanted.ensures.items o)) in
    omega (arith, ap (λ l. total l.items) all, total-append c.args.asm.now.items piece, (condition-short (places_of s) o s.nothing y true).few))
    c.append_condition.ensures.ok

pub returns-clause-placed : goal.returns-clause-placed
returns-clause-placed c =
    let s = c.args.source.now in
    let o = c.args.otherwise in
    let y = yielder_at s.graph.now.yielders c.args.yielder in
    let piece = condition_items (places_of s) true o s.nothing y in
    on_ok_weaker c.append_condition.result
    (λ e l.
    let all = e ∙ ap (extended c.args.asm.now) (sym (c.without_negations-wanted.ensures.items o)) in
    ap (λ i. is_placed i.items l) all ∙ placed-unmarked c.args.asm.now.items piece l (condition-short (places_of s) o s.nothing y true).unmarked)
    c.append_condition.ensures.ok

pub returns-clause-quiet : goal.returns-clause-quiet
returns-clause-quiet c =
    let s = c.args.source.now in
    let o = c.args.otherwise in
    let y = yielder_at s.graph.now.yielders c.args.yielder in
    let piece = condition_items (places_of s) true o s.nothing y in
    on_ok_weaker c.append_condition.result
    (λ e.
    let all = e ∙ ap (extended c.args.asm.now) (sym (c.without_negations-wanted.ensures.items o)) in
    ap (λ i. calls i.items) all ∙ calls-unmarked c.args.asm.now.items piece (condition-short (places_of s) o s.nothing y true).unmarked)
    c.append_condition.ensures.ok

pub returns-clause-err : goal.returns-clause-err
returns-clause-err c =
    on_err_weaker c.append_condition.result
    (λ f. subst (λ i. AppendsFrontOf i c.args.asm.now c.append_condition.new.asm) (sym (c.without_negations-wanted.ensures.items c.args.otherwise)) f)
    c.append_condition.ensures.err
