use Rattle.std.proofs.Common.{◌∙◌, ◌+◌, ◌∷◌, ap, sym, map, drop}
use Rattle.std.specs.Prelude.{option_map}
use Rattle.std.proofs.lemmas.List.{map-append}
use Rattle.gram_form.specs.Plain.{plain_part}
use Rattle.action_text.specs.Texts.{texts}
use Rattle.meta_reader.specs.Parsing.{inside, behind}
use Rattle.meta_reader.proofs.Walking.{fronts, cut_at, inside-part, inside-closed, inside-none}
use Rattle.meta_reader.proofs.alternatives.read_parts.Goals as goal

pub returns-then-is_token-clause-parts : goal.returns-then-is_token-clause-parts
returns-then-is_token-clause-parts c =
    let cut = cut_at c.args.run.now c.loop-at.at c.index-run-at.result c.loop-at-test.true c.index-run-at.is in
    let parts = map plain_part c.loop-at.list.items in
    let rest = drop (c.loop-at.at + 1) (texts c.args.run.now) in
    c.loop-at.invariant
    ∙ ap (λ ts. fronts parts (inside ts)) cut
    ∙ inside-closed parts c.index-run-at.result.bytes.now rest (sym c.if-is_token.ensures)
    ∙ ap (λ qs. option_map (λ more. qs ∷ more) (behind rest)) (sym (ap (map plain_part) (c.in_ok-parts.ensures ∙ c.as_slice.ensures.value)))

pub returns-in-None-clause-parts : goal.returns-in-None-clause-parts
returns-in-None-clause-parts c =
    let cut = cut_at c.args.run.now c.loop-at.at c.index-run-at.result c.loop-at-test.true c.index-run-at.is in
    let parts = map plain_part c.loop-at.list.items in
    c.loop-at.invariant
    ∙ ap (λ ts. fronts parts (inside ts)) cut
    ∙ inside-none parts c.index-run-at.result.bytes.now (drop (c.loop-at.at + 1) (texts c.args.run.now)) (sym c.if-is_token.ensures) (sym c.in-None.ensures)

pub loop-at-preserved : goal.loop-at-preserved
loop-at-preserved c =
    let cut = cut_at c.args.run.now c.loop-at.at c.index-run-at.result c.loop-at-test.true c.index-run-at.is in
    let parts = map plain_part c.loop-at.list.items in
    let rest = drop (c.loop-at.at + 1) (texts c.args.run.now) in
    c.loop-at.invariant
    ∙ ap (λ ts. fronts parts (inside ts)) cut
    ∙ inside-part parts c.index-run-at.result.bytes.now rest (plain_part c.in-Some.part) (sym c.if-is_token.ensures) (sym c.in-Some.ensures)
    ∙ ap (λ qs. fronts qs (inside rest)) (sym (ap (map plain_part) c.in_ok-push-in-Some.ensures.items ∙ map-append plain_part c.loop-at.list.items _))
