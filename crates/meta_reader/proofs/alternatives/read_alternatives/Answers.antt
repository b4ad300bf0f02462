use Rattle.std.proofs.Common.{◌≡◌, ◌∙◌, ◌+◌, ◌<◌, ◌≤◌, ◌∷◌, ◌++◌, [], ap, sym, map, drop, length, Some, None, append-nil, arith}
use Rattle.std.specs.Prelude.{option_map}
use Rattle.std.proofs.lemmas.List.{map-append}
use Rattle.gram_form.specs.Plain.{plain_alternative}
use Rattle.action_text.specs.Texts.{texts}
use Rattle.meta_reader.specs.Parsing.{unopened, inside, behind}
use Rattle.meta_reader.proofs.Walking.{cut_at, drop-past, alternative_fronts, alternative-part, alternative-none, unbarred-none, unopened-none, barred}
use Rattle.meta_reader.proofs.alternatives.read_alternatives.Goals as goal
use Rattle.meta_reader.proofs.alternatives.read_alternatives.Goals.{then-loop-at-test+else-is_token, else-loop-at-test}

pub returns-in_default : goal.returns-in_default
returns-in_default c =
    let cut = cut_at c.args.run.now c.loop-at.at c.index-run-at.result c.loop-at-test.true c.index-run-at.is in
    let rest = drop (c.loop-at.at + 1) (texts c.args.run.now) in
    let before = map plain_alternative c.loop-at.list.items in
    let none : inside rest ≡ None = rw c.in_default.is at c.in_ok-parts.ensures.parts in
    sym (c.loop-at.invariant.1 ∙ ap (λ ts. alternative_fronts before (unopened ts)) cut ∙ alternative-none before c.index-run-at.result.bytes.now rest (sym c.if-is_token.ensures) none)

pub returns-then-next-run : goal.returns-then-next-run
returns-then-next-run c =
    let cut = cut_at c.args.run.now c.loop-at.at c.index-run-at.result c.loop-at-test.true c.index-run-at.is in
    let all = texts c.args.run.now in
    let rest = drop (c.loop-at.at + 1) all in
    let before = map plain_alternative c.loop-at.list.items in
    let one = plain_alternative c.in-Some.parts in
    let parts : inside rest ≡ option_map (λ more. one ∷ more) (behind (drop c.in-Some.next all)) = rw c.in-Some.is at c.in_ok-parts.ensures.parts in
    let end : drop c.in-Some.next all ≡ [] = drop-past c.args.run.now c.in-Some.next (omega (arith, c.if-next-run.true)) in
    sym (
    c.loop-at.invariant.1
    ∙ ap (λ ts. alternative_fronts before (unopened ts)) cut
    ∙ alternative-part before one c.index-run-at.result.bytes.now rest (drop c.in-Some.next all) (sym c.if-is_token.ensures) parts
    ∙ ap (λ ts. alternative_fronts (before ++ one ∷ []) (behind ts)) end
    ∙ ap Some (append-nil (before ++ one ∷ []) ∙ sym (ap (map plain_alternative) (c.in_ok-alternatives.ensures ∙ c.as_slice.ensures.value ∙ c.in_ok-push.ensures.items) ∙ map-append plain_alternative c.loop-at.list.items _))
    )

pub returns-then-not-is_token : goal.returns-then-not-is_token
returns-then-not-is_token c =
    let cut = cut_at c.args.run.now c.loop-at.at c.index-run-at.result c.loop-at-test.true c.index-run-at.is in
    let all = texts c.args.run.now in
    let rest = drop (c.loop-at.at + 1) all in
    let before = map plain_alternative c.loop-at.list.items in
    let one = plain_alternative c.in-Some.parts in
    let parts : inside rest ≡ option_map (λ more. one ∷ more) (behind (drop c.in-Some.next all)) = rw c.in-Some.is at c.in_ok-parts.ensures.parts in
    let within : (c.loop-at.at + 1 < c.in-Some.next) × (c.in-Some.next ≤ length c.args.run.now) = rw c.in-Some.is at c.in_ok-parts.ensures.within in
    let next = cut_at c.args.run.now c.in-Some.next c.index-run-next.result (omega (arith, within.1, c.if-next-run.false)) c.index-run-next.is in
    sym (
    c.loop-at.invariant.1
    ∙ ap (λ ts. alternative_fronts before (unopened ts)) cut
    ∙ alternative-part before one c.index-run-at.result.bytes.now rest (drop c.in-Some.next all) (sym c.if-is_token.ensures) parts
    ∙ ap (λ ts. alternative_fronts (before ++ one ∷ []) (behind ts)) next
    ∙ unbarred-none (before ++ one ∷ []) c.index-run-next.result.bytes.now (drop (c.in-Some.next + 1) all) (sym c.if-not-is_token.ensures)
    )

pub loop-at-preserved : goal.loop-at-preserved
loop-at-preserved c =
    let cut = cut_at c.args.run.now c.loop-at.at c.index-run-at.result c.loop-at-test.true c.index-run-at.is in
    let all = texts c.args.run.now in
    let rest = drop (c.loop-at.at + 1) all in
    let before = map plain_alternative c.loop-at.list.items in
    let one = plain_alternative c.in-Some.parts in
    let parts : inside rest ≡ option_map (λ more. one ∷ more) (behind (drop c.in-Some.next all)) = rw c.in-Some.is at c.in_ok-parts.ensures.parts in
    let within : (c.loop-at.at + 1 < c.in-Some.next) × (c.in-Some.next ≤ length c.args.run.now) = rw c.in-Some.is at c.in_ok-parts.ensures.within in
    let inside : c.in-Some.next < length c.args.run.now = omega (arith, within.1, c.if-next-run.false) in
    let next = cut_at c.args.run.now c.in-Some.next c.index-run-next.result inside c.index-run-next.is in (
      omega (arith, inside),
      c.loop-at.invariant.1
          ∙ ap (λ ts. alternative_fronts before (unopened ts)) cut
          ∙ alternative-part before one c.index-run-at.result.bytes.now rest (drop c.in-Some.next all) (sym c.if-is_token.ensures) parts
          ∙ ap (λ ts. alternative_fronts (before ++ one ∷ []) (behind ts)) next
          ∙ ap (alternative_fronts (before ++ one ∷ [])) (barred c.index-run-next.result.bytes.now (drop (c.in-Some.next + 1) all) (sym c.if-not-is_token.ensures))
          ∙ ap (λ qs. alternative_fronts qs (unopened (drop (c.in-Some.next + 1) all))) (sym (ap (map plain_alternative) c.in_ok-push.ensures.items ∙ map-append plain_alternative c.loop-at.list.items _)),
    )

pub returns : goal.returns
returns c =
    let all = texts c.args.run.now in
    let before = map plain_alternative c.loop-at.list.items in
    elim c.loop-at-test.branch [
      | then-loop-at-test+else-is_token w ↦ sym (
          c.loop-at.invariant.1
          ∙ ap (λ ts. alternative_fronts before (unopened ts)) (cut_at c.args.run.now c.loop-at.at w.index-run-at.result w.loop-at-test.true w.index-run-at.is)
          ∙ unopened-none before w.index-run-at.result.bytes.now (drop (c.loop-at.at + 1) all) (sym w.if-is_token.ensures)
          )
      | else-loop-at-test w ↦ sym (
          c.loop-at.invariant.1
          ∙ ap (λ ts. alternative_fronts before (unopened ts)) (drop-past c.args.run.now c.loop-at.at (omega (arith, w.loop-at-test.false)))
          )
    ]
