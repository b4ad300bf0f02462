use Rattle.std.proofs.Common.{◌≡◌, ◌∙◌, ◌+◌, ◌-◌, List, [], length, map, drop, ap, sym, subst, arith}
use Rattle.std.specs.Prelude.{slice_range, option_map}
use Rattle.meta_terms.specs.PlainItems.{PlainItem, plain_item}
use Rattle.action_text.specs.Answers.{token_bytes}
use Rattle.action_text.specs.Texts.{texts}
use Rattle.meta_reader.specs.declared.phase.Phase.{Phase}
use Rattle.meta_reader.specs.declared.phase.Phase.TheVariants.{Ended}
use Rattle.meta_reader.specs.ItemForms.{Tokens}
use Rattle.meta_reader.specs.Descriptions.{Steps, IsDescription, IsBadItem}
use Rattle.meta_reader.specs.Steps.{PlainStep}
use Rattle.meta_reader.proofs.Walking.{drop-past, false_or_true}
use Rattle.meta_reader.proofs.FirstRuns.{first_stop, stop_is, length_rest, list_texts}
use Rattle.meta_reader.proofs.Reading.{IsRead, one_more_read, bad_run, bad_rest, bad_end, description_read, next_at, within_rest, one_description}
use Rattle.meta_reader.proofs.reader.read.Goals as goal

pub returns-then-stop-list-clause-error : goal.returns-then-stop-list-clause-error
returns-then-stop-list-clause-error c =
    let list = c.tokens.inside.list.now in
    let all : texts list ≡ token_bytes c.args.tokens.now = list_texts list ∙ ap token_bytes c.tokens.view_is in
    let read : IsRead (token_bytes c.args.tokens.now) c.loop-at.at c.loop-at.index (map plain_item c.loop-at.items.items) c.loop-at.phase =
    subst (λ (ts : Tokens). IsRead ts c.loop-at.at c.loop-at.index (map plain_item c.loop-at.items.items) c.loop-at.phase) all c.loop-at.invariant.read in
    let n : c.run_length.result ≡ first_stop (drop c.loop-at.at (token_bytes c.args.tokens.now)) =
    stop_is list c.loop-at.at c.run_length.result c.run_length.ensures.value ∙ ap (λ ts. first_stop (drop c.loop-at.at ts)) all in
    let size : length (drop c.loop-at.at (token_bytes c.args.tokens.now)) ≡ length list - c.loop-at.at = ap (λ ts. length (drop c.loop-at.at ts)) (sym all) ∙ length_rest list c.loop-at.at in
    bad_rest (token_bytes c.args.tokens.now) c.loop-at.at c.loop-at.index (map plain_item c.loop-at.items.items) c.loop-at.phase read
    (omega (arith, size, c.loop-at-test.true)) (omega (arith, size, n, c.if-stop-list.true))

pub returns-in_default-clause-error : goal.returns-in_default-clause-error
returns-in_default-clause-error c =
    let list = c.tokens.inside.list.now in
    let ts = token_bytes c.args.tokens.now in
    let items = map plain_item c.loop-at.items.items in
    let all : texts list ≡ ts = list_texts list ∙ ap token_bytes c.tokens.view_is in
    let read : IsRead ts c.loop-at.at c.loop-at.index items c.loop-at.phase = subst (λ (us : Tokens). IsRead us c.loop-at.at c.loop-at.index items c.loop-at.phase) all c.loop-at.invariant.read in
    let next = next_at list ts c.loop-at.at c.loop-at.index c.run_length.result items c.loop-at.phase all c.run_length.ensures.value read c.run_length.ensures.within c.loop-at.invariant.within c.if-stop-list.false in
    let none : (s : PlainStep) → Steps c.loop-at.phase (slice_range ts c.loop-at.at (c.loop-at.at + c.run_length.result)) s.item s.next → ⊥ = rw c.in_default.is at c.in_ok-step.ensures in
    bad_run ts c.loop-at.at c.loop-at.index (c.loop-at.at + c.run_length.result) items c.loop-at.phase read next (λ item next h. none (record { item = item; next = next }) h)

pub loop-at-preserved : goal.loop-at-preserved
loop-at-preserved c =
    let list = c.tokens.inside.list.now in
    let ts = token_bytes c.args.tokens.now in
    let items = map plain_item c.loop-at.items.items in
    let stop = c.loop-at.at + c.run_length.result in
    let all : texts list ≡ ts = list_texts list ∙ ap token_bytes c.tokens.view_is in
    let read : IsRead ts c.loop-at.at c.loop-at.index items c.loop-at.phase = subst (λ (us : Tokens). IsRead us c.loop-at.at c.loop-at.index items c.loop-at.phase) all c.loop-at.invariant.read in
    let next = next_at list ts c.loop-at.at c.loop-at.index c.run_length.result items c.loop-at.phase all c.run_length.ensures.value read c.run_length.ensures.within c.loop-at.invariant.within c.if-stop-list.false in
    let step : Steps c.loop-at.phase (slice_range ts c.loop-at.at stop) (option_map plain_item c.in-Some.step.item) c.in-Some.step.next = rw c.in-Some.is at c.in_ok-step.ensures in
    let more = one_more_read ts c.loop-at.at c.loop-at.index stop items c.loop-at.phase c.in-Some.step.next (option_map plain_item c.in-Some.step.item) read (omega arith) next step in
    record {
      within = omega (arith, within_rest list c.loop-at.at c.run_length.result c.run_length.ensures.within, c.loop-at.invariant.within, c.if-stop-list.false);
      read = subst (λ (us : Tokens). IsRead us (stop + 1) (c.loop-at.index + 1) (map plain_item c.push_item.new.items.items) c.in-Some.step.next) (sym all)
          (subst (λ (is : List PlainItem). IsRead ts (stop + 1) (c.loop-at.index + 1) is c.in-Some.step.next) (sym c.in_ok-push_item.ensures) more);
    }

pub returns-then-not-is_ended-clause-error : goal.returns-then-not-is_ended-clause-error
returns-then-not-is_ended-clause-error c =
    let list = c.tokens.inside.list.now in
    let all : texts list ≡ token_bytes c.args.tokens.now = list_texts list ∙ ap token_bytes c.tokens.view_is in
    let end : drop c.loop-at.at (texts list) ≡ [] = drop-past list c.loop-at.at c.loop-at-test.false in
    subst (λ (ts : Tokens). IsBadItem ts c.loop-at.index) all
    (bad_end (texts list) c.loop-at.at c.loop-at.index (map plain_item c.loop-at.items.items) c.loop-at.phase c.loop-at.invariant.read end (λ e. false_or_true (sym c.if-not-is_ended.true ∙ c.is_ended.ensures.1 e)))

pub returns-clause-items : goal.returns-clause-items
returns-clause-items c =
    let list = c.tokens.inside.list.now in
    let all : texts list ≡ token_bytes c.args.tokens.now = list_texts list ∙ ap token_bytes c.tokens.view_is in
    let end : drop c.loop-at.at (texts list) ≡ [] = drop-past list c.loop-at.at c.loop-at-test.false in
    let ended : c.loop-at.phase ≡ Ended = c.is_ended.ensures.0 c.if-not-is_ended.false in
    let read : IsRead (texts list) c.loop-at.at c.loop-at.index (map plain_item c.loop-at.items.items) Ended =
    subst (λ (p : Phase). IsRead (texts list) c.loop-at.at c.loop-at.index (map plain_item c.loop-at.items.items) p) ended c.loop-at.invariant.read in
    let d = description_read (texts list) c.loop-at.at c.loop-at.index (map plain_item c.loop-at.items.items) read end in
    subst (λ (ts : Tokens). IsDescription ts (map plain_item c.in_ok-list.field-0.now)) all
    (subst (λ (is : List PlainItem). IsDescription (texts list) is) (sym (ap (map plain_item) (c.in_ok-list.ensures ∙ c.as_slice.ensures.value))) d)

pub returns-clause-no_others : goal.returns-clause-no_others
returns-clause-no_others c = λ others h. one_description (token_bytes c.args.tokens.now) (map plain_item c.in_ok-list.field-0.now) others (returns-clause-items c) h
