use Rattle.std.proofs.Common.{◌∙◌, ◌+◌, ap, sym, subst, codes, Option}
use Rattle.std.specs.Prelude.{slice_range}
use Rattle.action_text.specs.Answers.{token_bytes}
use Rattle.action_text.proofs.TextAnswers.{texts_cut}
use Rattle.meta_reader.specs.declared.phase.Phase.TheVariants.{Productions}
use Rattle.meta_reader.specs.Parsing.{begins_with}
use Rattle.meta_reader.specs.Steps.{PlainStep, FindsStep}
use Rattle.meta_reader.proofs.FoundRuns.{behind_word, semantics_found, production_found_next}
use Rattle.meta_reader.proofs.runs.read_next.Goals as goal

pub returns-then-begins_with : goal.returns-then-begins_with
returns-then-begins_with c =
    let cut = texts_cut c.tokens.inside.list.now c.args.tokens.now c.args.from c.args.to c.tokens.view_is in
    let all = token_bytes c.args.tokens.now in
    let b = behind_word (codes "semantics") all c.args.from c.args.to (sym (c.if-begins_with.ensures ∙ ap (begins_with (codes "semantics")) cut)) in
    subst (λ (o : Option PlainStep). FindsStep Productions (slice_range all c.args.from c.args.to) o) (sym c.step_to.ensures)
    (semantics_found (slice_range all c.args.from c.args.to) (slice_range all (c.args.from + 1) c.args.to) _ b.run_is c.in_ok-item.ensures)

pub returns : goal.returns
returns c =
    let cut = texts_cut c.tokens.inside.list.now c.args.tokens.now c.args.from c.args.to c.tokens.view_is in
    let run = slice_range (token_bytes c.args.tokens.now) c.args.from c.args.to in
    subst (λ (o : Option PlainStep). FindsStep Productions run o) (sym c.step_to-2.ensures)
    (production_found_next run _ (sym (c.if-begins_with.ensures ∙ ap (begins_with (codes "semantics")) cut)) c.in_ok-item-2.ensures)
