use Rattle.std.proofs.Common.{◌∙◌, ◌+◌, ap, sym, subst, codes, Option}
use Rattle.std.specs.Prelude.{slice_range}
use Rattle.action_text.specs.Answers.{token_bytes}
use Rattle.action_text.proofs.TextAnswers.{texts_cut}
use Rattle.meta_reader.specs.declared.phase.Phase.TheVariants.{Heading}
use Rattle.meta_reader.specs.Parsing.{begins_with}
use Rattle.meta_reader.specs.Steps.{PlainStep, FindsStep}
use Rattle.meta_reader.proofs.FoundRuns.{behind_word, heading_none, heading_found}
use Rattle.meta_reader.proofs.runs.read_heading.Goals as goal

pub returns-then-not-begins_with : goal.returns-then-not-begins_with
returns-then-not-begins_with c =
    let cut = texts_cut c.tokens.inside.list.now c.args.tokens.now c.args.from c.args.to c.tokens.view_is in
    heading_none (slice_range (token_bytes c.args.tokens.now) c.args.from c.args.to) (sym (c.if-not-begins_with.ensures ∙ ap (begins_with (codes "grammar")) cut))

pub returns : goal.returns
returns c =
    let cut = texts_cut c.tokens.inside.list.now c.args.tokens.now c.args.from c.args.to c.tokens.view_is in
    let run = slice_range (token_bytes c.args.tokens.now) c.args.from c.args.to in
    let b = behind_word (codes "grammar") (token_bytes c.args.tokens.now) c.args.from c.args.to (sym (c.if-not-begins_with.ensures ∙ ap (begins_with (codes "grammar")) cut)) in
    subst (λ (o : Option PlainStep). FindsStep Heading run o) (sym c.step_to.ensures)
    (heading_found run (slice_range (token_bytes c.args.tokens.now) (c.args.from + 1) c.args.to) _ b.run_is c.in_ok-item.ensures)
