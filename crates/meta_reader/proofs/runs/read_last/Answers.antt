use Rattle.std.proofs.Common.{◌∙◌, refl, sym, subst, Option}
use Rattle.std.specs.Prelude.{slice_range}
use Rattle.action_text.specs.Answers.{token_bytes}
use Rattle.action_text.proofs.TextAnswers.{texts_cut}
use Rattle.meta_reader.specs.declared.phase.Phase.TheVariants.{Equations}
use Rattle.meta_reader.specs.Steps.{PlainStep, FindsStep}
use Rattle.meta_reader.proofs.Walking.{false_or_true}
use Rattle.meta_reader.proofs.FoundRuns.{rule_found}
use Rattle.meta_reader.proofs.runs.read_last.Goals as goal

pub returns-then-is_end : goal.returns-then-is_end
returns-then-is_end c =
    sym (texts_cut c.tokens.inside.list.now c.args.tokens.now c.args.from c.args.to c.tokens.view_is) ∙ c.if-is_end.ensures.0 refl

pub returns : goal.returns
returns c =
    let cut = texts_cut c.tokens.inside.list.now c.args.tokens.now c.args.from c.args.to c.tokens.view_is in
    let run = slice_range (token_bytes c.args.tokens.now) c.args.from c.args.to in
    subst (λ (o : Option PlainStep). FindsStep Equations run o) (sym c.step_to.ensures)
    (rule_found run _ (λ e. false_or_true (sym c.if-is_end.false ∙ c.is_end.ensures.1 (cut ∙ e))) c.in_ok-item.ensures)
