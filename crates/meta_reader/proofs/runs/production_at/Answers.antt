use Rattle.std.proofs.Common.{◌∙◌, ap, sym, Some, None}
use Rattle.std.specs.Prelude.{option_map, slice_range}
use Rattle.gram_form.specs.Plain.{plain_production}
use Rattle.action_text.specs.Answers.{token_bytes}
use Rattle.action_text.proofs.TextAnswers.{texts_cut}
use Rattle.meta_reader.specs.Parsing.{production_of}
use Rattle.meta_reader.proofs.FoundRuns.{production_item}
use Rattle.meta_reader.proofs.runs.production_at.Goals as goal

pub returns-in-Some : goal.returns-in-Some
returns-in-Some c =
    let cut = texts_cut c.tokens.inside.list.now c.args.tokens.now c.args.from c.args.to c.tokens.view_is in
    production_item (slice_range (token_bytes c.args.tokens.now) c.args.from c.args.to) (Some (plain_production c.in-Some.production))
    (sym (ap (option_map plain_production) c.in-Some.is) ∙ c.in_ok-production.ensures ∙ ap production_of cut)

pub returns-in-None : goal.returns-in-None
returns-in-None c =
    let cut = texts_cut c.tokens.inside.list.now c.args.tokens.now c.args.from c.args.to c.tokens.view_is in
    production_item (slice_range (token_bytes c.args.tokens.now) c.args.from c.args.to) None
    (sym (ap (option_map plain_production) c.in-None.is) ∙ c.in_ok-production.ensures ∙ ap production_of cut)
