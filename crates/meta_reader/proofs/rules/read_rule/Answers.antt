use Rattle.std.proofs.Common.{◌∙◌, ap, sym}
use Rattle.std.specs.Prelude.{option_map, slice_range}
use Rattle.meta_terms.specs.PlainItems.{PlainEquation, plain_declaration}
use Rattle.action_text.specs.Answers.{token_bytes}
use Rattle.action_text.proofs.TextAnswers.{texts_cut}
use Rattle.meta_reader.specs.ItemForms.{IsEquation}
use Rattle.meta_reader.specs.Parsing.{declaration_of}
use Rattle.meta_reader.proofs.ProductionTokens.{declaration_sound}
use Rattle.meta_reader.proofs.FoundRuns.{no_rule}
use Rattle.meta_reader.proofs.rules.read_rule.Goals as goal

pub returns-in-Some : goal.returns-in-Some
returns-in-Some c =
    let cut = texts_cut c.tokens.inside.list.now c.args.tokens.now c.args.from c.args.to c.tokens.view_is in
    declaration_sound (slice_range (token_bytes c.args.tokens.now) c.args.from c.args.to) (plain_declaration c.in-Some.declaration) (sym (c.in-Some.ensures ∙ ap declaration_of cut))

pub returns-in-None : goal.returns-in-None
returns-in-None c =
    let cut = texts_cut c.tokens.inside.list.now c.args.tokens.now c.args.from c.args.to c.tokens.view_is in
    let run = slice_range (token_bytes c.args.tokens.now) c.args.from c.args.to in
    let none : (e : PlainEquation) → IsEquation run e → ⊥ = rw c.in-None.is at c.in_ok-equation.ensures in
    no_rule run (sym (ap (option_map plain_declaration) c.in_default.is) ∙ c.read_declaration.ensures ∙ ap declaration_of cut) none
