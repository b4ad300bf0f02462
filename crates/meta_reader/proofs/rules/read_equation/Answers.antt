use Rattle.std.proofs.Common.{◌≡◌, ◌∙◌, ◌+◌, ap, sym, map, drop, Some, None}
use Rattle.std.specs.Prelude.{slice_range}
use Rattle.meta_terms.specs.Nodes.{label_of}
use Rattle.meta_terms.specs.PlainItems.{plain_pattern_part}
use Rattle.action_text.specs.Answers.{token_bytes}
use Rattle.action_text.specs.Texts.{texts}
use Rattle.action_text.proofs.TextAnswers.{texts_cut}
use Rattle.meta_reader.specs.Parsing.{PlainHead, head_of}
use Rattle.meta_reader.proofs.EquationTokens.{headless, whole_equation, untemplated}
use Rattle.meta_reader.proofs.Slices.{slice_rest}
use Rattle.meta_reader.proofs.rules.read_equation.Goals as goal

pub returns-in_default : goal.returns-in_default
returns-in_default c =
    let cut = texts_cut c.tokens.inside.list.now c.args.tokens.now c.args.from c.args.to c.tokens.view_is in
    let none : head_of (texts (slice_range c.tokens.inside.list.now c.args.from c.args.to)) ≡ None = rw c.in_default.is at c.in_ok-head.ensures.head in
    λ e is. headless (slice_range (token_bytes c.args.tokens.now) c.args.from c.args.to) e (sym (ap head_of cut) ∙ none) is

pub returns-in-Ok : goal.returns-in-Ok
returns-in-Ok c =
    let cut = texts_cut c.tokens.inside.list.now c.args.tokens.now c.args.from c.args.to c.tokens.view_is in
    let all = token_bytes c.args.tokens.now in
    let read = texts (slice_range c.tokens.inside.list.now c.args.from c.args.to) in
    let head : PlainHead = record { function = c.in-Some.head.function.now; pattern = map plain_pattern_part c.in-Some.head.pattern.now; action_tokens = drop c.in-Some.head.action read } in
    let found : head_of read ≡ Some head = rw c.in-Some.is at c.in_ok-head.ensures.head in
    whole_equation (slice_range all c.args.from c.args.to) (slice_range all (c.args.from + c.in-Some.head.action) c.args.to) head (map label_of c.in-Ok.action.list.now)
    (sym (ap head_of cut) ∙ found) (ap (drop c.in-Some.head.action) cut ∙ slice_rest all c.args.from c.args.to c.in-Some.head.action) c.in-Ok.ensures.template

pub returns-in-Err-At : goal.returns-in-Err-At
returns-in-Err-At c =
    let cut = texts_cut c.tokens.inside.list.now c.args.tokens.now c.args.from c.args.to c.tokens.view_is in
    let all = token_bytes c.args.tokens.now in
    let read = texts (slice_range c.tokens.inside.list.now c.args.from c.args.to) in
    let head : PlainHead = record { function = c.in-Some.head.function.now; pattern = map plain_pattern_part c.in-Some.head.pattern.now; action_tokens = drop c.in-Some.head.action read } in
    let found : head_of read ≡ Some head = rw c.in-Some.is at c.in_ok-head.ensures.head in
    let bad = rw c.in-Err-At.field-0-is at c.in-Err-At.ensures.error in
    untemplated (slice_range all c.args.from c.args.to) (slice_range all (c.args.from + c.in-Some.head.action) c.args.to) head bad.0
    (sym (ap head_of cut) ∙ found) (ap (drop c.in-Some.head.action) cut ∙ slice_rest all c.args.from c.args.to c.in-Some.head.action) bad.2
