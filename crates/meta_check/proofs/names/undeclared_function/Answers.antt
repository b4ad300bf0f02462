use Rattle.std.proofs.Common.{◌∙◌, map, sym}
use Rattle.gram_form.specs.Plain.{texts}
use Rattle.meta_terms.specs.PlainItems.{plain_item}
use Rattle.meta_check.specs.Rules.{names_no_function}
use Rattle.meta_check.specs.Views.{functions_of}
use Rattle.meta_check.proofs.Known.{same_calls}
use Rattle.meta_check.proofs.Searching.{holds_more, first_breach, holds_all}
use Rattle.meta_check.proofs.names.undeclared_function.Goals as goal

pub returns-then-calls_outside : goal.returns-then-calls_outside
returns-then-calls_outside c =
    first_breach names_no_function c.args.items.now c.loop-number.number c.index-items-number.result c.loop-number.invariant c.loop-number-test.true c.index-items-number.is
    (sym (c.if-calls_outside.ensures ∙ same_calls (texts c.in_ok-names.names.keys) (functions_of (map plain_item c.args.items.now)) c.in_ok-names.ensures (plain_item c.index-items-number.result)))

pub loop-number-preserved : goal.loop-number-preserved
loop-number-preserved c =
    holds_more names_no_function c.args.items.now c.loop-number.number c.index-items-number.result c.loop-number.invariant c.index-items-number.is
    (sym (c.if-calls_outside.ensures ∙ same_calls (texts c.in_ok-names.names.keys) (functions_of (map plain_item c.args.items.now)) c.in_ok-names.ensures (plain_item c.index-items-number.result)))

pub returns : goal.returns
returns c = holds_all names_no_function c.args.items.now c.loop-number.number c.loop-number.invariant c.loop-number-test.false
