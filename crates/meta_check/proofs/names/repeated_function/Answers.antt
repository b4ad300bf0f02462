use Rattle.std.proofs.Common.{◌∙◌, map, take, sym}
use Rattle.gram_form.specs.Plain.{texts}
use Rattle.meta_terms.specs.PlainItems.{plain_item}
use Rattle.meta_check.specs.Rules.{repeats_function}
use Rattle.meta_check.specs.Views.{functions_of}
use Rattle.meta_check.proofs.Known.{same_declaration, function_noted}
use Rattle.meta_check.proofs.Searching.{holds_more, first_breach, holds_all}
use Rattle.meta_check.proofs.names.repeated_function.Goals as goal

pub returns-then-repeats_declaration : goal.returns-then-repeats_declaration
returns-then-repeats_declaration c =
    first_breach repeats_function c.args.items.now c.loop-number.number c.index-items-number.result c.loop-number.invariant.holds c.loop-number-test.true c.index-items-number.is
    (sym (c.if-repeats_declaration.ensures ∙ same_declaration (texts c.loop-number.names.keys) (functions_of (take c.loop-number.number (map plain_item c.args.items.now))) c.loop-number.invariant.seen (plain_item c.index-items-number.result)))

pub loop-number-preserved : goal.loop-number-preserved
loop-number-preserved c = record {
  holds = holds_more repeats_function c.args.items.now c.loop-number.number c.index-items-number.result c.loop-number.invariant.holds c.index-items-number.is
      (sym (c.if-repeats_declaration.ensures ∙ same_declaration (texts c.loop-number.names.keys) (functions_of (take c.loop-number.number (map plain_item c.args.items.now))) c.loop-number.invariant.seen (plain_item c.index-items-number.result)));
  seen = function_noted c.args.items.now c.loop-number.number c.index-items-number.result (texts c.loop-number.names.keys) (texts c.note_function.new.names.keys) c.loop-number-test.true c.loop-number.invariant.seen c.index-items-number.is c.in_ok-note_function.ensures;
}

pub returns : goal.returns
returns c = holds_all repeats_function c.args.items.now c.loop-number.number c.loop-number.invariant.holds c.loop-number-test.false
