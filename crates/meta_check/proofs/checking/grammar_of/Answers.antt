use Rattle.std.proofs.Common.{◌∙◌, List, map, sym, ap, subst}
use Rattle.gram_form.specs.Plain.{PlainProduction, plain_production}
use Rattle.gram_form.specs.Grammars.{HaveDistinctNames}
use Rattle.meta_terms.specs.PlainItems.{plain_item}
use Rattle.meta_check.proofs.Defined.{never_undefined}
use Rattle.meta_check.proofs.DistinctNames.{distinct_names}
use Rattle.meta_check.proofs.checking.grammar_of.Goals as goal

pub build-requires-clause-distinct : goal.build-requires-clause-distinct
build-requires-clause-distinct c =
    let same = ap (map plain_production) c.as_slice.ensures.value ∙ c.in_ok-productions.ensures in
    subst (λ (ps : List PlainProduction). HaveDistinctNames ps) (sym same) (distinct_names (map plain_item c.args.items.now) c.requires.distinct)

pub unreachable-requires : goal.unreachable-requires
unreachable-requires c =
    let same = ap (map plain_production) c.as_slice.ensures.value ∙ c.in_ok-productions.ensures in
    let found = c.in-Err-Undefined in
    never_undefined (map plain_item c.args.items.now) c.requires.defined (map plain_production c.as_slice.result.now) same
    found.field-0-0 found.field-0-1 found.field-0-2 found.field-0 found.field-0-is found.ensures.error
