use Rattle.std.proofs.Common.{◌∙◌, ap, map, sym, List, ℕ}
use Rattle.std.specs.Prelude.{fold}
use Rattle.std.specs.List.{flat_map}
use Rattle.gram_form.specs.Plain.{texts, plain_production}
use Rattle.gram_form.specs.Grammars.{names_of, seen_with, literal_in, parts_of}
use Rattle.gram_form.specs.GrammarErrors.{place_of}
use Rattle.gram_form.proofs.Built.{is_grammar, some_of}
use Rattle.gram_form.proofs.SameNames.{first_too}
use Rattle.gram_form.proofs.grammar.Grammar.build.Goals as goal

pub returns-in-Some-clause-error : goal.returns-in-Some-clause-error
returns-in-Some-clause-error c =
    first_too (texts c.in_ok-names.names.keys) (names_of (map plain_production c.args.list.now)) c.in_ok-names.ensures (map plain_production c.args.list.now) (place_of c.in-Some.found) c.in-Some.ensures

pub invariant_of-result : goal.invariant_of-result
invariant_of-result c =
    let noted = ap texts c.in_ok-literals.ensures ∙ c.as_slice.ensures ∙ c.in_ok-productions.ensures.seen
    ∙ ap (λ (seen : List (List ℕ)). fold seen_with seen (flat_map literal_in (parts_of (map plain_production c.args.list.now)))) c.new-noted.ensures in
    is_grammar (map plain_production c.args.list.now) c.in_ok-productions.productions.now c.in_ok-literals.field-0.now (texts c.in_ok-names.names.keys)
    (some_of c.args.list.now (sym c.is_empty.ensures ∙ c.if-is_empty.false)) c.requires.distinct c.in_ok-names.ensures c.in_default.ensures c.in_ok-productions.ensures.productions noted

pub returns-clause-grammar : goal.returns-clause-grammar
returns-clause-grammar c =
    let noted = ap texts c.in_ok-literals.ensures ∙ c.as_slice.ensures ∙ c.in_ok-productions.ensures.seen
    ∙ ap (λ (seen : List (List ℕ)). fold seen_with seen (flat_map literal_in (parts_of (map plain_production c.args.list.now)))) c.new-noted.ensures in
    is_grammar (map plain_production c.args.list.now) c.in_ok-productions.productions.now c.in_ok-literals.field-0.now (texts c.in_ok-names.names.keys)
    (some_of c.args.list.now (sym c.is_empty.ensures ∙ c.if-is_empty.false)) c.requires.distinct c.in_ok-names.ensures c.in_default.ensures c.in_ok-productions.ensures.productions noted
