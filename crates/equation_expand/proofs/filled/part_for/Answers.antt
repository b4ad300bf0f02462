use Rattle.std.proofs.Common.{◌∙◌, sym, ap}
use Rattle.std.specs.Prelude.{option_map, slice_get}
use Rattle.gram_form.specs.Trees.{plain_pieces}
use Rattle.equation_expand.specs.Meaning.{parts_of}
use Rattle.equation_expand.specs.Seen.{seen_part}
use Rattle.equation_expand.proofs.FilledItems.{item-got, part-there}
use Rattle.equation_expand.proofs.HeldTrees.{seen-parts}
use Rattle.equation_expand.proofs.VariableParts.{here, later, slice-mapped}
use Rattle.equation_expand.proofs.filled.part_for.Goals as goal

pub returns-then-has_variable-clause-part : goal.returns-then-has_variable-clause-part
returns-then-has_variable-clause-part c s =
    let k = c.loop-place.place in
    let row = c.args.tree.now.parts.now in
    ap (option_map (seen_part s)) (c.copied.ensures ∙ item-got row k c.get.result c.get.ensures.lookup)
    ∙ slice-mapped (seen_part s) row k
    ∙ ap (λ xs. slice_get xs k) (sym (seen-parts s row))
    ∙ sym (here c.args.equation.now.pattern.now (parts_of s.description s.lexemes (plain_pieces row)) k _ c.args.variable.now c.loop-place-test.true (sym c.has_variable.ensures ∙ c.if-has_variable.true))
    ∙ c.loop-place.invariant s

pub returns-then-has_variable-clause-of : goal.returns-then-has_variable-clause-of
returns-then-has_variable-clause-of c =
    part-there c.args.tree.now c.loop-place.place c.copied.result (c.copied.ensures ∙ item-got c.args.tree.now.parts.now c.loop-place.place c.get.result c.get.ensures.lookup)

pub loop-place-preserved : goal.loop-place-preserved
loop-place-preserved c s =
    sym (later c.args.equation.now.pattern.now (parts_of s.description s.lexemes (plain_pieces c.args.tree.now.parts.now)) c.loop-place.place _ c.args.variable.now c.loop-place-test.true (sym c.has_variable.ensures ∙ c.if-has_variable.false))
    ∙ c.loop-place.invariant s
