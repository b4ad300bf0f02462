use Rattle.std.proofs.Common.{◌≡◌, drop, map}
use Rattle.gram_form.specs.Trees.{plain_pieces}
use Rattle.meta_terms.specs.PlainItems.{plain_pattern_part}
use Rattle.equation_expand.specs.Meaning.{part_of, parts_of}
use Rattle.equation_expand.specs.Seen.{part_by}
use Rattle.equation_expand.specs.Sources.{PlainSource}
use Rattle.equation_expand.proofs.filled.part_for.Given as goal

abbrev pub invariant-loop-place : goal.invariant-loop-place
invariant-loop-place l =
    (s : PlainSource) → part_of (drop l.place (map plain_pattern_part l.equation.pattern.now)) (drop l.place (parts_of s.description s.lexemes (plain_pieces l.tree.parts.now))) l.variable
    ≡ part_by s l.equation l.tree l.variable
