use Rattle.std.proofs.Common.{map, take}
use Rattle.meta_terms.specs.PlainItems.{plain_pattern_part}
use Rattle.meta_check.specs.Tables.{category_of, number_by}
use Rattle.meta_check.proofs.Filling.{HasCategories}
use Rattle.meta_check.proofs.categories.categories_of.Given as goal

abbrev pub invariant-loop-part : goal.invariant-loop-part
invariant-loop-part l = HasCategories (category_of (number_by l.numbers)) (take l.part-index (map plain_pattern_part l.pattern)) l.categories.entries
