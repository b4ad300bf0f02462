use Rattle.std.proofs.Common.{◌≡◌, map}
use Rattle.meta_terms.specs.PlainItems.{plain_equation}
use Rattle.meta_check.specs.Checked.{PlainDescription, items_of}
use Rattle.meta_check.specs.Views.{alternative_of}
use Rattle.equation_expand.proofs.EquationTable.{TellSoFar}
use Rattle.equation_expand.proofs.table.table_of.Given as goal

abbrev pub invariant-loop-number : goal.invariant-loop-number
invariant-loop-number l =
    (d : PlainDescription) → d.equations ≡ map plain_equation l.equations → l.alternatives ≡ map (alternative_of (items_of d)) d.equations → TellSoFar d l.equations l.number l.table.entries
