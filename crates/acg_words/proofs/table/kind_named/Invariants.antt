use Rattle.std.proofs.Common.{◌≡◌, drop}
use Rattle.acg_words.specs.Commands.{kind_of, first_named}
use Rattle.acg_words.specs.declared.table.TheConstants.{KINDS}
use Rattle.acg_words.proofs.table.kind_named.Given as goal

abbrev pub invariant-loop-kind : goal.invariant-loop-kind
invariant-loop-kind l = first_named (drop l.kind-index KINDS) l.name ≡ kind_of l.name
