use Rattle.std.proofs.Common.{sym, ◌∙◌, arith, add-one}
use Rattle.acg_words.specs.declared.table.TheConstants.{KINDS}
use Rattle.acg_words.proofs.Tables.{first_named-other}
use Rattle.acg_words.proofs.table.kind_named.Goals as goal

pub loop-kind-preserved : goal.loop-kind-preserved
loop-kind-preserved c =
    let other = first_named-other KINDS c.loop-kind.kind-index _ c.args.name.now (omega arith) (sym c.is_named.ensures ∙ c.if-is_named.false) in
    rw add-one (sym other ∙ c.loop-kind.invariant)
