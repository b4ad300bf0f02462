use Rattle.std.proofs.Common.{◌∙◌, sym, ap, map, refl}
use Rattle.std.proofs.lemmas.List.{drop_all}
use Rattle.action_text.specs.Numbers.{name_number}
use Rattle.action_text.specs.Tables.{other_of}
use Rattle.action_text.specs.Rows.{other_at}
use Rattle.action_text.proofs.RowLookups.{other_here, other_next}
use Rattle.action_text.proofs.lookup.find_other_in.Goals as goal

pub returns-then-is : goal.returns-then-is
returns-then-is c =
    sym (c.loop-row.invariant ∙ other_here c.args.rows.now c.loop-row.row-index (name_number c.args.name) _ c.loop-row-test.true (sym c.is.ensures ∙ c.if-is.true))

pub loop-row-preserved : goal.loop-row-preserved
loop-row-preserved c = c.loop-row.invariant ∙ other_next c.args.rows.now c.loop-row.row-index _ (name_number c.args.name) _ refl c.loop-row-test.true (sym c.is.ensures ∙ c.if-is.false)

pub returns : goal.returns
unfolding other_of
returns c = sym (c.loop-row.invariant ∙ ap (λ rs. other_of (map other_at rs) (name_number c.args.name)) (drop_all c.loop-row.row-index c.args.rows.now c.loop-row-test.false))
