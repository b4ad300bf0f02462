use Rattle.std.proofs.Common.{◌∙◌, sym, ap, map, refl, inl, inr}
use Rattle.std.proofs.lemmas.List.{drop_all}
use Rattle.action_text.specs.Numbers.{class_number, name_number}
use Rattle.action_text.specs.Tables.{line_of}
use Rattle.action_text.specs.Rows.{line_at}
use Rattle.action_text.proofs.RowLookups.{line_here, line_next}
use Rattle.action_text.proofs.lookup.find_row_in.Goals as goal
use Rattle.action_text.proofs.lookup.find_row_in.Goals.{else-is-via-then-is+else-is-2, else-is-via-else-is}

pub returns-then-is-2 : goal.returns-then-is-2
returns-then-is-2 c =
    sym (c.loop-row.invariant ∙ line_here c.args.rows.now c.loop-row.row-index (name_number c.args.name) (class_number c.args.class) _ c.loop-row-test.true (sym c.is.ensures ∙ c.if-is.true) (sym c.is-then-is.ensures ∙ c.if-is-2.true))

pub loop-row-preserved : goal.loop-row-preserved
loop-row-preserved c = c.loop-row.invariant ∙ elim c.else-is.branch [
  | else-is-via-then-is+else-is-2 w ↦
      line_next c.args.rows.now c.loop-row.row-index _ (name_number c.args.name) (class_number c.args.class) _ refl c.loop-row-test.true (inr (sym w.is-then-is.ensures ∙ w.if-is-2.false))
  | else-is-via-else-is w ↦
      line_next c.args.rows.now c.loop-row.row-index _ (name_number c.args.name) (class_number c.args.class) _ refl c.loop-row-test.true (inl (sym c.is.ensures ∙ w.if-is.false))
]

pub returns : goal.returns
unfolding line_of
returns c = sym (c.loop-row.invariant ∙ ap (λ rs. line_of (map line_at rs) (name_number c.args.name) (class_number c.args.class)) (drop_all c.loop-row.row-index c.args.rows.now c.loop-row-test.false))
