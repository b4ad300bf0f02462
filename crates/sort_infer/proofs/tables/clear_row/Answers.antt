use Rattle.std.proofs.Common.{ap}
use Rattle.sort_rules.specs.Judgements.{misfit_unless}
use Rattle.sort_rules.specs.Tables.{BindsIn, BindsOut, Contents, DataIn, DataOut, Escaped, Mark}
use Rattle.sort_infer.proofs.ClearRows.{part-clash}
use Rattle.sort_infer.proofs.tables.clear_row.Goals as goal

pub returns-then-not-row-clause-clash : goal.returns-then-not-row-clause-clash
returns-then-not-row-clause-clash c = λ e. part-clash c.args.row (Mark 0) (ap misfit_unless c.if-not-row.true)

pub returns-in_err-tuple_sort-clause-clash : goal.returns-in_err-tuple_sort-clause-clash
returns-in_err-tuple_sort-clause-clash c = λ e. part-clash c.args.row (DataIn 0) (c.tuple_sort.ensures.clash c.in_err-tuple_sort.was)

pub returns-in_err-bind_sort-clause-clash : goal.returns-in_err-bind_sort-clause-clash
returns-in_err-bind_sort-clause-clash c = λ e. part-clash c.args.row (BindsIn 0) (c.bind_sort.ensures.clash c.in_err-bind_sort.was)

pub returns-in_err-tuple_sort-2-clause-clash : goal.returns-in_err-tuple_sort-2-clause-clash
returns-in_err-tuple_sort-2-clause-clash c = λ e. part-clash c.args.row (DataOut 0) (c.tuple_sort-2.ensures.clash c.in_err-tuple_sort-2.was)

pub returns-in_err-bind_sort-2-clause-clash : goal.returns-in_err-bind_sort-2-clause-clash
returns-in_err-bind_sort-2-clause-clash c = λ e. part-clash c.args.row (BindsOut 0) (c.bind_sort-2.ensures.clash c.in_err-bind_sort-2.was)

pub returns-in_err-tuple_sort-3-clause-clash : goal.returns-in_err-tuple_sort-3-clause-clash
returns-in_err-tuple_sort-3-clause-clash c = λ e. part-clash c.args.row (Escaped 0) (c.tuple_sort-3.ensures.clash c.in_err-tuple_sort-3.was)

pub returns-in_err-contents_set-clause-clash : goal.returns-in_err-contents_set-clause-clash
returns-in_err-contents_set-clause-clash c = λ e. part-clash c.args.row (Contents 0) (c.contents_set.ensures.clash c.in_err-contents_set.was)
