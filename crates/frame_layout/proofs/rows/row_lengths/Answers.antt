use Rattle.std.proofs.Common.{arith, ◌∙◌}
use Rattle.sort_rules.specs.Views.{row_of}
use Rattle.frame_layout.proofs.RowLengths.{row-read}
use Rattle.frame_layout.proofs.rows.row_lengths.Goals as goal

pub tuple_length-requires : goal.tuple_length-requires
tuple_length-requires c = (row-read c.args.table.now c.args.node (row_of c.row-row.result) c.row-row.ensures.row c.requires.narrow c.requires.row).few_in

pub binds_length-requires : goal.binds_length-requires
binds_length-requires c = (row-read c.args.table.now c.args.node (row_of c.row-row.result) c.row-row.ensures.row c.requires.narrow c.requires.row).few_binds_in

pub tuple_length-requires-2 : goal.tuple_length-requires-2
tuple_length-requires-2 c = (row-read c.args.table.now c.args.node (row_of c.row-row.result) c.row-row.ensures.row c.requires.narrow c.requires.row).few_out

pub binds_length-requires-2 : goal.binds_length-requires-2
binds_length-requires-2 c = (row-read c.args.table.now c.args.node (row_of c.row-row.result) c.row-row.ensures.row c.requires.narrow c.requires.row).few_binds_out

pub tuple_length-requires-3 : goal.tuple_length-requires-3
tuple_length-requires-3 c = (row-read c.args.table.now c.args.node (row_of c.row-row.result) c.row-row.ensures.row c.requires.narrow c.requires.row).few_escaped

pub invariant_of-result : goal.invariant_of-result
invariant_of-result c =
    let r = row-read c.args.table.now c.args.node (row_of c.row-row.result) c.row-row.ensures.row c.requires.narrow c.requires.row in
    record { few = (omega (arith, c.tuple_length.ensures, r.few_in), omega (arith, c.binds_length.ensures, r.few_binds_in), omega (arith, c.tuple_length-2.ensures, r.few_out), omega (arith, c.binds_length-2.ensures, r.few_binds_out), omega (arith, c.tuple_length-3.ensures, r.few_escaped)) }

pub returns : goal.returns
returns c =
    let r = row-read c.args.table.now c.args.node (row_of c.row-row.result) c.row-row.ensures.row c.requires.narrow c.requires.row in
    record {
      data_in = c.tuple_length.ensures ∙ r.data_in;
      binds_in = c.binds_length.ensures ∙ r.binds_in;
      data_out = c.tuple_length-2.ensures ∙ r.data_out;
      binds_out = c.binds_length-2.ensures ∙ r.binds_out;
      escaped = c.tuple_length-3.ensures ∙ r.escaped;
    }
