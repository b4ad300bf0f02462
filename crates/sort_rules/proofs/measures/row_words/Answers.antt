use Rattle.std.proofs.Common.{arith}
use Rattle.sort_rules.proofs.Widths.{part-most}
use Rattle.sort_rules.proofs.measures.row_words.Goals as goal

pub returns-clause-few : goal.returns-clause-few
returns-clause-few c =
    let row = c.requires in
    omega (
      arith,
      c.tuple_length.ensures,
      c.tuple_length-2.ensures,
      c.tuple_length-3.ensures,
      c.binds_length.ensures,
      c.binds_length-2.ensures,
      part-most row.data_in.sort,
      part-most row.binds_in.sort,
      part-most row.data_out.sort,
      part-most row.binds_out.sort,
      part-most row.escaped.sort,
    )
