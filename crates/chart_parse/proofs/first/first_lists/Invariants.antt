use Rattle.std.proofs.Common.{◌≡◌, length}
use Rattle.chart_parse.specs.Table.{AllWide}
use Rattle.chart_parse.proofs.FirstLists.{HasFirst}
use Rattle.chart_parse.proofs.first.first_lists.Given as goal

abbrev pub invariant-loop-c : goal.invariant-loop-c
invariant-loop-c l = record {
  len : length l.table.items ≡ l.c;
  wide : AllWide (length l.row) l.table.items;
  lists : HasFirst l.c l.row l.table.items;
}
