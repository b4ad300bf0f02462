use Rattle.std.proofs.Common.{◌≡◌, take, false}
use Rattle.chart_parse.specs.Rows.{AreWide, ListsBoth}
use Rattle.chart_parse.proofs.rows.add_all.Given as goal

abbrev pub invariant-loop-k : goal.invariant-loop-k
invariant-loop-k l = record {
  wide : AreWide l.width l.list.items;
  joined : ListsBoth l.width l.fn.list.items (take l.k l.from) l.list.items;
  same : l.more ≡ false → l.list.items ≡ l.fn.list.items;
}
