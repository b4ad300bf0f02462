use Rattle.std.proofs.Common.{◌≡◌, ◌+◌, length, drop}
use Rattle.std.specs.Io.{StartsWith}
use Rattle.std.specs.Io.KnownBytes.{Consumes}
use Rattle.acg_base.proofs.transfer.append_front.Given as goal

abbrev pub invariant-loop-left : goal.invariant-loop-left
invariant-loop-left g l = record {
  stays : StartsWith l.into.items l.fn.into.items;
  room : length l.into.items + l.left ≡ length l.fn.into.items + (l.fn.limit + 1);
  gave : Consumes (g.R.CountingRead.remaining l.fn.reader) (g.R.CountingRead.remaining l.reader) (drop (length l.fn.into.items) l.into.items);
  passed : g.R.CountingRead.faults l.reader ≡ g.R.CountingRead.faults l.fn.reader;
  source : g.R.CountingRead.source l.reader ≡ g.R.CountingRead.source l.fn.reader;
}

abbrev pub decreases-loop-left : goal.decreases-loop-left
decreases-loop-left g l = l.left
