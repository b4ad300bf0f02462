use Rattle.std.proofs.Common.{◌≡◌, ◌-◌, ◌≤◌, length, take}
use Rattle.std.specs.Io.KnownBytes.{Appends}
use Rattle.acg_base.proofs.transfer.hand_on.Given as goal

abbrev pub invariant-loop-done : goal.invariant-loop-done
invariant-loop-done g l = record {
  within : l.done ≤ length l.bytes;
  handed : Appends (g.W.CountingWrite.contents l.fn.writer) (g.W.CountingWrite.contents l.writer) (take l.done l.bytes);
  passed : g.W.CountingWrite.faults l.writer ≡ g.W.CountingWrite.faults l.fn.writer;
  target : g.W.CountingWrite.target l.writer ≡ g.W.CountingWrite.target l.fn.writer;
}

abbrev pub decreases-loop-done : goal.decreases-loop-done
decreases-loop-done g l = length l.bytes - l.done
