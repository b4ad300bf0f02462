-- The offsets so far are near.
use Rattle.std.proofs.Common.{◌<◌}
use Rattle.std.specs.Prelude.{All}
use Rattle.rv_yield_tests.proofs.programs.offsets_of.Given as goal

abbrev pub invariant-loop-i : goal.invariant-loop-i
invariant-loop-i l = All (λ offset. offset < 33554432) l.offsets.items
