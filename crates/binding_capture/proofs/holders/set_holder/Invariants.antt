use Rattle.std.proofs.Common.{drop, length, ◌≡◌}
use Rattle.binding_capture.specs.Holders.{with_holder}
use Rattle.binding_capture.proofs.holders.set_holder.Given as goal

-- the first nodes have the holder
abbrev pub invariant-loop-i : goal.invariant-loop-i
invariant-loop-i l = record {
  written : with_holder l.holder (drop l.i l.nodes) l.holders.items ≡ with_holder l.holder l.nodes l.initial.holders.items;
  long : length l.holders.items ≡ length l.initial.holders.items;
}
