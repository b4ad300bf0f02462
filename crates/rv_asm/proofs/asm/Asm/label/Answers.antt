-- What is kept stays so with one more label.
use Rattle.std.proofs.Common.{◌+◌, ◌≤◌, length, vec_capacity, arith}
use Rattle.rv_asm.proofs.LabelsKept.{IsKept-label}
use Rattle.rv_asm.proofs.asm.Asm.label.Goals as goal

pub invariant_of-self-2 : goal.invariant_of-self-2
invariant_of-self-2 c =
    let a = c.self.inside in
    let more = vec_capacity c.reserve.new.self in
    let room : length a.items.items + (a.open_count + 1) ≤ more =
    omega (arith, c.in_ok-reserve.ensures.ok, c.in_ok-reserve.ensures.len) in
    IsKept-label a.items.items c.reserve.new.self.items a.labels a.open_count (vec_capacity a.items) more c.self.invariant
    c.in_ok-reserve.ensures.items room
