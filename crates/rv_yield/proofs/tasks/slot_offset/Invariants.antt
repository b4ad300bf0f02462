-- The slots that are left have what all have.
use Rattle.std.proofs.Common.{◌≡◌, drop}
use Rattle.rv_yield.specs.Holding.{slot_offset, slots_of}
use Rattle.rv_yield.proofs.tasks.slot_offset.Given as goal

abbrev pub invariant-loop-bound_token : goal.invariant-loop-bound_token
invariant-loop-bound_token l = slot_offset (slots_of (drop l.bound_token-index l.bound)) l.token ≡ slot_offset (slots_of l.bound) l.token
