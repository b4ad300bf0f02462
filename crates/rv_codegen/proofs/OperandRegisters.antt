-- Two operands of one node have enough registers: the one that needs more comes first, and the other has one fewer.
use Rattle.std.proofs.Common.{◌≡◌, ⊎_elim, ℕ, ◌+◌, ◌^◌, ◌<◌, ◌≤◌, arith, pow_mono}
use Rattle.std.proofs.lemmas.Bool.{cases_lt}
use Rattle.action_terms.specs.Actions.{Yielder}
use Rattle.action_terms.specs.Need.{yielder_count}
use Rattle.rv_yield.specs.Registers.{registers_needed}
use Rattle.rv_yield.proofs.NeedLaws.{registers-enough, registers-few}

module _ (earlier later : Yielder) (few : yielder_count earlier + yielder_count later < 65536) where
  pub earlier-room : 10 + registers_needed earlier ≤ 26
  earlier-room = omega (arith, registers-enough earlier (omega (arith, few)))

  pub later-room : registers_needed later ≤ registers_needed earlier → 11 + registers_needed later ≤ 26
  later-room more = ⊎_elim
      (λ (h : registers_needed later < 16). omega (arith, h))
      (λ (h : 16 ≤ registers_needed later).
      let both : 16 ≤ registers_needed earlier = omega (arith, h, more) in
      absurd (omega (arith, pow_mono h, pow_mono both, registers-few earlier, registers-few later, few)))
      (cases_lt (registers_needed later) 16)
