-- A count of 64 bits that goes up by one and stays at its greatest value.
use Rattle.std.proofs.Common.{◌≡◌, ℕ, ◌-◌, ◌^◌, arith, ⊎_elim, inl, inr}
use Rattle.std.proofs.lemmas.Bool.{cases_lt}
use Rattle.acg_base.specs.Outside.{Rose, counted}

-- it is greater then, or stands at its greatest value
pub counted-rose : (old new : ℕ) → new ≡ counted old → Rose old new
counted-rose old new h = ⊎_elim (λ lt. inl (omega arith)) (λ ge. inr (omega arith)) (cases_lt old (2 ^ 64 - 1))
