-- Tables of slots of nodes none of which binds a token: they are as every combinator asks.
use Rattle.std.proofs.Common.{ℕ, List, [], refl}
use Rattle.action_terms.specs.Information.{Token}
use Rattle.action_terms.specs.Actions.{Join, And, Moreover, Chain, AndThen, Then, Hence, Before}
use Rattle.rv_codegen.proofs.BindTables.{Overlays, Unites, ChainBinds, JoinBinds}
use Rattle.rv_codegen.proofs.Holding.{Slot}

abbrev pub no_slots : ℕ → List Slot
no_slots k = []

abbrev pub NoTokens : ℕ → Token → Type 0
NoTokens k t = ⊥

overlays-none : (n l r : ℕ) → Overlays no_slots no_slots NoTokens n l r
overlays-none n l r = record { slots = tt; left = λ t h. h; right = λ t h. h }

unites-none : (n l r : ℕ) → Unites no_slots no_slots NoTokens n l r
unites-none n l r = record { overlays = overlays-none n l r; apart = λ t h g. h }

pub joins-none : (j : Join) (n l r : ℕ) → JoinBinds no_slots no_slots NoTokens j n l r
joins-none And n l r = unites-none n l r
joins-none Moreover n l r = overlays-none n l r

pub chains-none : (q : Chain) (n l r : ℕ) → ChainBinds no_slots no_slots NoTokens q n l r
chains-none AndThen n l r = (refl, unites-none n l r)
chains-none Then n l r = (refl, unites-none n l r)
chains-none Hence n l r = (refl, refl, λ t h. h)
chains-none Before n l r = (tt, overlays-none n l r)
