-- Where no token has a slot: what the code of yielders needs of the slots of tokens, if none of the yielders names a token.
use Rattle.std.proofs.Common.{◌≡◌, ℕ, ◌<◌, true, All, List, []}
use Rattle.std.proofs.lemmas.List.Elements.{All-nil}
use Rattle.rv_asm.proofs.Places.{and-true}
use Rattle.action_terms.specs.Actions.{Yielder, NumberLiteral, TruthLiteral, Given, GivenAt, BoundTo, StoredIn, OnTwo, OnOne, ClosureOf}
use Rattle.action_terms.specs.Information.{Binds}
use Rattle.rv_yield.specs.Evaluates.{HasSlots}
use Rattle.rv_yield.specs.Registers.{is_built}
use Rattle.rv_yield.proofs.Given.{IsNear}
use Rattle.rv_codegen.specs.GivenItems.{alone}

pub alone-near : {given : List ℕ} → All (λ o. o < 33554432) given → IsNear (alone given)
alone-near near = record { given = near; bound = All-nil (λ s. s.offset < 33554432) }

pub no-slots : (y : Yielder) → is_built y ≡ true → (b : Binds) → HasSlots [] y b
no-slots (StoredIn s y) built b = no-slots y built b
no-slots (OnTwo f y1 y2) built b =
    let q = and-true (is_built y1) (is_built y2) built in
    (no-slots y1 q.0 b, no-slots y2 q.1 b)
no-slots (OnOne f y) built b = no-slots y built b
no-slots (BoundTo s t) built b = absurd (cc)
no-slots (ClosureOf k) built b = tt
no-slots (NumberLiteral z) built b = tt
no-slots (TruthLiteral t) built b = tt
no-slots (Given s) built b = tt
no-slots (GivenAt s place) built b = tt
