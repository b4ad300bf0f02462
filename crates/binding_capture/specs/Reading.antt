-- What is read of the bindings that a closure holds: its captured tokens alone.
use Rattle.std.specs.Prelude.{◌≡◌, ℕ, ◌<◌, true, List, Option, Some, None, length, slice_get}
use Rattle.action_terms.specs.Actions.{Action, Yielder, node_at}
use Rattle.action_terms.specs.Bindings.{lookup}
use Rattle.action_terms.specs.Information.{Binds, Closure, Data, Datum, Storage, Token}
use Rattle.action_terms.specs.Yielding.{yields}
use Rattle.sort_rules.specs.Demands.{closure_bodies}
use Rattle.sort_rules.specs.Measures.{has_token, named_at, named_in}
use Rattle.sort_rules.specs.Numbers.{is_listed}
use Rattle.sort_rules.specs.Procedures.{is_beneath}
use Rattle.sort_rules.specs.Shapes.{domain}
use Rattle.sort_rules.specs.Tables.{BindsIn, BindsOut, MarkedTable}

-- two bindings agree on the captured tokens ts of body c, and on the tokens that c doesn't receive
abbrev pub Agree : MarkedTable → (c : ℕ) → (ts : List Token) → Binds → Binds → Type 0
Agree t c ts b b2 = (u : Token) → (has_token u (domain (t (BindsIn c))) ≡ true → has_token u ts ≡ true) → lookup u b ≡ lookup u b2

-- the same, or the same closure over what was received
pub data IsAlike (b b2 : Binds) : Option Datum → Option Datum → Type 0 where
  Same : {x : Option Datum} → IsAlike b b2 x x
  SameBody : {k : ℕ} → IsAlike b b2 (Some (Closure k b None)) (Some (Closure k b2 None))

-- of the tokens that body c receives, only these are read beneath it
pub record ReadsOnly (a : Action) (t : MarkedTable) (c : ℕ) (ts : List Token) : Type 0 where
  -- a yielder beneath c that names such tokens alone, as each of a node does, yields alike from bindings that agree
  pub yields : (k : ℕ) (y : Yielder) (d : Data) (b b2 : Binds) (cells : Storage) → k < length a → is_beneath a c k ≡ true
      → ((u : Token) → has_token u (named_in y) ≡ true → has_token u (named_at (node_at a k)) ≡ true) → Agree t c ts b b2
      → IsAlike b b2 (yields y d b cells) (yields y d b2 cells)
  -- what c, or a closure's body beneath it, completes with is among them
  pub completes : (k : ℕ) (u : Token) → k < length a → is_beneath a c k ≡ true → is_listed k (closure_bodies a) ≡ true
      → has_token u (domain (t (BindsOut k))) ≡ true → has_token u (domain (t (BindsIn c))) ≡ true → has_token u ts ≡ true

-- so it is for each closure's body
abbrev pub ReadOnlyCaptured : Action → MarkedTable → List (List Token) → Type 0
ReadOnlyCaptured a t captures = (c : ℕ) (ts : List Token) → is_listed c (closure_bodies a) ≡ true → slice_get captures c ≡ Some ts → ReadsOnly a t c ts
