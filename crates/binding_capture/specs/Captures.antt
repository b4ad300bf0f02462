-- The captured tokens of an action's bodies, and the lists by which they are found.
use Rattle.std.specs.Prelude.{◌≡◌, ℕ, ◌<◌, Bool, true, ◌||◌, List, [], ◌∷◌, Option, Some, None, length, map, slice_get, slice_index_or, Vec, if◌then◌else◌}
use Rattle.std.specs.Global.{Global}
use Rattle.action_terms.specs.Actions.{Action}
use Rattle.action_terms.specs.Information.{Token}
use Rattle.sort_rules.specs.Demands.{closure_bodies}
use Rattle.sort_rules.specs.Measures.{asked_beneath, captured, has_token}
use Rattle.sort_rules.specs.Numbers.{is_listed}
use Rattle.sort_rules.specs.Procedures.{above, is_beneath}
use Rattle.sort_rules.specs.Shapes.{domain}
use Rattle.sort_rules.specs.Tables.{BindsIn, MarkedTable}
use Rattle.binding_capture.specs.declared.marking.Candidate.{Candidate}

-- by the number of its root, the captured tokens of each closure's body
pub record AreCaptured (a : Action) (t : MarkedTable) (captures : List (List Token)) : Type 0 where
  pub long : length captures ≡ length a
  pub each : (c : ℕ) → is_listed c (closure_bodies a) ≡ true → slice_get captures c ≡ Some (captured a t c)

-- ---- how they are found

-- the node under which each node stands
pub record AreAbove (a : Action) (holders : List (Option ℕ)) : Type 0 where
  pub long : length holders ≡ length a
  pub each : (k : ℕ) → k < length a → slice_index_or holders k None ≡ above a k

-- a token, and whether something asks for it
pub record Marked : Type 0 where
  pub token : Token
  pub asked : Bool

-- marked tokens without where their bytes lie
abbrev pub marked_of : List Candidate → List Marked
marked_of cs = map (λ c. record { token = c.token.now; asked = c.asked }) cs

-- tokens with a mark on those that are asked for
abbrev pub marks : List Token → List Token → List Marked
marks ts asked = map (λ t. record { token = t; asked = has_token t asked }) ts

-- more tokens are asked for
abbrev pub with_asked : List Token → List Marked → List Marked
with_asked asked ms = map (λ m. record { token = m.token; asked = has_token m.token asked || m.asked }) ms

-- so it is, where the test holds
abbrev pub with_asked_if : Bool → List Token → List Marked → List Marked
with_asked_if b asked ms = if b then with_asked asked ms else ms

-- the tokens with a mark
abbrev pub asked_of : List Marked → List Token
asked_of [] = []
asked_of (m ∷ ms) = if m.asked then m.token ∷ asked_of ms else asked_of ms

-- the marked tokens of node c
abbrev pub marked_at : List (Vec Candidate Global) → Vec Candidate Global → ℕ → List Marked
marked_at candidates d c = marked_of (slice_index_or candidates c d).items

-- of each closure's body, its tokens with a mark on those for which one of these nodes beneath it asks
pub record AreMarked (a : Action) (t : MarkedTable) (nodes : List ℕ) (candidates : List (Vec Candidate Global)) : Type 0 where
  pub long : length candidates ≡ length a
  pub each : (c : ℕ) (d : Vec Candidate Global) → is_listed c (closure_bodies a) ≡ true
      → marked_at candidates d c ≡ marks (domain (t (BindsIn c))) (asked_beneath a t c nodes)

-- these tokens are asked for at node k: they are marked at each node that it stands beneath, and nothing else changes
pub record IsMarkedAbove (a : Action) (k : ℕ) (asked : List Token) (old new : List (Vec Candidate Global)) : Type 0 where
  pub long : length new ≡ length old
  pub each : (c : ℕ) (d : Vec Candidate Global) → c < length old → marked_at new d c ≡ with_asked_if (is_beneath a c k) asked (marked_at old d c)
