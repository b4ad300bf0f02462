-- The lengths and the domains of parts, and those that a node's data and bindings have.
use Rattle.std.specs.Prelude.{◌≡◌, ℕ, List, [], ◌∷◌, length}
use Rattle.action_terms.specs.Information.{Token, Binds, NoBinds, Bound, Data}
use Rattle.sort_rules.specs.Parts.{Component, Part, Unreached, Listed, Clash}
use Rattle.sort_rules.specs.Tables.{DataIn, BindsIn, DataOut, BindsOut, Escaped, MarkedTable}

-- the length of a part: 0 where it is unreached
abbrev pub part_length : Part → ℕ
part_length Unreached = 0
part_length (Listed ps) = length ps
part_length Clash = 0

-- the tokens of a list
abbrev pub tokens_in : List Component → List Token
tokens_in [] = []
tokens_in (p ∷ ps) = p.token ∷ tokens_in ps

-- the domain of a part
abbrev pub domain : Part → List Token
domain Unreached = []
domain (Listed ps) = tokens_in ps
domain Clash = []

-- the tokens that are bound
abbrev pub bound_tokens : Binds → List Token
bound_tokens NoBinds = []
bound_tokens (Bound t x b) = t ∷ bound_tokens b

-- the part is a list
pub data IsList : Part → Type 0 where
  AList : {ps : List Component} → IsList (Listed ps)

-- what node k is given and receives has the length and the domain of its row
pub record EntersInShape (t : MarkedTable) (k : ℕ) (d : Data) (b : Binds) : Type 0 where
  pub data_reached : IsList (t (DataIn k))
  pub binds_reached : IsList (t (BindsIn k))
  pub given : length d ≡ part_length (t (DataIn k))
  pub received : bound_tokens b ≡ domain (t (BindsIn k))

-- so has what it completes with
pub record CompletesInShape (t : MarkedTable) (k : ℕ) (d : Data) (b : Binds) : Type 0 where
  pub data_reached : IsList (t (DataOut k))
  pub binds_reached : IsList (t (BindsOut k))
  pub given : length d ≡ part_length (t (DataOut k))
  pub received : bound_tokens b ≡ domain (t (BindsOut k))

-- and what it escapes with
pub record EscapesInShape (t : MarkedTable) (k : ℕ) (d : Data) : Type 0 where
  pub reached : IsList (t (Escaped k))
  pub given : length d ≡ part_length (t (Escaped k))
