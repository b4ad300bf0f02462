-- What data and bindings in memory stand for.
use Rattle.std.specs.Prelude.{List, [], ◌∷◌, map, Option, option_map}
use Rattle.action_terms.specs.Information.{Datum as Meant, Number, Truth, CellOf, Closure, Binds, NoBinds, Bound, Token, Data, Storage}
use Rattle.action_values.specs.declared.datum.Datum.{Datum, Datum-F, fold-Datum}
use Rattle.action_values.specs.declared.datum.Datum.TheOpen as open_data
use Rattle.action_values.specs.declared.datum.Binding.{Binding, Binding-F, fold-Binding}

-- a token and the datum that it is bound to
pub record Pair : Type 0 where
  pub token : Token
  pub datum : Meant

-- the bindings of these pairs
abbrev pub binds_of : List Pair → Binds
binds_of [] = NoBinds
binds_of (p ∷ ps) = Bound p.token p.datum (binds_of ps)

-- one level of a datum, and of a binding
abbrev pub datum_step : Datum-F Meant Pair → Meant
datum_step (open_data.Number n) = Number n
datum_step (open_data.Truth b) = Truth b
datum_step (open_data.Cell c) = CellOf c
datum_step (open_data.Closure body bound own) = Closure body (binds_of bound.now) (option_map (λ t. t.now) own)

abbrev pub pair_step : Binding-F Meant Pair → Pair
pair_step p = record { token = p.token.now; datum = p.datum }

-- the datum that a datum in memory stands for
abbrev pub meant : Datum → Meant
meant = fold-Datum Meant Pair datum_step pair_step

abbrev pub pair_of : Binding → Pair
pair_of = fold-Binding Meant Pair datum_step pair_step

abbrev pub data_of : List Datum → Data
data_of d = map meant d

abbrev pub bindings_of : List Binding → Binds
bindings_of b = binds_of (map pair_of b)

-- the storage of cells in memory
abbrev pub storage_of : List (Option Datum) → Storage
storage_of cells = map (option_map meant) cells
