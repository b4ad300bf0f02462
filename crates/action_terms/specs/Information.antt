-- The information that actions handle: data, transients, bindings, storage, and what is outside.
use Rattle.std.specs.Prelude.{ℕ, ℤ, Bool, List, Option}

-- a token is what can be bound, as its bytes
abbrev pub Token : Type 0
Token = List ℕ

mutual
  -- a closure has the root of its body, the bindings where it was made, and the token that is bound to itself, if any
  pub data Datum : Type 0 where
    Number : (n : ℤ) → Datum
    Truth : (b : Bool) → Datum
    CellOf : (number : ℕ) → Datum
    Closure : (body : ℕ) (binds : Binds) (own : Option Token) → Datum

  -- bindings, as the list of their pairs: each token once, tokens ascending
  pub data Binds : Type 0 where
    NoBinds : Binds
    Bound : (token : Token) (datum : Datum) (rest : Binds) → Binds

-- transients, or what is given
abbrev pub Data : Type 0
Data = List Datum

-- what each cell holds, by its number: nothing where it is unset
abbrev pub Storage : Type 0
Storage = List (Option Datum)

-- the storage, the messages sent so far, and the integers of the input that are left
pub record World : Type 0 where
  pub cells : Storage
  pub output : List ℤ
  pub input : List ℤ
