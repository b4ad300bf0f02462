-- The words that a command line's arguments are.
use Rattle.std.specs.Prelude.{◌≡◌, ℕ, List, [], ◌∷◌, drop, map, string_bytes, Result, Ok, Err}
use Rattle.std.specs.IoError.{error_kind}
use Rattle.std.specs.declared.alloc.Global.{Global}
use Rattle.std.specs.declared.io.Error.{Error}
use Rattle.std.specs.declared.io.ErrorKind.TheVariants.{OutOfMemory}
use Rattle.std.specs.declared.string.String.{String}
use Rattle.std.specs.declared.vec.IntoIter.{IntoIter}
use Rattle.std.specs.Vec.Iter.{into_iter_items}

-- the arguments without the first, which is the program's name, or one empty word where they aren't text
abbrev pub words_of : Result (IntoIter (String Global) Global) Error → List (List ℕ)
words_of (Ok args) = drop 1 (map string_bytes (into_iter_items args))
words_of (Err e) = [] ∷ []

-- there was no memory for the arguments themselves
abbrev pub AreUnkept : Result (IntoIter (String Global) Global) Error → Type 0
AreUnkept (Ok args) = ⊥
AreUnkept (Err e) = error_kind e ≡ OutOfMemory
