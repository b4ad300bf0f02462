-- What is handed to a writer whose bytes are known, and how a transfer fails.
use Rattle.std.specs.Prelude.{◌≡◌, ℕ, ◌⊎◌, Bool, IsTrue, List, take, Option, Some}
use Rattle.std.specs.Io.KnownBytes.{Appends}
use Rattle.acg_base.specs.Outside.{counted}

-- known bytes grow by a front of the piece
abbrev pub AppendsFrontOf : (piece : List ℕ) → (old new : Option (List ℕ)) → Type 0
AppendsFrontOf piece old new = (count : ℕ) × Appends old new (take count piece)

-- a writer was created for the name, and holds exactly the bytes
abbrev pub Holds : (target contents : Option (List ℕ)) → (name bytes : List ℕ) → Type 0
Holds target contents name bytes = (target ≡ Some name) × (contents ≡ Some bytes)

-- a writer was created for the name, and holds a front of the bytes
abbrev pub HoldsFront : (target contents : Option (List ℕ)) → (name bytes : List ℕ) → Type 0
HoldsFront target contents name bytes = (count : ℕ) × Holds target contents name (take count bytes)

-- one more file was refused, or what was closed last had one fault, in its last call
abbrev pub RefusedOrBroke : (old new faults : ℕ) → (failed : Bool) → Type 0
RefusedOrBroke old new faults failed = (new ≡ counted old) ⊎ ((faults ≡ 1) × IsTrue failed)

-- what was closed last was opened for the name, and had one fault, in its last call
abbrev pub BrokeOnce : (opened : Option (List ℕ)) → (name : List ℕ) → (faults : ℕ) → (failed : Bool) → Type 0
BrokeOnce opened name faults failed = (opened ≡ Some name) × (faults ≡ 1) × IsTrue failed
