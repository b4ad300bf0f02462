-- Lists that grow at their end.
use Rattle.std.specs.Prelude.{◌≡◌, List, ◌++◌, Contains}

-- what the old list has, the new one has
abbrev pub IsKept : {K : Type 0} → List K → List K → Type 0
IsKept {K} old new = (x : K) → Contains old x → Contains new x

-- more was added behind the list
abbrev pub IsLonger : {K : Type 0} → List K → List K → Type 0
IsLonger {K} old new = (more : List K) × (new ≡ old ++ more)
