-- Texts with a separator between each two, as they are written one after the other.
use Rattle.std.specs.Prelude.{ℕ, zero, suc, List, [], ◌∷◌, ◌++◌}

-- what stands before a text that has so many before it: the separator, but for the first
abbrev pub separator_behind : (separator members : ℕ) → List ℕ
separator_behind c zero = []
separator_behind c (suc n) = c ∷ []

-- texts behind so many others, each with what stands before it
abbrev pub separated_behind : (separator members : ℕ) → List (List ℕ) → List ℕ
separated_behind c n [] = []
separated_behind c n (x ∷ xs) = separator_behind c n ++ (x ++ separated_behind c (suc n) xs)
