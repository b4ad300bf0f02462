-- Bytes and numbers, the lowest byte first.
use Rattle.std.specs.Prelude.{ℕ, zero, suc, ◌+◌, ◌*◌, ◌/◌, ◌%◌, List, [], ◌∷◌, ◌++◌, take, drop, length}

-- the number that bytes spell
unfoldable pub number_of : List ℕ → ℕ
number_of [] = 0
number_of (b ∷ bs) = b + 256 * number_of bs

-- the k lowest bytes of a number
unfoldable pub bytes_of : ℕ → ℕ → List ℕ
bytes_of zero n = []
bytes_of (suc k) n = n % 256 ∷ bytes_of k (n / 256)

-- the list with these bytes in place of those from place i on
abbrev pub put_at : List ℕ → ℕ → List ℕ → List ℕ
put_at xs i bs = take i xs ++ (bs ++ drop (i + length bs) xs)
