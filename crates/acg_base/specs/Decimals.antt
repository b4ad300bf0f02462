-- Numbers as text of decimal digits, and the numbers that such text spells.
use Rattle.std.specs.Prelude.{ℕ, zero, suc, ◌+◌, ◌-◌, ◌*◌, ◌/◌, ◌%◌, ◌^◌, ◌==◌, ◌&&◌, Bool, true, false, List, [], ◌∷◌, ◌++◌, length, Option, Some, None, nat_lt, if◌then◌else◌, ℤ, pos, negsuc, neg_ℤ}
use Rattle.std.specs.Option.{option_map, option_and_then}
use Rattle.std.specs.Str.{all_ascii_digits}

-- the decimal of a number of at most so many digits, the most significant digit first; 48 is `0`
unfoldable pub decimal_within : ℕ → ℕ → List ℕ
decimal_within zero number = []
decimal_within (suc places) number =
    elim (nat_lt number 10) [ true ↦ (48 + number) ∷ [] | false ↦ decimal_within places (number / 10) ++ (48 + number % 10) ∷ [] ]

-- the decimal of a number, with no leading zero: a number has no more digits than it counts, and one for 0
unfoldable pub unsigned_decimal_of : ℕ → List ℕ
unsigned_decimal_of number = decimal_within (suc number) number

-- the decimal of an integer; 45 is `-`
abbrev pub decimal_of : ℤ → List ℕ
decimal_of (pos number) = unsigned_decimal_of number
decimal_of (negsuc number) = 45 ∷ unsigned_decimal_of (suc number)

-- the number of these digits: each weighs ten to the number of digits behind it
abbrev pub number_of : List ℕ → ℕ
number_of [] = 0
number_of (digit ∷ digits) = (digit - 48) * 10 ^ length digits + number_of digits

-- the number that one digit or more spell, and nothing for other bytes
abbrev pub spelled_number : List ℕ → Option ℕ
spelled_number bytes = if nat_lt 0 (length bytes) && all_ascii_digits bytes then Some (number_of bytes) else None

-- the integer that a minus or none and then one digit or more spell, and nothing for other bytes
abbrev pub spelled_integer : List ℕ → Option ℤ
spelled_integer [] = None
spelled_integer (byte ∷ bytes) =
    if byte == 45 then option_map (λ number. neg_ℤ (pos number)) (spelled_number bytes) else option_map pos (spelled_number (byte ∷ bytes))

-- the integer is one of 64 signed bits
abbrev pub fits_i64 : ℤ → Bool
fits_i64 (pos number) = nat_lt number (2 ^ 63)
fits_i64 (negsuc number) = nat_lt number (2 ^ 63)

-- the integer that the bytes spell, where it is one of 64 signed bits
abbrev pub spelled_i64 : List ℕ → Option ℤ
spelled_i64 bytes = option_and_then (λ integer. if fits_i64 integer then Some integer else None) (spelled_integer bytes)
