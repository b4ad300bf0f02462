-- The longest token of each kind at the front.
use Rattle.std.proofs.Common.{◌≡◌, ℕ, zero, suc, ◌+◌, ◌<◌, ◌≤◌, Bool, true, false, cond, ◌==◌, List, [], ◌∷◌, length, take, refl, arith}
use Rattle.std.proofs.lemmas.Bool.Decides.{nat_tests}
use Rattle.std.specs.List.{list_all, prefix_len}
use Rattle.std.proofs.lemmas.Bool.{eq-eqb}
use Rattle.std.proofs.lemmas.List.{length-take}
use Rattle.std.proofs.lemmas.List.Folds.{length-prefix_len}
use Rattle.std.proofs.lemmas.List.Sums.{prefix_len-le-length}
use Rattle.std.proofs.Math.Numerals.{one-add}
use Rattle.meta_lex.specs.Bytes.{is_letter, is_digit, is_word_byte}
use Rattle.meta_lex.specs.Forms.{has_form, is_digits, is_number, kind_of}
use Rattle.meta_lex.specs.Tokens.{IsToken, IsLongest, HasNone}
use Rattle.meta_lex.specs.declared.token.TokenKind.{TokenKind}
use Rattle.meta_lex.specs.declared.token.TokenKind.TheVariants.{Word, Number}
use Rattle.meta_lex.proofs.Prefixes.{both, right, list_all-prefix_len, prefix_len-above}
use Rattle.meta_lex.proofs.FirstBytes.{longest_of_kind, none_of_kind}

-- a token of a first byte and a run of bytes that pass is the longest, if every longer one would need more of them
run_longest : (kind : TokenKind) (p : ℕ → Bool) (b : ℕ) (rest : List ℕ)
    → has_form kind (b ∷ take (prefix_len p rest) rest) ≡ true
    → ((m : ℕ) → has_form kind (b ∷ take m rest) ≡ true → list_all p (take m rest) ≡ true)
    → IsLongest kind (b ∷ rest) (1 + prefix_len p rest)
run_longest kind p b rest here passes =
    longest_of_kind kind b rest (1 + prefix_len p rest)
    (omega (arith, prefix_len-le-length p rest), rw one-add here)
    (λ m t. run_bound kind p b rest passes m t)
  where
    run_bound : (kind : TokenKind) (p : ℕ → Bool) (b : ℕ) (rest : List ℕ)
        → ((m : ℕ) → has_form kind (b ∷ take m rest) ≡ true → list_all p (take m rest) ≡ true)
        → (m : ℕ) → IsToken kind (b ∷ rest) m → m ≤ 1 + prefix_len p rest
    run_bound kind p b rest passes zero t = omega arith
    run_bound kind p b rest passes (suc m) t =
        omega (arith, prefix_len-above p rest m (omega (arith, t.0)) (passes m t.1))

-- a word goes on as long as there are bytes of words
pub word_longest : (b : ℕ) (rest : List ℕ) → is_letter b ≡ true → IsLongest Word (b ∷ rest) (1 + prefix_len is_word_byte rest)
word_longest b rest h =
    run_longest Word is_word_byte b rest (both (is_letter b) (list_all is_word_byte (take (prefix_len is_word_byte rest) rest)) h (list_all-prefix_len is_word_byte rest))
    (λ m t. right (is_letter b) (list_all is_word_byte (take m rest)) t)

other_byte : (b : ℕ) → (b ≡ 45 → ⊥) → (b == 45) ≡ false
other_byte b other = grind (arith, nat_tests)

letter_digit : (b : ℕ) → kind_of b ≡ Number → (b == 45) ≡ false → is_digit b ≡ true
letter_digit b h e = grind (arith, nat_tests)

digits_pass : (xs : List ℕ) → is_digits xs ≡ true → list_all is_digit xs ≡ true
digits_pass [] h = refl
digits_pass (x ∷ xs) h = h

passing_digits : (xs : List ℕ) → 0 < length xs → list_all is_digit xs ≡ true → is_digits xs ≡ true
passing_digits [] some h = absurd (omega arith)
passing_digits (x ∷ xs) some h = h

number_at : (b : ℕ) (xs : List ℕ) (hyphen : Bool) → (b == 45) ≡ hyphen → is_number (b ∷ xs) ≡ cond hyphen (is_digits xs) (is_digits (b ∷ xs))
number_at b xs hyphen e = rw e refl

-- a number that begins with a digit goes on as long as there are digits
pub unsigned_longest : (b : ℕ) (rest : List ℕ) → kind_of b ≡ Number → (b ≡ 45 → ⊥) → IsLongest Number (b ∷ rest) (1 + prefix_len is_digit rest)
unsigned_longest b rest kind other =
    let e : (b == 45) ≡ false = other_byte b other in
    run_longest Number is_digit b rest
    (rw (number_at b (take (prefix_len is_digit rest) rest) false e)
    (both (is_digit b) (list_all is_digit (take (prefix_len is_digit rest) rest)) (letter_digit b kind e) (list_all-prefix_len is_digit rest)))
    (λ m t. right (is_digit b) (list_all is_digit (take m rest)) (rw (number_at b (take m rest) false e) at t))

-- a number that begins with a hyphen goes on as long as there are digits
pub signed_longest : (b : ℕ) (rest : List ℕ) → b ≡ 45 → 0 < prefix_len is_digit rest → IsLongest Number (b ∷ rest) (1 + prefix_len is_digit rest)
signed_longest b rest hyphen some =
    let e : (b == 45) ≡ true = eq-eqb b 45 hyphen in
    run_longest Number is_digit b rest
    (rw (number_at b (take (prefix_len is_digit rest) rest) true e)
    (passing_digits (take (prefix_len is_digit rest) rest) (omega (arith, length-prefix_len is_digit rest)) (list_all-prefix_len is_digit rest)))
    (λ m t. digits_pass (take m rest) (rw (number_at b (take m rest) true e) at t))

some_digits : (xs : List ℕ) → is_digits xs ≡ true → 0 < length xs
some_digits [] h = cc
some_digits (x ∷ xs) h = omega arith

lone_hyphen : (b : ℕ) (rest : List ℕ) → (b == 45) ≡ true → prefix_len is_digit rest ≡ 0 → (m : ℕ) → IsToken Number (b ∷ rest) m → ⊥
lone_hyphen b rest e none zero t = cc
lone_hyphen b rest e none (suc m) t =
    let digits : is_digits (take m rest) ≡ true = rw (number_at b (take m rest) true e) at t.1 in
    absurd (omega (
      arith,
      some_digits (take m rest) digits,
      length-take m rest,
      prefix_len-above is_digit rest m (omega (arith, t.0)) (digits_pass (take m rest) digits),
    ))

-- a hyphen without a digit behind it begins no token
pub hyphen_none : (b : ℕ) (rest : List ℕ) → kind_of b ≡ Number → b ≡ 45 → prefix_len is_digit rest ≡ 0 → HasNone (b ∷ rest)
hyphen_none b rest kind hyphen none = none_of_kind Number b rest kind (lone_hyphen b rest (eq-eqb b 45 hyphen) none)
