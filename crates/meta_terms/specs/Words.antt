-- The words and symbols of action texts.
use Rattle.std.specs.Prelude.{ℕ, Bool, true, false, ◌&&◌, List, [], ◌∷◌, codes, nat_eq}

-- the words and symbols of action texts; the place of each is its class
abbrev pub words : List (List ℕ)
words =
    codes "or"
    ∷ codes "and"
    ∷ codes "then"
    ∷ codes "trap"
    ∷ codes "hence"
    ∷ codes "moreover"
    ∷ codes "before"
    ∷ (40 ∷ [])
    ∷ (41 ∷ [])
    ∷ (44 ∷ [])
    ∷ (35 ∷ [])
    ∷ codes "unfolding"
    ∷ codes "furthermore"
    ∷ codes "complete"
    ∷ codes "fail"
    ∷ codes "escape"
    ∷ codes "commit"
    ∷ codes "regive"
    ∷ codes "rebind"
    ∷ codes "give"
    ∷ codes "with"
    ∷ codes "check"
    ∷ codes "bind"
    ∷ codes "to"
    ∷ codes "recursively"
    ∷ codes "closure"
    ∷ codes "abstraction"
    ∷ codes "of"
    ∷ codes "store"
    ∷ codes "in"
    ∷ codes "allocate"
    ∷ codes "a"
    ∷ codes "cell"
    ∷ codes "send"
    ∷ codes "receive"
    ∷ codes "an"
    ∷ codes "integer"
    ∷ codes "enact"
    ∷ codes "application"
    ∷ codes "unfold"
    ∷ codes "them"
    ∷ codes "true"
    ∷ codes "false"
    ∷ codes "the"
    ∷ codes "given"
    ∷ codes "bound"
    ∷ codes "stored"
    ∷ codes "truth-value"
    ∷ codes "sum"
    ∷ codes "difference"
    ∷ codes "product"
    ∷ codes "integer-quotient"
    ∷ codes "integer-remainder"
    ∷ codes "is"
    ∷ codes "less"
    ∷ codes "than"
    ∷ codes "both"
    ∷ codes "either"
    ∷ codes "negation"
    ∷ codes "not"
    ∷ []

abbrev pub same_bytes : List ℕ → List ℕ → Bool
same_bytes [] [] = true
same_bytes [] (c ∷ bytes) = false
same_bytes (b ∷ word) [] = false
same_bytes (b ∷ word) (c ∷ bytes) = nat_eq b c && same_bytes word bytes
