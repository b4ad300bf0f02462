-- The words that are reserved, and those that name functions, nonterminals and variables.
use Rattle.std.specs.Prelude.{ℕ, Bool, false, ◌&&◌, ◌||◌, not, List, [], ◌∷◌, nat_le, codes}
use Rattle.meta_lex.specs.Forms.{is_word}
use Rattle.meta_terms.specs.Words.{words, same_bytes}

-- the words that stand in descriptions and in templates, besides those of action texts
abbrev pub other_words : List (List ℕ)
other_words =
    codes "value" ∷ codes "token" ∷ codes "grammar" ∷ codes "semantics" ∷ codes "end"
    ∷ codes "identifier" ∷ codes "numeral" ∷ []

abbrev pub is_among : List (List ℕ) → List ℕ → Bool
is_among [] bytes = false
is_among (w ∷ ws) bytes = same_bytes w bytes || is_among ws bytes

-- the first byte is none of an upper-case letter
abbrev pub begins_small : List ℕ → Bool
begins_small [] = false
begins_small (b ∷ rest) = nat_le 97 b

-- a function's name is a word that begins with a lower-case letter and isn't reserved
abbrev pub is_function : List ℕ → Bool
is_function bytes = is_word bytes && (begins_small bytes && (not (is_among words bytes) && not (is_among other_words bytes)))

-- a variable, or the name of a nonterminal, is a word that begins with an upper-case letter
abbrev pub is_variable : List ℕ → Bool
is_variable bytes = is_word bytes && not (begins_small bytes)
