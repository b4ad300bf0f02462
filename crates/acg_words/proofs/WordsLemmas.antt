-- Command lines: their first word, and the words behind it.
use Rattle.std.proofs.Common.{◌≡◌, ℕ, ◌-◌, ◌<◌, ◌≤◌, Bool, true, false, List, [], ◌∷◌, length, get_or, map, take, drop, arith, refl, sym, ap, ◌∙◌, String, string_bytes, Some, None, ◌||◌}
use Rattle.std.specs.List.{list_any}
use Rattle.std.specs.declared.alloc.Global.{Global}
use Rattle.std.proofs.lemmas.List.{take_all}
use Rattle.std.proofs.lemmas.Slice.Eq.{bytes_eq-Decides}
use Rattle.acg_words.specs.declared.table.Kind.{Kind}
use Rattle.acg_words.specs.declared.settings.Settings.{Settings}
use Rattle.acg_words.specs.Settings.{told_by}
use Rattle.acg_words.specs.Commands.{kind_of, options_of, words_of, command_with, command_of, is_empty}

-- words are the first one and the others
pub head-words : (list : List (String Global)) (name : String Global) → 1 ≤ length list → name ≡ get_or list 0 name → map string_bytes list ≡ string_bytes name ∷ map string_bytes (take (length list - 1) (drop 1 list))
head-words [] name some is = absurd (omega arith)
head-words (word ∷ list) name some is =
    let rest : take (length (word ∷ list) - 1) list ≡ list = take_all (length (word ∷ list) - 1) list (omega arith) in
    ap (λ first. string_bytes first ∷ map string_bytes list) (sym is) ∙ ap (λ others. string_bytes name ∷ map string_bytes others) (sym rest)

pub no-words : (list : List (String Global)) → length list < 1 → map string_bytes list ≡ []
no-words [] none = refl
no-words (word ∷ list) none = absurd (omega arith)

-- a test of the texts of some words
pub list_any-texts : (test : List ℕ → Bool) (words : List (String Global)) → list_any test (map string_bytes words) ≡ list_any (λ word. test (string_bytes word)) words
list_any-texts test [] = refl
list_any-texts test (word ∷ words) = ap (λ b. test (string_bytes word) || b) (list_any-texts test words)

-- words one of which is empty
pub command-empty : (words : List (List ℕ)) → list_any is_empty words ≡ true → command_of words ≡ None
unfolding command_of
command-empty words is = rw is refl

-- words none of which is empty
pub command-whole : (words : List (List ℕ)) → list_any is_empty words ≡ false → command_of words ≡ command_with words
unfolding command_of
command-whole words is = rw is refl

-- what words ask for, by the name
pub command-unnamed : (words : List (List ℕ)) (name : List ℕ) (behind : List (List ℕ)) → words ≡ name ∷ behind → kind_of name ≡ None → command_with words ≡ None
command-unnamed words name behind is none = rw (is, none) refl

pub command-untold : (words : List (List ℕ)) (name : List ℕ) (behind : List (List ℕ)) (kind : Kind) → words ≡ name ∷ behind → kind_of name ≡ Some kind → told_by (options_of kind) behind ≡ None → command_with words ≡ None
command-untold words name behind kind is named none = rw (is, named, none) refl

pub command-told : (words : List (List ℕ)) (name : List ℕ) (behind : List (List ℕ)) (kind : Kind) (s : Settings) (operands : List (List ℕ)) → words ≡ name ∷ behind → kind_of name ≡ Some kind → told_by (options_of kind) behind ≡ Some (s, operands)
    → command_with words ≡ words_of kind s operands
command-told words name behind kind s operands is named told = rw (is, named, told) refl

pub ruleset words = (bytes_eq-Decides)
