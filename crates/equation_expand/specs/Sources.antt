-- What contracts see of a source that is expanded, and what its table of equations has.
use Rattle.std.specs.Prelude.{◌≡◌, ℕ, Bool, ◌&&◌, List, nat_eq, option_map}
use Rattle.std.specs.Borrow.{Bor}
use Rattle.std.specs.Map.{lookup}
use Rattle.std.specs.Str.{bytes_eq}
use Rattle.gram_form.specs.Trees.{PlainTree}
use Rattle.source_lex.specs.Lexemes.{PlainLexeme}
use Rattle.meta_terms.specs.PlainItems.{plain_equation}
use Rattle.meta_terms.specs.declared.items.Equation.{Equation}
use Rattle.meta_check.specs.Checked.{PlainDescription}
use Rattle.equation_expand.specs.Meaning.{Meaning, equation_of, expansion, meaning}

-- a description, and the lexemes of a source with their tree
pub record PlainSource : Type 0 where
  pub description : PlainDescription
  pub lexemes : List PlainLexeme
  pub tree : PlainTree

-- what it means
abbrev pub expansion_of : PlainSource → Meaning
expansion_of s = expansion s.description s.lexemes s.tree

-- the meaning of a phrase of the source by a function
abbrev pub meaning_in : PlainSource → PlainTree → List ℕ → Meaning
meaning_in s t f = meaning s.description s.lexemes t f

-- a function and the number of an alternative
abbrev pub Key : Type 0
Key = Bor (List ℕ) × ℕ

abbrev pub is_key : (function : List ℕ) → (alternative : ℕ) → Key → Bool
is_key f a key = bytes_eq f key.0.now && nat_eq a key.1

-- the table has the equation of each function for each alternative
abbrev pub TellEquations : PlainDescription → List (Key × Equation) → Type 0
TellEquations d entries =
    (f : List ℕ) (a : ℕ) → option_map plain_equation (lookup (is_key f a) entries) ≡ equation_of d f a
