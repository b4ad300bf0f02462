-- What the tables of names hold.
use Rattle.std.specs.Prelude.{◌≡◌, ℕ, zero, suc, Bool, true, false, ◌&&◌, List, [], ◌∷◌, map, Option, Some, None, if◌then◌else◌, nat_eq, option_map}
use Rattle.std.specs.Borrow.{Bor}
use Rattle.std.specs.List.{list_all}
use Rattle.std.specs.Map.{lookup}
use Rattle.std.specs.Option.{option_to_list, unwrap_or}
use Rattle.std.specs.Str.{bytes_eq}
use Rattle.gram_form.specs.declared.part.Part.{Part}
use Rattle.gram_form.specs.Plain.{PlainPart, PlainLiteral, PlainNonterm, PlainIdentifier, PlainNumeral, PlainProduction, plain_part}
use Rattle.meta_terms.specs.Templates.{Label, ActionTokenOf, YielderTokenOf, Applied, ValueOf}
use Rattle.meta_terms.specs.PlainItems.{PlainDeclaration, PlainEquation, PlainItem}
use Rattle.meta_check.specs.declared.categories.Category.{Category}
use Rattle.meta_check.specs.declared.categories.Category.TheVariants.{Literal, Phrase, Identifier, Numeral}
use Rattle.meta_check.specs.declared.numbers.Numbers.{Numbers}
use Rattle.meta_check.specs.Views.{alternative_of, nonterminal_of, parts_of_pattern, place_among, same_parts, used_by}

-- a table by texts
abbrev pub Texts : Type 0 → Type 0
Texts A = List (Bor (List ℕ) × A)

-- the number that a table has for a text
abbrev pub number_of : Texts ℕ → List ℕ → Option ℕ
number_of entries name = lookup (λ (k : Bor (List ℕ)). bytes_eq name k.now) entries

-- how many names stand before the first that is this one
abbrev pub place : List (List ℕ) → List ℕ → ℕ
place [] name = 0
place (n ∷ names) name = if bytes_eq name n then 0 else suc (place names name)

-- the number that a numbering has for a name
abbrev pub number_by : Numbers → List ℕ → ℕ
number_by n name = unwrap_or (number_of n.places.entries name) n.count

-- each name has its place among the names as its number
abbrev pub AreNumbers : List (List ℕ) → (List ℕ → ℕ) → Type 0
AreNumbers names number = (name : List ℕ) → number name ≡ place names name

-- the table has the number of each function's nonterminal
abbrev pub AreNonterminals : (List ℕ → ℕ) → List PlainDeclaration → Texts ℕ → Type 0
AreNonterminals number declarations entries =
    (f : List ℕ) → number_of entries f ≡ option_map number (nonterminal_of declarations f)

-- a nonterminal's number with the parts of an alternative
abbrev pub Key : Type 0
Key = ℕ × Bor (List Part)

-- a table of the numbers of alternatives
abbrev pub Alternatives : Type 0
Alternatives = List (Key × ℕ)

-- the key is of that nonterminal and of those parts
abbrev pub is_key : ℕ → List PlainPart → Key → Bool
is_key n parts key = nat_eq n key.0 && same_parts (map plain_part key.1.now) parts

-- the number that the table has for a nonterminal and some parts
abbrev pub number_for : Alternatives → ℕ → List PlainPart → Option ℕ
number_for entries n parts = lookup (is_key n parts) entries

-- the alternatives of the production with that number, and none where there isn't one
abbrev pub alternatives_at : List PlainProduction → ℕ → List (List PlainPart)
alternatives_at [] n = []
alternatives_at (p ∷ productions) zero = p.alternatives
alternatives_at (p ∷ productions) (suc n) = alternatives_at productions n

-- the table has the number of the first alternative of a nonterminal with the parts
abbrev pub AreAlternatives : List PlainProduction → Alternatives → Type 0
AreAlternatives productions entries =
    (n : ℕ) (parts : List PlainPart) →
    number_for entries n parts ≡ place_among 0 (alternatives_at productions n) parts

-- the number of the first alternative of one production with the parts
abbrev pub number_in : ℕ → List (List PlainPart) → ℕ → List PlainPart → Option ℕ
number_in own alternatives n parts = if nat_eq n own then place_among 0 alternatives parts else None

-- the number for a nonterminal, where there is one, and some parts
abbrev pub number_behind : Alternatives → Option ℕ → List PlainPart → Option ℕ
number_behind entries None parts = None
number_behind entries (Some n) parts = number_for entries n parts

-- the alternative for which an equation stands, by the tables
abbrev pub alternative_by : Texts ℕ → Alternatives → PlainEquation → Option ℕ
alternative_by functions alternatives e =
    number_behind alternatives (number_of functions e.function) (parts_of_pattern e.pattern)

-- the tables have the alternative for which each equation stands
abbrev pub TellAlternatives : List PlainItem → Texts ℕ → Alternatives → Type 0
TellAlternatives items functions alternatives =
    (e : PlainEquation) → alternative_by functions alternatives e ≡ alternative_of items e

-- the category that a table has for a variable
abbrev pub category_in : Texts Category → List ℕ → Option Category
category_in entries v = lookup (λ (k : Bor (List ℕ)). bytes_eq v k.now) entries

-- the category of a part, by the numbers of nonterminals
abbrev pub category_of : (List ℕ → ℕ) → PlainPart → Category
category_of number (PlainLiteral bytes) = Literal
category_of number (PlainNonterm name) = Phrase (number name)
category_of number PlainIdentifier = Identifier
category_of number PlainNumeral = Numeral

-- the category that a node of a template asks of its variable, by the nonterminals of functions
abbrev pub wanted_category : (List ℕ → Option ℕ) → Label → Option Category
wanted_category nonterminal (Applied f v) = option_map Phrase (nonterminal f)
wanted_category nonterminal (ValueOf v) = Some Numeral
wanted_category nonterminal (ActionTokenOf k n t v) = Some Identifier
wanted_category nonterminal (YielderTokenOf k t v) = Some Identifier
wanted_category nonterminal _ = None

-- two categories are the same
abbrev pub same_category : Category → Category → Bool
same_category Literal Literal = true
same_category (Phrase m) (Phrase n) = nat_eq m n
same_category Identifier Identifier = true
same_category Numeral Numeral = true
same_category _ _ = false

-- a variable stands for what is wanted, where it stands for something
abbrev pub stands_as : Option Category → Option Category → Bool
stands_as wanted None = true
stands_as None (Some category) = false
stands_as (Some wanted) (Some category) = same_category category wanted

-- the variable of a node stands for what the node asks of it
abbrev pub is_fit : (List ℕ → Option ℕ) → (List ℕ → Option Category) → Label → Bool
is_fit nonterminal category l =
    list_all (λ v. stands_as (wanted_category nonterminal l) (category v))
    (option_to_list (used_by l))
