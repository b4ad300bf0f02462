-- The form of each item of a description: its tokens, written out.
use Rattle.std.specs.Prelude.{◌≡◌, ℕ, ◌<◌, Bool, true, false, ◌&&◌, List, [], ◌∷◌, ◌++◌, length, map, Option, Some, None, codes}
use Rattle.std.specs.List.{list_all, flat_map}
use Rattle.meta_lex.specs.Forms.{is_quoted}
use Rattle.gram_form.specs.Plain.{PlainPart, PlainLiteral, PlainNonterm, PlainIdentifier, PlainNumeral, PlainProduction}
use Rattle.meta_terms.specs.Names.{is_function, is_variable}
use Rattle.meta_terms.specs.PlainItems.{PlainDeclaration, PlainPatternPart, PlainEquation, PlainItem, AProduction, ADeclaration, AnEquation}
use Rattle.meta_terms.specs.Templates.{Tree}
use Rattle.action_terms.specs.Trees.{preorder}
use Rattle.action_text.specs.TemplateText.{Spells}

-- the bytes of each token
abbrev pub Tokens : Type 0
Tokens = List (List ℕ)

-- [[
abbrev pub opening : List ℕ
opening = 91 ∷ 91 ∷ []

-- ]]
abbrev pub closing : List ℕ
closing = 93 ∷ 93 ∷ []

-- =
abbrev pub equals : List ℕ
equals = 61 ∷ []

-- |
abbrev pub bar : List ℕ
bar = 124 ∷ []

-- _
abbrev pub underscore : List ℕ
underscore = 95 ∷ []

-- :
abbrev pub colon : List ℕ
colon = 58 ∷ []

-- a text between quotes
abbrev pub quoted : List ℕ → List ℕ
quoted bytes = 34 ∷ bytes ++ 34 ∷ []

-- the token of a part: a quoted text, a name, `identifier` or `numeral`
abbrev pub part_token : PlainPart → List ℕ
part_token (PlainLiteral bytes) = quoted bytes
part_token (PlainNonterm name) = name
part_token PlainIdentifier = codes "identifier"
part_token PlainNumeral = codes "numeral"

-- a literal has the bytes of a quoted text, and a nonterminal's name begins with an upper-case letter
abbrev pub is_part : PlainPart → Bool
is_part (PlainLiteral bytes) = is_quoted (quoted bytes)
is_part (PlainNonterm name) = is_variable name
is_part PlainIdentifier = true
is_part PlainNumeral = true

-- [[ parts ]]
abbrev pub alternative_tokens : List PlainPart → Tokens
alternative_tokens parts = opening ∷ map part_token parts ++ closing ∷ []

-- alternatives with a bar between each and the next
abbrev pub alternatives_tokens : List (List PlainPart) → Tokens
alternatives_tokens [] = []
alternatives_tokens (a ∷ []) = alternative_tokens a
alternatives_tokens (a ∷ b ∷ list) = alternative_tokens a ++ bar ∷ alternatives_tokens (b ∷ list)

-- Name = [[ parts ]] | [[ parts ]] ..
pub record IsProduction (run : Tokens) (p : PlainProduction) : Type 0 where
  pub name : is_variable p.name ≡ true
  pub some : 0 < length p.alternatives
  pub parts : list_all (list_all is_part) p.alternatives ≡ true
  pub run_is : run ≡ p.name ∷ equals ∷ alternatives_tokens p.alternatives

-- f _ : Name
pub record IsDeclaration (run : Tokens) (d : PlainDeclaration) : Type 0 where
  pub function : is_function d.function ≡ true
  pub nonterminal : is_variable d.nonterminal ≡ true
  pub run_is : run ≡ d.function ∷ underscore ∷ colon ∷ d.nonterminal ∷ []

-- V: before a part that has a variable
abbrev pub variable_tokens : Option (List ℕ) → Tokens
variable_tokens None = []
variable_tokens (Some v) = v ∷ colon ∷ []

-- a part of a pattern: its variable, where it has one, and its token
abbrev pub pattern_tokens : PlainPatternPart → Tokens
pattern_tokens p = variable_tokens p.variable ++ part_token p.part ∷ []

-- a literal has no variable, and every other part has one
abbrev pub is_named : Option (List ℕ) → PlainPart → Bool
is_named None (PlainLiteral bytes) = true
is_named None _ = false
is_named (Some v) (PlainLiteral bytes) = false
is_named (Some v) _ = is_variable v

-- a part of a pattern, with a variable or without
abbrev pub is_pattern_part : PlainPatternPart → Bool
is_pattern_part p = is_named p.variable p.part && is_part p.part

-- f [[ pattern ]] = Action, where the tokens of the action spell a template
pub record IsEquation (run : Tokens) (e : PlainEquation) : Type 0 where
  pub function : is_function e.function ≡ true
  pub pattern : list_all is_pattern_part e.pattern ≡ true
  pub action_tokens : Tokens
  pub template : Tree
  pub spells : Spells template action_tokens
  pub action : e.action ≡ preorder template
  pub run_is : run ≡ e.function ∷ opening ∷ (flat_map pattern_tokens e.pattern ++ (closing ∷ equals ∷ action_tokens))

-- the run is a production
abbrev pub IsOfGrammar : Tokens → PlainItem → Type 0
IsOfGrammar run (AProduction p) = IsProduction run p
IsOfGrammar run _ = ⊥

-- the run is a declaration or an equation
abbrev pub IsOfSemantics : Tokens → PlainItem → Type 0
IsOfSemantics run (ADeclaration d) = IsDeclaration run d
IsOfSemantics run (AnEquation e) = IsEquation run e
IsOfSemantics run _ = ⊥
