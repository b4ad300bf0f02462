-- Descriptions whose items meet the rules.
use Rattle.std.specs.Prelude.{◌≡◌, ◌<◌, List, ◌++◌, length, map}
use Rattle.gram_form.specs.Plain.{PlainGrammar, PlainProduction}
use Rattle.meta_terms.specs.declared.items.Declaration.{Declaration}
use Rattle.meta_terms.specs.declared.items.Equation.{Equation}
use Rattle.meta_terms.specs.PlainItems.{PlainDeclaration, PlainEquation, PlainItem, AProduction, ADeclaration, AnEquation, plain_declaration, plain_equation}
use Rattle.meta_check.specs.Views.{productions_of, declarations_of, equations_of}
use Rattle.meta_check.specs.Rules.{IsWellFormed}

-- a description outside an arena
pub record PlainDescription : Type 0 where
  pub grammar : PlainGrammar
  pub functions : List PlainDeclaration
  pub equations : List PlainEquation

-- the description of a grammar, functions and equations in memory
abbrev pub plain_description : PlainGrammar → List Declaration → List Equation → PlainDescription
plain_description grammar functions equations = record {
  grammar = grammar;
  functions = map plain_declaration functions;
  equations = map plain_equation equations;
}

-- items of three kinds, one kind after another
abbrev pub in_order :
    List PlainProduction → List PlainDeclaration → List PlainEquation → List PlainItem
in_order productions functions equations =
    map AProduction productions ++ (map ADeclaration functions ++ map AnEquation equations)

-- what a description has, as items: its productions, then its functions, then its equations
abbrev pub items_of : PlainDescription → List PlainItem
items_of d = in_order d.grammar.productions d.functions d.equations

-- these items meet the rules, and there is a function
pub record IsChecked (d : PlainDescription) : Type 0 where
  pub rules : IsWellFormed (items_of d)
  pub main : 0 < length d.functions

-- the description has the productions, the declarations and the equations of the items, each in
-- their order
pub record IsDescriptionOf (items : List PlainItem) (d : PlainDescription) : Type 0 where
  pub productions : d.grammar.productions ≡ productions_of items
  pub functions : d.functions ≡ declarations_of items
  pub equations : d.equations ≡ equations_of items
