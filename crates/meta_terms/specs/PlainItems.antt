-- The items of a description outside an arena.
use Rattle.std.specs.Prelude.{ℕ, List, map, Option, option_map}
use Rattle.std.specs.Borrow.{Bor}
use Rattle.gram_form.specs.Plain.{PlainPart, PlainProduction, plain_part, plain_production}
use Rattle.meta_terms.specs.Templates.{Label}
use Rattle.meta_terms.specs.Nodes.{label_of}
use Rattle.meta_terms.specs.declared.items.Declaration.{Declaration}
use Rattle.meta_terms.specs.declared.items.PatternPart.{PatternPart}
use Rattle.meta_terms.specs.declared.items.Equation.{Equation}
use Rattle.meta_terms.specs.declared.items.Item.{Item}
use Rattle.meta_terms.specs.declared.items.Item.TheVariants as item

pub record PlainDeclaration : Type 0 where
  pub function : List ℕ
  pub nonterminal : List ℕ

pub record PlainPatternPart : Type 0 where
  pub variable : Option (List ℕ)
  pub part : PlainPart

-- an equation has the labels of its template in preorder
pub record PlainEquation : Type 0 where
  pub function : List ℕ
  pub pattern : List PlainPatternPart
  pub action : List Label

pub data PlainItem : Type 0 where
  AProduction : (production : PlainProduction) → PlainItem
  ADeclaration : (declaration : PlainDeclaration) → PlainItem
  AnEquation : (equation : PlainEquation) → PlainItem

abbrev pub plain_declaration : Declaration → PlainDeclaration
plain_declaration d = record { function = d.function.now; nonterminal = d.nonterminal.now }

abbrev pub plain_pattern_part : PatternPart → PlainPatternPart
plain_pattern_part p = record { variable = option_map (λ (v : Bor (List ℕ)). v.now) p.variable; part = plain_part p.part }

abbrev pub plain_equation : Equation → PlainEquation
plain_equation e = record { function = e.function.now; pattern = map plain_pattern_part e.pattern.now; action = map label_of e.action.list.now }

abbrev pub plain_item : Item → PlainItem
plain_item (item.Production p) = AProduction (plain_production p)
plain_item (item.Declaration d) = ADeclaration (plain_declaration d)
plain_item (item.Equation e) = AnEquation (plain_equation e)
