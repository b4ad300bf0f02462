-- Productions and grammars outside an arena.
use Rattle.std.specs.Prelude.{ℕ, List, map}
use Rattle.std.specs.Borrow.{Bor}
use Rattle.gram_form.specs.declared.part.Part.{Part}
use Rattle.gram_form.specs.declared.part.Part.TheVariants.{Literal, Nonterm, Identifier, Numeral}
use Rattle.gram_form.specs.declared.part.Production.{Production}

-- a part of an alternative: a text that stands in sources as it is, a phrase of a production by its name, any identifier, or any numeral
pub data PlainPart : Type 0 where
  PlainLiteral : (bytes : List ℕ) → PlainPart
  PlainNonterm : (name : List ℕ) → PlainPart
  PlainIdentifier PlainNumeral : PlainPart

-- a nonterminal with its alternatives
pub record PlainProduction : Type 0 where
  pub name : List ℕ
  pub alternatives : List (List PlainPart)

-- productions, and the literals in them
pub record PlainGrammar : Type 0 where
  pub productions : List PlainProduction
  pub literals : List (List ℕ)

-- the bytes of texts
abbrev pub texts : List (Bor (List ℕ)) → List (List ℕ)
texts list = map (λ (t : Bor (List ℕ)). t.now) list

abbrev pub plain_part : Part → PlainPart
plain_part (Literal bytes) = PlainLiteral bytes.now
plain_part (Nonterm name) = PlainNonterm name.now
plain_part Identifier = PlainIdentifier
plain_part Numeral = PlainNumeral

abbrev pub plain_alternative : Bor (List Part) → List PlainPart
plain_alternative a = map plain_part a.now

abbrev pub plain_production : Production → PlainProduction
plain_production p = record { name = p.name.now; alternatives = map plain_alternative p.alternatives.now }

abbrev pub plain_grammar : List Production → List (Bor (List ℕ)) → PlainGrammar
plain_grammar productions literals = record { productions = map plain_production productions; literals = texts literals }
