-- Lists of rules that grow.
use Rattle.std.proofs.Common.{◌≡◌, ◌⊎◌, inl, inr, ℕ, ◌+◌, ◌<◌, List, [], ◌∷◌, Contains, Some, refl, sym, subst, ap, ◌∙◌, arith}
use Rattle.std.specs.Prelude.{◌↔◌}
use Rattle.std.proofs.lemmas.Bool.Decides.{eqb_tells}
use Rattle.source_lex.specs.Numbered.{Alternative, Numbered, alternative_of}
use Rattle.chart_parse.specs.declared.rule_lists.Rule.{Rule}
use Rattle.chart_parse.specs.declared.rule_lists.Class.{Class}
use Rattle.source_lex.specs.declared.numbered.Symbol.TheVariants.{Word, Phrase}
use Rattle.source_lex.specs.declared.lexeme.LexKind.{LexKind}
use Rattle.chart_parse.specs.declared.rule_lists.Class.TheVariants.{Behind}
use Rattle.chart_parse.specs.Places.{Places, class_of, IsAlternative, IsOfClass, HasRule, HasClassOf, AreOfClass, AreLists, MeetsEach, IsPart, IsAdded, IsMet, IsClosedAt}
use Rattle.chart_parse.proofs.Rounds.{some_same, behind_still}

-- the new list has what the old one has, and the rule, if that is of the class
abbrev pub IsRuleAdded : Class → Rule → (old new : List Rule) → Type 0
IsRuleAdded class rule old new = (x : Rule) → Contains new x ↔ (Contains old x ⊎ ((class_of rule.parts.now ≡ class) × (rule ≡ x)))

pub rule_more : (g : Numbered) (class : Class) (rule : Rule) (first old new : List Rule) → IsRuleAdded class rule old new → IsAlternative g rule.nonterminal rule.parts.now
    → ((x : Rule) → Contains old x → Contains first x ⊎ IsOfClass g class x) → (x : Rule) → Contains new x → Contains first x ⊎ IsOfClass g class x
rule_more g class rule first old new add alternative before x h = elim ((add x).0 h) [
  | inl o ↦ before x o
  | inr q ↦ inr (subst (λ (y : Rule). IsOfClass g class y) q.1 (alternative, q.0))
]

pub rule_kept : (class : Class) (rule : Rule) (old new : List Rule) (m : ℕ) (parts : Alternative) → IsRuleAdded class rule old new → HasRule old m parts → HasRule new m parts
rule_kept class rule old new m parts add h = (h.0, (add h.0).1 (inl h.1), h.2, h.3)

pub rule_there : (class : Class) (rule : Rule) (old new : List Rule) (m : ℕ) (parts : Alternative) → IsRuleAdded class rule old new → rule.nonterminal ≡ m → rule.parts.now ≡ parts → class_of parts ≡ class → HasRule new m parts
rule_there class rule old new m parts add e f is = (rule, (add rule).1 (inr (ap class_of f ∙ is, refl)), e, f)

-- one alternative more
pub rule_next : (g : Numbered) (class : Class) (rule : Rule) (old new : List Rule) (m a : ℕ) → IsRuleAdded class rule old new → rule.nonterminal ≡ m → alternative_of g m a ≡ Some rule.parts.now
    → ((b : ℕ) (parts : Alternative) → b < a → alternative_of g m b ≡ Some parts → class_of parts ≡ class → HasRule old m parts)
    → (b : ℕ) (parts : Alternative) → b < a + 1 → alternative_of g m b ≡ Some parts → class_of parts ≡ class → HasRule new m parts
rule_next g class rule old new m a add e there before b parts lt f is = elim (eqb_tells b a) [
  | inl s ↦ rule_there class rule old new m parts add e (some_same _ _ (sym there ∙ (ap (alternative_of g m) (sym s.1) ∙ f))) is
  | inr d ↦ rule_kept class rule old new m parts add (before b parts (omega (arith, d.1, lt)) f is)
]

-- what a longer list has
pub class_kept : (g : Numbered) (class : Class) (old new : List Rule) (m : ℕ) → ((x : Rule) → Contains old x → Contains new x) → HasClassOf g class old m → HasClassOf g class new m
class_kept g class old new m longer h a parts e is = let x = h a parts e is in (x.0, longer x.0 x.1, x.2, x.3)

-- the rules of a list that read later places alone stay met
pub each_still : (g : Numbered) (w : List LexKind) (k : ℕ) (p q : Places) (rules : List Rule) → IsPart g w p → IsAdded g w k p q → AreOfClass Behind rules → MeetsEach g w p k rules → MeetsEach g w q k rules
each_still g w k p q rules part added class each x h = behind_still g w k x.nonterminal p q part added x.parts.now (class x h) (each x h)

rule_met : (g : Numbered) (w : List LexKind) (k m : ℕ) (p : Places) (rules : List Rule) (parts : Alternative) → MeetsEach g w p k rules → HasRule rules m parts → IsMet g w p k m parts
rule_met g w k m p rules parts each h =
    subst (λ (r : Alternative). IsMet g w p k m r) h.3 (subst (λ (n : ℕ). IsMet g w p k n h.0.parts.now) h.2 (each h.0 h.1))

-- the rules of both lists are all rules
pub all_closed : (g : Numbered) (w : List LexKind) (k : ℕ) (p : Places) (behind here : List Rule) → AreLists g behind here → MeetsEach g w p k behind → MeetsEach g w p k here → IsClosedAt g w p k
all_closed g w k p behind here lists first second m a [] e = rule_met g w k m p here [] second (lists.has_empty m a [] e refl)
all_closed g w k p behind here lists first second m a (Word c ∷ rest) e = rule_met g w k m p behind (Word c ∷ rest) first (lists.has_behind m a (Word c ∷ rest) e refl)
all_closed g w k p behind here lists first second m a (Phrase c ∷ []) e = rule_met g w k m p here (Phrase c ∷ []) second (lists.has_here m a (Phrase c ∷ []) e refl)
all_closed g w k p behind here lists first second m a (Phrase c ∷ Phrase d ∷ rest) e = rule_met g w k m p here (Phrase c ∷ Phrase d ∷ rest) second (lists.has_here m a (Phrase c ∷ Phrase d ∷ rest) e refl)
all_closed g w k p behind here lists first second m a (Phrase c ∷ Word d ∷ rest) e = rule_met g w k m p behind (Phrase c ∷ Word d ∷ rest) first (lists.has_behind m a (Phrase c ∷ Word d ∷ rest) e refl)
