-- A run has one item, and leads to one phase.
use Rattle.std.proofs.Common.{◌≡◌, ◌∙◌, ◌⊎◌, inl, inr, ℕ, true, List, [], ◌∷◌, Option, Some, None, refl, sym, ap, subst, codes}
use Rattle.gram_form.specs.Plain.{PlainProduction}
use Rattle.action_terms.specs.Trees.{preorder}
use Rattle.meta_terms.specs.Templates.{Label}
use Rattle.meta_terms.specs.Names.{is_variable}
use Rattle.meta_terms.specs.PlainItems.{PlainDeclaration, PlainPatternPart, PlainEquation, PlainItem, AProduction, ADeclaration, AnEquation}
use Rattle.action_text.specs.TemplateText.{Spells}
use Rattle.action_text.proofs.OneTree.{one_template}
use Rattle.meta_reader.specs.declared.phase.Phase.{Phase}
use Rattle.meta_reader.specs.declared.phase.Phase.TheVariants.{Heading, Productions, Equations, Ended}
use Rattle.meta_reader.specs.ItemForms.{Tokens, opening, underscore, IsProduction, IsDeclaration, IsEquation, IsOfGrammar, IsOfSemantics}
use Rattle.meta_reader.specs.Parsing.{PlainHead}
use Rattle.meta_reader.specs.Descriptions.{IsHeaded, Steps}
use Rattle.meta_reader.proofs.ProductionTokens.{production_found, declaration_found}
use Rattle.meta_reader.proofs.EquationTokens.{same_head, head_of_equation, head_found, equation_head}

one_production : (run : Tokens) (p q : PlainProduction) → IsProduction run p → IsProduction run q → p ≡ q
one_production run p q a b = let e : Some p ≡ Some q = sym (production_found run p a) ∙ production_found run q b in cc

one_declaration : (run : Tokens) (c d : PlainDeclaration) → IsDeclaration run c → IsDeclaration run d → c ≡ d
one_declaration run c d a b = let e : Some c ≡ Some d = sym (declaration_found run c a) ∙ declaration_found run d b in cc

equal_fields : (e f : PlainEquation) → e.function ≡ f.function → e.pattern ≡ f.pattern → e.action ≡ f.action → e ≡ f
equal_fields e f x y z =
    ap (λ (g : List ℕ). record { function = g; pattern = e.pattern; action = e.action }) x
    ∙ ap (λ (p : List PlainPatternPart). record { function = f.function; pattern = p; action = e.action }) y
    ∙ ap (λ (a : List Label). record { function = f.function; pattern = f.pattern; action = a }) z

one_equation : (run : Tokens) (e f : PlainEquation) → IsEquation run e → IsEquation run f → e ≡ f
one_equation run e f a b =
    let heads : head_of_equation run e a ≡ head_of_equation run f b = same_head _ _ (sym (head_found run _ (equation_head run e a)) ∙ head_found run _ (equation_head run f b)) in
    let tokens : a.action_tokens ≡ b.action_tokens = ap (λ (h : PlainHead). h.action_tokens) heads in
    let templates : a.template ≡ b.template = one_template true a.template b.template b.action_tokens (subst (λ (ts : Tokens). Spells a.template ts) tokens a.spells) b.spells in
    equal_fields e f (ap (λ (h : PlainHead). h.function) heads) (ap (λ (h : PlainHead). h.pattern) heads) (a.action ∙ ap preorder templates ∙ sym b.action)

-- no run is a declaration and an equation
pub declaration_or_equation : (run : Tokens) (d : PlainDeclaration) (e : PlainEquation) → IsDeclaration run d → IsEquation run e → ⊥
declaration_or_equation run d e a b =
    let runs = sym a.run_is ∙ b.run_is in
    let second : underscore ≡ opening = cc in
    absurd (cc)

one_of_grammar : (run : Tokens) (x y : PlainItem) → IsOfGrammar run x → IsOfGrammar run y → x ≡ y
one_of_grammar run (AProduction p) (AProduction q) a b = ap AProduction (one_production run p q a b)
one_of_grammar run (AProduction p) (ADeclaration d) a b = absurd b
one_of_grammar run (AProduction p) (AnEquation e) a b = absurd b
one_of_grammar run (ADeclaration d) y a b = absurd a
one_of_grammar run (AnEquation e) y a b = absurd a

one_of_semantics : (run : Tokens) (x y : PlainItem) → IsOfSemantics run x → IsOfSemantics run y → x ≡ y
one_of_semantics run (ADeclaration c) (ADeclaration d) a b = ap ADeclaration (one_declaration run c d a b)
one_of_semantics run (AnEquation e) (AnEquation f) a b = ap AnEquation (one_equation run e f a b)
one_of_semantics run (ADeclaration d) (AnEquation e) a b = absurd (declaration_or_equation run d e a b)
one_of_semantics run (AnEquation e) (ADeclaration d) a b = absurd (declaration_or_equation run d e b a)
one_of_semantics run (AProduction p) y a b = absurd a
one_of_semantics run (ADeclaration d) (AProduction p) a b = absurd b
one_of_semantics run (AnEquation e) (AProduction p) a b = absurd b

one_headed : (word : List ℕ) (Form : Tokens → PlainItem → Type 0) (run : Tokens) (x y : PlainItem) → ((rest : Tokens) → Form rest x → Form rest y → x ≡ y) → IsHeaded word Form run x → IsHeaded word Form run y → x ≡ y
one_headed word Form run x y one a b =
    let runs : word ∷ a.0 ≡ word ∷ b.0 = sym a.1 ∙ b.1 in
    let rests : a.0 ≡ b.0 = cc in
    one b.0 (subst (λ (r : Tokens). Form r x) rests a.2) b.2

-- a production doesn't begin with `semantics`
pub production_or_semantics : (run rest : Tokens) (x : PlainItem) → IsOfGrammar run x → run ≡ codes "semantics" ∷ rest → ⊥
production_or_semantics run rest (AProduction p) a e =
    let runs = sym a.run_is ∙ e in
    let name : p.name ≡ codes "semantics" = cc in
    let v : is_variable (codes "semantics") ≡ true = subst (λ n. is_variable n ≡ true) name a.name in
    absurd (cc)
production_or_semantics run rest (ADeclaration d) a e = absurd a
production_or_semantics run rest (AnEquation f) a e = absurd a

-- and `end` alone is no declaration or equation
pub rule_or_end : (run : Tokens) (x : PlainItem) → IsOfSemantics run x → run ≡ codes "end" ∷ [] → ⊥
rule_or_end run (AProduction p) a e = absurd a
rule_or_end run (ADeclaration d) a e = let runs = sym a.run_is ∙ e in absurd (cc)
rule_or_end run (AnEquation f) a e = let runs = sym a.run_is ∙ e in absurd (cc)

-- what a step from each phase is
abbrev pub Goes : (Tokens → PlainItem → Type 0) → Phase → Tokens → Option PlainItem → Phase → Type 0
Goes Form to run item next = (x : PlainItem) × (item ≡ Some x) × (next ≡ to) × Form run x

pub from_heading : (run : Tokens) (item : Option PlainItem) (next : Phase) → Steps Heading run item next → Goes (IsHeaded (codes "grammar") IsOfGrammar) Productions run item next
from_heading run (Some x) Productions h = (x, refl, refl, h)
from_heading run (Some x) Heading h = absurd h
from_heading run (Some x) Equations h = absurd h
from_heading run (Some x) Ended h = absurd h
from_heading run None next h = absurd (none next h)
  where
    none : (next : Phase) → Steps Heading run None next → ⊥
    none Heading h = h
    none Productions h = h
    none Equations h = h
    none Ended h = h

pub from_productions : (run : Tokens) (item : Option PlainItem) (next : Phase) → Steps Productions run item next
    → Goes IsOfGrammar Productions run item next ⊎ Goes (IsHeaded (codes "semantics") IsOfSemantics) Equations run item next
from_productions run (Some x) Productions h = inl (x, refl, refl, h)
from_productions run (Some x) Equations h = inr (x, refl, refl, h)
from_productions run (Some x) Heading h = absurd h
from_productions run (Some x) Ended h = absurd h
from_productions run None next h = absurd (none next h)
  where
    none : (next : Phase) → Steps Productions run None next → ⊥
    none Heading h = h
    none Productions h = h
    none Equations h = h
    none Ended h = h

pub from_equations : (run : Tokens) (item : Option PlainItem) (next : Phase) → Steps Equations run item next
    → Goes IsOfSemantics Equations run item next ⊎ ((item ≡ None) × (next ≡ Ended) × (run ≡ codes "end" ∷ []))
from_equations run (Some x) Equations h = inl (x, refl, refl, h)
from_equations run (Some x) Heading h = absurd h
from_equations run (Some x) Productions h = absurd h
from_equations run (Some x) Ended h = absurd h
from_equations run None Ended h = inr (refl, refl, h)
from_equations run None Heading h = absurd h
from_equations run None Productions h = absurd h
from_equations run None Equations h = absurd h

pub from_ended : (run : Tokens) (item : Option PlainItem) (next : Phase) → Steps Ended run item next → ⊥
from_ended run (Some x) Heading h = h
from_ended run (Some x) Productions h = h
from_ended run (Some x) Equations h = h
from_ended run (Some x) Ended h = h
from_ended run None Heading h = h
from_ended run None Productions h = h
from_ended run None Equations h = h
from_ended run None Ended h = h

-- two steps of one form are one
same_goes : (Form : Tokens → PlainItem → Type 0) (to : Phase) (run : Tokens) (i j : Option PlainItem) (n m : Phase) → ((x y : PlainItem) → Form run x → Form run y → x ≡ y)
    → Goes Form to run i n → Goes Form to run j m → (i ≡ j) × (n ≡ m)
same_goes Form to run i j n m one a b = (a.1 ∙ ap Some (one a.0 b.0 a.3 b.3) ∙ sym b.1, a.2 ∙ sym b.2)

-- a run leads from a phase to one phase, by one item
pub one_step : (phase : Phase) (run : Tokens) (i j : Option PlainItem) (n m : Phase) → Steps phase run i n → Steps phase run j m → (i ≡ j) × (n ≡ m)
one_step Heading run i j n m a b =
    same_goes (IsHeaded (codes "grammar") IsOfGrammar) Productions run i j n m (λ x y. one_headed (codes "grammar") IsOfGrammar run x y (λ r. one_of_grammar r x y)) (from_heading run i n a) (from_heading run j m b)
one_step Productions run i j n m a b =
    elim (from_productions run i n a) [
      | inl p ↦ elim (from_productions run j m b) [
        | inl q ↦ same_goes IsOfGrammar Productions run i j n m (one_of_grammar run) p q
        | inr q ↦ absurd (production_or_semantics run q.3.0 p.0 p.3 q.3.1)
      ]
      | inr p ↦ elim (from_productions run j m b) [
        | inl q ↦ absurd (production_or_semantics run p.3.0 q.0 q.3 p.3.1)
        | inr q ↦ same_goes (IsHeaded (codes "semantics") IsOfSemantics) Equations run i j n m (λ x y. one_headed (codes "semantics") IsOfSemantics run x y (λ r. one_of_semantics r x y)) p q
      ]
    ]
one_step Equations run i j n m a b =
    elim (from_equations run i n a) [
      | inl p ↦ elim (from_equations run j m b) [
        | inl q ↦ same_goes IsOfSemantics Equations run i j n m (one_of_semantics run) p q
        | inr q ↦ absurd (rule_or_end run p.0 p.3 q.2)
      ]
      | inr p ↦ elim (from_equations run j m b) [
        | inl q ↦ absurd (rule_or_end run q.0 q.3 p.2)
        | inr q ↦ (p.0 ∙ sym q.0, p.1 ∙ sym q.1)
      ]
    ]
one_step Ended run i j n m a b = absurd (from_ended run i n a)
