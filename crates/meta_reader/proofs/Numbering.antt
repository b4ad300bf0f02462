-- The items of a description: each has the number of its run, and there are both productions and rules.
use Rattle.std.proofs.Common.{◌≡◌, ℕ, zero, suc, ◌+◌, ◌<◌, List, [], ◌∷◌, ◌++◌, length, Option, Some, None, refl, sym, subst, arith}
use Rattle.std.specs.Prelude.{IsSomeAnd, slice_get}
use Rattle.std.specs.Option.{option_to_list}
use Rattle.meta_terms.specs.PlainItems.{PlainItem, AProduction, ADeclaration, AnEquation}
use Rattle.meta_terms.specs.ItemKinds.{productions_of, declarations_of, equations_of}
use Rattle.meta_reader.specs.declared.phase.Phase.{Phase}
use Rattle.meta_reader.specs.declared.phase.Phase.TheVariants.{Heading, Productions, Equations, Ended}
use Rattle.meta_reader.specs.ItemForms.{Tokens}
use Rattle.meta_reader.specs.Descriptions.{runs_of, Steps, Leads, IsDescription}

-- the run is of the item
abbrev pub IsRunOf : Tokens → PlainItem → Type 0
IsRunOf run item = (p : Phase) × (q : Phase) × Steps p run (Some item) q

-- each item has the number of its run, and one run stands behind those of the items
pub record AreNumbered (runs : List Tokens) (items : List PlainItem) : Type 0 where
  pub count : length runs ≡ length items + 1
  pub runs_are : (k : ℕ) → k < length items → IsSomeAnd (slice_get runs k) (λ run. IsSomeAnd (slice_get items k) (λ item. IsRunOf run item))

leads_numbered : (runs : List Tokens) (p : Phase) (items : List PlainItem) → (p ≡ Ended → ⊥) → Leads p runs items Ended → AreNumbered runs items
leads_numbered [] p items h l = absurd (h l.1)
leads_numbered (run ∷ runs) p items h l =
    subst (λ (xs : List PlainItem). AreNumbered (run ∷ runs) xs) (sym l.3) (step p l.0 l.1 l.4 l.5 (λ other. leads_numbered runs l.1 l.2 other l.5))
  where
    more : (item : PlainItem) → IsRunOf run item → AreNumbered runs l.2 → AreNumbered (run ∷ runs) (item ∷ l.2)
    more item is n = record { count = omega (arith, n.count); runs_are = at }
      where
        at : (k : ℕ) → k < length (item ∷ l.2) → IsSomeAnd (slice_get (run ∷ runs) k) (λ r. IsSomeAnd (slice_get (item ∷ l.2) k) (λ i. IsRunOf r i))
        at zero w = is
        at (suc k) w = n.runs_are k (omega arith)

    last : (runs : List Tokens) (items : List PlainItem) → Leads Ended runs items Ended → AreNumbered (run ∷ runs) items
    last [] items e = subst (λ (xs : List PlainItem). AreNumbered (run ∷ []) xs) (sym e.0) (record { count = omega arith; runs_are = λ k w. absurd (omega (arith, w)) })
    last (r ∷ runs) items e = absurd e.4

    step : (p : Phase) (item : Option PlainItem) (next : Phase) → Steps p run item next → Leads next runs l.2 Ended → ((next ≡ Ended → ⊥) → AreNumbered runs l.2) → AreNumbered (run ∷ runs) (option_to_list item ++ l.2)
    step Equations None Ended s e rest = last runs l.2 e
    step Heading (Some item) Productions s e rest = more item (Heading, Productions, s) (rest (λ e. absurd (cc)))
    step Productions (Some item) Productions s e rest = more item (Productions, Productions, s) (rest (λ e. absurd (cc)))
    step Productions (Some item) Equations s e rest = more item (Productions, Equations, s) (rest (λ e. absurd (cc)))
    step Equations (Some item) Equations s e rest = more item (Equations, Equations, s) (rest (λ e. absurd (cc)))
    step p item next s e rest = absurd s

-- the item of a description has the number of its run, and the last run is `end`
pub description_numbered : (tokens : Tokens) (items : List PlainItem) → IsDescription tokens items → AreNumbered (runs_of tokens) items
description_numbered tokens items is = leads_numbered (runs_of tokens) Heading items (λ e. absurd (cc)) is.1

-- how many declarations and equations there are
abbrev pub rule_count : List PlainItem → ℕ
rule_count items = length (declarations_of items) + length (equations_of items)

leads_rules : (runs : List Tokens) (items : List PlainItem) → Leads Productions runs items Ended → 0 < rule_count items
leads_rules [] items l = let e = l.1 in absurd (cc)
leads_rules (run ∷ runs) items l =
    subst (λ (xs : List PlainItem). 0 < rule_count xs) (sym l.3) (step l.0 l.1 l.4 (λ s. leads_rules runs l.2 (subst (λ (x : Phase). Leads x runs l.2 Ended) s l.5)))
  where
    step : (item : Option PlainItem) (next : Phase) → Steps Productions run item next → (next ≡ Productions → 0 < rule_count l.2) → 0 < rule_count (option_to_list item ++ l.2)
    step (Some (AProduction p)) Productions s rest = rest refl
    step (Some (ADeclaration d)) next s rest = omega arith
    step (Some (AnEquation e)) next s rest = omega arith
    step (Some (AProduction p)) Equations s rest = absurd s.2
    step item next s rest = absurd s

-- a description has a production, and a declaration or an equation
pub description_some : (tokens : Tokens) (items : List PlainItem) → IsDescription tokens items → (0 < length (productions_of items)) × (0 < rule_count items)
description_some tokens items is = go (runs_of tokens) items is.1
  where
    go : (runs : List Tokens) (items : List PlainItem) → Leads Heading runs items Ended → (0 < length (productions_of items)) × (0 < rule_count items)
    go [] items l = let e = l.1 in absurd (cc)
    go (run ∷ runs) items l =
        subst (λ (xs : List PlainItem). (0 < length (productions_of xs)) × (0 < rule_count xs)) (sym l.3) (step l.0 l.1 l.4 l.5)
      where
        step : (item : Option PlainItem) (next : Phase) → Steps Heading run item next → Leads next runs l.2 Ended → (0 < length (productions_of (option_to_list item ++ l.2))) × (0 < rule_count (option_to_list item ++ l.2))
        step (Some (AProduction p)) Productions s e = (omega arith, leads_rules runs l.2 e)
        step (Some (ADeclaration d)) Productions s e = absurd s.2
        step (Some (AnEquation x)) Productions s e = absurd s.2
        step item next s e = absurd s
