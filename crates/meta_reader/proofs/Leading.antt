-- Runs lead from a phase to one phase, and each phase leads to the end.
use Rattle.std.proofs.Common.{◌≡◌, ◌∙◌, List, [], ◌∷◌, ◌++◌, Option, Some, None, refl, sym, ap, subst, codes, append_assoc, append-nil, arith}
use Rattle.std.specs.Option.{option_to_list}
use Rattle.meta_terms.specs.PlainItems.{PlainItem, AProduction, ADeclaration}
use Rattle.meta_reader.specs.declared.phase.Phase.{Phase}
use Rattle.meta_reader.specs.declared.phase.Phase.TheVariants.{Heading, Productions, Equations, Ended}
use Rattle.meta_reader.specs.ItemForms.{Tokens, opening, closing, equals, underscore, colon}
use Rattle.meta_reader.specs.Descriptions.{Steps, Leads, Begins}
use Rattle.meta_reader.proofs.OneItem.{one_step}

-- some runs, and then others
pub leads_append : (runs more : List Tokens) (p q r : Phase) (a b : List PlainItem) → Leads p runs a q → Leads q more b r → Leads p (runs ++ more) (a ++ b) r
leads_append [] more p q r a b h k =
    subst (λ (x : Phase). Leads x more (a ++ b) r) (sym h.1) (subst (λ (xs : List PlainItem). Leads q more (xs ++ b) r) (sym h.0) k)
leads_append (run ∷ runs) more p q r a b h k =
    (h.0, h.1, h.2 ++ b, ap (λ xs. xs ++ b) h.3 ∙ append_assoc (option_to_list h.0) h.2 b, h.4, leads_append runs more h.1 q r h.2 b h.5 k)

-- one run
pub leads_one : (run : Tokens) (p q : Phase) (item : Option PlainItem) → Steps p run item q → Leads p (run ∷ []) (option_to_list item) q
leads_one run p q item h = (item, q, [], sym (append-nil (option_to_list item)), h, (refl, refl))

-- where some of the runs lead
pub record IsCut (runs more : List Tokens) (p r : Phase) : Type 0 where
  pub middle : Phase
  pub items : List PlainItem
  pub others : List PlainItem
  pub first : Leads p runs items middle
  pub second : Leads middle more others r

pub leads_cut : (runs more : List Tokens) (p r : Phase) (items : List PlainItem) → Leads p (runs ++ more) items r → IsCut runs more p r
leads_cut [] more p r items h = record { middle = p; items = []; others = items; first = (refl, refl); second = h }
leads_cut (run ∷ runs) more p r items h =
    let c = leads_cut runs more h.1 r h.2 h.5 in
    record {
      middle = c.middle;
      items = option_to_list h.0 ++ c.items;
      others = c.others;
      first = (h.0, h.1, c.items, refl, h.4, c.first);
      second = c.second;
    }

-- runs have one list of items
pub one_leading : (runs : List Tokens) (p q r : Phase) (a b : List PlainItem) → Leads p runs a q → Leads p runs b r → (a ≡ b) × (q ≡ r)
one_leading [] p q r a b h k = (h.0 ∙ sym k.0, sym h.1 ∙ k.1)
one_leading (run ∷ runs) p q r a b h k =
    let s = one_step p run h.0 k.0 h.1 k.1 h.4 k.4 in
    let rest : Leads h.1 runs k.2 r = subst (λ (x : Phase). Leads x runs k.2 r) (sym s.1) k.5 in
    let o = one_leading runs h.1 q r h.2 k.2 h.5 rest in
    (h.3 ∙ ap (λ i. option_to_list i ++ h.2) s.0 ∙ ap (λ xs. option_to_list k.0 ++ xs) o.0 ∙ sym k.3, o.1)

-- from each phase some runs lead to the end
abbrev Completes : Phase → Type 0
Completes p = (more : List Tokens) × (items : List PlainItem) × Leads p more items Ended

from_equations : Completes Equations
from_equations = ((codes "end" ∷ []) ∷ [], [], (None, Ended, [], refl, refl, (refl, refl)))

from_productions : Completes Productions
from_productions =
    let rest : Tokens = codes "f" ∷ underscore ∷ colon ∷ codes "P" ∷ [] in
    let item : PlainItem = ADeclaration (record { function = codes "f"; nonterminal = codes "P" }) in
    let c = from_equations in
    ((codes "semantics" ∷ rest) ∷ c.0, item ∷ c.1, (Some item, Equations, c.1, refl, (rest, refl, record { function = refl; nonterminal = refl; run_is = refl }), c.2))

from_heading : Completes Heading
from_heading =
    let rest : Tokens = codes "P" ∷ equals ∷ opening ∷ closing ∷ [] in
    let item : PlainItem = AProduction (record { name = codes "P"; alternatives = [] ∷ [] }) in
    let c = from_productions in
    ((codes "grammar" ∷ rest) ∷ c.0, item ∷ c.1, (Some item, Productions, c.1, refl, (rest, refl, record { name = refl; some = omega arith; parts = refl; run_is = refl }), c.2))

completed : (p : Phase) → Completes p
completed Heading = from_heading
completed Productions = from_productions
completed Equations = from_equations
completed Ended = ([], [], (refl, refl))

-- runs that lead somewhere begin a description
pub begins : (runs : List Tokens) (items : List PlainItem) (q : Phase) → Leads Heading runs items q → Begins runs
begins runs items q h =
    let c = completed q in
    (c.0, items ++ c.1, leads_append runs c.0 Heading q Ended items c.1 h c.2)

-- with a run that doesn't stand in the phase to which they lead, they begin none
pub begins_none : (runs : List Tokens) (run : Tokens) (items : List PlainItem) (q : Phase) → Leads Heading runs items q
    → ((item : Option PlainItem) (next : Phase) → Steps q run item next → ⊥) → Begins (runs ++ run ∷ []) → ⊥
begins_none runs run items q h none b =
    let all : Leads Heading (runs ++ (run ∷ b.0)) b.1 Ended = subst (λ (rs : List Tokens). Leads Heading rs b.1 Ended) (append_assoc runs (run ∷ []) b.0) b.2 in
    let c = leads_cut runs (run ∷ b.0) Heading Ended b.1 all in
    let same : c.middle ≡ q = (one_leading runs Heading c.middle q c.items items c.first h).1 in
    let step : Steps q run c.second.0 c.second.1 = subst (λ (x : Phase). Steps x run c.second.0 c.second.1) same c.second.4 in
    none c.second.0 c.second.1 step
