-- The rules of descriptions: whether an item breaks one, by the items before it and by all items.
use Rattle.std.specs.Prelude.{◌≡◌, ℕ, ◌-◌, ◌<◌, Bool, true, false, ◌&&◌, ◌||◌, not, nat_eq, List, [], ◌∷◌, length, take, map, Option, Some, None, is_none, IsSomeAnd, All, slice_get}
use Rattle.std.specs.List.{list_any, list_all}
use Rattle.std.specs.Option.{option_to_list}
use Rattle.std.specs.Str.{bytes_eq}
use Rattle.gram_form.specs.Plain.{PlainPart, PlainNonterm, PlainIdentifier, PlainNumeral}
use Rattle.meta_terms.specs.Templates.{Label, ActionTokenOf, YielderTokenOf, Applied, ValueOf}
use Rattle.meta_terms.specs.PlainItems.{PlainEquation, PlainItem, ADeclaration, AnEquation}
use Rattle.meta_check.specs.Views.{declarations_of, equations_of, nonterminals_of, functions_of, is_in, names_outside, repeats_production, repeats_declaration, calls_outside, uses_outside, variables_of, part_for, nonterminal_of, alternative_of, same_part}

-- a rule: whether an item breaks it, by the items before it and by all items
abbrev pub Rule : Type 0
Rule = List PlainItem → List PlainItem → PlainItem → Bool

-- 1: a production has the name of an earlier one
abbrev pub repeats_name : Rule
repeats_name earlier all item = repeats_production (nonterminals_of earlier) item

-- 2: a part or a declaration names a nonterminal without a production
abbrev pub names_no_production : Rule
names_no_production earlier all item = names_outside (nonterminals_of all) item

-- 3: an equation's head or template names a function that isn't declared
abbrev pub names_no_function : Rule
names_no_function earlier all item = calls_outside (functions_of all) item

-- 4: a declaration has the function of an earlier one
abbrev pub repeats_function : Rule
repeats_function earlier all item = repeats_declaration (functions_of earlier) item

-- 5: a pattern equals no alternative of its function's nonterminal
abbrev pub equals_no_alternative : Rule
equals_no_alternative earlier all (AnEquation e) = is_none (alternative_of all e)
equals_no_alternative earlier all _ = false

-- two numbers that are there, and are the same
abbrev pub same_number : Option ℕ → Option ℕ → Bool
same_number (Some m) (Some n) = nat_eq m n
same_number _ _ = false

-- two equations give one function an action for one alternative
abbrev pub gives_the_same : List PlainItem → PlainEquation → PlainEquation → Bool
gives_the_same all e f =
    bytes_eq e.function f.function && same_number (alternative_of all e) (alternative_of all f)

-- 6: an equation is for the function and the alternative of an earlier one
abbrev pub repeats_equation : Rule
repeats_equation earlier all (AnEquation e) = list_any (gives_the_same all e) (equations_of earlier)
repeats_equation earlier all _ = false

-- one of the texts is there again behind it
abbrev pub repeats : List (List ℕ) → Bool
repeats [] = false
repeats (x ∷ xs) = is_in xs x || repeats xs

-- 7: a pattern has a variable twice, or a template uses one that isn't in its pattern
abbrev pub misuses_variable : Rule
misuses_variable earlier all (AnEquation e) =
    repeats (variables_of e.pattern) || list_any (uses_outside (variables_of e.pattern)) e.action
misuses_variable earlier all _ = false

-- the variable stands for the part, where it stands for one
abbrev pub stands_for : List PlainPart → Option PlainPart → Bool
stands_for parts None = true
stands_for parts (Some part) = list_any (same_part part) parts

-- what a node of a template asks of its variable: f V a phrase of f's nonterminal, `value of V` a
-- numeral and `token of V` an identifier
abbrev pub fits : List PlainItem → PlainEquation → Label → Bool
fits all e (Applied f v) =
    stands_for (map PlainNonterm (option_to_list (nonterminal_of (declarations_of all) f)))
    (part_for e.pattern v)
fits all e (ValueOf v) = stands_for (PlainNumeral ∷ []) (part_for e.pattern v)
fits all e (ActionTokenOf k n t v) = stands_for (PlainIdentifier ∷ []) (part_for e.pattern v)
fits all e (YielderTokenOf k t v) = stands_for (PlainIdentifier ∷ []) (part_for e.pattern v)
fits all e _ = true

-- 8: a template uses a variable for another part than its own
abbrev pub misuses_part : Rule
misuses_part earlier all (AnEquation e) = not (list_all (fits all e) e.action)
misuses_part earlier all _ = false

-- 9: the first declared function isn't declared for the first production's name
abbrev pub starts_elsewhere : Rule
starts_elsewhere earlier all (ADeclaration d) =
    nat_eq (length (declarations_of earlier)) 0
    && not (is_in (take 1 (nonterminals_of all)) d.nonterminal)
starts_elsewhere earlier all _ = false

-- the rules, from the first on
abbrev pub rules : List Rule
rules =
    repeats_name ∷ names_no_production ∷ names_no_function ∷ repeats_function
    ∷ equals_no_alternative
    ∷ repeats_equation ∷ misuses_variable ∷ misuses_part ∷ starts_elsewhere ∷ []

-- the item with the number, from 0, breaks the rule
abbrev pub Breaks : Rule → List PlainItem → ℕ → Type 0
Breaks rule items k = IsSomeAnd (slice_get items k) (λ item. rule (take k items) items item ≡ true)

-- it is the first item that does
pub record IsFirstBreach (rule : Rule) (items : List PlainItem) (k : ℕ) : Type 0 where
  pub breaks : Breaks rule items k
  pub first : (j : ℕ) → Breaks rule items j → j < k → ⊥

-- no item breaks it
abbrev pub Holds : Rule → List PlainItem → Type 0
Holds rule items = (k : ℕ) → Breaks rule items k → ⊥

-- no item breaks any rule
abbrev pub IsWellFormed : List PlainItem → Type 0
IsWellFormed items = All (λ (rule : Rule). Holds rule items) rules

-- no item breaks one of the first rules
abbrev pub HoldBelow : List PlainItem → ℕ → Type 0
HoldBelow items n = (r : ℕ) → r < n → IsSomeAnd (slice_get rules r) (λ rule. Holds rule items)

-- the rule with the number, from 1, is broken first at the item, and no rule before it is broken
pub record IsFirstBroken (items : List PlainItem) (number item : ℕ) : Type 0 where
  pub counted : 0 < number
  pub breach : IsSomeAnd (slice_get rules (number - 1)) (λ rule. IsFirstBreach rule items item)
  pub lesser : HoldBelow items (number - 1)
