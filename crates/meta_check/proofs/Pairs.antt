-- The pairs of functions and alternatives, item by item.
use Rattle.std.proofs.Common.{◌≡◌, ◌∙◌, ℕ, ◌+◌, ◌<◌, List, [], ◌∷◌, ◌++◌, length, take, get_or, map, Some, None, refl, sym, ap}
use Rattle.std.specs.BTreeSet.{insert_key}
use Rattle.std.specs.List.{list_any}
use Rattle.meta_terms.specs.declared.items.Equation.{Equation}
use Rattle.meta_terms.specs.declared.items.Item.{Item}
use Rattle.meta_terms.specs.declared.items.Item.TheVariants as item
use Rattle.meta_terms.specs.PlainItems.{plain_equation, plain_item}
use Rattle.meta_check.specs.Views.{equations_of, alternative_of}
use Rattle.meta_check.proofs.Alternatives.{Pair, ArePairs, is_for, pair_cmp, pair_more, pair_none}
use Rattle.meta_check.proofs.SoFar.{equations_append, next_of, no_equation, none_more}

-- the equations so far, with the one that the item is
one_equation : (list : List Item) (i : ℕ) (d : Item) (own : Equation) → i < length list → d ≡ get_or list i d → d ≡ item.Equation own
    → equations_of (take i (map plain_item list)) ++ plain_equation own ∷ [] ≡ equations_of (take (i + 1) (map plain_item list))
one_equation list i d own h is e =
    sym (next_of equations_of equations_append list i d h is
    ∙ ap (λ (x : Item). equations_of (take i (map plain_item list)) ++ equations_of (plain_item x ∷ [])) e)

-- an equation with an alternative
pub pairs_noted : (list : List Item) (i : ℕ) (d : Item) (own : Equation) (pairs new : List Pair) (m : ℕ) → i < length list → d ≡ get_or list i d → d ≡ item.Equation own
    → alternative_of (map plain_item list) (plain_equation own) ≡ Some m → ArePairs (map plain_item list) pairs (equations_of (take i (map plain_item list)))
    → new ≡ insert_key pair_cmp pairs (own.function, m) → ArePairs (map plain_item list) new (equations_of (take (i + 1) (map plain_item list)))
pairs_noted list i d own pairs new m h is e alternative before inserted f n =
    pair_more (map plain_item list) pairs new (equations_of (take i (map plain_item list))) (plain_equation own) own.function m before alternative refl inserted f n
    ∙ ap (list_any (is_for (map plain_item list) f n)) (one_equation list i d own h is e)

-- one without
pub pairs_kept : (list : List Item) (i : ℕ) (d : Item) (own : Equation) (pairs : List Pair) → i < length list → d ≡ get_or list i d → d ≡ item.Equation own
    → alternative_of (map plain_item list) (plain_equation own) ≡ None → ArePairs (map plain_item list) pairs (equations_of (take i (map plain_item list)))
    → ArePairs (map plain_item list) pairs (equations_of (take (i + 1) (map plain_item list)))
pairs_kept list i d own pairs h is e none before f n =
    pair_none (map plain_item list) pairs (equations_of (take i (map plain_item list))) (plain_equation own) before none f n
    ∙ ap (list_any (is_for (map plain_item list) f n)) (one_equation list i d own h is e)

-- an item of another kind
pub pairs_other : (list : List Item) (i : ℕ) (d : Item) (pairs : List Pair) → i < length list → d ≡ get_or list i d → ((own : Equation) → d ≡ item.Equation own → ⊥)
    → ArePairs (map plain_item list) pairs (equations_of (take i (map plain_item list))) → ArePairs (map plain_item list) pairs (equations_of (take (i + 1) (map plain_item list)))
pairs_other list i d pairs h is other before f n =
    before f n ∙ ap (list_any (is_for (map plain_item list) f n)) (none_more equations_of equations_append list i d h is (no_equation d other))
