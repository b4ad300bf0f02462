-- Declarations as items.
use Rattle.std.proofs.Common.{◌≡◌, ◌∙◌, ℕ, ◌+◌, ◌<◌, List, [], ◌∷◌, ◌++◌, length, take, get_or, map, refl, sym, ap}
use Rattle.std.proofs.lemmas.List.{map-append}
use Rattle.meta_terms.specs.declared.items.Declaration.{Declaration}
use Rattle.meta_terms.specs.declared.items.Equation.{Equation}
use Rattle.meta_terms.specs.declared.items.Item.{Item}
use Rattle.meta_terms.specs.declared.items.Item.TheVariants as item
use Rattle.meta_terms.specs.PlainItems.{plain_declaration, plain_equation, plain_item, PlainEquation}
use Rattle.meta_check.specs.Views.{declarations_of}
use Rattle.meta_check.proofs.Mapped.{take_mapped}
use Rattle.meta_check.proofs.SoFar.{declarations_append}

-- one more
pub item_more : (list : List Declaration) (i : ℕ) (d : Declaration) (old new : List Item) → i < length list → declarations_of (map plain_item old) ≡ take i (map plain_declaration list)
    → new ≡ old ++ item.Declaration (get_or list i d) ∷ [] → declarations_of (map plain_item new) ≡ take (i + 1) (map plain_declaration list)
item_more list i d old new h before pushed =
    ap (λ xs. declarations_of (map plain_item xs)) pushed
    ∙ ap declarations_of (map-append plain_item old (item.Declaration (get_or list i d) ∷ []))
    ∙ declarations_append (map plain_item old) (plain_item (item.Declaration (get_or list i d)) ∷ [])
    ∙ ap (λ ds. ds ++ plain_declaration (get_or list i d) ∷ []) before
    ∙ sym (take_mapped plain_declaration list i d h)

-- a function of each equation, outside the arena
pub each_equation : {A : Type 0} (f g : PlainEquation → A) → ((e : PlainEquation) → f e ≡ g e) → (list : List Equation) → map (λ e. f (plain_equation e)) list ≡ map g (map plain_equation list)
each_equation f g h [] = refl
each_equation f g h (e ∷ list) = ap (λ x. x ∷ map (λ e. f (plain_equation e)) list) (h (plain_equation e)) ∙ ap (λ xs. g (plain_equation e) ∷ xs) (each_equation f g h list)

-- one equation more
pub found_more : {A : Type 0} (f : Equation → A) (list : List Equation) (i : ℕ) (d x : Equation) (old new : List A) (y : A) → i < length list → old ≡ take i (map f list)
    → y ≡ f x → x ≡ get_or list i d → new ≡ old ++ y ∷ [] → new ≡ take (i + 1) (map f list)
found_more f list i d x old new y h before found is pushed =
    pushed ∙ ap (λ xs. xs ++ y ∷ []) before ∙ ap (λ z. take i (map f list) ++ z ∷ []) (found ∙ ap f is) ∙ sym (take_mapped f list i d h)
