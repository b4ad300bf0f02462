-- Names behind the keys of a set.
use Rattle.std.proofs.Common.{◌≡◌, ◌∙◌, ℕ, ◌+◌, ◌<◌, Bool, true, false, not, List, [], ◌∷◌, ◌++◌, length, take, get_or, map, refl, sym, ap}
use Rattle.std.specs.Prelude.{◌||◌}
use Rattle.std.specs.List.{list_any}
use Rattle.std.specs.Str.{bytes_eq}
use Rattle.std.proofs.lemmas.List.{map-append}
use Rattle.std.proofs.lemmas.List.Folds.{list_any-append}
use Rattle.gram_form.specs.Grammars.{HaveSame, is_undefined}
use Rattle.gram_form.proofs.SameNames.{same_undefined}
use Rattle.gram_form.specs.Plain.{PlainProduction, plain_part, plain_alternative}
use Rattle.std.specs.Borrow.{Bor}
use Rattle.gram_form.specs.declared.part.Part.{Part}
use Rattle.meta_terms.specs.declared.items.PatternPart.{PatternPart}
use Rattle.meta_terms.specs.declared.items.Item.{Item}
use Rattle.meta_terms.specs.declared.template.TemplateNode.{TemplateNode}
use Rattle.meta_terms.specs.Nodes.{label_of}
use Rattle.meta_terms.specs.Templates.{Label, ActionNode, YielderNode, ActionTokenOf, YielderTokenOf, Applied, ValueOf}
use Rattle.meta_terms.specs.PlainItems.{PlainDeclaration, PlainPatternPart, PlainItem, AProduction, ADeclaration, AnEquation, plain_pattern_part, plain_item}
use Rattle.meta_check.specs.Views.{productions_of, declarations_of, is_in, nonterminals_of, functions_of, names_outside, repeats_production, repeats_declaration, applies_outside, calls_outside}
use Rattle.meta_check.proofs.SoFar.{Appends, productions_append, declarations_append, next_of}

pub same_any : {X : Type 0} (p q : X → Bool) → ((x : X) → p x ≡ q x) → (xs : List X) → list_any p xs ≡ list_any q xs
same_any p q h [] = refl
same_any p q h (x ∷ xs) = ap (λ b. b || list_any p xs) (h x) ∙ ap (λ b. q x || b) (same_any p q h xs)

-- what isn't known is told by the names alone
pub same_outside : (known names : List (List ℕ)) → HaveSame known names → (item : PlainItem) → names_outside known item ≡ names_outside names item
same_outside known names h (AProduction p) =
    same_any (list_any (is_undefined known)) (list_any (is_undefined names)) (same_any (is_undefined known) (is_undefined names) (same_undefined known names h)) p.alternatives
same_outside known names h (ADeclaration d) = ap not (h d.nonterminal)
same_outside known names h (AnEquation e) =
    same_any (λ (p : PlainPatternPart). is_undefined known p.part) (λ (p : PlainPatternPart). is_undefined names p.part) (λ p. same_undefined known names h p.part) e.pattern

pub same_applied : (known names : List (List ℕ)) → HaveSame known names → (l : Label) → applies_outside known l ≡ applies_outside names l
same_applied known names h (Applied f v) = ap not (h f)
same_applied known names h (ActionNode k n t) = refl
same_applied known names h (YielderNode k t) = refl
same_applied known names h (ActionTokenOf k n t v) = refl
same_applied known names h (YielderTokenOf k t v) = refl
same_applied known names h (ValueOf v) = refl

pub any_map : {X Y : Type 0} (f : X → Y) (p : Y → Bool) (xs : List X) → list_any (λ x. p (f x)) xs ≡ list_any p (map f xs)
any_map f p [] = refl
any_map f p (x ∷ xs) = ap (λ b. p (f x) || b) (any_map f p xs)

-- of parts in memory
pub any_part : (known : List (List ℕ)) (parts : List Part) → list_any (λ p. is_undefined known (plain_part p)) parts ≡ list_any (is_undefined known) (map plain_part parts)
any_part known parts = any_map plain_part (is_undefined known) parts

pub any_alternative : (known : List (List ℕ)) (list : List (Bor (List Part)))
    → list_any (λ (a : Bor (List Part)). list_any (λ p. is_undefined known (plain_part p)) a.now) list ≡ list_any (list_any (is_undefined known)) (map plain_alternative list)
any_alternative known list =
    same_any (λ (a : Bor (List Part)). list_any (λ p. is_undefined known (plain_part p)) a.now) (λ (a : Bor (List Part)). list_any (is_undefined known) (map plain_part a.now)) (λ a. any_part known a.now) list
    ∙ any_map plain_alternative (list_any (is_undefined known)) list

pub any_pattern : (known : List (List ℕ)) (list : List PatternPart)
    → list_any (λ (p : PatternPart). is_undefined known (plain_part p.part)) list ≡ list_any (λ (p : PlainPatternPart). is_undefined known p.part) (map plain_pattern_part list)
any_pattern known list = any_map plain_pattern_part (λ (p : PlainPatternPart). is_undefined known p.part) list

-- names of items one after another
pub nonterminals_append : Appends nonterminals_of
nonterminals_append items others = ap (map (λ (p : PlainProduction). p.name)) (productions_append items others) ∙ map-append (λ (p : PlainProduction). p.name) (productions_of items) (productions_of others)

functions_append : Appends functions_of
functions_append items others = ap (map (λ (d : PlainDeclaration). d.function)) (declarations_append items others) ∙ map-append (λ (d : PlainDeclaration). d.function) (declarations_of items) (declarations_of others)

-- the names of one more item
noted : (names_of : List PlainItem → List (List ℕ)) → Appends names_of → (list : List Item) (i : ℕ) (d : Item) (known new : List (List ℕ))
    → i < length list → HaveSame known (names_of (take i (map plain_item list))) → d ≡ get_or list i d → HaveSame new (known ++ names_of (plain_item d ∷ [])) → HaveSame new (names_of (take (i + 1) (map plain_item list)))
noted names_of append list i d known new h so_far is e n =
    e n
    ∙ list_any-append (bytes_eq n) known (names_of (plain_item d ∷ []))
    ∙ ap (λ b. b || is_in (names_of (plain_item d ∷ [])) n) (so_far n)
    ∙ sym (list_any-append (bytes_eq n) (names_of (take i (map plain_item list))) (names_of (plain_item d ∷ [])))
    ∙ ap (λ ns. is_in ns n) (sym (next_of names_of append list i d h is))

pub nonterminal_noted : (list : List Item) (i : ℕ) (d : Item) (known new : List (List ℕ)) → i < length list → HaveSame known (nonterminals_of (take i (map plain_item list)))
    → d ≡ get_or list i d → HaveSame new (known ++ nonterminals_of (plain_item d ∷ [])) → HaveSame new (nonterminals_of (take (i + 1) (map plain_item list)))
nonterminal_noted list i d known new = noted nonterminals_of nonterminals_append list i d known new

pub function_noted : (list : List Item) (i : ℕ) (d : Item) (known new : List (List ℕ)) → i < length list → HaveSame known (functions_of (take i (map plain_item list)))
    → d ≡ get_or list i d → HaveSame new (known ++ functions_of (plain_item d ∷ [])) → HaveSame new (functions_of (take (i + 1) (map plain_item list)))
function_noted list i d known new = noted functions_of functions_append list i d known new

-- whether an item repeats a name is told by the names alone
pub same_production : (known names : List (List ℕ)) → HaveSame known names → (item : PlainItem) → repeats_production known item ≡ repeats_production names item
same_production known names h (AProduction p) = h p.name
same_production known names h (ADeclaration d) = refl
same_production known names h (AnEquation e) = refl

pub same_declaration : (known names : List (List ℕ)) → HaveSame known names → (item : PlainItem) → repeats_declaration known item ≡ repeats_declaration names item
same_declaration known names h (ADeclaration d) = h d.function
same_declaration known names h (AProduction p) = refl
same_declaration known names h (AnEquation e) = refl

-- of nodes in memory
pub any_node : (known : List (List ℕ)) (list : List TemplateNode) → list_any (λ n. applies_outside known (label_of n)) list ≡ list_any (applies_outside known) (map label_of list)
any_node known list = any_map label_of (applies_outside known) list

pub same_calls : (known names : List (List ℕ)) → HaveSame known names → (item : PlainItem) → calls_outside known item ≡ calls_outside names item
same_calls known names h (AProduction p) = refl
same_calls known names h (ADeclaration d) = refl
same_calls known names h (AnEquation e) =
    ap (λ b. not b || list_any (applies_outside known) e.action) (h e.function)
    ∙ ap (λ b. not (is_in names e.function) || b) (same_any (applies_outside known) (applies_outside names) (same_applied known names h) e.action)

-- an insertion tells whether the key was new
pub was_there : (b : Bool) → not b ≡ false → b ≡ true
was_there true h = refl
was_there false h = absurd (cc)

pub was_new : (b : Bool) → not b ≡ true → b ≡ false
was_new true h = absurd (cc)
was_new false h = refl
