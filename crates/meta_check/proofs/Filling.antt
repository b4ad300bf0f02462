-- Tables of texts that are filled from a list, where the first with a name counts.
use Rattle.std.proofs.Common.{◌≡◌, ◌∙◌, ℕ, ◌+◌, ◌<◌, Bool, true, false, List, [], ◌∷◌, ◌++◌, length, take, get_or, map, Option, Some, None, option_to_list, refl, sym, ap}
use Rattle.std.specs.Prelude.{option_map, if◌then◌else◌}
use Rattle.std.specs.Borrow.{Bor}
use Rattle.std.specs.List.{list_any}
use Rattle.std.specs.Str.{bytes_eq}
use Rattle.std.proofs.lemmas.List.{map-append}
use Rattle.std.proofs.Math.Bool.{or-false}
use Rattle.gram_form.specs.declared.part.Part.{Part}
use Rattle.gram_form.specs.Plain.{PlainPart, plain_part}
use Rattle.meta_terms.specs.declared.items.Declaration.{Declaration}
use Rattle.meta_terms.specs.declared.items.PatternPart.{PatternPart}
use Rattle.meta_terms.specs.declared.items.Item.{Item}
use Rattle.meta_terms.specs.declared.items.Item.TheVariants as item
use Rattle.meta_terms.specs.PlainItems.{PlainDeclaration, PlainPatternPart, plain_item, plain_declaration, plain_pattern_part}
use Rattle.meta_check.specs.declared.categories.Category.{Category}
use Rattle.meta_check.specs.Tables.{Texts, AreNonterminals, category_in, number_of}
use Rattle.meta_check.specs.Views.{declarations_of, nonterminal_of, part_for, parts_of_pattern}
use Rattle.meta_check.proofs.Lookups.{else_at}
use Rattle.meta_check.proofs.SoFar.{declarations_append, next_of, none_more}
use Rattle.meta_check.proofs.Mapped.{take_mapped}

map_else : {A B : Type 0} (f : A → B) (o : Option A) (b : Bool) (x : A) → option_map f (else_at o b x) ≡ else_at (option_map f o) b (f x)
map_else f None true x = refl
map_else f None false x = refl
map_else f (Some y) b x = refl

nonterminal_next : (list : List PlainDeclaration) (d : PlainDeclaration) (f : List ℕ) → nonterminal_of (list ++ d ∷ []) f ≡ else_at (nonterminal_of list f) (bytes_eq f d.function) d.nonterminal
nonterminal_next [] d f = refl
nonterminal_next (q ∷ list) d f = pick (bytes_eq f q.function) (nonterminal_next list d f)
  where
    pick : (b : Bool) → nonterminal_of (list ++ d ∷ []) f ≡ else_at (nonterminal_of list f) (bytes_eq f d.function) d.nonterminal
        → (if b then Some q.nonterminal else nonterminal_of (list ++ d ∷ []) f) ≡ else_at (if b then Some q.nonterminal else nonterminal_of list f) (bytes_eq f d.function) d.nonterminal
    pick true rest = refl
    pick false rest = rest

-- the functions of one item more
pub nonterminal_noted : (number : List ℕ → ℕ) (list : List Item) (i : ℕ) (d : Item) (own : Declaration) (old new : Texts ℕ) → i < length list → d ≡ get_or list i d → d ≡ item.Declaration own
    → AreNonterminals number (declarations_of (take i (map plain_item list))) old
    → ((f : List ℕ) → number_of new f ≡ else_at (number_of old f) (bytes_eq f own.function.now) (number own.nonterminal.now))
    → AreNonterminals number (declarations_of (take (i + 1) (map plain_item list))) new
nonterminal_noted number list i d own old new h is e before step f =
    let so_far = declarations_of (take i (map plain_item list)) in
    step f
    ∙ ap (λ o. else_at o (bytes_eq f own.function.now) (number own.nonterminal.now)) (before f)
    ∙ sym (map_else number (nonterminal_of so_far f) (bytes_eq f own.function.now) own.nonterminal.now)
    ∙ ap (option_map number) (sym (nonterminal_next so_far (plain_declaration own) f)
    ∙ ap (λ ds. nonterminal_of ds f) (sym (next_of declarations_of declarations_append list i d h is ∙ ap (λ (x : Item). so_far ++ declarations_of (plain_item x ∷ [])) e)))

pub nonterminal_none : (number : List ℕ → ℕ) (list : List Item) (i : ℕ) (d : Item) (old : Texts ℕ) → i < length list → d ≡ get_or list i d → declarations_of (plain_item d ∷ []) ≡ []
    → AreNonterminals number (declarations_of (take i (map plain_item list))) old → AreNonterminals number (declarations_of (take (i + 1) (map plain_item list))) old
nonterminal_none number list i d old h is none before f =
    before f ∙ ap (λ ds. option_map number (nonterminal_of ds f)) (none_more declarations_of declarations_append list i d h is none)

part_next : (list : List PlainPatternPart) (p : PlainPatternPart) (v : List ℕ) → part_for (list ++ p ∷ []) v ≡ else_at (part_for list v) (list_any (bytes_eq v) (option_to_list p.variable)) p.part
part_next [] p v = refl
part_next (q ∷ list) p v = pick (list_any (bytes_eq v) (option_to_list q.variable)) (part_next list p v)
  where
    pick : (b : Bool) → part_for (list ++ p ∷ []) v ≡ else_at (part_for list v) (list_any (bytes_eq v) (option_to_list p.variable)) p.part
        → (if b then Some q.part else part_for (list ++ p ∷ []) v) ≡ else_at (if b then Some q.part else part_for list v) (list_any (bytes_eq v) (option_to_list p.variable)) p.part
    pick true rest = refl
    pick false rest = rest

-- a table has the categories of the variables of a pattern
abbrev pub HasCategories : (PlainPart → Category) → List PlainPatternPart → Texts Category → Type 0
HasCategories category pattern entries = (v : List ℕ) → category_in entries v ≡ option_map category (part_for pattern v)

pub category_noted : (category : PlainPart → Category) (list : List PatternPart) (i : ℕ) (d : PatternPart) (x : Bor (List ℕ)) (old new : Texts Category) → i < length list → (get_or list i d).variable ≡ Some x
    → HasCategories category (take i (map plain_pattern_part list)) old
    → ((v : List ℕ) → category_in new v ≡ else_at (category_in old v) (bytes_eq v x.now) (category (plain_part (get_or list i d).part)))
    → HasCategories category (take (i + 1) (map plain_pattern_part list)) new
category_noted category list i d x old new h e before step v =
    let so_far = take i (map plain_pattern_part list) in
    let own = plain_part (get_or list i d).part in
    step v
    ∙ ap (λ o. else_at o (bytes_eq v x.now) (category own)) (before v)
    ∙ sym (map_else category (part_for so_far v) (bytes_eq v x.now) own)
    ∙ ap (option_map category) (
    ap (λ b. else_at (part_for so_far v) b own) (sym (ap (λ (o : Option (Bor (List ℕ))). list_any (bytes_eq v) (option_to_list (option_map (λ (t : Bor (List ℕ)). t.now) o))) e ∙ or-false (bytes_eq v x.now)))
    ∙ sym (part_next so_far (plain_pattern_part (get_or list i d)) v)
    ∙ ap (λ ps. part_for ps v) (sym (take_mapped plain_pattern_part list i d h)))

pub category_none : (category : PlainPart → Category) (list : List PatternPart) (i : ℕ) (d : PatternPart) (old : Texts Category) → i < length list → (get_or list i d).variable ≡ None
    → HasCategories category (take i (map plain_pattern_part list)) old → HasCategories category (take (i + 1) (map plain_pattern_part list)) old
category_none category list i d old h e before v =
    let so_far = take i (map plain_pattern_part list) in
    let own = plain_part (get_or list i d).part in
    before v
    ∙ ap (option_map category) (
    same (part_for so_far v)
    ∙ ap (λ b. else_at (part_for so_far v) b own) (sym (ap (λ (o : Option (Bor (List ℕ))). list_any (bytes_eq v) (option_to_list (option_map (λ (t : Bor (List ℕ)). t.now) o))) e))
    ∙ sym (part_next so_far (plain_pattern_part (get_or list i d)) v)
    ∙ ap (λ ps. part_for ps v) (sym (take_mapped plain_pattern_part list i d h)))
  where
    same : (o : Option PlainPart) → o ≡ else_at o false (plain_part (get_or list i d).part)
    same None = refl
    same (Some p) = refl

-- the parts of a pattern, without their variables
pub part_pushed : (list : List PatternPart) (i : ℕ) (d : PatternPart) (old new : List Part) → i < length list
    → map plain_part old ≡ parts_of_pattern (take i (map plain_pattern_part list)) → new ≡ old ++ (get_or list i d).part ∷ [] → map plain_part new ≡ parts_of_pattern (take (i + 1) (map plain_pattern_part list))
part_pushed list i d old new h before pushed =
    ap (map plain_part) pushed
    ∙ map-append plain_part old ((get_or list i d).part ∷ [])
    ∙ ap (λ ps. ps ++ plain_part (get_or list i d).part ∷ []) before
    ∙ sym (ap parts_of_pattern (take_mapped plain_pattern_part list i d h) ∙ map-append (λ (p : PlainPatternPart). p.part) (take i (map plain_pattern_part list)) (plain_pattern_part (get_or list i d) ∷ []))

-- what isn't there
pub none_of : {A : Type 0} (o : Option A) → ((x : A) → o ≡ Some x → ⊥) → o ≡ None
none_of None h = refl
none_of (Some x) h = absurd (h x refl)
