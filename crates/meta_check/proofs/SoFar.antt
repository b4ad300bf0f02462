-- The productions, the declarations and the equations of the items so far.
use Rattle.std.proofs.Common.{◌≡◌, ◌∙◌, ℕ, zero, suc, ◌+◌, ◌<◌, List, [], ◌∷◌, ◌++◌, length, take, get_or, map, refl, sym, ap, append-nil, arith}
use Rattle.std.proofs.lemmas.List.{map-append}
use Rattle.gram_form.specs.declared.part.Production.{Production}
use Rattle.meta_terms.specs.declared.items.Declaration.{Declaration}
use Rattle.meta_terms.specs.declared.items.Equation.{Equation}
use Rattle.meta_terms.specs.declared.items.Item.{Item}
use Rattle.meta_terms.specs.declared.items.Item.TheVariants as item
use Rattle.meta_terms.specs.PlainItems.{PlainItem, AProduction, ADeclaration, AnEquation, plain_item}
use Rattle.meta_check.specs.Views.{productions_of, declarations_of, equations_of}
use Rattle.meta_check.proofs.Mapped.{take_mapped}

-- what is made of items, one after another
abbrev pub Appends : {A : Type 0} → (List PlainItem → List A) → Type 0
Appends of = (items others : List PlainItem) → of (items ++ others) ≡ of items ++ of others

pub productions_append : Appends productions_of
productions_append [] others = refl
productions_append (AProduction p ∷ items) others = ap (λ ps. p ∷ ps) (productions_append items others)
productions_append (ADeclaration d ∷ items) others = productions_append items others
productions_append (AnEquation e ∷ items) others = productions_append items others

pub declarations_append : Appends declarations_of
declarations_append [] others = refl
declarations_append (AProduction p ∷ items) others = declarations_append items others
declarations_append (ADeclaration d ∷ items) others = ap (λ ds. d ∷ ds) (declarations_append items others)
declarations_append (AnEquation e ∷ items) others = declarations_append items others

pub equations_append : Appends equations_of
equations_append [] others = refl
equations_append (AProduction p ∷ items) others = equations_append items others
equations_append (ADeclaration d ∷ items) others = equations_append items others
equations_append (AnEquation e ∷ items) others = ap (λ es. e ∷ es) (equations_append items others)

-- an item among the others
pub cut_here : (list : List Item) (i : ℕ) (d : Item) → i < length list → d ≡ get_or list i d → (more : List PlainItem) × (map plain_item list ≡ take i (map plain_item list) ++ plain_item d ∷ more)
cut_here list i d h is = let c = go list i h in (c.0, c.1 ∙ ap (λ (x : Item). take i (map plain_item list) ++ plain_item x ∷ c.0) (sym is))
  where
    go : (list : List Item) (i : ℕ) → i < length list → (more : List PlainItem) × (map plain_item list ≡ take i (map plain_item list) ++ plain_item (get_or list i d) ∷ more)
    go [] i h = absurd (omega arith)
    go (x ∷ list) zero h = (map plain_item list, refl)
    go (x ∷ list) (suc i) h = let c = go list i (omega arith) in (c.0, ap (λ is. plain_item x ∷ is) c.1)

take_next : (list : List Item) (i : ℕ) (d : Item) → i < length list → d ≡ get_or list i d → take (i + 1) (map plain_item list) ≡ take i (map plain_item list) ++ plain_item d ∷ []
take_next list i d h is = take_mapped plain_item list i d h ∙ ap (λ (x : Item). take i (map plain_item list) ++ plain_item x ∷ []) (sym is)

-- with one item more
pub next_of : {A : Type 0} (of : List PlainItem → List A) → Appends of → (list : List Item) (i : ℕ) (d : Item) → i < length list → d ≡ get_or list i d
    → of (take (i + 1) (map plain_item list)) ≡ of (take i (map plain_item list)) ++ of (plain_item d ∷ [])
next_of of append list i d h is = ap of (take_next list i d h is) ∙ append (take i (map plain_item list)) (plain_item d ∷ [])

-- of a list that is filled: one is added
pub one_more : {A B : Type 0} (see : A → B) (of : List PlainItem → List B) → Appends of → (list : List Item) (i : ℕ) (d : Item) (old new : List A) (a : A) → i < length list → d ≡ get_or list i d
    → map see old ≡ of (take i (map plain_item list)) → new ≡ old ++ a ∷ [] → of (plain_item d ∷ []) ≡ see a ∷ [] → map see new ≡ of (take (i + 1) (map plain_item list))
one_more see of append list i d old new a h is so_far pushed one =
    ap (map see) pushed ∙ map-append see old (a ∷ []) ∙ ap (λ bs. bs ++ see a ∷ []) so_far
    ∙ ap (λ bs. of (take i (map plain_item list)) ++ bs) (sym one) ∙ sym (next_of of append list i d h is)

-- none is added
pub none_more : {B : Type 0} (of : List PlainItem → List B) → Appends of → (list : List Item) (i : ℕ) (d : Item) → i < length list → d ≡ get_or list i d
    → of (plain_item d ∷ []) ≡ [] → of (take i (map plain_item list)) ≡ of (take (i + 1) (map plain_item list))
none_more of append list i d h is none =
    sym (next_of of append list i d h is ∙ ap (λ bs. of (take i (map plain_item list)) ++ bs) none ∙ append-nil (of (take i (map plain_item list))))

-- items of another kind
pub no_production : (d : Item) → ((p : Production) → d ≡ item.Production p → ⊥) → productions_of (plain_item d ∷ []) ≡ []
no_production (item.Production p) h = absurd (h p refl)
no_production (item.Declaration x) h = refl
no_production (item.Equation e) h = refl

pub no_declaration : (d : Item) → ((x : Declaration) → d ≡ item.Declaration x → ⊥) → declarations_of (plain_item d ∷ []) ≡ []
no_declaration (item.Production p) h = refl
no_declaration (item.Declaration x) h = absurd (h x refl)
no_declaration (item.Equation e) h = refl

pub no_equation : (d : Item) → ((e : Equation) → d ≡ item.Equation e → ⊥) → equations_of (plain_item d ∷ []) ≡ []
no_equation (item.Production p) h = refl
no_equation (item.Declaration x) h = refl
no_equation (item.Equation e) h = absurd (h e refl)
