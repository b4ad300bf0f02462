-- Rules that hold of items hold of their productions, then their declarations, then their equations.
use Rattle.std.proofs.Common.{◌≡◌, ◌∙◌, ◌⊎◌, inl, inr, ℕ, zero, suc, true, List, [], ◌∷◌, ◌++◌, length, take, map, refl, sym, ap, ap₂, subst, append-nil}
use Rattle.std.specs.Prelude.{IsSomeAnd, slice_get}
use Rattle.gram_form.specs.Plain.{PlainProduction}
use Rattle.meta_terms.specs.PlainItems.{PlainDeclaration, PlainEquation, PlainItem, AProduction, ADeclaration, AnEquation}
use Rattle.meta_check.specs.Checked.{in_order}
use Rattle.meta_check.specs.Rules.{Rule, Breaks, Holds}
use Rattle.meta_check.specs.Views.{productions_of, declarations_of, equations_of}
use Rattle.meta_check.proofs.SoFar.{Appends, productions_append, declarations_append, equations_append}

-- an item between others
pub record IsBetween (items : List PlainItem) (P : List PlainItem → PlainItem → Type 0) : Type 0 where
  pub earlier : List PlainItem
  pub item : PlainItem
  pub more : List PlainItem
  pub cut : items ≡ earlier ++ item ∷ more
  pub holds : P earlier item

between : (items : List PlainItem) (k : ℕ) (P : List PlainItem → PlainItem → Type 0) → IsSomeAnd (slice_get items k) (P (take k items)) → IsBetween items P
between [] k P h = absurd h
between (x ∷ items) zero P h = record { earlier = []; item = x; more = items; cut = refl; holds = h }
between (x ∷ items) (suc k) P h =
    let r = between items k (λ earlier item. P (x ∷ earlier) item) h in
    record { earlier = x ∷ r.earlier; item = r.item; more = r.more; cut = ap (λ xs. x ∷ xs) r.cut; holds = r.holds }

pub there : (earlier more : List PlainItem) (x : PlainItem) (P : List PlainItem → PlainItem → Type 0) → P earlier x → IsSomeAnd (slice_get (earlier ++ x ∷ more) (length earlier)) (P (take (length earlier) (earlier ++ x ∷ more)))
there [] more x P h = h
there (y ∷ earlier) more x P h = there earlier more x (λ before item. P (y ∷ before) item) h

-- an item that breaks a rule that holds
pub breaks_there : (rule : Rule) (items earlier more : List PlainItem) (x : PlainItem) → items ≡ earlier ++ x ∷ more → rule earlier items x ≡ true → Holds rule items → ⊥
breaks_there rule items earlier more x cut breaks holds =
    let here = there earlier more x (λ before z. rule before (earlier ++ x ∷ more) z ≡ true) (subst (λ (xs : List PlainItem). rule earlier xs x ≡ true) cut breaks) in
    holds (length earlier) (subst (λ (xs : List PlainItem). Breaks rule xs (length earlier)) (sym cut) here)

-- what items of one kind make
record IsKind {A : Type 0} (item : A → PlainItem) (of : List PlainItem → List A) : Type 0 where
  none : of [] ≡ []
  one : (a : A) (items : List PlainItem) → of (item a ∷ items) ≡ a ∷ of items
  other : (x : PlainItem) → ((a : A) × (x ≡ item a)) ⊎ ((items : List PlainItem) → of (x ∷ items) ≡ of items)

production_kind : IsKind AProduction productions_of
production_kind = record { none = refl; one = λ a items. refl; other = other }
  where
    other : (x : PlainItem) → ((a : PlainProduction) × (x ≡ AProduction a)) ⊎ ((items : List PlainItem) → productions_of (x ∷ items) ≡ productions_of items)
    other (AProduction p) = inl (p, refl)
    other (ADeclaration d) = inr (λ items. refl)
    other (AnEquation e) = inr (λ items. refl)

declaration_kind : IsKind ADeclaration declarations_of
declaration_kind = record { none = refl; one = λ a items. refl; other = other }
  where
    other : (x : PlainItem) → ((a : PlainDeclaration) × (x ≡ ADeclaration a)) ⊎ ((items : List PlainItem) → declarations_of (x ∷ items) ≡ declarations_of items)
    other (AProduction p) = inr (λ items. refl)
    other (ADeclaration d) = inl (d, refl)
    other (AnEquation e) = inr (λ items. refl)

equation_kind : IsKind AnEquation equations_of
equation_kind = record { none = refl; one = λ a items. refl; other = other }
  where
    other : (x : PlainItem) → ((a : PlainEquation) × (x ≡ AnEquation a)) ⊎ ((items : List PlainItem) → equations_of (x ∷ items) ≡ equations_of items)
    other (AProduction p) = inr (λ items. refl)
    other (ADeclaration d) = inr (λ items. refl)
    other (AnEquation e) = inl (e, refl)

-- one of what the items make, among these items
record IsFound {A : Type 0} (item : A → PlainItem) (of : List PlainItem → List A) (items : List PlainItem) (before : List A) (a : A) : Type 0 where
  pub earlier : List PlainItem
  pub more : List PlainItem
  pub cut : items ≡ earlier ++ item a ∷ more
  pub made : of earlier ≡ before

nothing_there : {A : Type 0} (before after : List A) (a : A) → [] ≡ before ++ a ∷ after → ⊥
nothing_there [] after a h = cc
nothing_there (b ∷ before) after a h = cc

found : {A : Type 0} (item : A → PlainItem) (of : List PlainItem → List A) → IsKind item of → (items : List PlainItem) (before after : List A) (a : A) → of items ≡ before ++ a ∷ after → IsFound item of items before a
found item of kind [] before after a h = absurd (nothing_there before after a (sym kind.none ∙ h))
found {A} item of kind (x ∷ items) before after a h = pick (kind.other x) (λ others e. found item of kind items others after a e)
  where
    Rest : Type 0
    Rest = (others : List A) → of items ≡ others ++ a ∷ after → IsFound item of items others a

    own : (b : A) → x ≡ item b → Rest → (before : List A) → of (x ∷ items) ≡ before ++ a ∷ after → IsFound item of (x ∷ items) before a
    own b e rest [] h =
        let made : b ∷ of items ≡ a ∷ after = sym (kind.one b items) ∙ ap (λ y. of (y ∷ items)) (sym e) ∙ h in
        let same : b ≡ a = cc in
        record { earlier = []; more = items; cut = ap (λ y. y ∷ items) (e ∙ ap item same); made = kind.none }
    own b e rest (c ∷ before) h =
        let made : b ∷ of items ≡ c ∷ (before ++ a ∷ after) = sym (kind.one b items) ∙ ap (λ y. of (y ∷ items)) (sym e) ∙ h in
        let tail : of items ≡ before ++ a ∷ after = cc in
        let same : b ≡ c = cc in
        let r = rest before tail in
        record {
          earlier = x ∷ r.earlier;
          more = r.more;
          cut = ap (λ xs. x ∷ xs) r.cut;
          made = ap (λ y. of (y ∷ r.earlier)) e ∙ kind.one b r.earlier ∙ ap (λ y. y ∷ of r.earlier) same ∙ ap (λ ys. c ∷ ys) r.made;
        }

    pick : ((b : A) × (x ≡ item b)) ⊎ ((xs : List PlainItem) → of (x ∷ xs) ≡ of xs) → Rest → IsFound item of (x ∷ items) before a
    pick (inl own_is) rest = own own_is.0 own_is.1 rest before h
    pick (inr other) rest =
        let r = rest before (sym (other items) ∙ h) in
        record { earlier = x ∷ r.earlier; more = r.more; cut = ap (λ xs. x ∷ xs) r.cut; made = other r.earlier ∙ r.made }

-- an item among those of one kind, or behind them
record IsAmong {A : Type 0} (item : A → PlainItem) (of : List PlainItem → List A) (list : List A) (earlier : List PlainItem) (x : PlainItem) : Type 0 where
  pub before : List A
  pub after : List A
  pub own : A
  pub cut : list ≡ before ++ own ∷ after
  pub item_is : x ≡ item own
  pub made : of earlier ≡ before

record IsBehind {A : Type 0} (item : A → PlainItem) (list : List A) (rest earlier more : List PlainItem) (x : PlainItem) : Type 0 where
  pub others : List PlainItem
  pub cut : rest ≡ others ++ x ∷ more
  pub earlier_is : earlier ≡ map item list ++ others

among : {A : Type 0} (item : A → PlainItem) (of : List PlainItem → List A) → IsKind item of → (list : List A) (rest earlier more : List PlainItem) (x : PlainItem) → map item list ++ rest ≡ earlier ++ x ∷ more
    → IsAmong item of list earlier x ⊎ IsBehind item list rest earlier more x
among item of kind [] rest earlier more x h = inr (record { others = earlier; cut = h; earlier_is = refl })
among item of kind (a ∷ list) rest [] more x h =
    let same : item a ≡ x = cc in
    inl (record { before = []; after = list; own = a; cut = refl; item_is = sym same; made = kind.none })
among item of kind (a ∷ list) rest (y ∷ earlier) more x h =
    let same : item a ≡ y = cc in
    let tail : map item list ++ rest ≡ earlier ++ x ∷ more = cc in
    pick same (among item of kind list rest earlier more x tail)
  where
    pick : item a ≡ y → IsAmong item of list earlier x ⊎ IsBehind item list rest earlier more x → IsAmong item of (a ∷ list) (y ∷ earlier) x ⊎ IsBehind item (a ∷ list) rest (y ∷ earlier) more x
    pick same (inl r) = inl (record {
      before = a ∷ r.before;
      after = r.after;
      own = r.own;
      cut = ap (λ xs. a ∷ xs) r.cut;
      item_is = r.item_is;
      made = ap (λ z. of (z ∷ earlier)) (sym same) ∙ kind.one a earlier ∙ ap (λ xs. a ∷ xs) r.made;
    })
    pick same (inr r) = inr (record { others = r.others; cut = r.cut; earlier_is = ap (λ z. z ∷ earlier) (sym same) ∙ ap (λ xs. item a ∷ xs) r.earlier_is })

-- what a rule asks of the items before an item: those of its kind
abbrev pub SameBefore : List PlainItem → List PlainItem → PlainItem → Type 0
SameBefore earlier others (AProduction p) = productions_of earlier ≡ productions_of others
SameBefore earlier others (ADeclaration d) = declarations_of earlier ≡ declarations_of others
SameBefore earlier others (AnEquation e) = equations_of earlier ≡ equations_of others

pub record AreSame (items others : List PlainItem) : Type 0 where
  pub productions : productions_of items ≡ productions_of others
  pub declarations : declarations_of items ≡ declarations_of others
  pub equations : equations_of items ≡ equations_of others

-- the rule asks nothing else
abbrev pub IsOfKinds : Rule → Type 0
IsOfKinds rule = (earlier before items others : List PlainItem) (x : PlainItem) → SameBefore earlier before x → AreSame items others → rule earlier items x ≡ rule before others x

-- items of the kinds before it
no_other : {A B : Type 0} (item : A → PlainItem) (of : List PlainItem → List B) → of [] ≡ [] → ((a : A) (items : List PlainItem) → of (item a ∷ items) ≡ of items) → (list : List A) → of (map item list) ≡ []
no_other item of none skips [] = none
no_other item of none skips (a ∷ list) = skips a (map item list) ∙ no_other item of none skips list

all_own : {A : Type 0} (item : A → PlainItem) (of : List PlainItem → List A) → IsKind item of → (list : List A) → of (map item list) ≡ list
all_own item of kind [] = kind.none
all_own item of kind (a ∷ list) = kind.one a (map item list) ∙ ap (λ xs. a ∷ xs) (all_own item of kind list)

kinds_append : {B : Type 0} (of : List PlainItem → List B) → Appends of → (ps : List PlainProduction) (ds : List PlainDeclaration) (es : List PlainEquation)
    → of (in_order ps ds es) ≡ of (map AProduction ps) ++ (of (map ADeclaration ds) ++ of (map AnEquation es))
kinds_append of append ps ds es =
    append (map AProduction ps) (map ADeclaration ds ++ map AnEquation es) ∙ ap (λ xs. of (map AProduction ps) ++ xs) (append (map ADeclaration ds) (map AnEquation es))

-- the items in that order
abbrev pub sorted : List PlainItem → List PlainItem
sorted items = in_order (productions_of items) (declarations_of items) (equations_of items)

-- items have these productions, declarations and equations
pub record AreOf (items : List PlainItem) (ps : List PlainProduction) (ds : List PlainDeclaration) (es : List PlainEquation) : Type 0 where
  pub productions : productions_of items ≡ ps
  pub declarations : declarations_of items ≡ ds
  pub equations : equations_of items ≡ es

pub kinds_kept : (ps : List PlainProduction) (ds : List PlainDeclaration) (es : List PlainEquation) → AreOf (in_order ps ds es) ps ds es
kinds_kept ps ds es = record {
  productions = kinds_append productions_of productions_append ps ds es
      ∙ ap₂ (λ a b. a ++ b) (all_own AProduction productions_of production_kind ps)
      (ap₂ (λ a b. a ++ b) (no_other ADeclaration productions_of refl (λ a xs. refl) ds) (no_other AnEquation productions_of refl (λ a xs. refl) es))
      ∙ append-nil ps;
  declarations = kinds_append declarations_of declarations_append ps ds es
      ∙ ap₂ (λ a b. a ++ b) (no_other AProduction declarations_of refl (λ a xs. refl) ps)
      (ap₂ (λ a b. a ++ b) (all_own ADeclaration declarations_of declaration_kind ds) (no_other AnEquation declarations_of refl (λ a xs. refl) es))
      ∙ append-nil ds;
  equations = kinds_append equations_of equations_append ps ds es
      ∙ ap₂ (λ a b. a ++ b) (no_other AProduction equations_of refl (λ a xs. refl) ps)
      (ap₂ (λ a b. a ++ b) (no_other ADeclaration equations_of refl (λ a xs. refl) ds) (all_own AnEquation equations_of equation_kind es));
}

order_kept : (items : List PlainItem) → AreSame (sorted items) items
order_kept items =
    let kept = kinds_kept (productions_of items) (declarations_of items) (equations_of items) in
    record { productions = kept.productions; declarations = kept.declarations; equations = kept.equations }

-- what holds of items, holds of them in that order
pub sorted_holds : (rule : Rule) → IsOfKinds rule → (items : List PlainItem) → Holds rule items → Holds rule (sorted items)
sorted_holds rule of_kinds items holds k b =
    let r = between (sorted items) k (λ earlier x. rule earlier (sorted items) x ≡ true) b in
    first r.earlier r.item r.more r.holds (among AProduction productions_of production_kind (productions_of items) (map ADeclaration (declarations_of items) ++ map AnEquation (equations_of items)) r.earlier r.more r.item r.cut)
  where
    -- the item stands in both, behind the same items of its kind
    refuted : {A : Type 0} (item : A → PlainItem) (of : List PlainItem → List A) → IsKind item of → (earlier : List PlainItem) (x : PlainItem) → rule earlier (sorted items) x ≡ true
        → IsAmong item of (of items) earlier x → ((f : List PlainItem) → of earlier ≡ of f → SameBefore earlier f x) → ⊥
    refuted item of kind earlier x breaks a same =
        let f = found item of kind items a.before a.after a.own a.cut in
        let cut : items ≡ f.earlier ++ x ∷ f.more = f.cut ∙ ap (λ z. f.earlier ++ z ∷ f.more) (sym a.item_is) in
        let there_too : rule f.earlier items x ≡ true = sym (of_kinds earlier f.earlier (sorted items) items x (same f.earlier (a.made ∙ sym f.made)) (order_kept items)) ∙ breaks in
        breaks_there rule items f.earlier f.more x cut there_too holds

    third : (earlier : List PlainItem) (x : PlainItem) (more others : List PlainItem) → rule earlier (sorted items) x ≡ true → equations_of earlier ≡ equations_of others
        → IsAmong AnEquation equations_of (equations_of items) others x ⊎ IsBehind AnEquation (equations_of items) [] others more x → ⊥
    third earlier x more others breaks e (inl a) =
        refuted AnEquation equations_of equation_kind earlier x breaks
        (record { before = a.before; after = a.after; own = a.own; cut = a.cut; item_is = a.item_is; made = e ∙ a.made })
        (λ f h. subst (λ (z : PlainItem). SameBefore earlier f z) (sym a.item_is) h)
    third earlier x more others breaks e (inr b) = nothing_there b.others more x b.cut

    second : (earlier : List PlainItem) (x : PlainItem) (more others : List PlainItem) → rule earlier (sorted items) x ≡ true → declarations_of earlier ≡ declarations_of others → equations_of earlier ≡ equations_of others
        → IsAmong ADeclaration declarations_of (declarations_of items) others x ⊎ IsBehind ADeclaration (declarations_of items) (map AnEquation (equations_of items)) others more x → ⊥
    second earlier x more others breaks d e (inl a) =
        refuted ADeclaration declarations_of declaration_kind earlier x breaks
        (record { before = a.before; after = a.after; own = a.own; cut = a.cut; item_is = a.item_is; made = d ∙ a.made })
        (λ f h. subst (λ (z : PlainItem). SameBefore earlier f z) (sym a.item_is) h)
    second earlier x more others breaks d e (inr b) =
        let skipped : equations_of others ≡ equations_of b.others =
        ap equations_of b.earlier_is ∙ equations_append (map ADeclaration (declarations_of items)) b.others
        ∙ ap (λ xs. xs ++ equations_of b.others) (no_other ADeclaration equations_of refl (λ a xs. refl) (declarations_of items)) in
        third earlier x more b.others breaks (e ∙ skipped)
        (among AnEquation equations_of equation_kind (equations_of items) [] b.others more x (append-nil (map AnEquation (equations_of items)) ∙ b.cut))

    first : (earlier : List PlainItem) (x : PlainItem) (more : List PlainItem) → rule earlier (sorted items) x ≡ true
        → IsAmong AProduction productions_of (productions_of items) earlier x ⊎ IsBehind AProduction (productions_of items) (map ADeclaration (declarations_of items) ++ map AnEquation (equations_of items)) earlier more x → ⊥
    first earlier x more breaks (inl a) =
        refuted AProduction productions_of production_kind earlier x breaks a (λ f h. subst (λ (z : PlainItem). SameBefore earlier f z) (sym a.item_is) h)
    first earlier x more breaks (inr b) =
        let declarations : declarations_of earlier ≡ declarations_of b.others =
        ap declarations_of b.earlier_is ∙ declarations_append (map AProduction (productions_of items)) b.others
        ∙ ap (λ xs. xs ++ declarations_of b.others) (no_other AProduction declarations_of refl (λ a xs. refl) (productions_of items)) in
        let equations : equations_of earlier ≡ equations_of b.others =
        ap equations_of b.earlier_is ∙ equations_append (map AProduction (productions_of items)) b.others
        ∙ ap (λ xs. xs ++ equations_of b.others) (no_other AProduction equations_of refl (λ a xs. refl) (productions_of items)) in
        second earlier x more b.others breaks declarations equations
        (among ADeclaration declarations_of declaration_kind (declarations_of items) (map AnEquation (equations_of items)) b.others more x b.cut)

-- one item of those that are made, in the items
pub first_found : (items : List PlainItem) (after : List PlainEquation) (e : PlainEquation) → equations_of items ≡ e ∷ after → (earlier : List PlainItem) × (more : List PlainItem) × (items ≡ earlier ++ AnEquation e ∷ more)
first_found items after e h = let f = found AnEquation equations_of equation_kind items [] after e h in (f.earlier, f.more, f.cut)

pub production_found : (items : List PlainItem) (before after : List PlainProduction) (p : PlainProduction) → productions_of items ≡ before ++ p ∷ after
    → (earlier : List PlainItem) × (more : List PlainItem) × (items ≡ earlier ++ AProduction p ∷ more) × (productions_of earlier ≡ before)
production_found items before after p h = let f = found AProduction productions_of production_kind items before after p h in (f.earlier, f.more, f.cut, f.made)
