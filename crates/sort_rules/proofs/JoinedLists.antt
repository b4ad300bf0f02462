-- Lists of components, one place after the other.
use Rattle.std.proofs.Common.{Bool, List, [], ap, drop, false, get_or, if◌then◌else◌, length, map, refl, suc, sym, true, ℕ, ◌&&◌, ◌+◌, ◌++◌, ◌<◌, ◌∙◌, ◌∷◌, ◌≡◌, ◌≤◌}
use Rattle.std.proofs.lemmas.List.{append-nil, drop_all, drop_more, map-append}
use Rattle.sort_rules.specs.Parts.{Clash, Component, Listed, Part, joined_components, same_token, with_component}
use Rattle.sort_rules.specs.Sets.{set_union}
use Rattle.sort_rules.specs.Tests.{are_below, is_subset}

-- components in front of a part
abbrev pub with_components : List Component → Part → Part
with_components [] x = x
with_components (p ∷ ps) x = with_component p (with_components ps x)

pub with_components-list : (ps qs : List Component) → with_components ps (Listed qs) ≡ Listed (ps ++ qs)
with_components-list [] qs = refl
with_components-list (p ∷ ps) qs = ap (with_component p) (with_components-list ps qs)

pub with_components-clash : (ps : List Component) → with_components ps Clash ≡ Clash
with_components-clash [] = refl
with_components-clash (p ∷ ps) = ap (with_component p) (with_components-clash ps)

pub with_components-last : (ps : List Component) (p : Component) (x : Part) → with_components (ps ++ p ∷ []) x ≡ with_components ps (with_component p x)
with_components-last [] p x = refl
with_components-last (q ∷ ps) p x = ap (with_component q) (with_components-last ps p x)

-- lists of different lengths
pub are_below-differ : {A : Type 0} (f : A → Component) (xs ys : List A) → (length xs ≡ length ys → ⊥) → are_below (map f xs) (map f ys) ≡ false
are_below-differ f [] [] h = absurd (h refl)
are_below-differ f [] (y ∷ ys) h = refl
are_below-differ f (x ∷ xs) [] h = refl
are_below-differ f (x ∷ xs) (y ∷ ys) h = go (same_token (f x).token (f y).token) (is_subset (f x).set (f y).set) (are_below-differ f xs ys (λ e. h (ap suc e)))
  where
    go : (a b : Bool) → are_below (map f xs) (map f ys) ≡ false → (a && (b && are_below (map f xs) (map f ys))) ≡ false
    go true true e = e
    go true false e = refl
    go false b e = refl

pub joined-differ : {A : Type 0} (f : A → Component) (xs ys : List A) → (length xs ≡ length ys → ⊥) → joined_components (map f xs) (map f ys) ≡ Clash
joined-differ f [] [] h = absurd (h refl)
joined-differ f [] (y ∷ ys) h = refl
joined-differ f (x ∷ xs) [] h = refl
joined-differ f (x ∷ xs) (y ∷ ys) h = go (same_token (f x).token (f y).token) (joined-differ f xs ys (λ e. h (ap suc e)))
  where
    go : (a : Bool) → joined_components (map f xs) (map f ys) ≡ Clash → (if a then with_component (record { token = (f x).token; set = set_union (f x).set (f y).set }) (joined_components (map f xs) (map f ys)) else Clash) ≡ Clash
    go true e = ap (with_component (record { token = (f x).token; set = set_union (f x).set (f y).set })) e
    go false e = refl

if-true : {A : Type 0} (b : Bool) (x y : A) → b ≡ true → (if b then x else y) ≡ x
if-true true x y e = refl
if-true false x y e = absurd {0} (cc)

if-false : {A : Type 0} (b : Bool) (x y : A) → b ≡ false → (if b then x else y) ≡ y
if-false true x y e = absurd {0} (cc)
if-false false x y e = refl

-- a place of two lists: x and y are what stands there
module _ {A : Type 0} (f : A → Component) (xs ys : List A) (i : ℕ) (x y : A) (less : i < length xs) (less2 : i < length ys) (at : x ≡ get_or xs i x) (at2 : y ≡ get_or ys i y) where
  front : map f (drop i xs) ≡ f x ∷ map f (drop (i + 1) xs)
  front = ap (map f) (drop_more xs i x less) ∙ ap (λ (p : A). f p ∷ map f (drop (i + 1) xs)) (sym at)

  front2 : map f (drop i ys) ≡ f y ∷ map f (drop (i + 1) ys)
  front2 = ap (map f) (drop_more ys i y less2) ∙ ap (λ (p : A). f p ∷ map f (drop (i + 1) ys)) (sym at2)

  -- so both lists begin with these
  pub fronts : {B : Type 0} (g : List Component → List Component → B) → g (map f (drop i xs)) (map f (drop i ys)) ≡ g (f x ∷ map f (drop (i + 1) xs)) (f y ∷ map f (drop (i + 1) ys))
  fronts g = ap (λ (zs : List Component). g zs (map f (drop i ys))) front ∙ ap (g (f x ∷ map f (drop (i + 1) xs))) front2

  pub joined-more : (all all2 : List A) (z : A) (m : Part) → all2 ≡ all ++ z ∷ [] → same_token (f x).token (f y).token ≡ true → f z ≡ record { token = (f x).token; set = set_union (f x).set (f y).set }
      → with_components (map f all) (joined_components (map f (drop i xs)) (map f (drop i ys))) ≡ m
      → with_components (map f all2) (joined_components (map f (drop (i + 1) xs)) (map f (drop (i + 1) ys))) ≡ m
  joined-more all all2 z m e same q h =
      let rest = joined_components (map f (drop (i + 1) xs)) (map f (drop (i + 1) ys)) in
      ap (λ (zs : List A). with_components (map f zs) rest) e
      ∙ ap (λ (zs : List Component). with_components zs rest) (map-append f all (z ∷ []))
      ∙ with_components-last (map f all) (f z) rest
      ∙ ap (λ (c : Component). with_components (map f all) (with_component c rest)) q
      ∙ sym (ap (with_components (map f all)) (fronts joined_components ∙ if-true (same_token (f x).token (f y).token) _ Clash same))
      ∙ h

  pub joined-clash : (all : List A) (m : Part) → same_token (f x).token (f y).token ≡ false → with_components (map f all) (joined_components (map f (drop i xs)) (map f (drop i ys))) ≡ m → Clash ≡ m
  joined-clash all m other h =
      sym (with_components-clash (map f all)) ∙ sym (ap (with_components (map f all)) (fronts joined_components ∙ if-false (same_token (f x).token (f y).token) _ Clash other)) ∙ h

  -- both tests hold, so the rest tells
  pub below-more : same_token (f x).token (f y).token ≡ true → is_subset (f x).set (f y).set ≡ true → are_below (map f (drop (i + 1) xs)) (map f (drop (i + 1) ys)) ≡ are_below (map f (drop i xs)) (map f (drop i ys))
  below-more e q = sym (fronts are_below ∙ ap (λ (b : Bool). b && (is_subset (f x).set (f y).set && rest)) e ∙ ap (λ (b : Bool). b && rest) q)
    where
      rest : Bool
      rest = are_below (map f (drop (i + 1) xs)) (map f (drop (i + 1) ys))

  -- one of them fails
  pub below-fails : (same_token (f x).token (f y).token && is_subset (f x).set (f y).set) ≡ false → are_below (map f (drop i xs)) (map f (drop i ys)) ≡ false
  below-fails e = fronts are_below ∙ go (same_token (f x).token (f y).token) (is_subset (f x).set (f y).set) (are_below (map f (drop (i + 1) xs)) (map f (drop (i + 1) ys))) e
    where
      go : (a b r : Bool) → (a && b) ≡ false → (a && (b && r)) ≡ false
      go true true r e = absurd {0} (cc)
      go true false r e = refl
      go false b r e = refl

-- nothing is left
pub joined-end : {A : Type 0} (f : A → Component) (xs ys all : List A) (i : ℕ) (m : Part) → length xs ≤ i → length ys ≤ i → with_components (map f all) (joined_components (map f (drop i xs)) (map f (drop i ys))) ≡ m → Listed (map f all) ≡ m
joined-end f xs ys all i m h h2 e =
    let none : joined_components (map f (drop i xs)) (map f (drop i ys)) ≡ Listed [] = ap (λ zs. joined_components (map f zs) (map f (drop i ys))) (drop_all i xs h) ∙ ap (λ zs. joined_components [] (map f zs)) (drop_all i ys h2) in
    sym (with_components-list (map f all) [] ∙ ap Listed (append-nil (map f all))) ∙ sym (ap (with_components (map f all)) none) ∙ e
