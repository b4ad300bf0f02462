-- The numbers of names, filled production by production.
use Rattle.std.proofs.Common.{◌≡◌, ◌∙◌, ℕ, zero, suc, ◌+◌, ◌<◌, ◌≤◌, Bool, true, false, List, [], ◌∷◌, ◌++◌, length, take, get_or, map, Option, Some, None, refl, sym, ap, arith}
use Rattle.std.specs.Prelude.{◌||◌, option_map, if◌then◌else◌}
use Rattle.std.specs.Option.{unwrap_or}
use Rattle.std.specs.Str.{bytes_eq}
use Rattle.std.proofs.lemmas.List.{take_all, take_more}
use Rattle.std.proofs.lemmas.Slice.Eq.{bytes_eq-Decides}
use Rattle.gram_form.specs.declared.part.Production.{Production}
use Rattle.gram_form.specs.Plain.{PlainProduction, plain_production}
use Rattle.gram_form.specs.Grammars.{names_of}
use Rattle.gram_form.proofs.KeyTexts.{name_at, name_count}
use Rattle.meta_check.specs.Tables.{Texts, AreNumbers, alternatives_at, number_of, place}
use Rattle.meta_check.specs.Views.{alternatives_of, is_in}
use Rattle.meta_check.proofs.Lookups.{else_at}

-- the place of a name, where it is there
abbrev pub found : List (List ℕ) → List ℕ → Option ℕ
found [] name = None
found (n ∷ names) name = if bytes_eq name n then Some 0 else option_map suc (found names name)

suc_else : (o : Option ℕ) (b : Bool) (n : ℕ) → option_map suc (else_at o b n) ≡ else_at (option_map suc o) b (suc n)
suc_else None true n = refl
suc_else None false n = refl
suc_else (Some x) b n = refl

found_next : (names : List (List ℕ)) (n name : List ℕ) → found (names ++ n ∷ []) name ≡ else_at (found names name) (bytes_eq name n) (length names)
found_next [] n name = refl
found_next (m ∷ names) n name = pick (bytes_eq name m) (found_next names n name)
  where
    pick : (b : Bool) → found (names ++ n ∷ []) name ≡ else_at (found names name) (bytes_eq name n) (length names)
        → (if b then Some 0 else option_map suc (found (names ++ n ∷ []) name)) ≡ else_at (if b then Some 0 else option_map suc (found names name)) (bytes_eq name n) (suc (length names))
    pick true rest = refl
    pick false rest = ap (option_map suc) rest ∙ suc_else (found names name) (bytes_eq name n) (length names)

found_place : (names : List (List ℕ)) (name : List ℕ) → unwrap_or (found names name) (length names) ≡ place names name
found_place [] name = refl
found_place (m ∷ names) name = pick (bytes_eq name m) (found names name) (found_place names name)
  where
    pick : (b : Bool) (o : Option ℕ) → unwrap_or o (length names) ≡ place names name → unwrap_or (if b then Some 0 else option_map suc o) (suc (length names)) ≡ (if b then 0 else suc (place names name))
    pick true o rest = refl
    pick false None rest = ap suc rest
    pick false (Some x) rest = ap suc rest

-- the table has the places of the names so far
abbrev pub HasPlaces : Texts ℕ → List (List ℕ) → Type 0
HasPlaces entries names = (name : List ℕ) → number_of entries name ≡ found names name

pub places_next : (list : List Production) (i : ℕ) (d : Production) (old new : Texts ℕ) → i < length list → HasPlaces old (take i (names_of (map plain_production list)))
    → ((name : List ℕ) → number_of new name ≡ else_at (number_of old name) (bytes_eq name (get_or list i d).name.now) i) → HasPlaces new (take (i + 1) (names_of (map plain_production list)))
places_next list i d old new h before step name =
    let names = names_of (map plain_production list) in
    let within : i < length names = omega (arith, name_count list) in
    let count : length (take i names) ≡ i = taken names i within in
    step name
    ∙ ap (λ o. else_at o (bytes_eq name (get_or list i d).name.now) i) (before name)
    ∙ ap (else_at (found (take i names) name) (bytes_eq name (get_or list i d).name.now)) (sym count)
    ∙ ap (λ n. else_at (found (take i names) name) (bytes_eq name n) (length (take i names))) (sym (name_at list i d h))
    ∙ sym (found_next (take i names) (get_or names i []) name)
    ∙ ap (λ ns. found ns name) (sym (take_more names i [] within))
  where
    taken : (names : List (List ℕ)) (i : ℕ) → i < length names → length (take i names) ≡ i
    taken [] i h = absurd (omega (arith, h))
    taken (n ∷ names) zero h = refl
    taken (n ∷ names) (suc i) h = ap suc (taken names i (omega (arith, h)))

pub places_number : (list : List Production) (i : ℕ) (entries : Texts ℕ) → length list ≤ i → HasPlaces entries (take i (names_of (map plain_production list)))
    → AreNumbers (names_of (map plain_production list)) (λ name. unwrap_or (number_of entries name) (length list))
places_number list i entries past has name =
    let names = names_of (map plain_production list) in
    let all : length names ≤ i = omega (arith, name_count list, past) in
    ap (λ o. unwrap_or o (length list)) (has name ∙ ap (λ ns. found ns name) (take_all i names all))
    ∙ ap (unwrap_or (found names name)) (sym (name_count list))
    ∙ found_place names name

-- the alternatives of a name are those of its number
pub alternatives_placed : (productions : List PlainProduction) (name : List ℕ) → alternatives_at productions (place (names_of productions) name) ≡ alternatives_of productions name
alternatives_placed [] name = refl
alternatives_placed (p ∷ productions) name = pick (bytes_eq name p.name) (alternatives_placed productions name)
  where
    pick : (b : Bool) → alternatives_at productions (place (names_of productions) name) ≡ alternatives_of productions name
        → alternatives_at (p ∷ productions) (if b then 0 else suc (place (names_of productions) name)) ≡ (if b then p.alternatives else alternatives_of productions name)
    pick true rest = refl
    pick false rest = rest

-- names with one number are one, where it is there
pub place_names : (names : List (List ℕ)) (a b : List ℕ) → is_in names a ≡ true → place names a ≡ place names b → a ≡ b
place_names [] a b there same = absurd (cc)
place_names (n ∷ names) a b there same = pick (bytes_eq a n) refl (bytes_eq b n) refl there same (λ t s. place_names names a b t s)
  where
    pick : (x : Bool) → bytes_eq a n ≡ x → (y : Bool) → bytes_eq b n ≡ y → (x || is_in names a) ≡ true → (if x then 0 else suc (place names a)) ≡ (if y then 0 else suc (place names b))
        → (is_in names a ≡ true → place names a ≡ place names b → a ≡ b) → a ≡ b
    pick true e true f t s rest = (bytes_eq-Decides a n).0 e ∙ sym ((bytes_eq-Decides b n).0 f)
    pick true e false f t s rest = absurd (omega (arith, s))
    pick false e true f t s rest = absurd (omega (arith, s))
    pick false e false f t s rest = rest t (omega (arith, s))
