-- Texts behind the keys of a set.
use Rattle.std.proofs.Common.{◌≡◌, ◌≢◌, ℕ, zero, suc, ◌<◌, ◌+◌, Bool, true, false, List, [], ◌∷◌, ◌++◌, length, take, get_or, map, cond, refl, sym, ap, ◌∙◌, arith}
use Rattle.std.specs.Borrow.{Bor}
use Rattle.std.specs.Prelude.{◌||◌, Any, AllPairs}
use Rattle.std.specs.List.{list_any}
use Rattle.std.specs.Str.{bytes_eq}
use Rattle.std.proofs.lemmas.List.{map-append, take_more, get_or-take, get_or_default, length-take-le}
use Rattle.std.proofs.lemmas.List.Folds.{Any-from_list_any}
use Rattle.std.proofs.lemmas.Slice.Eq.{bytes_eq-Decides}
use Rattle.gram_form.specs.Plain.{texts, plain_production}
use Rattle.gram_form.specs.Grammars.{seen_with, names_of, HaveDistinctNames}
use Rattle.gram_form.specs.declared.part.Production.{Production}

pub list_any-texts : (name : List ℕ) (keys : List (Bor (List ℕ))) → list_any (λ k. bytes_eq name k.now) keys ≡ list_any (bytes_eq name) (texts keys)
list_any-texts name [] = refl
list_any-texts name (k ∷ keys) = ap (λ b. bytes_eq name k.now || b) (list_any-texts name keys)

-- what an insertion leaves
pub texts-insert : (keys : List (Bor (List ℕ))) (k : Bor (List ℕ)) → texts (cond (list_any (λ x. bytes_eq k.now x.now) keys) keys (keys ++ k ∷ [])) ≡ seen_with (texts keys) k.now
texts-insert keys k =
    rw (← list_any-texts k.now keys)
    (elim (list_any (λ x. bytes_eq k.now x.now) keys) as (λ t. texts (cond t keys (keys ++ k ∷ [])) ≡ cond t (texts keys) (texts keys ++ k.now ∷ [])) [ true ↦ refl | false ↦ map-append (λ (n : Bor (List ℕ)). n.now) keys (k ∷ []) ])

-- of distinct names none is seen before its place
pub seen-distinct : (names : List (List ℕ)) (i : ℕ) → AllPairs (λ x y. x ≢ y) names → i < length names → seen_with (take i names) (get_or names i []) ≡ take (i + 1) names
seen-distinct names i distinct h = pick (list_any (bytes_eq (get_or names i [])) (take i names)) refl
  where
    pick : (b : Bool) → list_any (bytes_eq (get_or names i [])) (take i names) ≡ b → cond b (take i names) (take i names ++ get_or names i [] ∷ []) ≡ take (i + 1) names
    pick false e = sym (take_more names i [] h)
    pick true e = absurd (twice (Any-from_list_any (bytes_eq (get_or names i [])) (take i names) e))
      where
        twice : Any (λ x. bytes_eq (get_or names i []) x ≡ true) (take i names) → ⊥
        twice (k, x, within, there, equal) =
            let before : k < i = omega (arith, within, length-take-le i names (omega arith)) in
            let same : get_or names k [] ≡ get_or names i [] =
            get_or_default names k [] x (omega arith) ∙ sym (get_or-take i names k x before) ∙ there ∙ sym ((bytes_eq-Decides (get_or names i []) x).0 equal) in
            distinct k i [] before h same

-- the names of productions
pub name_at : (list : List Production) (i : ℕ) (d : Production) → i < length list → get_or (names_of (map plain_production list)) i [] ≡ (get_or list i d).name.now
name_at [] i d h = absurd (omega arith)
name_at (p ∷ list) zero d h = refl
name_at (p ∷ list) (suc i) d h = name_at list i d (omega arith)

pub name_count : (list : List Production) → length (names_of (map plain_production list)) ≡ length list
name_count [] = refl
name_count (p ∷ list) = ap suc (name_count list)

-- one more name
pub names-more : (keys new : List (Bor (List ℕ))) (list : List Production) (i : ℕ) (d : Production) → HaveDistinctNames (map plain_production list) → i < length list
    → new ≡ cond (list_any (λ x. bytes_eq (get_or list i d).name.now x.now) keys) keys (keys ++ (get_or list i d).name ∷ []) → texts keys ≡ take i (names_of (map plain_production list))
    → texts new ≡ take (i + 1) (names_of (map plain_production list))
names-more keys new list i d distinct h inserted so_far =
    let within : i < length (names_of (map plain_production list)) = omega (arith, name_count list) in
    ap texts inserted
    ∙ texts-insert keys (get_or list i d).name
    ∙ ap (λ s. seen_with s (get_or list i d).name.now) so_far
    ∙ ap (seen_with (take i (names_of (map plain_production list)))) (sym (name_at list i d h))
    ∙ seen-distinct (names_of (map plain_production list)) i distinct within
