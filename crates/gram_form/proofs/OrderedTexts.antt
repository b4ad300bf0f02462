-- Texts behind the keys of a set in order.
use Rattle.std.proofs.Common.{◌≡◌, ◌∙◌, ℕ, ◌+◌, ◌<◌, Bool, true, false, List, [], ◌∷◌, ◌++◌, length, take, get_or, map, refl, sym, ap, ap₂, arith}
use Rattle.std.specs.Prelude.{◌||◌}
use Rattle.std.specs.Borrow.{Bor}
use Rattle.std.specs.List.{list_any}
use Rattle.std.specs.Str.{bytes_eq}
use Rattle.std.specs.Ordering.{is_eq, nat_cmp, match_ordering}
use Rattle.std.specs.Cmp.Lexicographic.{slice_cmp}
use Rattle.std.specs.declared.cmp.Ordering.{Ordering}
use Rattle.std.specs.declared.cmp.Ordering.TheVariants.{Less, Equal, Greater}
use Rattle.std.specs.BTreeMap.{is_at}
use Rattle.std.specs.BTreeSet.{insert_key}
use Rattle.std.proofs.lemmas.Map.Text.{is_eq-slice_cmp}
use Rattle.std.proofs.lemmas.List.{take_more}
use Rattle.std.proofs.lemmas.List.Folds.{list_any-append}
use Rattle.std.proofs.lemmas.Slice.Eq.{bytes_eq-Decides}
use Rattle.gram_form.specs.Plain.{texts, plain_production}
use Rattle.gram_form.specs.Grammars.{HaveSame, names_of}
use Rattle.gram_form.specs.declared.part.Production.{Production}
use Rattle.gram_form.proofs.KeyTexts.{name_at, name_count}

-- the order of texts
abbrev pub text_cmp : Bor (List ℕ) → Bor (List ℕ) → Ordering
text_cmp x y = slice_cmp nat_cmp x.now y.now

-- a look-up by a text
pub found-texts : (name : List ℕ) (keys : List (Bor (List ℕ))) → list_any (is_at (λ (k : Bor (List ℕ)). slice_cmp nat_cmp name k.now)) keys ≡ list_any (bytes_eq name) (texts keys)
found-texts name [] = refl
found-texts name (k ∷ keys) = ap₂ (λ a b. a || b) (is_eq-slice_cmp name k.now) (found-texts name keys)

or_twice : (a b c : Bool) → a ≡ b → (b || c) ≡ (a || (b || c))
or_twice true b c e = ap (λ x. x || c) (sym e)
or_twice false b c e = refl

or_between : (a b c : Bool) → (b || (a || c)) ≡ (a || (b || c))
or_between true true c = refl
or_between true false c = refl
or_between false b c = refl

or_behind : (a b : Bool) → (a || b) ≡ (b || (a || false))
or_behind true true = refl
or_behind true false = refl
or_behind false true = refl
or_behind false false = refl

-- what an insertion leaves
pub texts-insert_key : (keys : List (Bor (List ℕ))) (k : Bor (List ℕ)) (name : List ℕ) → list_any (bytes_eq name) (texts (insert_key text_cmp keys k)) ≡ (bytes_eq name k.now || list_any (bytes_eq name) (texts keys))
texts-insert_key [] k name = refl
texts-insert_key (x ∷ keys) k name = pick (slice_cmp nat_cmp k.now x.now) refl (texts-insert_key keys k name)
  where
    pick : (o : Ordering) → slice_cmp nat_cmp k.now x.now ≡ o → list_any (bytes_eq name) (texts (insert_key text_cmp keys k)) ≡ (bytes_eq name k.now || list_any (bytes_eq name) (texts keys))
        → list_any (bytes_eq name) (texts (match_ordering o (k ∷ x ∷ keys) (x ∷ keys) (x ∷ insert_key text_cmp keys k))) ≡ (bytes_eq name k.now || (bytes_eq name x.now || list_any (bytes_eq name) (texts keys)))
    pick Less e rest = refl
    pick Equal e rest =
        let same : k.now ≡ x.now = (bytes_eq-Decides k.now x.now).0 (sym (is_eq-slice_cmp k.now x.now) ∙ ap is_eq e) in
        or_twice (bytes_eq name k.now) (bytes_eq name x.now) (list_any (bytes_eq name) (texts keys)) (ap (bytes_eq name) same)
    pick Greater e rest =
        ap (λ b. bytes_eq name x.now || b) rest
        ∙ or_between (bytes_eq name k.now) (bytes_eq name x.now) (list_any (bytes_eq name) (texts keys))

-- the keys have the same texts as a list, and one more
pub one-more : (keys new : List (Bor (List ℕ))) (k : Bor (List ℕ)) (names : List (List ℕ)) → new ≡ insert_key text_cmp keys k → HaveSame (texts keys) names → HaveSame (texts new) (names ++ k.now ∷ [])
one-more keys new k names inserted same name =
    ap (λ ks. list_any (bytes_eq name) (texts ks)) inserted
    ∙ texts-insert_key keys k name
    ∙ ap (λ b. bytes_eq name k.now || b) (same name)
    ∙ or_behind (bytes_eq name k.now) (list_any (bytes_eq name) names)
    ∙ sym (list_any-append (bytes_eq name) names (k.now ∷ []))

-- one more name of productions
pub name-noted : (keys new : List (Bor (List ℕ))) (list : List Production) (i : ℕ) (d : Production) → i < length list → new ≡ insert_key text_cmp keys (get_or list i d).name
    → HaveSame (texts keys) (take i (names_of (map plain_production list))) → HaveSame (texts new) (take (i + 1) (names_of (map plain_production list)))
name-noted keys new list i d h inserted so_far name =
    let within : i < length (names_of (map plain_production list)) = omega (arith, name_count list) in
    one-more keys new (get_or list i d).name (take i (names_of (map plain_production list))) inserted so_far name
    ∙ ap (λ n. list_any (bytes_eq name) (take i (names_of (map plain_production list)) ++ n ∷ [])) (sym (name_at list i d h))
    ∙ ap (list_any (bytes_eq name)) (sym (take_more (names_of (map plain_production list)) i [] within))

-- whether a key is there is told by the list
pub there-by_list : (keys : List (Bor (List ℕ))) (k : Bor (List ℕ)) (names : List (List ℕ)) → HaveSame (texts keys) names → list_any (is_at (text_cmp k)) keys ≡ list_any (bytes_eq k.now) names
there-by_list keys k names same = found-texts k.now keys ∙ same k.now
