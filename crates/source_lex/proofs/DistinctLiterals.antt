-- The literals of a grammar are distinct, and so are texts by their bytes.
use Rattle.std.proofs.Common.{◌≡◌, ◌≢◌, ℕ, zero, suc, ◌+◌, ◌<◌, Bool, true, false, List, [], ◌∷◌, ◌++◌, length, take, get_or, refl, sym, ap, ◌∙◌, cond, arith}
use Rattle.std.specs.Prelude.{◌||◌, AllPairs, fold}
use Rattle.std.specs.Borrow.{Bor}
use Rattle.std.specs.List.{list_any, flat_map}
use Rattle.std.specs.Str.{bytes_eq}
use Rattle.std.proofs.lemmas.List.Quantifiers.{all_pairs_push}
use Rattle.std.proofs.lemmas.List.{get_or-map}
use Rattle.std.proofs.lemmas.Slice.Eq.{bytes_eq-Decides}
use Rattle.gram_form.specs.Plain.{PlainGrammar, texts}
use Rattle.gram_form.specs.Grammars.{IsGrammar, seen_with, literal_in, parts_of}
use Rattle.gram_form.proofs.KeyTexts.{texts-insert, seen-distinct}

abbrev AreDistinct : List (List ℕ) → Type 0
AreDistinct texts = AllPairs (λ x y. x ≢ y) texts

pub text_count : (list : List (Bor (List ℕ))) → length (texts list) ≡ length list
text_count [] = refl
text_count (t ∷ list) = ap suc (text_count list)

-- a text that is among others isn't found missing
pub missing : (texts : List (List ℕ)) (bytes : List ℕ) → list_any (bytes_eq bytes) texts ≡ false → (k : ℕ) (d : List ℕ) → k < length texts → get_or texts k d ≢ bytes
missing [] bytes none k d h = absurd (omega arith)
missing (x ∷ xs) bytes none zero d h = λ same. absurd (first_found (bytes_eq bytes x) refl none same)
  where
    first_found : (b : Bool) → bytes_eq bytes x ≡ b → (b || list_any (bytes_eq bytes) xs) ≡ false → x ≡ bytes → ⊥
    first_found true e any same = cc
    first_found false e any same =
        let found : bytes_eq bytes x ≡ true = (bytes_eq-Decides bytes x).1 (sym same) in cc
missing (x ∷ xs) bytes none (suc k) d h = missing xs bytes (rest_missing (bytes_eq bytes x) none) k d (omega arith)
  where
    rest_missing : (b : Bool) → (b || list_any (bytes_eq bytes) xs) ≡ false → list_any (bytes_eq bytes) xs ≡ false
    rest_missing true any = cc
    rest_missing false any = any

seen_once : (seen : List (List ℕ)) (bytes : List ℕ) → AreDistinct seen → AreDistinct (seen_with seen bytes)
seen_once seen bytes distinct = pick (list_any (bytes_eq bytes) seen) refl
  where
    pick : (b : Bool) → list_any (bytes_eq bytes) seen ≡ b → AreDistinct (cond b seen (seen ++ bytes ∷ []))
    pick true e = distinct
    pick false e = all_pairs_push (λ x y. x ≢ y) seen bytes distinct (λ k d h. missing seen bytes e k d h)

all_seen_once : (seen more : List (List ℕ)) → AreDistinct seen → AreDistinct (fold seen_with seen more)
all_seen_once seen [] distinct = distinct
all_seen_once seen (bytes ∷ more) distinct = all_seen_once (seen_with seen bytes) more (seen_once seen bytes distinct)

-- the literals of a grammar are distinct
pub distinct_literals : (g : PlainGrammar) → IsGrammar g → AllPairs (λ x y. x ≢ y) g.literals
distinct_literals g is = rw is.literals (all_seen_once [] (flat_map literal_in (parts_of g.productions)) (λ i j d less within. absurd (omega arith)))

-- the texts so far, and one more
pub texts-more : (keys new list : List (Bor (List ℕ))) (i : ℕ) (d : Bor (List ℕ)) → AllPairs (λ x y. x ≢ y) (texts list) → i < length list
    → new ≡ cond (list_any (λ x. bytes_eq (get_or list i d).now x.now) keys) keys (keys ++ get_or list i d ∷ [])
    → texts keys ≡ take i (texts list) → texts new ≡ take (i + 1) (texts list)
texts-more keys new list i d distinct h inserted so_far =
    ap texts inserted
    ∙ texts-insert keys (get_or list i d)
    ∙ ap (λ s. seen_with s (get_or list i d).now) so_far
    ∙ ap (seen_with (take i (texts list))) (sym (get_or-map (λ (t : Bor (List ℕ)). t.now) list i d [] h))
    ∙ seen-distinct (texts list) i distinct (omega (arith, text_count list))
