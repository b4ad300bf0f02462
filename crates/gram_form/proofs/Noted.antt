-- One more text behind those that were noted.
use Rattle.std.proofs.Common.{◌≡◌, ◌∙◌, ℕ, true, false, List, [], ◌∷◌, ◌++◌, ap, sym}
use Rattle.std.specs.Borrow.{Bor}
use Rattle.std.specs.List.{list_any}
use Rattle.std.specs.Str.{bytes_eq}
use Rattle.std.specs.BTreeMap.{is_at}
use Rattle.std.specs.BTreeSet.{insert_key}
use Rattle.std.proofs.lemmas.Bool.{not-true, not-false, cond-true, cond-false}
use Rattle.std.specs.Prelude.{not}
use Rattle.std.proofs.lemmas.List.{map-append}
use Rattle.gram_form.specs.Plain.{texts}
use Rattle.gram_form.specs.Grammars.{HaveSame, seen_with}
use Rattle.gram_form.proofs.OrderedTexts.{text_cmp, one-more, there-by_list}

texts-push : (list new : List (Bor (List ℕ))) (k : Bor (List ℕ)) → new ≡ list ++ k ∷ [] → texts new ≡ texts list ++ k.now ∷ []
texts-push list new k pushed = ap texts pushed ∙ map-append (λ (t : Bor (List ℕ)). t.now) list (k ∷ [])

-- of a text that is new, the keys and the list have one more
pub same-behind : (keys inserted list new : List (Bor (List ℕ))) (k : Bor (List ℕ)) → inserted ≡ insert_key text_cmp keys k → new ≡ list ++ k ∷ [] → HaveSame (texts keys) (texts list) → HaveSame (texts inserted) (texts new)
same-behind keys inserted list new k i pushed same name =
    one-more keys inserted k (texts list) i same name ∙ ap (list_any (bytes_eq name)) (sym (texts-push list new k pushed))

pub seen-new : (keys list new : List (Bor (List ℕ))) (k : Bor (List ℕ)) → HaveSame (texts keys) (texts list) → new ≡ list ++ k ∷ [] → true ≡ not (list_any (is_at (text_cmp k)) keys) → texts new ≡ seen_with (texts list) k.now
seen-new keys list new k same pushed fresh =
    texts-push list new k pushed
    ∙ sym (cond-false (list_any (bytes_eq k.now) (texts list)) (texts list) (texts list ++ k.now ∷ []) (sym (there-by_list keys k (texts list) same) ∙ not-true (list_any (is_at (text_cmp k)) keys) (sym fresh)))

-- of one that is there, nothing changes
pub same-there : (keys inserted list new : List (Bor (List ℕ))) → inserted ≡ keys → new ≡ list → HaveSame (texts keys) (texts list) → HaveSame (texts inserted) (texts new)
same-there keys inserted list new i n same name = ap (λ ks. list_any (bytes_eq name) (texts ks)) i ∙ same name ∙ ap (λ ks. list_any (bytes_eq name) (texts ks)) (sym n)

pub seen-there : (keys list new : List (Bor (List ℕ))) (k : Bor (List ℕ)) → HaveSame (texts keys) (texts list) → new ≡ list → false ≡ not (list_any (is_at (text_cmp k)) keys) → texts new ≡ seen_with (texts list) k.now
seen-there keys list new k same unchanged known =
    ap texts unchanged
    ∙ sym (cond-true (list_any (bytes_eq k.now) (texts list)) (texts list) (texts list ++ k.now ∷ []) (sym (there-by_list keys k (texts list) same) ∙ not-false (list_any (is_at (text_cmp k)) keys) (sym known)))
