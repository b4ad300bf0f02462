-- One more copy behind the others.
use Rattle.std.proofs.Common.{◌≡◌, ℕ, ◌<◌, ◌+◌, List, [], ◌∷◌, ◌++◌, length, take, get_or, map, sym, ap, ◌∙◌, append-nil}
use Rattle.std.specs.Prelude.{fold}
use Rattle.std.specs.List.{flat_map}
use Rattle.std.proofs.lemmas.List.{map-append, take_more}
use Rattle.std.proofs.lemmas.List.Sums.{fold-append}
use Rattle.std.proofs.lemmas.Grind.{flat_map-append}
use Rattle.gram_form.specs.declared.part.Production.{Production}
use Rattle.gram_form.specs.Plain.{PlainPart, PlainProduction, plain_alternative, plain_production}
use Rattle.gram_form.specs.Grammars.{seen_with, literal_in, parts_in, parts_of}

mapped-more : {A C : Type 0} (f : A → C) (xs : List A) (i : ℕ) (d : A) → i < length xs → map f (take (i + 1) xs) ≡ map f (take i xs) ++ f (get_or xs i d) ∷ []
mapped-more f xs i d h = ap (map f) (take_more xs i d h) ∙ map-append f (take i xs) (get_or xs i d ∷ [])

-- the copies so far, and one more
pub copied-more : {A B C : Type 0} (f : A → C) (g : B → C) (items : List A) (x : A) (xs : List B) (i : ℕ) (d : B) (new : List A) → i < length xs
    → new ≡ items ++ x ∷ [] → map f items ≡ map g (take i xs) → f x ≡ g (get_or xs i d) → map f new ≡ map g (take (i + 1) xs)
copied-more f g items x xs i d new h pushed so_far same =
    ap (map f) pushed ∙ map-append f items (x ∷ []) ∙ ap (λ y. y ++ f x ∷ []) so_far ∙ ap (λ z. map g (take i xs) ++ z ∷ []) same ∙ sym (mapped-more g xs i d h)

-- the literals so far, and those of one more
seen-more : {A C : Type 0} (literals : List C → List (List ℕ)) → ((a b : List C) → literals (a ++ b) ≡ literals a ++ literals b) → (f : A → C) (xs : List A) (i : ℕ) (d : A)
    (old seen now : List (List ℕ)) → i < length xs → seen ≡ fold seen_with old (literals (map f (take i xs))) → now ≡ fold seen_with seen (literals (f (get_or xs i d) ∷ []))
    → now ≡ fold seen_with old (literals (map f (take (i + 1) xs)))
seen-more literals both f xs i d old seen now h so_far more =
    more
    ∙ ap (λ s. fold seen_with s (literals (f (get_or xs i d) ∷ []))) so_far
    ∙ sym (fold-append seen_with old (literals (map f (take i xs))) (literals (f (get_or xs i d) ∷ [])))
    ∙ ap (fold seen_with old) (sym (both (map f (take i xs)) (f (get_or xs i d) ∷ [])) ∙ ap literals (sym (mapped-more f xs i d h)))

pub seen-parts : {A : Type 0} (f : A → PlainPart) (xs : List A) (i : ℕ) (d : A) (old seen now : List (List ℕ)) → i < length xs → seen ≡ fold seen_with old (flat_map literal_in (map f (take i xs)))
    → now ≡ fold seen_with seen (literal_in (f (get_or xs i d))) → now ≡ fold seen_with old (flat_map literal_in (map f (take (i + 1) xs)))
seen-parts f xs i d old seen now h so_far more =
    seen-more (flat_map literal_in) (flat_map-append literal_in) f xs i d old seen now h so_far (more ∙ ap (fold seen_with seen) (sym (append-nil (literal_in (f (get_or xs i d))))))

pub seen-alternatives : {A : Type 0} (f : A → List PlainPart) (xs : List A) (i : ℕ) (d : A) (old seen now : List (List ℕ)) → i < length xs
    → seen ≡ fold seen_with old (flat_map literal_in (parts_in (map f (take i xs)))) → now ≡ fold seen_with seen (flat_map literal_in (f (get_or xs i d)))
    → now ≡ fold seen_with old (flat_map literal_in (parts_in (map f (take (i + 1) xs))))
seen-alternatives f xs i d old seen now h so_far more =
    seen-more (λ list. flat_map literal_in (parts_in list)) both f xs i d old seen now h so_far
    (more ∙ ap (λ ps. fold seen_with seen (flat_map literal_in ps)) (sym (append-nil (f (get_or xs i d)))))
  where
    both : (a b : List (List PlainPart)) → flat_map literal_in (parts_in (a ++ b)) ≡ flat_map literal_in (parts_in a) ++ flat_map literal_in (parts_in b)
    both a b = ap (flat_map literal_in) (flat_map-append (λ parts. parts) a b) ∙ flat_map-append literal_in (parts_in a) (parts_in b)

pub seen-productions : {A : Type 0} (f : A → PlainProduction) (xs : List A) (i : ℕ) (d : A) (old seen now : List (List ℕ)) → i < length xs
    → seen ≡ fold seen_with old (flat_map literal_in (parts_of (map f (take i xs)))) → now ≡ fold seen_with seen (flat_map literal_in (parts_in (f (get_or xs i d)).alternatives))
    → now ≡ fold seen_with old (flat_map literal_in (parts_of (map f (take (i + 1) xs))))
seen-productions f xs i d old seen now h so_far more =
    seen-more (λ ps. flat_map literal_in (parts_of ps)) both f xs i d old seen now h so_far
    (more ∙ ap (λ ps. fold seen_with seen (flat_map literal_in ps)) (sym (append-nil (parts_in (f (get_or xs i d)).alternatives))))
  where
    both : (a b : List PlainProduction) → flat_map literal_in (parts_of (a ++ b)) ≡ flat_map literal_in (parts_of a) ++ flat_map literal_in (parts_of b)
    both a b = ap (flat_map literal_in) (flat_map-append (λ (p : PlainProduction). parts_in p.alternatives) a b) ∙ flat_map-append literal_in (parts_of a) (parts_of b)

-- a production with the same name and the same alternatives
pub copied-production : (p : Production) (list : List Production) (i : ℕ) (d : Production) → p.name.now ≡ (get_or list i d).name.now
    → map plain_alternative p.alternatives.now ≡ map plain_alternative (get_or list i d).alternatives.now → plain_production p ≡ plain_production (get_or list i d)
copied-production p list i d name alternatives = cc
