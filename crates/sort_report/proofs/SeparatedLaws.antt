-- Texts that are written one after the other, with a separator between each two, are the list joined by it.
use Rattle.std.proofs.Common.{◌≡◌, ℕ, zero, suc, ◌+◌, ◌<◌, ◌≤◌, List, [], ◌∷◌, ◌++◌, length, get_or, take, refl, sym, ap, map, ◌∙◌, arith, append_assoc, append-nil}
use Rattle.std.specs.List.{join_with_byte}
use Rattle.std.proofs.lemmas.List.{take_all}
use Rattle.sort_report.specs.Separated.{separator_behind, separated_behind}

-- behind others
separated-join : (c n : ℕ) (x : List ℕ) (xs : List (List ℕ)) → separated_behind c (suc n) (x ∷ xs) ≡ c ∷ join_with_byte c (x ∷ xs)
separated-join c n x [] = ap (λ t. c ∷ t) (append-nil x)
separated-join c n x (y ∷ ys) = ap (λ t. c ∷ (x ++ t)) (separated-join c (suc n) y ys)

-- with none before them they are the joined list
pub separated-all : (c : ℕ) (xs : List (List ℕ)) → separated_behind c 0 xs ≡ join_with_byte c xs
separated-all c [] = refl
separated-all c (x ∷ []) = append-nil x
separated-all c (x ∷ y ∷ ys) = ap (λ t. x ++ t) (separated-join c 0 y ys)

-- one list behind another, which has m before it
pub separated-append : (c n m : ℕ) (xs ys : List (List ℕ)) → m ≡ n + length xs → separated_behind c n (xs ++ ys) ≡ separated_behind c n xs ++ separated_behind c m ys
separated-append c n m [] ys many = ap (λ k. separated_behind c k ys) (omega (arith, many))
separated-append c n m (x ∷ xs) ys many =
    ap (λ t. separator_behind c n ++ (x ++ t)) (separated-append c (suc n) m xs ys (omega (arith, many)))
    ∙ ap (λ t. separator_behind c n ++ t) (sym (append_assoc x (separated_behind c (suc n) xs) _))
    ∙ sym (append_assoc (separator_behind c n) (x ++ separated_behind c (suc n) xs) _)

more-of : (i : ℕ) → suc i + 1 ≡ suc (i + 1)
more-of i = omega arith

-- one text more, which has m before it
pub separated-more : {A : Type 0} (c n m : ℕ) (f : A → List ℕ) (xs : List A) (i : ℕ) (d : A) → i < length xs → m ≡ n + i
    → separated_behind c n (map f (take (i + 1) xs)) ≡ separated_behind c n (map f (take i xs)) ++ (separator_behind c m ++ f (get_or xs i d))
separated-more c n m f [] i d below many = absurd (omega (arith, below))
separated-more c n m f (x ∷ xs) zero d below many = ap (λ t. separator_behind c n ++ t) (append-nil (f x)) ∙ ap (λ k. separator_behind c k ++ f x) (omega (arith, many))
separated-more c n m f (x ∷ xs) (suc i) d below many =
    ap (λ j. separated_behind c n (map f (take j (x ∷ xs)))) (more-of i)
    ∙ ap (λ t. separator_behind c n ++ (f x ++ t)) (separated-more c (suc n) m f xs i d (omega (arith, below)) (omega (arith, many)))
    ∙ ap (λ t. separator_behind c n ++ t) (sym (append_assoc (f x) _ _))
    ∙ sym (append_assoc (separator_behind c n) _ _)

-- a text that has the first texts of a list, and then one more behind what stands before it, has one text more
pub separated-grown : {A : Type 0} (start : List ℕ) {before after : List ℕ} (c n m : ℕ) (f : A → List ℕ) (xs : List A) (i : ℕ) (d x : A) → i < length xs → m ≡ n + i → x ≡ get_or xs i d
    → before ≡ start ++ separated_behind c n (map f (take i xs)) → after ≡ before ++ (separator_behind c m ++ f x)
    → after ≡ start ++ separated_behind c n (map f (take (i + 1) xs))
separated-grown start c n m f xs i d x below many at so_far more =
    more ∙ ap (λ t. t ++ (separator_behind c m ++ f x)) so_far
    ∙ append_assoc start (separated_behind c n (map f (take i xs))) (separator_behind c m ++ f x)
    ∙ ap (λ y. start ++ (separated_behind c n (map f (take i xs)) ++ (separator_behind c m ++ f y))) at
    ∙ ap (λ t. start ++ t) (sym (separated-more c n m f xs i d below many))

-- a map after a map
map-map : {A B C : Type 0} (f : B → C) (g : A → B) (xs : List A) → map (λ x. f (g x)) xs ≡ map f (map g xs)
map-map f g [] = refl
map-map f g (x ∷ xs) = ap (λ ys. f (g x) ∷ ys) (map-map f g xs)

-- a text that has three lists, one behind the other
pub separated-three : (start : List ℕ) (xs ys zs : List (List ℕ)) {first second third : List ℕ} (c m n : ℕ) → m ≡ length xs → n ≡ m + length ys
    → first ≡ start ++ separated_behind c 0 xs → second ≡ first ++ separated_behind c m ys → third ≡ second ++ separated_behind c n zs
    → third ≡ start ++ join_with_byte c (xs ++ (ys ++ zs))
separated-three start xs ys zs c m n count count2 is1 is2 is3 =
    rw (is3, is2, is1) (rw (sym (separated-all c (xs ++ (ys ++ zs))), separated-append c 0 m xs (ys ++ zs) (omega (arith, count)), separated-append c m n ys zs count2) (simp append_assoc))

-- a text that has all of a list between two brackets
pub bracketed : {A B : Type 0} (start opening closing : List ℕ) {before after : List ℕ} (c : ℕ) (f : B → List ℕ) (g : A → B) (xs : List A) (i : ℕ) → length xs ≤ i
    → before ≡ (start ++ opening) ++ separated_behind c 0 (map (λ x. f (g x)) (take i xs)) → after ≡ before ++ closing
    → after ≡ start ++ (opening ++ (join_with_byte c (map f (map g xs)) ++ closing))
bracketed start opening closing c f g xs i all so_far more =
    more ∙ ap (λ t. t ++ closing) (so_far ∙ ap (λ ys. (start ++ opening) ++ separated_behind c 0 (map (λ x. f (g x)) ys)) (take_all i xs all) ∙ ap (λ t. (start ++ opening) ++ t) (separated-all c (map (λ x. f (g x)) xs) ∙ ap (λ ts. join_with_byte c ts) (map-map f g xs)))
    ∙ append_assoc (start ++ opening) _ closing ∙ append_assoc start opening _
