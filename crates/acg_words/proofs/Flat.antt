-- Texts of the elements of a list, printed one behind the other.
use Rattle.std.proofs.Common.{◌≡◌, ℕ, zero, suc, ◌<◌, List, [], ◌∷◌, ◌++◌, length, get_or, take, drop, map, IsTrue, refl, sym, ap, ◌∙◌, subst, arith, append_assoc, append-nil}
use Rattle.std.specs.List.{flat_map, concat}
use Rattle.std.proofs.lemmas.List.{take_all, length-map, length-take-le}
use Rattle.std.proofs.lemmas.List.Concat.{concat_is}
use Rattle.std.proofs.lemmas.List.Folds.{flat_map-map}
use Rattle.acg_base.specs.Outside.{counted, GainsFrontOf}
use Rattle.acg_base.specs.declared.sink.Sink.{Ghosts}
use Rattle.acg_words.specs.Prints.{Took, Broke, PiecesBroke, writes_behind}
use Rattle.acg_words.proofs.PrintsLemmas.{took-then, broke-then, broke-first}

-- one element more
flat-more : {X : Type 0} (f : X → List ℕ) (xs : List X) (i : ℕ) (d : X) → i < length xs → flat_map f (take i xs) ++ f (get_or xs i d) ≡ flat_map f (take (suc i) xs)
flat-more f [] i d below = absurd (omega arith)
flat-more f (x ∷ xs) zero d below = sym (append-nil (f x))
flat-more f (x ∷ xs) (suc i) d below = append_assoc (f x) (flat_map f (take i xs)) (f (get_or xs i d)) ∙ ap (λ t. f x ++ t) (flat-more f xs i d (omega arith))

-- the elements before one, that one, and the others
flat-whole : {X : Type 0} (f : X → List ℕ) (xs : List X) (i : ℕ) (d : X) → i < length xs → flat_map f (take i xs) ++ (f (get_or xs i d) ++ flat_map f (drop (suc i) xs)) ≡ flat_map f xs
flat-whole f [] i d below = absurd (omega arith)
flat-whole f (x ∷ xs) zero d below = refl
flat-whole f (x ∷ xs) (suc i) d below = append_assoc (f x) (flat_map f (take i xs)) (f (get_or xs i d) ++ flat_map f (drop (suc i) xs)) ∙ ap (λ t. f x ++ t) (flat-whole f xs i d (omega arith))

-- the texts before one, that one, and the others
map-whole : {X : Type 0} (f : X → List ℕ) (xs : List X) (i : ℕ) (d : X) → i < length xs → map f xs ≡ map f (take i xs) ++ (f (get_or xs i d) ∷ map f (drop (suc i) xs))
map-whole f [] i d below = absurd (omega arith)
map-whole f (x ∷ xs) zero d below = refl
map-whole f (x ∷ xs) (suc i) d below = ap (λ texts. f x ∷ texts) (map-whole f xs i d (omega arith))

-- the texts before one, joined
concat-before : {X : Type 0} (f : X → List ℕ) (xs : List X) (i : ℕ) → concat (map f (take i xs)) ≡ flat_map f (take i xs)
concat-before f xs i = concat_is (map f (take i xs)) ∙ flat_map-map (λ x. x) f (take i xs)

module _ {K : Type 0} {sink : Ghosts K} where
  pub took-more : {X : Type 0} {old middle new : K} (f : X → List ℕ) (xs : List X) (i : ℕ) (d : X) → i < length xs → Took sink (flat_map f (take i xs)) old middle → Took sink (f (get_or xs i d)) middle new
      → Took sink (flat_map f (take (suc i) xs)) old new
  took-more {X} {old} {middle} {new} f xs i d below begun more = subst (λ text. Took sink text old new) (flat-more f xs i d below) (took-then begun more)

  pub broke-more : {X : Type 0} {old middle new : K} (f : X → List ℕ) (xs : List X) (i : ℕ) (d : X) → i < length xs → Took sink (flat_map f (take i xs)) old middle → Broke sink (f (get_or xs i d)) middle new
      → Broke sink (flat_map f xs) old new
  broke-more {X} {old} {middle} {new} f xs i d below begun broke =
      subst (λ text. Broke sink text old new) (flat-whole f xs i d below) (broke-then begun (broke-first (flat_map f (drop (suc i) xs)) broke))

  pub took-all : {X : Type 0} {old new : K} (f : X → List ℕ) (xs : List X) (i : ℕ) → i ≡ length xs → Took sink (flat_map f (take i xs)) old new → Took sink (flat_map f xs) old new
  took-all {X} {old} {new} f xs i all took = subst (λ ys. Took sink (flat_map f ys) old new) (take_all i xs (omega arith)) took

  -- a piece behind others broke
  pub broken-more :
      {X : Type 0} {old middle new : K} (f : X → List ℕ) (xs : List X) (i : ℕ) (d : X) → i < length xs →
      Took sink (flat_map f (take i xs)) old middle → sink.writes middle ≡ writes_behind i (sink.writes old) →
      sink.writes new ≡ counted (sink.writes middle) → Broke sink (f (get_or xs i d)) middle new →
      PiecesBroke sink (map f xs) old new
  broken-more {X} {old} {middle} {new} f xs i d below begun writes once broke =
      let size : length (map f (take i xs)) ≡ i = length-map (take i xs) f ∙ length-take-le i xs (omega arith) in
      record {
        before = map f (take i xs);
        piece = f (get_or xs i d);
        behind = map f (drop (suc i) xs);
        split = map-whole f xs i d below;
        writes = once ∙ ap counted (writes ∙ ap (λ n. writes_behind n (sink.writes old)) (sym size));
        part = λ told. subst (λ bytes. GainsFrontOf (f (get_or xs i d)) bytes (sink.written new))
            (begun.wrote told ∙ ap (λ bytes. sink.written old ++ bytes) (sym (concat-before f xs i)))
            (broke.part (subst IsTrue (sym begun.tells_still) told));
      }
