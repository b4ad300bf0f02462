-- What holds of each element of a list holds of its parts and of one element.
use Rattle.std.proofs.Common.{ℕ, zero, suc, List, [], ◌∷◌, ◌++◌, map, All}
use Rattle.std.specs.Prelude.{IfSome, slice_get}
use Rattle.std.proofs.lemmas.List.Elements.{All-nil, All-cons, All-head, All-tail, All-weaker, All-map}
use Rattle.action_terms.specs.Performances.{OneOf, Here, Later}

module _ {X : Type 0} (P : X → Type 0) where
  pub All-first : (xs ys : List X) → All P (xs ++ ys) → All P xs
  All-first [] ys all = All-nil P
  All-first (x ∷ xs) ys all = All-cons P x xs (All-head P x (xs ++ ys) all) (All-first xs ys (All-tail P x (xs ++ ys) all))

  pub All-second : (xs ys : List X) → All P (xs ++ ys) → All P ys
  All-second [] ys all = all
  All-second (x ∷ xs) ys all = All-second xs ys (All-tail P x (xs ++ ys) all)

  pub All-one : (x : X) → P x → All P (x ∷ [])
  All-one x here = All-cons P x [] here (All-nil P)

  pub All-two : (x y : X) → P x → P y → All P (x ∷ y ∷ [])
  All-two x y first second = All-cons P x (y ∷ []) first (All-one y second)

  pub All-at : (xs : List X) (k : ℕ) → All P xs → IfSome (slice_get xs k) P
  All-at [] k all = tt
  All-at (x ∷ xs) zero all = All-head P x xs all
  All-at (x ∷ xs) (suc k) all = All-at xs k (All-tail P x xs all)

  pub All-member : (x : X) (xs : List X) → OneOf x xs → All P xs → P x
  All-member x _ (Here {xs = xs}) all = All-head P x xs all
  All-member x _ (Later {y = y} {xs = xs} h) all = All-member x xs h (All-tail P y xs all)

pub All-mapped : {X Y : Type 0} (P : X → Type 0) (Q : Y → Type 0) (h : X → Y) (xs : List X) → ((x : X) → P x → Q (h x)) → All P xs → All Q (map h xs)
All-mapped P Q h xs each all = All-map Q h xs (All-weaker P (λ x. Q (h x)) each xs all)
