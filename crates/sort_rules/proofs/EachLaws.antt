-- What holds of each of a list holds of its parts.
use Rattle.std.proofs.Common.{List, [], ◌++◌, ◌∷◌}
use Rattle.action_terms.specs.Performances.{Here, Later, OneOf}
use Rattle.sort_rules.specs.Demands.{Each, MoreOf, NoneOf}

pub each_head : {A : Type 0} {Q : A → Type 0} {x : A} {xs : List A} → Each Q (x ∷ xs) → Q x
each_head (MoreOf f h) = f

pub each_tail : {A : Type 0} {Q : A → Type 0} {x : A} {xs : List A} → Each Q (x ∷ xs) → Each Q xs
each_tail (MoreOf f h) = h

pub each_left : {A : Type 0} {Q : A → Type 0} (xs ys : List A) → Each Q (xs ++ ys) → Each Q xs
each_left [] ys h = NoneOf
each_left (x ∷ xs) ys h = MoreOf (each_head h) (each_left xs ys (each_tail h))

pub each_right : {A : Type 0} {Q : A → Type 0} (xs : List A) {ys : List A} → Each Q (xs ++ ys) → Each Q ys
each_right [] h = h
each_right (x ∷ xs) h = each_right xs (each_tail h)

pub each_one : {A : Type 0} {Q : A → Type 0} {x : A} {xs : List A} → OneOf x xs → Each Q xs → Q x
each_one Here h = each_head h
each_one (Later m) h = each_one m (each_tail h)
