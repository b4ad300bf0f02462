-- Choices by a test, and truth values.
use Rattle.std.proofs.Common.{Bool, IsTrue, List, arith, false, if◌then◌else◌, inl, inr, nat_eq, refl, subst, true, ℕ, ◌&&◌, ◌||◌, ◌∷◌, ◌≡◌, ◌⊎◌}
use Rattle.std.proofs.lemmas.Bool.Decides.{nat_tests}
use Rattle.action_terms.specs.Performances.{Here, Later, OneOf}

-- ---- sets
pub of_choice : {A : Type 0} (b : Bool) (x y : A) (Q : A → Type 0) → (b ≡ true → Q x) → (b ≡ false → Q y) → Q (if b then x else y)
of_choice true x y Q f g = f refl
of_choice false x y Q f g = g refl

-- two ifs whose tests agree
pub of_choices : {A B : Type 0} (Q : A → B → Type 0) (a b : Bool) {x y : A} {u v : B} → a ≡ b → Q x u → Q y v → Q (if a then x else y) (if b then u else v)
of_choices Q a b {x} {y} {u} {v} e f g = subst (λ (c : Bool). Q (if a then x else y) (if c then u else v)) e (go a)
  where
    go : (c : Bool) → Q (if c then x else y) (if c then u else v)
    go true = f
    go false = g

pub member_cases : {A : Type 0} {x z : A} {xs : List A} → OneOf x (z ∷ xs) → (x ≡ z) ⊎ OneOf x xs
member_cases Here = inl refl
member_cases (Later m) = inr m

pub either_each : {A B C D : Type 0} → (A → C) → (B → D) → A ⊎ B → C ⊎ D
either_each f g (inl a) = inl (f a)
either_each f g (inr b) = inr (g b)

pub either : {A B C : Type 0} → (A → C) → (B → C) → A ⊎ B → C
either f g (inl a) = f a
either f g (inr b) = g b

pub both_left : (a b : Bool) → (a && b) ≡ true → a ≡ true
both_left true b h = refl
both_left false b h = absurd {0} (cc)

pub both_right : (a b : Bool) → (a && b) ≡ true → b ≡ true
both_right true b h = h
both_right false b h = absurd {0} (cc)

pub eq_of_test : (x y : ℕ) → nat_eq x y ≡ true → x ≡ y
eq_of_test x y h = grind (arith, nat_tests)

pub or_left : (a b : Bool) → IsTrue a → IsTrue (a || b)
or_left true b h = h
or_left false b h = absurd (cc)

pub or_right : (a b : Bool) → IsTrue b → IsTrue (a || b)
or_right true b h = refl
or_right false b h = h

pub or_from : (a b : Bool) → IsTrue (a || b) → IsTrue a ⊎ IsTrue b
or_from true b h = inl refl
or_from false b h = inr h
