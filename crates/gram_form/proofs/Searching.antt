-- The first of a list that passes a test.
use Rattle.std.proofs.Common.{inl, inr, ℕ, zero, suc, ◌<◌, List, [], ◌∷◌, length, get_or, map, subst, arith}
use Rattle.std.specs.Prelude.{IsSomeAnd, slice_get}
use Rattle.std.specs.Borrow.{Bor}
use Rattle.gram_form.specs.declared.part.Part.{Part}
use Rattle.gram_form.specs.declared.part.Production.{Production}
use Rattle.gram_form.specs.Plain.{plain_alternative, plain_production}
use Rattle.gram_form.specs.Grammars.{Place, IsUndefinedPart, IsUndefinedIn, IsUndefinedAmong, IsBeforeIn, IsBefore}
use Rattle.gram_form.specs.GrammarErrors.{IsFirstPart, IsFirstIn, IsFirstAmong}

-- what is there, is within the list
pub some_within : {X : Type 0} (xs : List X) (k : ℕ) (P : X → Type 0) → IsSomeAnd (slice_get xs k) P → k < length xs
some_within [] k P h = absurd h
some_within (x ∷ xs) zero P h = omega arith
some_within (x ∷ xs) (suc k) P h = let r = some_within xs k P h in omega (arith, r)

pub some_at : {X Y : Type 0} (f : X → Y) (xs : List X) (i : ℕ) (d : X) (P : Y → Type 0) → IsSomeAnd (slice_get (map f xs) i) P → P (f (get_or xs i d))
some_at f [] i d P p = absurd p
some_at f (x ∷ xs) zero d P p = p
some_at f (x ∷ xs) (suc i) d P p = some_at f xs i d P p

pub at_some : {X Y : Type 0} (f : X → Y) (xs : List X) (i : ℕ) (d : X) (P : Y → Type 0) → i < length xs → P (f (get_or xs i d)) → IsSomeAnd (slice_get (map f xs) i) P
at_some f [] i d P h p = absurd (omega arith)
at_some f (x ∷ xs) zero d P h p = p
at_some f (x ∷ xs) (suc i) d P h p = at_some f xs i d P (omega arith) p

-- the first of an alternative, where none stands in an alternative before it
pub first_in : (names : List (List ℕ)) (alternatives : List (Bor (List Part))) (i k : ℕ) (d : Bor (List Part)) → i < length alternatives
    → ((a l : ℕ) → a < i → IsUndefinedIn names (map plain_alternative alternatives) a l → ⊥) → IsFirstPart names (plain_alternative (get_or alternatives i d)) k
    → IsFirstIn names (map plain_alternative alternatives) i k
first_in names alternatives i k d h below here = record {
  undefined = at_some plain_alternative alternatives i d (λ parts. IsUndefinedPart names parts k) h here.undefined;
  first = first;
}
  where
    first : (b l : ℕ) → IsUndefinedIn names (map plain_alternative alternatives) b l → IsBeforeIn b l i k → ⊥
    first b l u (inl less) = below b l less u
    first b l u (inr (same, less)) =
        here.first l (some_at plain_alternative alternatives i d (λ parts. IsUndefinedPart names parts l) (subst (λ a. IsUndefinedIn names (map plain_alternative alternatives) a l) same u)) less

-- the first of a production, where none stands in a production before it
pub first_among : (names : List (List ℕ)) (list : List Production) (i a k : ℕ) (d : Production) → i < length list
    → ((x : Place) → x.production < i → IsUndefinedAmong names (map plain_production list) x → ⊥) → IsFirstIn names (plain_production (get_or list i d)).alternatives a k
    → IsFirstAmong names (map plain_production list) (record { production = i; alternative = a; part = k })
first_among names list i a k d h below here = record {
  undefined = at_some plain_production list i d (λ p. IsUndefinedIn names p.alternatives a k) h here.undefined;
  first = first;
}
  where
    first : (y : Place) → IsUndefinedAmong names (map plain_production list) y → IsBefore y (record { production = i; alternative = a; part = k }) → ⊥
    first y u (inl less) = below y less u
    first y u (inr (same, before)) =
        here.first y.alternative y.part
        (some_at plain_production list i d (λ p. IsUndefinedIn names p.alternatives y.alternative y.part)
        (subst (λ n. IsSomeAnd (slice_get (map plain_production list) n) (λ p. IsUndefinedIn names p.alternatives y.alternative y.part)) same u))
        before
