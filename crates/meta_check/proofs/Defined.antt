-- Where each nonterminal that items name has a production, none of their productions has a part that is undefined.
use Rattle.std.proofs.Common.{◌≡◌, ℕ, zero, suc, Bool, true, List, [], ◌∷◌, ◌++◌, refl, ap, subst}
use Rattle.std.specs.Prelude.{◌||◌, IsSomeAnd, slice_get}
use Rattle.std.specs.List.{list_any}
use Rattle.std.proofs.lemmas.Bool.{or_right}
use Rattle.gram_form.specs.Plain.{PlainProduction}
use Rattle.gram_form.specs.GrammarErrors.{IsGramError}
use Rattle.gram_form.specs.declared.errors.GramError.{GramError}
use Rattle.gram_form.specs.declared.errors.GramError.TheVariants.{Undefined}
use Rattle.gram_form.specs.Grammars.{Place, IsUndefinedPart, IsUndefinedIn, IsUndefinedAt, is_undefined, names_of}
use Rattle.meta_terms.specs.PlainItems.{PlainItem, AProduction}
use Rattle.meta_check.specs.Rules.{Holds, names_no_production}
use Rattle.meta_check.specs.Views.{productions_of}
use Rattle.meta_check.proofs.InOrder.{breaks_there, production_found}

-- one of a list, with what stands before it and behind it
record IsCut {X : Type 0} (xs : List X) (P : X → Type 0) : Type 0 where
  pub before : List X
  pub own : X
  pub after : List X
  pub cut : xs ≡ before ++ own ∷ after
  pub holds : P own

cut_at : {X : Type 0} (xs : List X) (k : ℕ) (P : X → Type 0) → IsSomeAnd (slice_get xs k) P → IsCut xs P
cut_at [] k P h = absurd h
cut_at (x ∷ xs) zero P h = record { before = []; own = x; after = xs; cut = refl; holds = h }
cut_at (x ∷ xs) (suc k) P h =
    let r = cut_at xs k P h in
    record { before = x ∷ r.before; own = r.own; after = r.after; cut = ap (λ ys. x ∷ ys) r.cut; holds = r.holds }

-- one of a list passes the test
any_at : {X : Type 0} (test : X → Bool) (xs : List X) (k : ℕ) (P : X → Type 0) → ((x : X) → P x → test x ≡ true) → IsSomeAnd (slice_get xs k) P → list_any test xs ≡ true
any_at test [] k P passes h = absurd h
any_at test (x ∷ xs) zero P passes h = ap (λ b. b || list_any test xs) (passes x h)
any_at test (x ∷ xs) (suc k) P passes h = or_right (test x) (list_any test xs) (any_at test xs k P passes h)

pub all_defined : (items : List PlainItem) → Holds names_no_production items → (x : Place) → IsUndefinedAt (productions_of items) x → ⊥
all_defined items holds x undefined =
    let known = names_of (productions_of items) in
    let r = cut_at (productions_of items) x.production (λ p. IsUndefinedIn known p.alternatives x.alternative x.part) undefined in
    let f = production_found items r.before r.after r.own r.cut in
    let breaks : names_no_production f.0 items (AProduction r.own) ≡ true =
    any_at (list_any (is_undefined known)) r.own.alternatives x.alternative (λ parts. IsUndefinedPart known parts x.part)
    (λ parts h. any_at (is_undefined known) parts x.part (λ part. is_undefined known part ≡ true) (λ part e. e) h) r.holds in
    breaks_there names_no_production items f.0 f.1 (AProduction r.own) f.2 breaks holds

-- so the error of an undefined part never comes
pub never_undefined : (items : List PlainItem) → Holds names_no_production items → (list : List PlainProduction) → list ≡ productions_of items
    → (p a k : ℕ) (e : GramError) → e ≡ Undefined p a k → IsGramError list e → ⊥
never_undefined items holds list same p a k e is error =
    let place : Place = record { production = p; alternative = a; part = k } in
    let found = subst (λ (x : GramError). IsGramError list x) is error in
    all_defined items holds place (subst (λ (ps : List PlainProduction). IsUndefinedAt ps place) same found.undefined)
