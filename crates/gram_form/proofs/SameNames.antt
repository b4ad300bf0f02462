-- Undefined parts by two lists that have the same names.
use Rattle.std.proofs.Common.{◌≡◌, ◌∙◌, ℕ, true, List, Option, Some, None, sym, ap, refl, not}
use Rattle.std.specs.Prelude.{IsSomeAnd, slice_get}
use Rattle.gram_form.specs.Plain.{PlainPart, PlainLiteral, PlainNonterm, PlainIdentifier, PlainNumeral, PlainProduction}
use Rattle.gram_form.specs.Grammars.{HaveSame, Place, is_undefined, IsUndefinedPart, IsUndefinedIn, IsUndefinedAmong}
use Rattle.gram_form.specs.GrammarErrors.{IsFirstAmong}

pub same_undefined : (known names : List (List ℕ)) → HaveSame known names → (part : PlainPart) → is_undefined known part ≡ is_undefined names part
same_undefined known names h (PlainLiteral bytes) = refl
same_undefined known names h (PlainNonterm name) = ap not (h name)
same_undefined known names h PlainIdentifier = refl
same_undefined known names h PlainNumeral = refl

some_too : {X : Type 0} (P Q : X → Type 0) → ((x : X) → P x → Q x) → (o : Option X) → IsSomeAnd o P → IsSomeAnd o Q
some_too P Q f None h = h
some_too P Q f (Some x) h = f x h

pub undefined_too : (known names : List (List ℕ)) → HaveSame known names → (list : List PlainProduction) (x : Place) → IsUndefinedAmong known list x → IsUndefinedAmong names list x
undefined_too known names same list x =
    some_too (λ (p : PlainProduction). IsUndefinedIn known p.alternatives x.alternative x.part) (λ (p : PlainProduction). IsUndefinedIn names p.alternatives x.alternative x.part)
    (λ p. some_too (λ (parts : List PlainPart). IsUndefinedPart known parts x.part) (λ (parts : List PlainPart). IsUndefinedPart names parts x.part)
    (λ parts. some_too (λ (part : PlainPart). is_undefined known part ≡ true) (λ (part : PlainPart). is_undefined names part ≡ true) (λ part u. sym (same_undefined known names same part) ∙ u) (slice_get parts x.part))
    (slice_get p.alternatives x.alternative))
    (slice_get list x.production)

pub first_too : (known names : List (List ℕ)) → HaveSame known names → (list : List PlainProduction) (x : Place) → IsFirstAmong known list x → IsFirstAmong names list x
first_too known names same list x h = record {
  undefined = undefined_too known names same list x h.undefined;
  first = λ y u before. h.first y (undefined_too names known (λ n. sym (same n)) list y u) before;
}
