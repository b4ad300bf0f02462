-- Parts are the same exactly where the comparison says so.
use Rattle.std.proofs.Common.{◌≡◌, true, ◌&&◌, List, [], ◌∷◌, refl, ap, ap₂}
use Rattle.std.proofs.lemmas.Bool.{and_parts}
use Rattle.std.proofs.lemmas.Slice.Eq.{bytes_eq-Decides}
use Rattle.gram_form.specs.Plain.{PlainPart, PlainLiteral, PlainNonterm, PlainIdentifier, PlainNumeral}
use Rattle.meta_check.specs.Views.{same_part, same_parts}

part_same : (a b : PlainPart) → same_part a b ≡ true → a ≡ b
part_same (PlainLiteral a) (PlainLiteral b) h = ap PlainLiteral ((bytes_eq-Decides a b).0 h)
part_same (PlainNonterm a) (PlainNonterm b) h = ap PlainNonterm ((bytes_eq-Decides a b).0 h)
part_same PlainIdentifier PlainIdentifier h = refl
part_same PlainNumeral PlainNumeral h = refl
part_same a b h = absurd (cc)

pub parts_same : (xs ys : List PlainPart) → same_parts xs ys ≡ true → xs ≡ ys
parts_same [] [] h = refl
parts_same (a ∷ xs) (b ∷ ys) h = let both = and_parts (same_part a b) (same_parts xs ys) h in ap₂ (λ c cs. c ∷ cs) (part_same a b both.0) (parts_same xs ys both.1)
parts_same xs ys h = absurd (cc)

part_self : (a : PlainPart) → same_part a a ≡ true
part_self (PlainLiteral a) = (bytes_eq-Decides a a).1 refl
part_self (PlainNonterm a) = (bytes_eq-Decides a a).1 refl
part_self PlainIdentifier = refl
part_self PlainNumeral = refl

pub parts_self : (xs : List PlainPart) → same_parts xs xs ≡ true
parts_self [] = refl
parts_self (a ∷ xs) = ap₂ (λ b c. b && c) (part_self a) (parts_self xs)
