-- Keys of the table of alternatives, as its comparison tells them.
use Rattle.std.proofs.Common.{◌≡◌, ◌∙◌, Bool, true, false, ◌&&◌, List, [], ◌∷◌, map, refl, sym, ap, ap₂}
use Rattle.std.specs.Cmp.{unsigned_tied}
use Rattle.std.specs.Cmp.Lexicographic.{slice_cmp}
use Rattle.std.specs.Ordering.{is_eq, nat_cmp, ordering_then}
use Rattle.std.specs.declared.cmp.Ordering.{Ordering}
use Rattle.std.specs.declared.cmp.Ordering.TheVariants.{Less, Equal, Greater}
use Rattle.std.proofs.lemmas.Map.Text.{is_eq-slice_cmp}
use Rattle.gram_form.specs.contracts.part.PartOrd.TheImpl as order
use Rattle.gram_form.specs.declared.part.Part.{Part}
use Rattle.gram_form.specs.declared.part.Part.TheVariants.{Literal, Nonterm, Identifier, Numeral}
use Rattle.gram_form.specs.Plain.{PlainPart, plain_part}
use Rattle.meta_check.specs.Tables.{Key, is_key}
use Rattle.meta_check.specs.Views.{same_part, same_parts}
use Rattle.meta_check.proofs.SameParts.{parts_same, parts_self}

-- keys are compared by their numbers, and then by their parts
abbrev pub key_cmp : Key → Key → Ordering
key_cmp a b = ordering_then (nat_cmp a.0 b.0) (slice_cmp order.ghosts.cmp a.1.now b.1.now)

pub then_equal : (o p : Ordering) → is_eq (ordering_then o p) ≡ (is_eq o && is_eq p)
then_equal Less p = refl
then_equal Equal p = refl
then_equal Greater p = refl

part_is : (a b : Part) → is_eq (order.ghosts.cmp a b) ≡ same_part (plain_part a) (plain_part b)
part_is (Literal x) (Literal y) = is_eq-slice_cmp x.now y.now
part_is (Literal x) (Nonterm y) = refl
part_is (Literal x) Identifier = refl
part_is (Literal x) Numeral = refl
part_is (Nonterm x) (Literal y) = refl
part_is (Nonterm x) (Nonterm y) = is_eq-slice_cmp x.now y.now
part_is (Nonterm x) Identifier = refl
part_is (Nonterm x) Numeral = refl
part_is Identifier (Literal y) = refl
part_is Identifier (Nonterm y) = refl
part_is Identifier Identifier = refl
part_is Identifier Numeral = refl
part_is Numeral (Literal y) = refl
part_is Numeral (Nonterm y) = refl
part_is Numeral Identifier = refl
part_is Numeral Numeral = refl

parts_are : (xs ys : List Part) → is_eq (slice_cmp order.ghosts.cmp xs ys) ≡ same_parts (map plain_part xs) (map plain_part ys)
parts_are [] [] = refl
parts_are [] (y ∷ ys) = refl
parts_are (x ∷ xs) [] = refl
parts_are (x ∷ xs) (y ∷ ys) = then_equal (order.ghosts.cmp x y) (slice_cmp order.ghosts.cmp xs ys) ∙ ap₂ (λ a b. a && b) (part_is x y) (parts_are xs ys)

other_way : (xs ys : List PlainPart) → same_parts xs ys ≡ same_parts ys xs
other_way xs ys = pick (same_parts xs ys) refl (same_parts ys xs) refl
  where
    pick : (a : Bool) → same_parts xs ys ≡ a → (b : Bool) → same_parts ys xs ≡ b → a ≡ b
    pick true e true f = refl
    pick false e false f = refl
    pick true e false f = let wrong : true ≡ false = sym (ap (λ zs. same_parts zs xs) (sym (parts_same xs ys e)) ∙ parts_self xs) ∙ f in absurd (cc)
    pick false e true f = let wrong : true ≡ false = sym (ap (λ zs. same_parts zs ys) (sym (parts_same ys xs f)) ∙ parts_self ys) ∙ e in absurd (cc)

pub keys_are : (a b : Key) → is_eq (key_cmp a b) ≡ is_key a.0 (map plain_part a.1.now) b
keys_are a b =
    then_equal (nat_cmp a.0 b.0) (slice_cmp order.ghosts.cmp a.1.now b.1.now)
    ∙ ap₂ (λ s t. s && t) (unsigned_tied a.0 b.0) (parts_are a.1.now b.1.now ∙ other_way (map plain_part a.1.now) (map plain_part b.1.now))
